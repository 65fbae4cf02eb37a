-- `fill`: the fields that begin with a byte below a were put. Assumes nothing.
use Rattle.std.proofs.Common.{◌≡◌}
use Rattle.buffer.specs.Filled.{filled, added}
use Rattle.fields.specs.Each.{each, row, flat}
use Rattle.fields.proofs.fill.Given as goal

abbrev pub invariant-loop-a : goal.invariant-loop-a
invariant-loop-a g l =
    record {
      same : l.out.bytes.ghost_name ≡ l.initial.out.bytes.ghost_name;
      so_far : filled l.out.bytes.now l.out.len ≡ added (filled l.initial.out.bytes.now l.initial.out.len) (flat (each l.a (row (g.T.Target.hits l.t))));
    }
