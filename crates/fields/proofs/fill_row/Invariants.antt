-- `fill_row`: below the next b, the fields that begin with a and a byte below b were put; outside the span there are none.
-- Assumes nothing.
use Rattle.std.proofs.Common.{◌≡◌, ℕ, ◌<◌, ◌≤◌, []}
use Rattle.buffer.specs.Filled.{filled, added}
use Rattle.fields.specs.Each.{each, cell, flat}
use Rattle.fields.proofs.fill_row.Given as goal

abbrev pub invariant-loop-b : goal.invariant-loop-b
invariant-loop-b g l =
    record {
      order : l.b-iterator.start ≤ l.b-iterator.end;
      most : l.b-iterator.end ≤ 256;
      above : (b : ℕ) → l.b-iterator.end ≤ b → b < 256 → cell (g.T.Target.hits l.t) l.a b ≡ [];
      same : l.out.bytes.ghost_name ≡ l.initial.out.bytes.ghost_name;
      so_far : filled l.out.bytes.now l.out.len ≡ added (filled l.initial.out.bytes.now l.initial.out.len) (flat (each l.b-iterator.start (cell (g.T.Target.hits l.t) l.a)));
    }
