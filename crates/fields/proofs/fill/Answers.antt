-- `fill`: the rows have room, and each is put behind those before it; the last, of 255, ends the loop. Assumes nothing.
use Rattle.std.proofs.Common.{◌≡◌, ◌+◌, ◌∙◌, refl, arith}
use Rattle.fields.specs.Each.{row, all_fields}
use Rattle.fields.proofs.Each.{each_none}
use Rattle.fields.proofs.Stored.{stored_none, stored_step, stored_room}
use Rattle.fields.proofs.fill.Goals as goal

pub loop-a-init : goal.loop-a-init
unfolding all_fields
loop-a-init g c =
    record {
      same = refl;
      so_far = stored_none (row (g.T.Target.hits c.args.t.now)) c.args.out.now.bytes.now c.args.out.now.len 256 c.requires 0 (each_none 0 _ (λ k l. absurd (omega arith)));
    }

pub fill_row-requires : goal.fill_row-requires
unfolding all_fields
fill_row-requires g c =
    stored_room (row (g.T.Target.hits c.args.t.now)) c.args.out.now.bytes.now c.args.out.now.len 256 c.requires c.loop-a.a c.loop-a.out.len c.loop-a.out.bytes.now (omega arith) c.loop-a.invariant.so_far

pub loop-a-preserved : goal.loop-a-preserved
unfolding all_fields
loop-a-preserved g c =
    record {
      same = c.fill_row.ensures.same_reference ∙ c.loop-a.invariant.same;
      so_far =
          stored_step (row (g.T.Target.hits c.args.t.now)) c.args.out.now.bytes.now c.args.out.now.len 256 c.requires c.loop-a.a c.loop-a.out.len c.loop-a.out.bytes.now (omega arith) c.loop-a.invariant.so_far
          _ _ c.fill_row.ensures.value;
    }

pub returns-2-clause-same_reference : goal.returns-2-clause-same_reference
returns-2-clause-same_reference g c = c.fill_row.ensures.same_reference ∙ c.loop-a.invariant.same

pub returns-2-clause-value : goal.returns-2-clause-value
unfolding all_fields
returns-2-clause-value g c =
    let last : c.loop-a.a + 1 ≡ 256 = omega arith in
    rw last at (stored_step (row (g.T.Target.hits c.args.t.now)) c.args.out.now.bytes.now c.args.out.now.len 256 c.requires c.loop-a.a c.loop-a.out.len c.loop-a.out.bytes.now (omega arith) c.loop-a.invariant.so_far
    _ _ c.fill_row.ensures.value)
