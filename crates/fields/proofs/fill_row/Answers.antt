-- `fill_row`: what a step puts, and what the loop has put at its end. Assumes nothing.
use Rattle.std.proofs.Common.{◌≡◌, ◌<◌, ◌∙◌, refl, arith}
use Rattle.fields.specs.Each.{cell, row}
use Rattle.fields.specs.Search.{Spans}
use Rattle.fields.proofs.Each.{each_none, each_top}
use Rattle.fields.proofs.Stored.{stored_none, stored_step}
use Rattle.fields.proofs.fill_row.Goals as goal

pub loop-b-init : goal.loop-b-init
unfolding row
loop-b-init g c =
    let s : Spans (g.T.Target.hits c.args.t.now) c.args.a c.into_iter-b-iterator.result = rw (c.into_iter-b-iterator.ensures.into_iter_gives, c.unwrap_or-b-items.ensures) c.seconds.ensures in
    record {
      order = s.order;
      most = s.most;
      above = s.above;
      same = refl;
      so_far = stored_none (cell (g.T.Target.hits c.args.t.now) c.args.a) c.args.out.now.bytes.now c.args.out.now.len 256 c.requires _ (each_none _ _ s.below);
    }

pub overflow_cast-b : goal.overflow_cast-b
overflow_cast-b g c = let n : c.in-Some.b < 256 = omega (arith, c.in-Some.ensures.steps.1, c.loop-b.invariant.most) in record { fits = n }

pub loop-b-preserved : goal.loop-b-preserved
unfolding row
loop-b-preserved g c =
    let steps = c.in-Some.ensures.steps in
    record {
      order = omega (arith, steps.0, steps.1.0, steps.1.2);
      most = omega (arith, steps.0, c.loop-b.invariant.most);
      above = λ b h k. c.loop-b.invariant.above b (omega (arith, steps.0, h)) k;
      same = c.put.ensures.same_reference ∙ c.loop-b.invariant.same;
      so_far =
          rw steps.1.2
          (stored_step (cell (g.T.Target.hits c.args.t.now) c.args.a) c.args.out.now.bytes.now c.args.out.now.len 256 c.requires c.loop-b.b-iterator.start c.loop-b.out.len c.loop-b.out.bytes.now
          (omega (arith, steps.1.0, c.loop-b.invariant.most)) c.loop-b.invariant.so_far _ _ (rw (c.third.ensures, steps.1.1) at c.put.ensures.value));
    }

pub returns-clause-value : goal.returns-clause-value
unfolding row
returns-clause-value g c =
    let e : c.loop-b.b-iterator.start ≡ c.loop-b.b-iterator.end = omega (arith, c.in-None.ensures.steps.1, c.loop-b.invariant.order) in
    let f = each_top c.loop-b.b-iterator.end 256 (cell (g.T.Target.hits c.args.t.now) c.args.a) c.loop-b.invariant.most c.loop-b.invariant.above in
    rw f (rw e at c.loop-b.invariant.so_far)
