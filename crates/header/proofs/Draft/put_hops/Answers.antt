-- The hops are put one by one, with a star where the last heard one is. Assumes nothing.
use Rattle.std.proofs.Common.{refl, ◌∙◌}
use Rattle.header.specs.Pieces.{hop_pieces}
use Rattle.header.proofs.Putting.{text_turn, hops_done}
use Rattle.header.proofs.Draft.put_hops.Goals as goal

pub loop-h-preserved : goal.loop-h-preserved
loop-h-preserved c = c.loop-h.invariant ∙ text_turn _ _ _ _ _ c.in-Some.ensures.cases.0 _ c.is_last_heard.ensures _ c.put.ensures c.put_hop.ensures

pub returns : goal.returns
unfolding hop_pieces
returns c = hops_done hop_pieces refl _ _ _ _ c.in_default.ensures.cases c.loop-h.invariant
