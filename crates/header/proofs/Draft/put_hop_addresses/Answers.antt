-- The callsigns' addresses are put one by one, the last of them marked. Assumes nothing.
use Rattle.std.proofs.Common.{refl, ◌∙◌}
use Rattle.header.specs.Pieces.{hop_address_pieces}
use Rattle.header.proofs.Putting.{frame_turn, hops_done}
use Rattle.header.proofs.Draft.put_hop_addresses.Goals as goal

pub loop-h-preserved : goal.loop-h-preserved
loop-h-preserved c = c.loop-h.invariant ∙ frame_turn _ _ _ _ _ c.in-Some.ensures.cases.0 _ c.any_call.ensures c.put_hop_address.ensures

pub returns : goal.returns
unfolding hop_address_pieces
returns c = hops_done hop_address_pieces refl _ _ _ _ c.in_default.ensures.cases c.loop-h.invariant
