-- The callsigns' addresses are put one by one. Assumes nothing.
use Rattle.std.proofs.Common.{◌≡◌, length}
use Rattle.header.specs.Pieces.{with_pieces, hop_address_pieces}
use Rattle.header.proofs.Draft.put_hop_addresses.Given as goal

abbrev pub invariant-loop-h : goal.invariant-loop-h
invariant-loop-h l = with_pieces l.initial.self (hop_address_pieces l.hops) ≡ with_pieces l.self (hop_address_pieces l.rest)

abbrev pub decreases-loop-h : goal.decreases-loop-h
decreases-loop-h l = length l.rest
