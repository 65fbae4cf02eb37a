-- A hop put as text or as an address: refused before any byte where it is out of range; of a Q element no address.
-- Assumes nothing.
use mathlib.Core.Path.{◌≡◌, sym, ◌∙◌}
use mathlib.Core.Bool.{Bool, true, false, not}
use mathlib.Core.List.{[]}
use native.Mathlib.Omega.{arith}
use borrow.Author.Tests.{eq-eqb, ne_eqb, not-true, not-false}
use lib.Dec.{eqb}
use Rattle.callsign.specs.declared.Field.TheVariants.{Hop as HopField}
use Rattle.callsign.specs.Packed.{write_address}
use Rattle.callsign.specs.Range.{range_refusal}
use Rattle.header.specs.declared.Hop.{Hop}
use Rattle.header.specs.Hop.{was_heard, q_element, is_heard, is_q_element}
use Rattle.header.specs.Private.{is_tidy_hop}
use Rattle.header.specs.Pieces.{Building, plain, call_piece, address_piece, with_refusal, with_piece, hop_piece, hop_address_piece}
use Rattle.header.proofs.InRange.{untidy_hop, tidy_hop}
use Rattle.header.proofs.Pieces.{piece_refused}

module _ (h : Hop) (u : Bool) (e : u ≡ is_tidy_hop h) (b : Building) where
  module _ (n : not u ≡ true) where
    untidy : is_tidy_hop h ≡ false
    untidy = sym e ∙ not-true u n

    pub hop_out : (starred : Bool) (b' : Building) → b' ≡ with_refusal b 15 → b' ≡ with_piece b (hop_piece h starred)
    hop_out starred b' q = q ∙ rw (untidy_hop h untidy) (piece_refused b (record { refusal = 15; bytes = (hop_piece h starred).bytes }) (λ z. omega arith))

    pub address_out : (last : Bool) (b' : Building) → b' ≡ with_refusal b 15 → b' ≡ with_piece b (hop_address_piece h last)
    unfolding hop_address_piece
    address_out last b' q = q ∙ rw untidy (piece_refused b (record { refusal = 15; bytes = (hop_address_piece h last).bytes }) (λ z. omega arith))

  module _ (n : not u ≡ false) where
    tidy : is_tidy_hop h ≡ true
    tidy = sym e ∙ not-false u n

    pub hop_in : (b' : Building) (starred : Bool) → b' ≡ with_piece b (call_piece h.call starred) → b' ≡ with_piece b (hop_piece h starred)
    unfolding range_refusal
    hop_in b' starred q = q ∙ rw (tidy_hop h tidy)

    pub q_left_out : (b' : Building) (last : Bool) → h.kind ≡ q_element → b' ≡ with_piece b (plain []) → b' ≡ with_piece b (hop_address_piece h last)
    unfolding hop_address_piece is_q_element
    q_left_out b' last q w = w ∙ rw (tidy, eq-eqb h.kind q_element q)

    pub address_in : (b' : Building) (last : Bool) → (h.kind ≡ q_element → ⊥) → b' ≡ with_piece b (address_piece (write_address h.call (HopField (eqb h.kind was_heard)) last))
        → b' ≡ with_piece b (hop_address_piece h last)
    unfolding hop_address_piece is_q_element is_heard
    address_in b' last q w = w ∙ rw (tidy, ne_eqb h.kind q_element q)
