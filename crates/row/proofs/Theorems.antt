-- What the definition of a row amounts to: a callsign in a row is what would be written of it, the destination is the outermost
-- header's, and Q elements are never among the heard hops.
-- Assumes nothing.
use mathlib.Core.Path.{◌≡◌, refl, sym, ap, ◌∙◌}
use mathlib.Core.Bool.{Bool, true, false, cond}
use mathlib.Core.List.{List, [], ◌∷◌}
use Prim.Native.Nat.{ℕ, ◌+◌}
use native.Mathlib.Omega.{arith}
use Rattle.std.proofs.lemmas.List.Sums.{sum_by-cons}
use borrow.Author.Tests.{eq-eqb, ne_eqb}
use lib.ListN.{length}
use Rattle.callsign.specs.declared.Callsign.{Callsign}
use Rattle.callsign.specs.Range.{in_range, text_of}
use Rattle.callsign.proofs.Ranges.{text_in_use}
use Rattle.header.specs.declared.Hop.{Hop}
use Rattle.header.specs.Hop.{is_heard, is_q_element, calls_of}
use Rattle.header.proofs.Hops.{q_unheard}
use Rattle.position.specs.Position.{strictly}
use Rattle.body.specs.declared.Kind.{Kind}
use Rattle.body.specs.declared.Kind.TheVariants.{Unknown, Position, MicE, Message, Status}
use Rattle.position.specs.declared.Place.{Place}
use mathlib.Core.Logic.{◌⊎◌, inl, inr}
use Rattle.packet.specs.Packet.{strict_text}
use Rattle.packet.proofs.Theorems.{text_strictly}
use Rattle.row.specs.Row.{or_point, call_field, own_to_field, to_field, heard_among, angle_fields, absent_angles, place_fields, row_of, row_by, row}

-- a callsign in range stands in its row as it would be written, and a point stands for an empty one
pub call_as_written : (c : Callsign) → in_range c ≡ true → length c.text ≡ 16 → call_field c ≡ or_point (text_of c)
unfolding call_field
call_as_written c e long = ap or_point (sym (text_in_use c e long))

-- with a packet inside, the destination of a row is the outermost one, whatever the innermost body is; with none, it is by the kind
module _ (inner : ℕ) (kind : Kind) (to : Callsign) where
  pub outermost_to : (inner ≡ 0 → ⊥) → to_field inner kind to ≡ call_field to
  unfolding to_field
  outermost_to z = rw (ne_eqb inner 0 z) refl

  pub own_to : inner ≡ 0 → to_field inner kind to ≡ own_to_field kind to
  unfolding to_field
  own_to z = rw (eq-eqb inner 0 z) refl

-- the kinds that keep their destination, those that have no place, and those that have one
pub kept_to : (kind : Kind) (to : Callsign) → (kind ≡ Unknown) ⊎ (kind ≡ Position) ⊎ (kind ≡ Message) ⊎ (kind ≡ Status) → own_to_field kind to ≡ call_field to
unfolding own_to_field
kept_to kind to (inl e) = ap (λ (k : Kind). own_to_field k to) e
kept_to kind to (inr (inl e)) = ap (λ (k : Kind). own_to_field k to) e
kept_to kind to (inr (inr (inl e))) = ap (λ (k : Kind). own_to_field k to) e
kept_to kind to (inr (inr (inr e))) = ap (λ (k : Kind). own_to_field k to) e

pub without_place : (kind : Kind) (p : Place) → (kind ≡ Unknown) ⊎ (kind ≡ Message) ⊎ (kind ≡ Status) → place_fields kind p ≡ absent_angles
unfolding place_fields
without_place kind p (inl e) = ap (λ (k : Kind). place_fields k p) e
without_place kind p (inr (inl e)) = ap (λ (k : Kind). place_fields k p) e
without_place kind p (inr (inr e)) = ap (λ (k : Kind). place_fields k p) e

pub with_place : (kind : Kind) (p : Place) → (kind ≡ Position) ⊎ (kind ≡ MicE) → place_fields kind p ≡ angle_fields p
unfolding place_fields
with_place kind p (inl e) = ap (λ (k : Kind). place_fields k p) e
with_place kind p (inr e) = ap (λ (k : Kind). place_fields k p) e

-- document 02, R-7: the heard hops of a path are as many as those of its callsigns alone
pub q_elements_are_never_heard : (l : List Hop) → heard_among (calls_of l) ≡ heard_among l
unfolding heard_among calls_of
q_elements_are_never_heard [] = refl
q_elements_are_never_heard (h ∷ l) = go (is_q_element h) refl (q_elements_are_never_heard l)
  where
    more : (x : Hop) (m : List Hop) → heard_among (x ∷ m) ≡ cond (is_heard x) 1 0 + heard_among m
    more x m = sum_by-cons (λ (y : Hop). cond (is_heard y) 1 0) x m

    go : (k : Bool) → is_q_element h ≡ k → heard_among (calls_of l) ≡ heard_among l → heard_among (cond k (calls_of l) (h ∷ calls_of l)) ≡ heard_among (h ∷ l)
    go true e r =
        let none : heard_among l ≡ 0 + heard_among l = omega arith in
        r ∙ none ∙ ap (λ (t : Bool). cond t 1 0 + heard_among l) (sym (q_unheard h e)) ∙ sym (more h l)
    go false e r = more h (calls_of l) ∙ ap (λ (n : ℕ). cond (is_heard h) 1 0 + n) r ∙ sym (more h l)

-- document 02, R-8: a line that is accepted strictly has its usual row
pub strict_row_is_the_usual : (number : ℕ) (line : List ℕ) → (strict_text line).refusal ≡ 0 → row_by strictly number line ≡ row number line
unfolding row_by
strict_row_is_the_usual number line z = ap (row_of number) ((text_strictly line).same z)
