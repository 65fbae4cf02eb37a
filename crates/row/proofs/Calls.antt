-- Laws of a callsign in a row: which bytes of its text are shown.
-- Assumes nothing.
use mathlib.Core.Path.{◌≡◌, refl, sym, ap, ◌∙◌}
use mathlib.Core.Bool.{Bool, true, false}
use mathlib.Core.List.{List, [], ◌∷◌}
use Prim.Native.Nat.{ℕ, ◌<◌, min}
use native.Mathlib.Omega.{arith}
use lib.Dec.{eqb}
use borrow.Author.Tests.{eqb-true, eqb-false}
use lib.ListN.{length, take, length-take}
use lib.Seq.{take_all}
use Rattle.laws.specs.Bytes.{point}
use Rattle.callsign.specs.declared.Callsign.{Callsign}
use Rattle.callsign.specs.Range.{text_len}
use Rattle.row.specs.Row.{or_point, call_field}

not_empty : (l : List ℕ) → 0 < length l → or_point l ≡ l
unfolding or_point
not_empty [] h = absurd (omega arith)
not_empty (b ∷ l) h = refl

module _ (c : Callsign) (n : ℕ) (is : n ≡ min (text_len c) 16) where
  pub shown_point : n ≡ 0 → point ∷ [] ≡ call_field c
  unfolding call_field or_point
  shown_point z =
      let e : text_len c ≡ 0 = omega arith in
      sym (rw e)

  module _ (whole : length c.text ≡ 16) where
    first_bytes : take (text_len c) c.text ≡ take n c.text
    first_bytes = go (eqb (text_len c) n) refl
      where
        go : (t : Bool) → eqb (text_len c) n ≡ t → take (text_len c) c.text ≡ take n c.text
        go true e = ap (λ (m : ℕ). take m c.text) (eqb-true (text_len c) n e)
        go false e =
            let d = eqb-false (text_len c) n e in
            take_all (text_len c) c.text (omega arith) ∙ sym (take_all n c.text (omega arith))

    pub shown_text : (n ≡ 0 → ⊥) → take n c.text ≡ call_field c
    unfolding call_field
    shown_text z = sym (ap or_point first_bytes ∙ not_empty (take n c.text) (omega (arith, length-take n c.text)))
