-- Laws of the text written: the star, and the range in front.
-- Assumes nothing.
use Rattle.std.proofs.Common.{◌≡◌, ℕ, ◌≤◌, min, Bool, true, false, not, List, [], ◌∷◌, ◌++◌, length, take, sym, ap, ◌∙◌, arith, length-append}
use borrow.Author.Tests.{not-true}
use Rattle.laws.specs.Bytes.{star}
use Rattle.buffer.specs.Wrote.{Wrote, ends, refused_by, over_by, wrote}
use Rattle.buffer.specs.declared.Answer.{Answer}
use Rattle.buffer.proofs.Wrote.{not_over, passed_on}
use Rattle.callsign.specs.declared.Callsign.{Callsign}
use Rattle.callsign.specs.Range.{text_len, in_range, range_refusal, text_of, with_star}
use Rattle.callsign.proofs.Ranges.{from_range, found_in_range, text_in_use, accepted, rejected}

-- ---- the star

module _ (l out : List ℕ) (starred : Bool) (w : Wrote) where
  pub with_star_lem : starred ≡ true → length l ≤ 16 → w ≡ wrote (over_by 17 (l ++ star ∷ [])) (l ++ star ∷ []) out → w ≡ wrote 0 (with_star l starred) out
  unfolding with_star
  with_star_lem s h e =
      let fits : length (l ++ star ∷ []) ≤ 17 = omega (arith, length-append l (star ∷ [])) in
      rw s (e ∙ ap (λ (r : ℕ). wrote r (l ++ star ∷ []) out) (not_over 17 (l ++ star ∷ []) fits))

  pub without_star : starred ≡ false → w ≡ wrote 0 l out → w ≡ wrote 0 (with_star l starred) out
  unfolding with_star
  without_star s e = rw s e

-- ---- the range in front

module _ (c : Callsign) (u : Bool) (e : u ≡ in_range c) (starred : Bool) (out : List ℕ) where
  pub text_refused : (r : Answer) → not u ≡ true → r ≡ refused_by 15 → ends r out ≡ wrote (range_refusal c) (with_star (text_of c) starred) out
  text_refused r h q =
      passed_on r 15 (range_refusal c) (with_star (text_of c) starred) out q (λ z. omega arith) (rejected c (sym e ∙ not-true u h))

  module _ (h : not u ≡ false) (long : length c.text ≡ 16) where
    in_range_lem : in_range c ≡ true
    in_range_lem = found_in_range c u e h

    pub text_written : (w : Wrote) (n : ℕ) → n ≡ min (text_len c) 16 → w ≡ wrote 0 (with_star (take n c.text) starred) out → w ≡ wrote (range_refusal c) (with_star (text_of c) starred) out
    text_written w n q r =
        let k : text_len c ≡ n = omega (arith, (from_range c in_range_lem).size) in
        r ∙ ap (λ (l : List ℕ). wrote 0 (with_star l starred) out) (ap (λ (m : ℕ). take m c.text) (sym k) ∙ sym (text_in_use c in_range_lem long))
        ∙ ap (λ (k : ℕ). wrote k (with_star (text_of c) starred) out) (sym (accepted c in_range_lem))
