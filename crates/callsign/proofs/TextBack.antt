-- What a text reads as, case by case; so what is read is in range, and its text is the one that was read.
-- Assumes nothing.
use Rattle.std.proofs.Common.{◌≡◌, ℕ, suc, ◌-◌, ◌<◌, ◌≤◌, Bool, true, false, cond, not, eqb, ltb, List, [], ◌∷◌, ◌++◌, length, get_or, take, drop, sym, refl, ap, ◌∙◌, arith, length-append, take-suc, ltb-false, eqb-true}
use mathlib.Core.Bool.{false≢true}
use borrow.Author.Tests.{eqb-false}
use lib.Seq.{take-length}
use Rattle.laws.specs.Bytes.{star, dash, digit0}
use Rattle.laws.specs.Lists.{index_of}
use Rattle.laws.proofs.Places.{index_split, index_le, none_before}
use Rattle.laws.proofs.Tests.{and_both}
use Rattle.callsign.specs.declared.Callsign.{Callsign}
use Rattle.callsign.specs.declared.CallRead.{CallRead}
use Rattle.callsign.specs.Utf8.{utf8}
use Rattle.callsign.specs.Text.{joined, made, marked_as, is_zero, call_refused, call_accepted, parted, read_unstarred, read_text}
use Rattle.callsign.specs.Range.{in_range, text_of, with_star}
use Rattle.callsign.proofs.Unicode.{utf8_split}
use Rattle.callsign.proofs.Ranges.{utf8_none, zero_none, joined_full}
use Rattle.callsign.proofs.Made.{made_range, made_written, blank_range}
use Rattle.callsign.proofs.Marks.{mark_in_range, mark_in_text}

-- a refusal; no dash; `-0` dropped; call and SSID
pub data Seen (t : List ℕ) (starred : Bool) : CallRead → Type 0 where
  refused : (n : ℕ) → 3 ≤ n → n ≤ 4 → Seen t starred (call_refused n)
  bare : length t ≤ 16 → utf8 t ≡ true → Seen t starred (call_accepted (made t []) starred)
  zeroed : (a : List ℕ) → t ≡ a ++ dash ∷ digit0 ∷ [] → index_of dash a ≡ length a → length t ≤ 16 → utf8 t ≡ true → Seen t starred (call_accepted (marked_as true (made a [])) starred)
  full : (a b : List ℕ) → t ≡ a ++ dash ∷ b → (length b ≡ 0 → ⊥) → is_zero b ≡ false → length t ≤ 16 → utf8 t ≡ true → Seen t starred (call_accepted (made a b) starred)

zero_is : (b : List ℕ) → is_zero b ≡ true → b ≡ digit0 ∷ []
unfolding is_zero
zero_is [] e = absurd (false≢true e)
zero_is (x ∷ []) e = ap {B = List ℕ} (λ v. v ∷ []) (eqb-true x digit0 e)
zero_is (x ∷ y ∷ b) e = absurd (false≢true e)

module _ (t : List ℕ) (starred : Bool) (h : length t ≤ 16) (v : utf8 t ≡ true) where
  seen_parted : (a b : List ℕ) → t ≡ a ++ dash ∷ b → index_of dash a ≡ length a → Seen t starred (parted a b starred)
  unfolding parted
  seen_parted a b e first = go (eqb (length a) 0) (eqb (length b) 0) (is_zero b) refl refl
    where
      go : (p q z : Bool) → eqb (length b) 0 ≡ q → is_zero b ≡ z
          → Seen t starred (cond p (call_refused 3) (cond q (call_refused 3) (cond z (call_accepted (marked_as true (made a [])) starred) (call_accepted (made a b) starred))))
      go true q z f g = refused 3 (omega arith) (omega arith)
      go false true z f g = refused 3 (omega arith) (omega arith)
      go false false true f g = zeroed a (e ∙ ap (λ (l : List ℕ). a ++ dash ∷ l) (zero_is b g)) first h v
      go false false false f g = full a b e (eqb-false (length b) 0 f) g h v

pub seen : (t : List ℕ) (starred : Bool) → Seen t starred (read_unstarred t starred)
unfolding read_unstarred
seen t starred = go (ltb 16 (length t)) (utf8 t) (eqb (index_of dash t) (length t)) refl refl refl
  where
    go : (p q d : Bool) → ltb 16 (length t) ≡ p → utf8 t ≡ q → eqb (index_of dash t) (length t) ≡ d
        → Seen t starred (cond p (call_refused 4) (cond (not q) (call_refused 3) (cond d (call_accepted (made t []) starred) (parted (take (index_of dash t) t) (drop (suc (index_of dash t)) t) starred))))
    go true q d e f g = refused 4 (omega arith) (omega arith)
    go false false d e f g = refused 3 (omega arith) (omega arith)
    go false true true e f g = bare (ltb-false 16 (length t) e) f
    go false true false e f g =
        let n : index_of dash t ≡ length t → ⊥ = eqb-false (index_of dash t) (length t) g in
        seen_parted t starred (ltb-false 16 (length t) e) f (take (index_of dash t) t) (drop (suc (index_of dash t)) t)
        (index_split dash t (omega (arith, index_le dash t))) (none_before dash t)

-- ---- in range

pub sides : (t a b : List ℕ) → t ≡ a ++ dash ∷ b → utf8 t ≡ true → (utf8 a ≡ true) × (utf8 b ≡ true)
sides t a b e v = and_both (utf8 a) (utf8 b) (sym (utf8_split dash (omega arith) a b) ∙ ap utf8 (sym e) ∙ v)

seen_range : (t : List ℕ) (starred : Bool) (r : CallRead) → Seen t starred r → in_range r.call ≡ true
unfolding call_refused call_accepted joined
seen_range t starred r (refused n h m) = blank_range
seen_range t starred r (bare h v) = made_range t [] h v utf8_none zero_none
seen_range t starred r (zeroed a e first h v) =
    mark_in_range true (made a []) ∙ made_range a [] (omega (arith, ap length e, length-append a (dash ∷ digit0 ∷ []))) (sides t a (digit0 ∷ []) e v).0 utf8_none zero_none
seen_range t starred r (full a b e k z h v) =
    let s = sides t a b e v in
    made_range a b (rw (joined_full a b k, ← e) h) s.0 s.1 z

-- ---- a refusal

seen_refusal : (t : List ℕ) (starred : Bool) (r : CallRead) → Seen t starred r → (r.refusal ≡ 0 → ⊥) → (3 ≤ r.refusal) × (r.refusal ≤ 4)
unfolding call_refused call_accepted
seen_refusal t starred r (refused n h m) z = (h, m)
seen_refusal t starred r (bare h v) z = absurd (z refl)
seen_refusal t starred r (zeroed a e first h v) z = absurd (z refl)
seen_refusal t starred r (full a b e k z h v) y = absurd (y refl)

-- ---- the text again

-- `-0` behind a text, where it was dropped
unfoldable pub with_zero : List ℕ → Bool → List ℕ
with_zero l true = l ++ dash ∷ digit0 ∷ []
with_zero l false = l

-- a callsign as it was typed, but for a star
unfoldable pub typed_text : Callsign → List ℕ
typed_text c = with_zero (text_of c) c.had_zero_ssid

-- the text that a reading stands for
unfoldable pub as_read : CallRead → List ℕ
as_read r = with_star (typed_text r.call) r.starred

pub bare_written : (a : List ℕ) → text_of (made a []) ≡ a
unfolding joined
bare_written a = made_written a []

seen_back : (t : List ℕ) (starred : Bool) (r : CallRead) → Seen t starred r → r.refusal ≡ 0 → as_read r ≡ with_star t starred
unfolding call_refused call_accepted as_read typed_text with_zero marked_as made
seen_back t starred r (refused n h m) q = absurd (omega arith)
seen_back t starred r (bare h v) q = ap (λ (l : List ℕ). with_star l starred) (bare_written t)
seen_back t starred r (zeroed a e first h v) q = ap (λ (l : List ℕ). with_star l starred) (ap (λ (l : List ℕ). l ++ dash ∷ digit0 ∷ []) (mark_in_text true (made a []) ∙ bare_written a) ∙ sym e)
seen_back t starred r (full a b e k z h v) q = ap (λ (l : List ℕ). with_star l starred) (made_written a b ∙ joined_full a b k ∙ sym e)

star_off_lem : (s : List ℕ) → get_or s (length s - 1) 0 ≡ star → take (length s - 1) s ++ star ∷ [] ≡ s
star_off_lem [] e = absurd (eqb-false 0 star refl e)
star_off_lem (x ∷ s) e =
    let n : length (x ∷ s) - 1 < length (x ∷ s) = omega arith in
    let m : suc (length (x ∷ s) - 1) ≡ length (x ∷ s) = omega arith in
    ap (λ (v : ℕ). take (length (x ∷ s) - 1) (x ∷ s) ++ v ∷ []) (sym e) ∙ sym (take-suc (x ∷ s) (length (x ∷ s) - 1) 0 n)
    ∙ ap (λ (k : ℕ). take k (x ∷ s)) m ∙ take-length (x ∷ s)

-- whatever read_text gives
pub text_range : (s : List ℕ) → in_range (read_text s).call ≡ true
unfolding read_text
text_range s = go (eqb (get_or s (length s - 1) 0) star)
  where
    go : (p : Bool) → in_range (cond p (read_unstarred (take (length s - 1) s) true) (read_unstarred s false)).call ≡ true
    go true = seen_range _ true _ (seen (take (length s - 1) s) true)
    go false = seen_range _ false _ (seen s false)

-- a text is accepted, or refused with 3 or 4
pub text_refusal_lem : (s : List ℕ) → ((read_text s).refusal ≡ 0 → ⊥) → (3 ≤ (read_text s).refusal) × ((read_text s).refusal ≤ 4)
unfolding read_text
text_refusal_lem s = go (eqb (get_or s (length s - 1) 0) star)
  where
    go : (p : Bool) → ((cond p (read_unstarred (take (length s - 1) s) true) (read_unstarred s false)).refusal ≡ 0 → ⊥)
        → (3 ≤ (cond p (read_unstarred (take (length s - 1) s) true) (read_unstarred s false)).refusal) × ((cond p (read_unstarred (take (length s - 1) s) true) (read_unstarred s false)).refusal ≤ 4)
    go true = seen_refusal _ true _ (seen (take (length s - 1) s) true)
    go false = seen_refusal _ false _ (seen s false)

pub text_back : (s : List ℕ) → (read_text s).refusal ≡ 0 → as_read (read_text s) ≡ s
unfolding read_text with_star
text_back s q = go (eqb (get_or s (length s - 1) 0) star) refl q
  where
    go : (p : Bool) → eqb (get_or s (length s - 1) 0) star ≡ p
        → (cond p (read_unstarred (take (length s - 1) s) true) (read_unstarred s false)).refusal ≡ 0
        → as_read (cond p (read_unstarred (take (length s - 1) s) true) (read_unstarred s false)) ≡ s
    go true e q = seen_back _ true _ (seen (take (length s - 1) s) true) q ∙ star_off_lem s (eqb-true (get_or s (length s - 1) 0) star e)
    go false e q = seen_back _ false _ (seen s false) q
