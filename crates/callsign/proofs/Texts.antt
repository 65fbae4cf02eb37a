-- Laws of a text read: `read_unstarred` and `read_text` by the facts that the code's tests leave.
-- Assumes nothing.
use Rattle.std.proofs.Common.{◌≡◌, ℕ, ◌+◌, ◌-◌, ◌<◌, ◌≤◌, Bool, true, false, not, eqb, List, [], ◌∷◌, ◌++◌, length, get_or, take, drop, ap, ◌∙◌, add-one, arith, length-drop, length-take, le-ltb, lt-ltb, eq-eqb, ne_eqb}
use mathlib.Core.Bool.{and-true, and-false}
use borrow.Author.Rules.{part_to_end}
use lib.Pointwise.{pointwise}
use Rattle.laws.specs.Bytes.{star, dash, digit0}
use Rattle.laws.specs.Lists.{index_of, pad_to}
use Rattle.laws.proofs.Places.{index_split, index_le}
use Rattle.callsign.specs.declared.CallRead.{CallRead}
use Rattle.callsign.specs.Utf8.{utf8, characters}
use Rattle.callsign.specs.Text.{joined, call_as, made, blank_call, marked_as, is_zero, call_refused, call_accepted, parted, read_unstarred, read_text}
use Rattle.callsign.proofs.Ranges.{joined_full}

-- ---- the two sides of a dash

pub zero_same : (r : Bool) (l : List ℕ) → r ≡ pointwise eqb l (digit0 ∷ []) → r ≡ is_zero l
unfolding is_zero
zero_same r [] e = e
zero_same r (x ∷ []) e = e ∙ and-true (eqb x digit0)
zero_same r (x ∷ y ∷ l) e = e ∙ and-false (eqb x digit0)

module _ (a b : List ℕ) (starred : Bool) (r : CallRead) where
  pub no_call : length a ≡ 0 → r ≡ call_refused 3 → r ≡ parted a b starred
  unfolding parted
  no_call h e = rw (eq-eqb (length a) 0 h) e

  module _ (h : length a ≡ 0 → ⊥) where
    pub no_ssid : length b ≡ 0 → r ≡ call_refused 3 → r ≡ parted a b starred
    unfolding parted
    no_ssid k e = rw (ne_eqb (length a) 0 h, eq-eqb (length b) 0 k) e

    module _ (k : length b ≡ 0 → ⊥) (z : Bool) (q : z ≡ is_zero b) (x : List ℕ) where
      pub ssid_zero : z ≡ true → x ≡ pad_to 16 0 a → r ≡ call_accepted (call_as x (length a) 0 true) starred → r ≡ parted a b starred
      unfolding parted made marked_as joined
      ssid_zero t p e = rw (ne_eqb (length a) 0 h, ne_eqb (length b) 0 k, ← q, t, ← p) e

      pub ssid_kept : z ≡ false → x ≡ pad_to 16 0 (a ++ dash ∷ b) → r ≡ call_accepted (call_as x (length a) (length b) false) starred → r ≡ parted a b starred
      unfolding parted made
      ssid_kept t p e = rw (ne_eqb (length a) 0 h, ne_eqb (length b) 0 k, ← q, t, joined_full a b k, ← p) e

-- ---- the text without its star

pub empty : (t : List ℕ) (starred : Bool) (r : CallRead) → length t ≡ 0 → r ≡ call_accepted blank_call starred → r ≡ read_unstarred t starred
unfolding read_unstarred blank_call utf8 characters index_of
empty [] starred r h e = e
empty (b ∷ t) starred r h e = absurd (omega arith)

module _ (t : List ℕ) (starred : Bool) (r : CallRead) where
  pub too_long : 16 < length t → r ≡ call_refused 4 → r ≡ read_unstarred t starred
  unfolding read_unstarred
  too_long h e = rw (lt-ltb 16 (length t) h) e

  module _ (h : length t ≤ 16) (u : Bool) (q : u ≡ utf8 t) where
    pub no_utf8 : not u ≡ true → r ≡ call_refused 3 → r ≡ read_unstarred t starred
    unfolding read_unstarred
    no_utf8 n e = rw (le-ltb 16 (length t) h, ← q, n) e

    module _ (n : not u ≡ false) (d : ℕ) (f : d ≡ index_of dash t) where
      pub undashed : (x : List ℕ) → d ≡ length t → x ≡ pad_to 16 0 t → r ≡ call_accepted (call_as x d 0 false) starred → r ≡ read_unstarred t starred
      unfolding read_unstarred made joined
      undashed x w p e = rw (le-ltb 16 (length t) h, ← q, n, ← f, eq-eqb d (length t) w, ← p) (e ∙ rw w)

      pub dashed : (d ≡ length t → ⊥) → r ≡ parted (take d t) (take (length t - (d + 1)) (drop (d + 1) t)) starred → r ≡ read_unstarred t starred
      unfolding read_unstarred
      dashed w e = rw (le-ltb 16 (length t) h, ← q, n, ← f, ne_eqb d (length t) w, ← add-one d, ← part_to_end t (d + 1)) e

-- the text at the dash that was found
module _ (t : List ℕ) (d : ℕ) (f : d ≡ index_of dash t) (w : d ≡ length t → ⊥) where
  pub sides : length t ≤ 16 → length (take d t) + 1 + length (take (length t - (d + 1)) (drop (d + 1) t)) ≤ 16
  sides h = simp (length-take, length-drop) (omega (arith, index_le dash t))

  pub split : (x : List ℕ) → x ≡ pad_to 16 0 t → x ≡ pad_to 16 0 (take d t ++ dash ∷ take (length t - (d + 1)) (drop (d + 1) t))
  split x p = p ∙ ap (λ (l : List ℕ). pad_to 16 0 l) (rw (part_to_end t (d + 1), f, add-one) (index_split dash t (omega (arith, index_le dash t))))

-- ---- the star

module _ (s : List ℕ) (r : CallRead) where
  pub unstarred : (get_or s (length s - 1) 0 ≡ star → ⊥) → r ≡ read_unstarred s false → r ≡ read_text s
  unfolding read_text
  unstarred h e = rw (ne_eqb (get_or s (length s - 1) 0) star h) e

  pub none_starred : length s < 1 → r ≡ read_unstarred s false → r ≡ read_text s
  none_starred h e = unstarred (λ q. absurd (go s h q)) e
    where
      go : (s : List ℕ) → length s < 1 → get_or s (length s - 1) 0 ≡ star → ⊥
      go [] h q = let z : 0 ≡ star = q in omega arith
      go (x ∷ s) h q = omega arith

  pub none_read : length s ≡ 0 → r ≡ call_accepted blank_call false → r ≡ read_text s
  none_read h e = none_starred (omega arith) (empty s false r h e)

  pub starred : get_or s (length s - 1) 0 ≡ star → r ≡ read_unstarred (take (length s - 1) s) true → r ≡ read_text s
  unfolding read_text
  starred h e = rw (eq-eqb (get_or s (length s - 1) 0) star h) e
