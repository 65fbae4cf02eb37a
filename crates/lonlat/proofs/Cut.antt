-- Digits whose last are taken as 0 say a multiple of the width that is left; those of a size say the size cut to it, and minutes
-- below 60.
-- Assumes nothing.
use Rattle.std.proofs.Common.{◌≡◌, ℕ, zero, suc, ◌+◌, ◌-◌, ◌*◌, ◌/◌, ◌%◌, ◌<◌, ◌≤◌, false, List, [], ◌∷◌, ◌++◌, length, take, drop, replicate, sym, ap, ◌∙◌, append_assoc, arith, length-append, take_at, drop_at}
use borrow.Author.Tests.{lt-leb}
use lib.Seq.{take-append-add}
use Rattle.laws.specs.Bytes.{digit0}
use Rattle.lonlat.specs.Angle.{most_latitude, most_longitude, width_of, cut_to}
use Rattle.lonlat.specs.Digits.{last_as, degrees_of, minutes_of, hundredths_of, value_of, is_sixty, places_of}
use Rattle.numbers.specs.Numbers.{number_after, number_of, digit_of, digits_of}
use Rattle.numbers.proofs.Counts.{number_append}

-- one case for each number of blanks
pub up_to_five : (P : ℕ → Type 0) → P 0 → P 1 → P 2 → P 3 → P 4 → P 5 → (n : ℕ) → n ≤ 5 → P n
up_to_five P p₀ p₁ p₂ p₃ p₄ p₅ zero h = p₀
up_to_five P p₀ p₁ p₂ p₃ p₄ p₅ (suc zero) h = p₁
up_to_five P p₀ p₁ p₂ p₃ p₄ p₅ (suc (suc zero)) h = p₂
up_to_five P p₀ p₁ p₂ p₃ p₄ p₅ (suc (suc (suc zero))) h = p₃
up_to_five P p₀ p₁ p₂ p₃ p₄ p₅ (suc (suc (suc (suc zero)))) h = p₄
up_to_five P p₀ p₁ p₂ p₃ p₄ p₅ (suc (suc (suc (suc (suc zero))))) h = p₅
up_to_five P p₀ p₁ p₂ p₃ p₄ p₅ (suc (suc (suc (suc (suc (suc n)))))) h = absurd (omega arith)

shown : (v : ℕ) → digit_of v - digit0 ≡ v % 10
unfolding digit_of
shown v = omega arith

-- a size by its digits: x tens of degrees, d degrees more, a and b of minutes, e and f of hundredths
record ByDigits (size x d a b e f : ℕ) : Type 0 where
  whole : 60000 * x + 6000 * d + 1000 * a + 100 * b + 10 * e + f ≡ size
  d_low : d < 10
  a_low : a < 6
  b_low : b < 10
  e_low : e < 10
  f_low : f < 10

two : (v : ℕ) → v < 100 → 10 * (v / 10 % 10) + v % 10 ≡ v
two v h = omega arith

by_digits : (size : ℕ) → ByDigits size (size / 6000 / 10) (size / 6000 % 10) (size / 100 % 60 / 10 % 10) (size / 100 % 60 % 10) (size % 100 / 10 % 10) (size % 100 % 10)
by_digits size =
    let m = two (size / 100 % 60) (omega arith) in
    let h = two (size % 100) (omega arith) in
    let d : 10 * (size / 6000 / 10) + size / 6000 % 10 ≡ size / 6000 = omega arith in
    let s : 6000 * (size / 6000) + 100 * (size / 100 % 60) + size % 100 ≡ size = omega arith in
    record { whole = omega arith; d_low = omega arith; a_low = omega arith; b_low = omega arith; e_low = omega arith; f_low = omega arith }

module _ {size x d a b e f : ℕ} (r : ByDigits size x d a b e f) where
  cut₀ : 60000 * x + 6000 * d + 1000 * a + 100 * b + 10 * e + f ≡ size - size % 1
  cut₀ = omega (arith, r.whole)

  cut₁ : 60000 * x + 6000 * d + 1000 * a + 100 * b + 10 * e + 0 ≡ size - size % 10
  cut₁ = omega (arith, r.whole, r.f_low)

  cut₂ : 60000 * x + 6000 * d + 1000 * a + 100 * b + 10 * 0 + 0 ≡ size - size % 100
  cut₂ = omega (arith, r.whole)

  cut₃ : 60000 * x + 6000 * d + 1000 * a + 100 * 0 + 10 * 0 + 0 ≡ size - size % 1000
  cut₃ = omega (arith, r.whole)

  cut₄ : 60000 * x + 6000 * d + 1000 * 0 + 100 * 0 + 10 * 0 + 0 ≡ size - size % 6000
  cut₄ = omega (arith, r.whole)

  cut₅ : 60000 * x + 6000 * 0 + 1000 * 0 + 100 * 0 + 10 * 0 + 0 ≡ size - size % 60000
  cut₅ = omega (arith, r.whole)

-- ---- the last five places, and p in front of them

module _ (p : List ℕ) (x a b e f : ℕ) where
  abbrev behind : List ℕ
  behind = a ∷ b ∷ e ∷ f ∷ []

  degrees : List ℕ
  degrees = p ++ (x ∷ [])

  -- four of them are not degrees
  parted : p ++ (x ∷ behind) ≡ degrees ++ behind
  unfolding degrees
  parted = sym (append_assoc p (x ∷ []) behind)

  to_degrees : length degrees ≡ length (degrees ++ behind) - 4
  to_degrees = rw (length-append degrees behind) (omega arith)

  degrees_five : degrees_of (p ++ (x ∷ behind)) ≡ 10 * number_of p + (x - digit0)
  unfolding degrees_of number_of number_after degrees
  degrees_five = rw parted (ap number_of (take_at degrees behind _ to_degrees) ∙ number_append 0 p (x ∷ []))

  minutes_five : minutes_of (p ++ (x ∷ behind)) ≡ 10 * (a - digit0) + (b - digit0)
  unfolding minutes_of number_of number_after
  minutes_five = rw parted (ap (λ (t : List ℕ). number_of (take 2 t)) (drop_at degrees behind _ to_degrees) ∙ omega arith)

  hundredths_five : hundredths_of (p ++ (x ∷ behind)) ≡ 10 * (e - digit0) + (f - digit0)
  unfolding hundredths_of number_of number_after
  hundredths_five = rw parted (ap (λ (t : List ℕ). number_of (drop 2 t)) (drop_at degrees behind _ to_degrees) ∙ omega arith)

  value_five : value_of (p ++ (x ∷ behind)) ≡ 60000 * number_of p + 6000 * (x - digit0) + 1000 * (a - digit0) + 100 * (b - digit0) + 10 * (e - digit0) + (f - digit0)
  unfolding value_of
  value_five = rw (degrees_five, minutes_five, hundredths_five) (omega arith)

  low_five : 10 * (a - digit0) + (b - digit0) < 60 → is_sixty (p ++ (x ∷ behind)) ≡ false
  unfolding is_sixty
  low_five h = rw minutes_five (lt-leb 60 (10 * (a - digit0) + (b - digit0)) h)

last_behind : (b n : ℕ) (p t : List ℕ) → n ≤ length t → last_as b n (p ++ t) ≡ p ++ last_as b n t
unfolding last_as
last_behind b n p t few =
    let e : length (p ++ t) - n ≡ length p + (length t - n) = omega (arith, length-append p t) in
    rw (e, take-append-add p t (length t - n)) (append_assoc p (take (length t - n) t) (replicate n b))

-- the last n of six places or more taken as 0 leave a multiple of their width
module _ (p : List ℕ) (x a b e f : ℕ) where
  abbrev last : List ℕ
  last = x ∷ a ∷ b ∷ e ∷ f ∷ []

  pub whole_width : (n : ℕ) → n ≤ 5 → value_of (last_as digit0 n (p ++ last)) % width_of n ≡ 0
  unfolding last_as width_of
  whole_width n few =
      ap (λ (t : List ℕ). value_of t % width_of n) (last_behind digit0 n p last few)
      ∙ up_to_five (λ n. value_of (p ++ last_as digit0 n last) % width_of n ≡ 0)
      (omega arith)
      (rw (value_five p x a b e digit0) (omega arith))
      (rw (value_five p x a b digit0 digit0) (omega arith))
      (rw (value_five p x a digit0 digit0 digit0) (omega arith))
      (rw (value_five p x digit0 digit0 digit0 digit0) (omega arith))
      (rw (value_five p digit0 digit0 digit0 digit0 digit0) (omega arith))
      n few

-- ---- the places of a size, more than one for the degrees

module _ (k size : ℕ) where
  abbrev before : List ℕ
  before = digits_of k (size / 6000 / 10)

  abbrev five : List ℕ
  five = digit_of (size / 6000) ∷ digit_of (size / 100 % 60 / 10) ∷ digit_of (size / 100 % 60) ∷ digit_of (size % 100 / 10) ∷ digit_of (size % 100) ∷ []

  -- at most five of them are taken as 0
  taken : (n : ℕ) → n ≤ 5 → last_as digit0 n (places_of (suc k) size) ≡ before ++ last_as digit0 n five
  unfolding places_of digits_of
  taken n few =
      let x = digit_of (size / 6000) ∷ [] in
      ap (last_as digit0 n) (append_assoc (before ++ x) (digits_of 2 (size / 100 % 60)) (digits_of 2 (size % 100)) ∙ append_assoc before x _)
      ∙ last_behind digit0 n before five few

  pub places_cut : number_of before ≡ size / 6000 / 10 → (n : ℕ) → n ≤ 5 → value_of (last_as digit0 n (places_of (suc k) size)) ≡ cut_to n size
  unfolding last_as width_of cut_to
  places_cut whole n few =
      let r = by_digits size in
      ap value_of (taken n few)
      ∙ up_to_five (λ n. value_of (before ++ last_as digit0 n five) ≡ cut_to n size)
      (value_five before _ _ _ _ _ ∙ simp (shown, whole) (cut₀ r))
      (value_five before _ _ _ _ _ ∙ simp (shown, whole) (cut₁ r))
      (value_five before _ _ _ _ _ ∙ simp (shown, whole) (cut₂ r))
      (value_five before _ _ _ _ _ ∙ simp (shown, whole) (cut₃ r))
      (value_five before _ _ _ _ _ ∙ simp (shown, whole) (cut₄ r))
      (value_five before _ _ _ _ _ ∙ simp whole (cut₅ r))
      n few

  both_digits : 10 * (digit_of (size / 100 % 60 / 10) - digit0) + (digit_of (size / 100 % 60) - digit0) < 60
  both_digits = simp shown (omega arith)

  tens_alone : 10 * (digit_of (size / 100 % 60 / 10) - digit0) + (digit0 - digit0) < 60
  tens_alone = simp shown (omega arith)

  -- the minutes that are left are below 60
  pub places_minutes : (n : ℕ) → n ≤ 5 → is_sixty (last_as digit0 n (places_of (suc k) size)) ≡ false
  unfolding last_as
  places_minutes n few =
      ap is_sixty (taken n few)
      ∙ up_to_five (λ n. is_sixty (before ++ last_as digit0 n five) ≡ false)
      (low_five before _ _ _ _ _ both_digits)
      (low_five before _ _ _ _ _ both_digits)
      (low_five before _ _ _ _ _ both_digits)
      (low_five before _ _ _ _ _ tens_alone)
      (low_five before _ _ _ _ _ (omega arith))
      (low_five before _ _ _ _ _ (omega arith))
      n few

-- ---- two places of degrees, and three

pub latitude_cut : (size : ℕ) → size ≤ most_latitude → (n : ℕ) → n ≤ 5 → value_of (last_as digit0 n (places_of 2 size)) ≡ cut_to n size
unfolding digits_of number_of number_after
latitude_cut size h = places_cut 1 size (simp shown (omega arith))

pub longitude_cut : (size : ℕ) → size ≤ most_longitude → (n : ℕ) → n ≤ 5 → value_of (last_as digit0 n (places_of 3 size)) ≡ cut_to n size
unfolding digits_of number_of number_after
longitude_cut size h = places_cut 2 size (simp shown (omega (arith, two (size / 6000 / 10) (omega arith))))
