-- Numbers put together and taken apart. First the laws of a side and a size that callers cite, then the machine's signed
-- numbers: an `i32` is made and taken apart by way of an `i64`.
-- Assumes nothing.
use Rattle.std.specs.Prelude.{Option, Some, None}
use Rattle.std.proofs.Common.{le-ltb, ◌≡◌, ℕ, zero, suc, ◌<◌, ◌≤◌, Bool, true, false, ℤ, pos, negsuc, ◌-ℤ◌, neg_ℤ, nat_abs, sym, refl, ap, ◌∙◌, subst, arith, to_z-of_z, w32, w64, SFits, to_z, of_z, le-leb}
use mathlib.Core.Bool.{false≢true}
use borrow.Author.Tests.{lt-leb}
use lib.IntN.{+ℤ_idl}
use lib.Signed.{lt_z}
use mir.Facts.{to_z_pos}
use Rattle.numbers.specs.Sign.{signed_of, most_on, number_on, is_minus, is_on, sides_of}
use Rattle.numbers.specs.declared.Sides.{Sides}

-- ---- a side and a size

-- the two parts give the angle back
pub rejoined : (angle : ℤ) → signed_of (is_minus angle) (nat_abs angle) ≡ angle
unfolding signed_of is_minus
rejoined (pos n) = refl
rejoined (negsuc n) = refl

pub size_signed : (minus : Bool) (size : ℕ) → nat_abs (signed_of minus size) ≡ size
unfolding signed_of
size_signed false size = refl
size_signed true zero = refl
size_signed true (suc n) = refl

-- the number of a size on a side is on that side
pub on_signed : (minus : Bool) (size : ℕ) → is_on minus (signed_of minus size) ≡ true
unfolding is_on signed_of
on_signed false size = le-leb 0 size (omega arith)
on_signed true zero = refl
on_signed true (suc n) = refl

-- its own side is one that a number is on
pub on_own : (z : ℤ) → is_on (is_minus z) z ≡ true
unfolding is_on is_minus
on_own (pos n) = le-leb 0 n (omega arith)
on_own (negsuc n) = refl

-- and the only one, but for 0, which is on both
pub on_one : (minus : Bool) (z : ℤ) → is_on minus z ≡ true → (z ≡ pos 0 → ⊥) → minus ≡ is_minus z
unfolding is_on is_minus
on_one false (pos n) e h = refl
on_one true (pos zero) e h = absurd (h refl)
on_one true (pos (suc n)) e h = absurd (false≢true (sym (lt-leb (suc n) 0 (omega arith)) ∙ e))
on_one false (negsuc n) e h = absurd (false≢true e)
on_one true (negsuc n) e h = refl

-- there the side and the size give the number back
pub on_rejoined : (minus : Bool) (z : ℤ) → is_on minus z ≡ true → signed_of minus (nat_abs z) ≡ z
unfolding is_on signed_of
on_rejoined false (pos n) e = refl
on_rejoined true (pos zero) e = refl
on_rejoined true (pos (suc n)) e = absurd (false≢true (sym (lt-leb (suc n) 0 (omega arith)) ∙ e))
on_rejoined false (negsuc n) e = absurd (false≢true e)
on_rejoined true (negsuc n) e = refl

-- what the code has once it has taken an angle apart: z is the angle as it has it
module _ (angle z : ℤ) (back : z ≡ angle) (p : Sides) (e : p ≡ sides_of z) where
  pub parts_size : p.size ≡ nat_abs angle
  unfolding sides_of
  parts_size = ap (λ (q : Sides). q.size) e ∙ ap nat_abs back

  pub parts_minus : p.minus ≡ is_minus angle
  unfolding sides_of
  parts_minus = ap (λ (q : Sides). q.minus) e ∙ ap is_minus back

-- a size that an `i32` holds on either side
pub number_small : (minus : Bool) (size : ℕ) → size ≤ 2147483647 → number_on minus size ≡ Some (signed_of minus size)
unfolding number_on most_on
number_small false size h = rw (le-leb size 2147483647 h)
number_small true size h = rw (le-leb size 2147483648 (omega arith))

-- what a caller learns of such a size: r is what it was answered
module _ (minus : Bool) (size : ℕ) (h : size ≤ 2147483647) (r : Option ℤ) (e : r ≡ number_on minus size) where
  pub number_told : (z : ℤ) → r ≡ Some z → z ≡ signed_of minus size
  number_told z f = let k : Some z ≡ Some (signed_of minus size) = sym f ∙ e ∙ number_small minus size h in cc

  pub number_never : r ≡ None → ⊥
  number_never f =
      let k : None ≡ Some (signed_of minus size) = sym f ∙ e ∙ number_small minus size h in
      let n : ◌≡◌ {A = ℕ} 0 1 = cc in
      omega arith

-- ---- the machine's numbers: together

module _ (minus : Bool) (size : ℕ) where
  pub number_past : (most : ℕ) → most ≡ most_on minus → most < size → None ≡ number_on minus size
  unfolding number_on
  number_past most e h = rw (← e, lt-leb size most h)

  pub number_is : (most : ℕ) → most ≡ most_on minus → size ≤ most → (z : ℤ) → z ≡ signed_of minus size → Some z ≡ number_on minus size
  unfolding number_on
  number_is most e h z g = rw (← e, le-leb size most h, g)

pub plus_whole : (m : ℕ) → m ≤ 2147483647 → to_z w32 m ≡ signed_of false m
unfolding signed_of
plus_whole m h = to_z_pos w32 {n = m} (omega arith)

-- minus a size goes by way of an `i64`
fits_wide : (m : ℕ) → m ≤ 2147483648 → SFits w64 (neg_ℤ (pos m))
fits_wide zero h = record { sfits = omega arith }
fits_wide (suc n) h = record { sfits = omega arith }

fits_narrow : (m : ℕ) → m ≤ 2147483648 → SFits w32 (neg_ℤ (pos m))
fits_narrow zero h = record { sfits = omega arith }
fits_narrow (suc n) h = record { sfits = omega arith }

module _ (m : ℕ) (h : m ≤ 2147483648) where
  minus_is : pos 0 -ℤ to_z w64 m ≡ neg_ℤ (pos m)
  minus_is = ap (λ (y : ℤ). pos 0 -ℤ y) (to_z_pos w64 {n = m} (omega arith)) ∙ +ℤ_idl (neg_ℤ (pos m))

  pub minus_wide : SFits w64 (pos 0 -ℤ to_z w64 m)
  minus_wide = subst (SFits w64) (sym minus_is) (fits_wide m h)

  minus_back : to_z w64 (of_z w64 (pos 0 -ℤ to_z w64 m)) ≡ neg_ℤ (pos m)
  minus_back = to_z-of_z {w = w64} {z = pos 0 -ℤ to_z w64 m} minus_wide ∙ minus_is

  pub minus_narrow : SFits w32 (to_z w64 (of_z w64 (pos 0 -ℤ to_z w64 m)))
  minus_narrow = subst (SFits w32) (sym minus_back) (fits_narrow m h)

  pub minus_whole : to_z w32 (of_z w32 (to_z w64 (of_z w64 (pos 0 -ℤ to_z w64 m)))) ≡ signed_of true m
  unfolding signed_of
  minus_whole = to_z-of_z {w = w32} {z = to_z w64 (of_z w64 (pos 0 -ℤ to_z w64 m))} minus_narrow ∙ minus_back

-- ---- the machine's numbers: apart

pub back : (z : ℤ) → SFits w32 z → to_z w32 (of_z w32 z) ≡ z
back z f = to_z-of_z {w = w32} {z = z} f

-- the sign of a number, as the code tests it
is_below : (z : ℤ) → lt_z z (pos 0) ≡ is_minus z
unfolding is_minus
is_below (pos n) = le-ltb n 0 (omega arith)
is_below (negsuc n) = refl

-- both parts of a number that the code has as y
pub taken_apart : (z y : ℤ) (size : ℕ) → y ≡ z → size ≡ nat_abs z → record { size = size; minus = lt_z y (pos 0) } ≡ sides_of z
unfolding sides_of
taken_apart z y size e f = rw (e, f, is_below z)
