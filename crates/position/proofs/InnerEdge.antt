-- What layout staff asked for (document 02, R-1): "Blanked digits are cut off, not rounded, so the digits we print are the inner edge."
-- The box of an angle, its far edge apart, holds the angles of its side that are as far from 0 or farther, by less than the width;
-- of an angle that is a multiple of that width, exactly those that are cut to it.
-- Assumes nothing.
use Rattle.std.proofs.Common.{◌≡◌, ℕ, zero, suc, ◌+◌, ◌-◌, ◌*◌, ◌%◌, ◌<◌, ◌≤◌, Bool, true, false, not, ◌&&◌, ltb, leb, ℤ, pos, negsuc, ◌-ℤ◌, neg_ℤ, nat_abs, sym, refl, ap, ◌∙◌, arith, ltb-true, le-ltb, lt-ltb, le-leb, leb-false, leb-true}
use mathlib.Core.Bool.{false≢true}
use borrow.Author.Tests.{lt-leb}
use lib.Dec.{leb-suc-suc}
use lib.IntN.{neg_ℤ-+ℤ, pos-*ℤ-negsuc}
use lib.Signed.{le_z, lt_z}
use Rattle.laws.proofs.Tests.{and_first, and_second}
use Rattle.numbers.specs.Sign.{signed_of, is_minus, is_on}
use Rattle.numbers.proofs.Sign.{size_signed, on_rejoined}
use Rattle.lonlat.specs.Angle.{width_of, cut_to, cut_angle}
use Rattle.lonlat.proofs.Cut.{up_to_five}
use Rattle.lonlat.proofs.Theorems.{zero_plain}
use Rattle.position.specs.declared.PageBox.{PageBox}
use Rattle.position.specs.Reach.{in_reach}
use Rattle.position.specs.Page.{outward, box_of, holds}
use Rattle.position.proofs.Boxes.{twice_turned}
use Rattle.position.proofs.Reach.{over_under, reach_few}

-- ---- twice a number, and a number turned to the other side

double_le : (a b : ℕ) → leb (2 * a) (2 * b) ≡ leb a b
double_le a b = go (leb a b) refl
  where
    go : (t : Bool) → leb a b ≡ t → leb (2 * a) (2 * b) ≡ t
    go true e = le-leb (2 * a) (2 * b) (omega (arith, leb-true a b e))
    go false e = lt-leb (2 * a) (2 * b) (omega (arith, leb-false a b e))

double_lt : (a b : ℕ) → ltb (2 * a) (2 * b) ≡ ltb a b
double_lt a b = over_under (2 * a) (2 * b) ∙ ap not (double_le b a) ∙ sym (over_under a b)

turned_le : (p q : ℕ) → le_z (neg_ℤ (pos p)) (neg_ℤ (pos q)) ≡ leb q p
turned_le zero zero = refl
turned_le zero (suc q) = sym (lt-leb (suc q) 0 (omega arith))
turned_le (suc p) zero = sym (le-leb 0 (suc p) (omega arith))
turned_le (suc p) (suc q) = sym (leb-suc-suc q p)

turned_lt : (p q : ℕ) → lt_z (neg_ℤ (pos p)) (neg_ℤ (pos q)) ≡ ltb q p
turned_lt zero zero = refl
turned_lt zero (suc q) = sym (le-ltb (suc q) 0 (omega arith))
turned_lt (suc p) zero = sym (lt-ltb 0 (suc p) (omega arith))
turned_lt (suc p) (suc q) = sym (leb-suc-suc (suc q) p)

-- what is above 0 is not below what is not
apart : (p n : ℕ) → 0 < p + n → le_z (pos p) (neg_ℤ (pos n)) ≡ false
apart p zero h = lt-leb p 0 (omega arith)
apart p (suc n) h = refl

-- ---- by sizes: t is the angle's, a another's

-- as far from 0 or farther, by less than w
abbrev near : ℕ → ℕ → ℕ → Bool
near t w a = leb t a && ltb a (t + w)

on_its_side : (minus : Bool) (t w a : ℕ) → holds minus (outward (signed_of minus t) (pos w) minus) (signed_of minus a) ≡ near t w a
unfolding holds outward signed_of
on_its_side false t w a = rw (double_le t a, double_lt a (t + w))
on_its_side true t w a =
    let edge : neg_ℤ (pos t) -ℤ pos w ≡ neg_ℤ (pos (t + w)) = sym (neg_ℤ-+ℤ (pos t) (pos w)) in
    rw (edge, twice_turned (pos t), twice_turned (pos a), twice_turned (pos (t + w)), turned_le (2 * a) (2 * t), turned_lt (2 * (t + w)) (2 * a), double_le t a, double_lt a (t + w))

off_its_side : (minus : Bool) (t w : ℕ) (x : ℤ) → is_on minus x ≡ false → holds minus (outward (signed_of minus t) (pos w) minus) x ≡ false
unfolding holds outward signed_of is_on
off_its_side false t w (pos a) e = absurd (false≢true (sym e ∙ le-leb 0 a (omega arith)))
off_its_side false t w (negsuc a) e = rw (pos-*ℤ-negsuc 2 a, apart (2 * t) (2 * suc a) (omega arith))
off_its_side true t w (pos zero) e = absurd (false≢true (sym e))
off_its_side true t w (pos (suc a)) e = rw (twice_turned (pos t), apart (2 * suc a) (2 * t) (omega arith))
off_its_side true t w (negsuc a) e = absurd (false≢true (sym e))

-- ---- of any angle in range and on its side

module _ (most : ℕ) (angle : ℤ) (blanks : ℕ) (minus : Bool) (reach : in_reach most (nat_abs angle) blanks ≡ true) (on : is_on minus angle ≡ true) where
  abbrev page : PageBox
  page = box_of most angle blanks minus

  is_outward : page ≡ outward (signed_of minus (nat_abs angle)) (pos (width_of blanks)) minus
  unfolding box_of
  is_outward = rw (reach, on) (ap (λ (z : ℤ). outward z (pos (width_of blanks)) minus) (sym (on_rejoined minus angle on)))

  pub box_holds : (x : ℤ) → holds minus page x ≡ (is_on minus x && (leb (nat_abs angle) (nat_abs x) && ltb (nat_abs x) (nat_abs angle + width_of blanks)))
  box_holds x = ap (λ (b : PageBox). holds minus b x) is_outward ∙ go (is_on minus x) refl
    where
      go : (t : Bool) → is_on minus x ≡ t
          → holds minus (outward (signed_of minus (nat_abs angle)) (pos (width_of blanks)) minus) x
          ≡ (t && (leb (nat_abs angle) (nat_abs x) && ltb (nat_abs x) (nat_abs angle + width_of blanks)))
      go true e =
          ap (holds minus (outward (signed_of minus (nat_abs angle)) (pos (width_of blanks)) minus)) (sym (on_rejoined minus x e))
          ∙ on_its_side minus (nat_abs angle) (width_of blanks) (nat_abs x)
      go false e = off_its_side minus (nat_abs angle) (width_of blanks) x e

-- ---- of a multiple of the width

cut_zero : (blanks : ℕ) → cut_to blanks 0 ≡ 0
unfolding cut_to
cut_zero blanks = omega arith

-- an angle on a side, cut on that side
cut_on : (minus : Bool) (blanks : ℕ) (x : ℤ) → is_on minus x ≡ true → cut_angle blanks x ≡ signed_of minus (cut_to blanks (nat_abs x))
unfolding cut_angle is_on is_minus
cut_on false blanks (pos a) e = refl
cut_on true blanks (pos zero) e = rw (cut_zero blanks, zero_plain false, zero_plain true)
cut_on true blanks (pos (suc a)) e = absurd (false≢true (sym (lt-leb (suc a) 0 (omega arith)) ∙ e))
cut_on false blanks (negsuc a) e = absurd (false≢true e)
cut_on true blanks (negsuc a) e = refl

near_cut : (t a blanks : ℕ) → blanks ≤ 5 → t % width_of blanks ≡ 0 → t ≤ a → a < t + width_of blanks → cut_to blanks a ≡ t
unfolding width_of cut_to
near_cut t a =
    up_to_five (λ n. t % width_of n ≡ 0 → t ≤ a → a < t + width_of n → a - a % width_of n ≡ t)
    (λ m l h. omega arith)
    (λ m l h. omega arith)
    (λ m l h. omega arith)
    (λ m l h. omega arith)
    (λ m l h. omega arith)
    (λ m l h. omega arith)

cut_near : (t a blanks : ℕ) → blanks ≤ 5 → cut_to blanks a ≡ t → (t ≤ a) × (a < t + width_of blanks)
unfolding width_of cut_to
cut_near t a =
    up_to_five (λ n. a - a % width_of n ≡ t → (t ≤ a) × (a < t + width_of n))
    (λ e. (omega arith, omega arith))
    (λ e. (omega arith, omega arith))
    (λ e. (omega arith, omega arith))
    (λ e. (omega arith, omega arith))
    (λ e. (omega arith, omega arith))
    (λ e. (omega arith, omega arith))

-- the angles on a side that are cut to an angle by its blanks are those in a box, its far edge apart
pub record InnerEdge (minus : Bool) (blanks : ℕ) (angle : ℤ) (page : PageBox) : Type 0 where
  pub only : (x : ℤ) → holds minus page x ≡ true → (is_on minus x ≡ true) × (cut_angle blanks x ≡ angle)
  pub all : (x : ℤ) → is_on minus x ≡ true → cut_angle blanks x ≡ angle → holds minus page x ≡ true

pub inner_edge : (most : ℕ) (angle : ℤ) (blanks : ℕ) (minus : Bool) → in_reach most (nat_abs angle) blanks ≡ true → is_on minus angle ≡ true
    → nat_abs angle % width_of blanks ≡ 0 → InnerEdge minus blanks angle (box_of most angle blanks minus)
inner_edge most angle blanks minus reach on whole =
    record {
      only = λ x h.
          let i = is_on minus x in
          let l = leb (nat_abs angle) (nat_abs x) in
          let r = ltb (nat_abs x) (nat_abs angle + width_of blanks) in
          let e = sym (box_holds most angle blanks minus reach on x) ∙ h in
          let side = and_first i (l && r) e in
          let from = leb-true (nat_abs angle) (nat_abs x) (and_first l r (and_second i (l && r) e)) in
          let to = ltb-true (nat_abs x) (nat_abs angle + width_of blanks) (and_second l r (and_second i (l && r) e)) in
          (side, cut_on minus blanks x side ∙ ap (signed_of minus) (near_cut (nat_abs angle) (nat_abs x) blanks few whole from to) ∙ on_rejoined minus angle on);
      all = λ x side c.
          let size = sym (size_signed minus (cut_to blanks (nat_abs x))) ∙ ap nat_abs (sym (cut_on minus blanks x side) ∙ c) in
          let n = cut_near (nat_abs angle) (nat_abs x) blanks few size in
          box_holds most angle blanks minus reach on x ∙ rw (side, le-leb (nat_abs angle) (nat_abs x) n.0, lt-ltb (nat_abs x) (nat_abs angle + width_of blanks) n.1);
    }
  where
    few : blanks ≤ 5
    few = reach_few most (nat_abs angle) blanks reach
