-- The cases of the box, and the machine's signed numbers in it.
-- Assumes nothing.
use Rattle.std.proofs.Common.{◌≡◌, ℕ, zero, suc, ◌+◌, ◌-◌, ◌*◌, ◌≤◌, Bool, true, false, cond, ltb, [], ◌∷◌, ℤ, pos, negsuc, ◌+ℤ◌, ◌-ℤ◌, ◌*ℤ◌, neg_ℤ, nat_abs, sym, refl, ap, ◌∙◌, arith, w32, SFits, to_z, of_z, ltb-true}
use lib.ListN.{get_or-eq_default}
use lib.IntN.{sub_ℕ, +ℤ_idl, +ℤ_idr, +ℤ_assoc, +ℤ_comm, neg_ℤ-+ℤ, zero-*ℤ, suc_ℤ-*ℤ}
use lib.Signed.{mag}
use Rattle.lonlat.specs.Angle.{most_longitude, width_of}
use Rattle.numbers.specs.Sign.{is_on}
use Rattle.numbers.proofs.Sign.{back}
use Rattle.position.specs.declared.PageBox.{PageBox}
use Rattle.position.specs.Reach.{in_reach}
use Rattle.position.specs.Page.{no_box, outward, box_of}
use Rattle.position.specs.Private.{widest, box_around}
use Rattle.position.proofs.Reach.{reached, reach_near}

-- twice a sum
twice_is_sum : (x : ℤ) → pos 2 *ℤ x ≡ x +ℤ x
twice_is_sum x = suc_ℤ-*ℤ (pos 1) x ∙ ap (λ (y : ℤ). y +ℤ x) (suc_ℤ-*ℤ (pos 0) x ∙ ap (λ (y : ℤ). y +ℤ x) (zero-*ℤ x) ∙ +ℤ_idl x)

swapped : (x y z : ℤ) → x +ℤ (y +ℤ z) ≡ y +ℤ (x +ℤ z)
swapped x y z = sym (+ℤ_assoc x y z) ∙ ap (λ (a : ℤ). a +ℤ z) (+ℤ_comm x y) ∙ +ℤ_assoc y x z

twice_sum : (x y : ℤ) → pos 2 *ℤ (x +ℤ y) ≡ pos 2 *ℤ x +ℤ pos 2 *ℤ y
twice_sum x y =
    twice_is_sum (x +ℤ y)
    ∙ +ℤ_assoc x y (x +ℤ y)
    ∙ ap (λ (a : ℤ). x +ℤ a) (swapped y x y)
    ∙ sym (+ℤ_assoc x x (y +ℤ y))
    ∙ rw (twice_is_sum x, twice_is_sum y)

pub twice_turned : (x : ℤ) → pos 2 *ℤ neg_ℤ x ≡ neg_ℤ (pos 2 *ℤ x)
twice_turned x = twice_is_sum (neg_ℤ x) ∙ sym (neg_ℤ-+ℤ x x) ∙ ap neg_ℤ (sym (twice_is_sum x))

-- u is the test of the angle, v that of its side, z the angle as the code has it
module _ (most : ℕ) (angle : ℤ) (blanks : ℕ) (minus : Bool) (z : ℤ) (back : z ≡ angle) (u : Bool) (e : u ≡ in_reach most (nat_abs z) blanks) where
  pub box_out : (r : PageBox) → u ≡ false → r ≡ no_box → r ≡ box_of most angle blanks minus
  unfolding box_of
  box_out r h f = rw (← back, ← e, h) f

  module _ (h : u ≡ true) where
    reach : in_reach most (nat_abs angle) blanks ≡ true
    reach = reached most blanks angle z back u e h

    pub reach_most : nat_abs angle ≤ most
    reach_most = reach_near most (nat_abs angle) blanks reach

    module _ (v : Bool) (f : v ≡ is_on minus z) where
      pub box_contradicted : (r : PageBox) → v ≡ false → r ≡ no_box → r ≡ box_of most angle blanks minus
      unfolding box_of
      box_contradicted r k g = rw (reach, ← back, ← f, k) g

      -- wide is twice the width, as the code has it
      module _ (k : v ≡ true) (wide : ℤ) (w : wide ≡ pos 2 *ℤ pos (width_of blanks)) (r : PageBox) where
        pub box_below : minus ≡ true → r ≡ box_around z wide (pos 0) → r ≡ box_of most angle blanks minus
        unfolding box_of outward box_around
        box_below m g =
            rw (reach, ← ap (is_on minus) back, ← f, k, m)
            (g ∙ rw (back, w, twice_sum angle (neg_ℤ (pos (width_of blanks))), twice_turned (pos (width_of blanks)), +ℤ_idr (pos 2 *ℤ angle)))

        pub box_above : minus ≡ false → r ≡ box_around z (pos 0) wide → r ≡ box_of most angle blanks minus
        unfolding box_of outward box_around
        box_above m g =
            rw (reach, ← ap (is_on minus) back, ← f, k, m)
            (g ∙ rw (back, w, twice_sum angle (pos (width_of blanks)), +ℤ_idr (pos 2 *ℤ angle)))

-- ---- the width

-- the last of the table
pub width_most : (blanks : ℕ) → 5 ≤ blanks → pos 60000 ≡ pos (width_of blanks)
unfolding width_of
width_most blanks h = ap pos (sym (get_or-eq_default (1 ∷ 10 ∷ 100 ∷ 1000 ∷ 6000 ∷ []) 60000 h))

width_small : (blanks : ℕ) → width_of blanks ≤ 60000
unfolding width_of
width_small zero = omega arith
width_small (suc zero) = omega arith
width_small (suc (suc zero)) = omega arith
width_small (suc (suc (suc zero))) = omega arith
width_small (suc (suc (suc (suc zero)))) = omega arith
width_small (suc (suc (suc (suc (suc n))))) = omega arith

-- ---- small numbers fit

size_turned : (z : ℤ) → nat_abs (neg_ℤ z) ≡ nat_abs z
size_turned (pos zero) = refl
size_turned (pos (suc n)) = refl
size_turned (negsuc n) = refl

sub_small : (a b : ℕ) → nat_abs (sub_ℕ a b) ≤ a + b
sub_small a b = go (ltb a b) refl
  where
    go : (t : Bool) → ltb a b ≡ t → nat_abs (cond t (negsuc (b - suc a)) (pos (a - b))) ≤ a + b
    go true e = omega (arith, ltb-true a b e)
    go false e = omega arith

sum_small : (x y : ℤ) → nat_abs (x +ℤ y) ≤ nat_abs x + nat_abs y
sum_small (pos a) (pos b) = omega arith
sum_small (pos a) (negsuc b) = sub_small a (suc b)
sum_small (negsuc a) (pos b) = let h = sub_small b (suc a) in omega arith
sum_small (negsuc a) (negsuc b) = omega arith

twice_small : (x : ℤ) → nat_abs (pos 2 *ℤ x) ≤ 2 * nat_abs x
twice_small (pos a) = omega arith
twice_small (negsuc a) = let h = size_turned (pos (2 * suc a)) in omega arith

mag_small : (x : ℤ) → mag x ≤ nat_abs x
mag_small (pos a) = omega arith
mag_small (negsuc a) = omega arith

abbrev held : ℤ → ℤ
held z = to_z w32 (of_z w32 z)

-- ---- the code's own numbers: w is the width

module _ (blanks : ℕ) (w : ℤ) (e : w ≡ pos (width_of blanks)) where
  pub width_held : held w ≡ pos (width_of blanks)
  width_held = back w (rw e (record { sfits = omega (arith, width_small blanks) })) ∙ e

  pub width_near : nat_abs (held w) ≤ widest
  width_near = rw width_held (omega (arith, width_small blanks))

  pub wide_fits : SFits w32 (pos 2 *ℤ held w)
  wide_fits = record { sfits = omega (arith, mag_small (pos 2 *ℤ held w), twice_small (held w), width_near) }

  pub wide_is : held (pos 2 *ℤ held w) ≡ pos 2 *ℤ pos (width_of blanks)
  wide_is = back (pos 2 *ℤ held w) wide_fits ∙ rw width_held

  pub wide_small : nat_abs (held (pos 2 *ℤ held w)) ≤ widest
  wide_small = rw wide_is (omega (arith, width_small blanks))

-- ---- twice an angle less or more than a number: z is the number, as it was given

module _ (angle : ℤ) (f : SFits w32 angle) (near : nat_abs angle ≤ most_longitude) where
  pub twice_fits : SFits w32 (pos 2 *ℤ held angle)
  twice_fits = rw (back angle f) (record { sfits = omega (arith, mag_small (pos 2 *ℤ angle), twice_small angle) })

  twice_is : held (pos 2 *ℤ held angle) ≡ pos 2 *ℤ angle
  twice_is = back (pos 2 *ℤ held angle) twice_fits ∙ rw (back angle f)

  module _ (z : ℤ) (g : SFits w32 z) (small : nat_abs z ≤ widest) where
    pub low_fits : SFits w32 (held (pos 2 *ℤ held angle) -ℤ held z)
    low_fits =
        let s = sum_small (pos 2 *ℤ angle) (neg_ℤ z) in
        let m = mag_small (pos 2 *ℤ angle -ℤ z) in
        rw (twice_is, back z g) (record { sfits = omega (arith, size_turned z, twice_small angle) })

    pub low_is : held (held (pos 2 *ℤ held angle) -ℤ held z) ≡ pos 2 *ℤ angle -ℤ z
    low_is = back (held (pos 2 *ℤ held angle) -ℤ held z) low_fits ∙ rw (twice_is, back z g)

    pub high_fits : SFits w32 (held (pos 2 *ℤ held angle) +ℤ held z)
    high_fits =
        let s = sum_small (pos 2 *ℤ angle) z in
        let m = mag_small (pos 2 *ℤ angle +ℤ z) in
        rw (twice_is, back z g) (record { sfits = omega (arith, twice_small angle) })

    pub high_is : held (held (pos 2 *ℤ held angle) +ℤ held z) ≡ pos 2 *ℤ angle +ℤ z
    high_is = back (held (pos 2 *ℤ held angle) +ℤ held z) high_fits ∙ rw (twice_is, back z g)
