-- The cases of the bounds.
-- Assumes nothing.
use Rattle.std.proofs.Common.{◌≡◌, ℕ, zero, suc, refl, Bool, true, false, ℤ, nat_abs, sym, ◌∙◌}
use lib.Ieee.{Float, binary64, of_bits, of_int, div}
use Rattle.lonlat.specs.Angle.{width_of}
use Rattle.position.specs.declared.Bounds.{Bounds}
use Rattle.position.specs.Reach.{in_reach}
use Rattle.position.specs.Bounds.{whole, degree_width, center_of, range_of, no_bounds, bounds_of}
use Rattle.position.proofs.Numerals.{one, ten}
use Rattle.position.proofs.Reach.{reached}

-- u is the test of the angle, z the angle as the code has it
module _ (most : ℕ) (angle : ℤ) (blanks : ℕ) (z : ℤ) (back : z ≡ angle) (u : Bool) (e : u ≡ in_reach most (nat_abs z) blanks) where
  pub no_bounds_lem : u ≡ false → no_bounds ≡ bounds_of most angle blanks
  unfolding bounds_of
  no_bounds_lem h = rw (← back, ← e, h)

  -- k is the angle in degrees, b the range
  pub bounds_lem : u ≡ true → (k : Float) → k ≡ center_of z → (b : Bounds) → b ≡ range_of k blanks → record { refusal = 0; bounds = b } ≡ bounds_of most angle blanks
  unfolding bounds_of
  bounds_lem h k f b g = rw (reached most blanks angle z back u e h, g, f, back)

-- ---- the width in hundredths of a minute over those of a degree: each quotient of the source's table is the same number, which
-- antt computes

ten_wide : div binary64 (whole 10) (whole 6000) ≡ of_bits binary64 0x3f5b4e81b4e81b4f
unfolding div of_int of_bits
ten_wide = refl

ten_told : div binary64 (whole 1) (whole 600) ≡ of_bits binary64 0x3f5b4e81b4e81b4f
unfolding div of_int of_bits
ten_told = refl

hundred_wide : div binary64 (whole 100) (whole 6000) ≡ of_bits binary64 0x3f91111111111111
unfolding div of_int of_bits
hundred_wide = refl

hundred_told : div binary64 (whole 1) (whole 60) ≡ of_bits binary64 0x3f91111111111111
unfolding div of_int of_bits
hundred_told = refl

thousand_wide : div binary64 (whole 1000) (whole 6000) ≡ of_bits binary64 0x3fc5555555555555
unfolding div of_int of_bits
thousand_wide = refl

thousand_told : div binary64 (whole 1) (whole 6) ≡ of_bits binary64 0x3fc5555555555555
unfolding div of_int of_bits
thousand_told = refl

degree_wide : div binary64 (whole 6000) (whole 6000) ≡ of_bits binary64 4607182418800017408
unfolding div of_int of_bits
degree_wide = refl

ten_degrees_wide : div binary64 (whole 60000) (whole 6000) ≡ of_bits binary64 4621819117588971520
unfolding div of_int of_bits
ten_degrees_wide = refl

pub degrees_wide : (blanks : ℕ) → div binary64 (whole (width_of blanks)) (whole 6000) ≡ degree_width blanks
unfolding width_of degree_width
degrees_wide zero = refl
degrees_wide (suc zero) = ten_wide ∙ sym ten_told
degrees_wide (suc (suc zero)) = hundred_wide ∙ sym hundred_told
degrees_wide (suc (suc (suc zero))) = thousand_wide ∙ sym thousand_told
degrees_wide (suc (suc (suc (suc zero)))) = degree_wide ∙ one
degrees_wide (suc (suc (suc (suc (suc n))))) = ten_degrees_wide ∙ ten
