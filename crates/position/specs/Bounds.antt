-- The bounds of a blanked angle in degrees (document 01, module 3): "`range` is kept: the lower and upper bound in degrees as
-- f64, bit for bit the source's formulas on `from_dmh` of the normalised degrees, minutes and hundredths." The arithmetic is
-- IEEE 754's binary64; a numeral of the source's that is whole is that whole number.
-- Assumes nothing.
use Rattle.std.specs.Prelude.{ℕ, ◌/◌, ◌%◌, cond, [], ◌∷◌, ℤ, pos, slice_index_or, unsigned_abs, Float}
use Rattle.std.specs.Float.{binary64}
use Rattle.std.specs.Float.Ieee.{add, sub, div, neg, of_int}
use Rattle.numbers.specs.Sign.{is_minus}
use Rattle.position.specs.declared.Bounds.{Bounds}
use Rattle.position.specs.declared.BoundsAnswer.{BoundsAnswer}
use Rattle.position.specs.Reach.{in_reach}

-- a whole number as a float
abbrev pub whole : ℕ → Float
whole n = of_int binary64 (pos n)

-- from_dmh: deg + min / 60. + hundredths / 6_000.
unfoldable pub from_dmh : ℕ → ℕ → ℕ → Float
from_dmh degrees minutes hundredths =
    add binary64 (add binary64 (whole degrees) (div binary64 (whole minutes) (whole 60))) (div binary64 (whole hundredths) (whole 6000))

-- of the normalised degrees, minutes and hundredths of a size
unfoldable pub degrees_of : ℕ → Float
degrees_of size = from_dmh (size / 6000) (size / 100 % 60) (size % 100)

-- from_dmh: south and west are negated
unfoldable pub center_of : ℤ → Float
center_of angle = cond (is_minus angle) (neg (degrees_of (unsigned_abs angle))) (degrees_of (unsigned_abs angle))

-- Precision::width, for 0 to 4 blanks; five blanks are ten degrees
unfoldable pub degree_width : ℕ → Float
degree_width blanks =
    slice_index_or
    (div binary64 (whole 1) (whole 6000) ∷ div binary64 (whole 1) (whole 600) ∷ div binary64 (whole 1) (whole 60) ∷ div binary64 (whole 1) (whole 6) ∷ whole 1 ∷ [])
    blanks
    (whole 10)

-- Precision::range: (center - (width / 2.0))..=(center + (width / 2.0))
unfoldable pub range_of : Float → ℕ → Bounds
range_of center blanks = record {
  lower = sub binary64 center (div binary64 (degree_width blanks) (whole 2));
  upper = add binary64 center (div binary64 (degree_width blanks) (whole 2));
}

-- "Out of range, both give 15 and bounds 0, 0."
abbrev pub no_bounds : BoundsAnswer
no_bounds = record { refusal = 15; bounds = record { lower = whole 0; upper = whole 0 } }

-- the range around an angle on its side
unfoldable pub bounds_of : ℕ → ℤ → ℕ → BoundsAnswer
bounds_of most angle blanks = cond (in_reach most (unsigned_abs angle) blanks) (record { refusal = 0; bounds = range_of (center_of angle) blanks }) no_bounds
