-- Angles (document 01): "Angles are signed whole hundredths of a minute, north and east positive." "Zero south or west is
-- plain 0." An angle's size is its distance from 0, and its side minus is south or west.
-- Assumes nothing.
use Rattle.std.specs.Prelude.{ℕ, ◌-◌, ◌%◌, Bool, cond, [], ◌∷◌, Some, None, Option, ℤ, nat_lt, slice_index_or, unsigned_abs}
use Rattle.numbers.specs.Sign.{signed_of, is_minus}
use Rattle.lonlat.specs.declared.Longitude.{Longitude}

-- 90 degrees
abbrev pub most_latitude : ℕ
most_latitude = 540000

-- 180 degrees
abbrev pub most_longitude : ℕ
most_longitude = 1080000

-- the width in hundredths that 0 to 5 blanked digits leave open: a hundredth, a tenth and a whole of a minute, ten minutes, one
-- degree and ten
unfoldable pub width_of : ℕ → ℕ
width_of blanks = slice_index_or (1 ∷ 10 ∷ 100 ∷ 1000 ∷ 6000 ∷ []) blanks 60000

-- a size with its blanked digits taken as 0
unfoldable pub cut_to : ℕ → ℕ → ℕ
cut_to blanks size = size - size % width_of blanks

-- an angle on its own side, its blanked digits taken as 0
unfoldable pub cut_angle : ℕ → ℤ → ℤ
cut_angle blanks angle = signed_of (is_minus angle) (cut_to blanks (unsigned_abs angle))

-- a longitude of that size, at most 180 degrees, east or west
unfoldable pub longitude_of : ℕ → Bool → Option Longitude
longitude_of size west = cond (nat_lt most_longitude size) None (Some (record { 0 = signed_of west size }))

-- document 01's number: an angle out of range is 15
unfoldable pub made_number : Option Longitude → ℕ
made_number (Some longitude) = 0
made_number None = 15
