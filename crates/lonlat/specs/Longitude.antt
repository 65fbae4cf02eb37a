-- A longitude's text (document 01, module 2; APRS 1.0.1, chapter 6): "longitude `dddmm.hh` and E or W" .. "The same number of
-- last longitude digits is taken as 0, whichever bytes stand there." "Writing .. writes longitude in full."
-- Assumes nothing.
use Rattle.std.specs.Prelude.{ℕ, Bool, cond, ◌&&◌, ◌||◌, List, [], ◌∷◌, length, Some, None, Option, Ok, Err, Result, ok_or, ℤ, ◌==◌, nat_lt, slice_index, unsigned_abs}
use Rattle.laws.specs.Bytes.{digit0, point, capital_e, capital_w}
use Rattle.lonlat.specs.Angle.{most_longitude}
use Rattle.numbers.specs.Sign.{is_minus}
use Rattle.lonlat.specs.Digits.{last_as, angle_in, places_of, text_of}
use Rattle.lonlat.specs.declared.AngleRead.{AngleRead}
use Rattle.lonlat.specs.declared.LongitudeRead.{LongitudeRead}
use Rattle.lonlat.specs.declared.LongitudeError.{LongitudeError}
use Rattle.lonlat.specs.declared.LongitudeError.TheVariants.{Malformed, OutOfRange}

-- ---- read

-- the letters that end a longitude
abbrev pub is_east_or_west : ℕ → Bool
is_east_or_west letter = letter == capital_e || letter == capital_w

-- an angle, its side as the letter says it, and whether its minutes are 60 or more
abbrev pub longitude_read : ℤ → Bool → Bool → LongitudeRead
longitude_read angle west sixty = record { longitude = record { 0 = angle }; west = west; sixty = sixty }

-- the same of the angle that digits say, if they say one
unfoldable pub longitude_with : Bool → Option AngleRead → Option LongitudeRead
longitude_with west (Some a) = Some (longitude_read a.angle west a.sixty)
longitude_with west None = None

-- what seven digits and a letter say: at most 180 degrees
unfoldable pub longitude_in : List ℕ → ℕ → Option LongitudeRead
longitude_in t letter =
    cond (is_east_or_west letter)
    (longitude_with (letter == capital_w) (angle_in most_longitude (letter == capital_w) t))
    None

-- the digit places of `dddmm.hhE`
abbrev pub longitude_places : List ℕ → List ℕ
longitude_places s = slice_index s 0 ∷ slice_index s 1 ∷ slice_index s 2 ∷ slice_index s 3 ∷ slice_index s 4 ∷ slice_index s 6 ∷ slice_index s 7 ∷ []

-- nine bytes with the point at its place, the last places taken as 0; more than five of them are out of range
unfoldable pub read_longitude : List ℕ → ℕ → Result LongitudeRead LongitudeError
read_longitude s blanks =
    cond (nat_lt 5 blanks) (Err OutOfRange)
    (cond (length s == 9 && slice_index s 5 == point)
    (ok_or (longitude_in (last_as digit0 blanks (longitude_places s)) (slice_index s 8)) Malformed)
    (Err Malformed))

-- document 01's number
unfoldable pub longitude_number : Result LongitudeRead LongitudeError → ℕ
longitude_number (Ok read) = 0
longitude_number (Err Malformed) = 9
longitude_number (Err OutOfRange) = 15

-- ---- written

-- the angle's own side; 0 is E
unfoldable pub east_or_west : ℤ → ℕ
east_or_west angle = cond (is_minus angle) capital_w capital_e

-- the nine bytes: "Writing .. writes longitude in full."
unfoldable pub longitude_text : ℤ → List ℕ
longitude_text angle = text_of (places_of 3 (unsigned_abs angle)) (east_or_west angle)

-- 15 for an angle out of range
unfoldable pub longitude_refusal : ℤ → ℕ
longitude_refusal angle = cond (nat_lt most_longitude (unsigned_abs angle)) 15 0
