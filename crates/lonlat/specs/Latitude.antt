-- A latitude's text (document 01, module 2; APRS 1.0.1, chapter 6): "Latitude is `ddmm.hh` and N or S" .. "Trailing blanks in
-- latitude number 0 to 5; once one is met, the rest are blank; blanks count as 0."
-- Assumes nothing.
use Rattle.std.specs.Prelude.{ℕ, ◌-◌, Bool, cond, ◌&&◌, ◌||◌, List, [], ◌∷◌, length, drop, Some, None, Option, ℤ, ◌==◌, nat_le, nat_lt, slice_index, unsigned_abs}
use Rattle.laws.specs.Bytes.{space, digit0, point, is_digit, capital_n, capital_s}
use Rattle.laws.specs.Lists.{index_of, every}
use Rattle.lonlat.specs.Angle.{most_latitude}
use Rattle.numbers.specs.Sign.{is_minus}
use Rattle.lonlat.specs.Digits.{last_as, angle_in, places_of, text_of}
use Rattle.lonlat.specs.declared.AngleRead.{AngleRead}
use Rattle.lonlat.specs.declared.LatitudeRead.{LatitudeRead}

-- a digit left blank is a space
abbrev pub is_blank : ℕ → Bool
is_blank b = b == space

-- what may stand at a latitude's digit place
abbrev pub is_digit_or_blank : ℕ → Bool
is_digit_or_blank b = is_digit b || is_blank b

-- ---- read

-- from the first blank on
unfoldable pub blanks_in : List ℕ → ℕ
blanks_in t = length t - index_of space t

-- "once one is met, the rest are blank"
unfoldable pub rest_blank : List ℕ → Bool
rest_blank t = every is_blank (drop (index_of space t) t)

-- "blanks count as 0"
unfoldable pub counted_digits : List ℕ → List ℕ
counted_digits t = last_as digit0 (blanks_in t) t

-- how many places stand before the blanks; none where the rest is not blank
unfoldable pub kept_of : List ℕ → Option ℕ
kept_of t = cond (rest_blank t) (Some (index_of space t)) None

-- the letters that end a latitude
abbrev pub is_north_or_south : ℕ → Bool
is_north_or_south letter = letter == capital_n || letter == capital_s

-- an angle with its blanks, its side as the letter says it, and whether its minutes are 60 or more
abbrev pub latitude_read : ℤ → ℕ → Bool → Bool → LatitudeRead
latitude_read angle blanks south sixty = record { latitude = record { 0 = angle }; blanks = blanks; south = south; sixty = sixty }

-- the same of the angle that digits say, if they say one
unfoldable pub latitude_with : ℕ → Bool → Option AngleRead → Option LatitudeRead
latitude_with blanks south (Some a) = Some (latitude_read a.angle blanks south a.sixty)
latitude_with blanks south None = None

-- what six places and a letter say, which Mic-E asks too: digits, then 0 to 5 blanks, and at most 90 degrees
unfoldable pub latitude_in : List ℕ → ℕ → Option LatitudeRead
latitude_in t letter =
    cond (is_north_or_south letter && rest_blank t && nat_le (blanks_in t) 5)
    (latitude_with (blanks_in t) (letter == capital_s) (angle_in most_latitude (letter == capital_s) (counted_digits t)))
    None

-- the digit places of `ddmm.hhN`
abbrev pub latitude_places : List ℕ → List ℕ
latitude_places s = slice_index s 0 ∷ slice_index s 1 ∷ slice_index s 2 ∷ slice_index s 3 ∷ slice_index s 5 ∷ slice_index s 6 ∷ []

-- eight bytes with the point at its place
unfoldable pub read_latitude : List ℕ → Option LatitudeRead
read_latitude s = cond (length s == 8 && slice_index s 4 == point) (latitude_in (latitude_places s) (slice_index s 7)) None

-- document 01's number
unfoldable pub latitude_number : Option LatitudeRead → ℕ
latitude_number (Some read) = 0
latitude_number None = 8

-- ---- written

-- "Zero south or west is plain 0 and is written N or E": the side is the angle's own
unfoldable pub north_or_south : ℤ → ℕ
north_or_south angle = cond (is_minus angle) capital_s capital_n

-- "Writing blanks latitude digits by truncation"
unfoldable pub blanked_places : ℕ → ℕ → List ℕ
blanked_places blanks size = last_as space blanks (places_of 2 size)

-- the eight bytes, with the angle's last digits blank
unfoldable pub latitude_text : ℤ → ℕ → List ℕ
latitude_text angle blanks = text_of (blanked_places blanks (unsigned_abs angle)) (north_or_south angle)

-- 15 for "an angle .. out of range; precision outside 0 to 5"
unfoldable pub latitude_refusal : ℤ → ℕ → ℕ
latitude_refusal angle blanks = cond (nat_lt most_latitude (unsigned_abs angle) || nat_lt 5 blanks) 15 0
