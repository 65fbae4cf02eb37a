-- The longitude of a Mic-E report (document 01, module 4): three bytes, the first of its information, under the offset
-- and the side that its destination gives.
-- Assumes nothing.
use Rattle.std.specs.Prelude.{ℕ, ◌+◌, ◌-◌, ◌*◌, ◌/◌, ◌%◌, Bool, true, false, cond, List, [], ◌∷◌, ℤ, Option, Some, None, nat_le, nat_lt, unsigned_abs}
use Rattle.lonlat.specs.Angle.{most_longitude}
use Rattle.lonlat.specs.declared.Longitude.{Longitude}
use Rattle.numbers.specs.Sign.{signed_of}
use Rattle.mic_e.specs.Turn.{less_if}

-- ---- read

-- the degrees that the destination's flag adds
unfoldable pub offset_of : Bool → ℕ
offset_of hundred = cond hundred 100 0

-- "180..189 less 80, 190..199 less 190"
unfoldable pub wrapped : ℕ → ℕ
wrapped v = cond (nat_lt v 180) v (cond (nat_lt v 190) (v - 80) (cond (nat_lt v 200) (v - 190) v))

-- "Minutes of 60 or more less 60. Hundredths as they are."
unfoldable pub size_of : ℕ → ℕ → ℕ → ℕ → ℕ
size_of offset a b c = 6000 * wrapped (a - 28 + offset) + 100 * less_if 60 (b - 28) + (c - 28)

-- "Subtract 28 from each ..; below 28 is 12. Degrees plus offset over 255 is 12 .. The sum may not pass 1080000."
unfoldable pub read_longitude : Bool → Bool → ℕ → ℕ → ℕ → Option Longitude
read_longitude hundred west a b c =
    cond (nat_lt a 28) None
    (cond (nat_lt b 28) None
    (cond (nat_lt c 28) None
    (cond (nat_lt 255 (a - 28 + offset_of hundred)) None
    (cond (nat_lt most_longitude (size_of (offset_of hundred) a b c)) None
    (Some (record { 0 = signed_of west (size_of (offset_of hundred) a b c) }))))))

-- document 01's number
unfoldable pub longitude_number : Option Longitude → ℕ
longitude_number (Some longitude) = 0
longitude_number None = 12

-- ---- written

-- "15 is given for: an angle .. out of range; .. a Mic-E angle of 180 degrees"
unfoldable pub longitude_out : ℤ → Bool
longitude_out longitude = nat_le most_longitude (unsigned_abs longitude)

-- "degrees 0..9 add 90, 100..109 less 20, 110 up less 100"
unfoldable pub degrees_byte : ℕ → ℕ
degrees_byte d = cond (nat_lt d 10) (d + 90) (cond (nat_lt d 100) d (cond (nat_lt d 110) (d - 20) (d - 100)))

-- "offset 100 for 0..9 and 100 up"
unfoldable pub hundred_for : ℕ → Bool
hundred_for d = cond (nat_lt d 10) true (cond (nat_lt d 100) false true)

-- the offset that goes with a longitude as written
unfoldable pub hundred_of : ℤ → Bool
hundred_of longitude = hundred_for (unsigned_abs longitude / 6000)

-- "minutes 0..9 add 60"
unfoldable pub minutes_byte : ℕ → ℕ
minutes_byte m = cond (nat_lt m 10) (m + 60) m

-- degrees, minutes and hundredths of a size, "add 28 to each"
unfoldable pub longitude_field : ℕ → List ℕ
longitude_field size =
    (degrees_byte (size / 6000) + 28) ∷ (minutes_byte (size / 100 % 60) + 28) ∷ (size % 100 + 28) ∷ []
