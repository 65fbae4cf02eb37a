-- The digit places of an angle's text (APRS 1.0.1, chapter 6): degrees, two places of minutes, a point, two places of
-- hundredths, a letter. `dd` or `ddd` mm hh are its digit places, the point and the letter apart.
-- Assumes nothing.
use Rattle.std.specs.Prelude.{ℕ, ◌+◌, ◌-◌, ◌*◌, ◌/◌, ◌%◌, Bool, cond, ◌&&◌, ◌||◌, List, [], ◌∷◌, ◌++◌, length, take, drop, replicate, Some, None, Option, ◌==◌, nat_le}
use Rattle.laws.specs.Bytes.{point, is_digit}
use Rattle.laws.specs.Lists.{every}
use Rattle.numbers.specs.Sign.{signed_of}
use Rattle.numbers.specs.Numbers.{number_of, digits_of}
use Rattle.lonlat.specs.declared.AngleRead.{AngleRead}
use Rattle.lonlat.specs.declared.Size.{Size}

-- the last n of t as b, whichever bytes stand there
unfoldable pub last_as : ℕ → ℕ → List ℕ → List ℕ
last_as b n t = take (length t - n) t ++ replicate n b

-- ---- read

-- all but the last four places are degrees
unfoldable pub degrees_of : List ℕ → ℕ
degrees_of t = number_of (take (length t - 4) t)

-- the two places behind the degrees
unfoldable pub minutes_of : List ℕ → ℕ
minutes_of t = number_of (take 2 (drop (length t - 4) t))

-- the last two places
unfoldable pub hundredths_of : List ℕ → ℕ
hundredths_of t = number_of (drop 2 (drop (length t - 4) t))

-- "Value is 6000d + 100m + h"; "Minutes 60 to 99 are accepted."
unfoldable pub value_of : List ℕ → ℕ
value_of t = 6000 * degrees_of t + 100 * minutes_of t + hundredths_of t

-- whether they are such minutes; a reader tells of them
unfoldable pub is_sixty : List ℕ → Bool
is_sixty t = nat_le 60 (minutes_of t)

-- the value of digits, if digits they are, and whether their minutes are 60 or more
unfoldable pub size_of : List ℕ → Option Size
size_of t = cond (every is_digit t) (Some (record { hundredths = value_of t; sixty = is_sixty t })) None

-- digits, of a value at most `most`
unfoldable pub fits : ℕ → List ℕ → Bool
fits most t = every is_digit t && nat_le (value_of t) most

-- the angle on a side that digits say
unfoldable pub angle_in : ℕ → Bool → List ℕ → Option AngleRead
angle_in most minus t = cond (fits most t) (Some (record { angle = signed_of minus (value_of t); sixty = is_sixty t })) None

-- whether a letter says the side minus, if it is the letter of either side
unfoldable pub side_of : ℕ → ℕ → ℕ → Option Bool
side_of plus minus letter = cond (letter == plus || letter == minus) (Some (letter == minus)) None

-- ---- written

-- the digit places of a size, k of them for the degrees
unfoldable pub places_of : ℕ → ℕ → List ℕ
places_of k size = digits_of k (size / 6000) ++ digits_of 2 (size / 100 % 60) ++ digits_of 2 (size % 100)

-- the point before the hundredths, and the letter last
unfoldable pub text_of : List ℕ → ℕ → List ℕ
text_of t letter = take (length t - 2) t ++ point ∷ drop (length t - 2) t ++ letter ∷ []
