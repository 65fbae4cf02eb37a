-- A time in seven bytes (document 02, R-3; APRS 1.0.1, chapter 6): "day, hour, minute with `z` (UTC) or `/` (local), or hour, minute,
-- second with `h` (UTC). Days 1 to 31, hours 0 to 23, minutes and seconds 0 to 59, two digits each, zeros kept."
-- Assumes nothing.
use Rattle.std.specs.Prelude.{ℕ, Bool, cond, not, ◌&&◌, ◌||◌, List, [], ◌∷◌, ◌++◌, length, take, drop, Some, None, Option, ◌==◌, nat_le, slice_index}
use Rattle.laws.specs.Bytes.{slash, small_h, small_z, within, is_digit}
use Rattle.laws.specs.Lists.{every}
use Rattle.numbers.specs.Numbers.{number_of, digits_of}
use Rattle.time.specs.declared.Time.{Time}

-- ---- the letter

-- "day, hour, minute with `z` (UTC) or `/` (local)"
unfoldable pub is_day : ℕ → Bool
is_day form = form == small_z || form == slash

-- "hour, minute, second with `h` (UTC)"
abbrev pub is_clock : ℕ → Bool
is_clock form = form == small_h

-- ---- no time

-- no letter, and no number
unfoldable pub no_time : Time
no_time = record { day = 0; hour = 0; minute = 0; second = 0; form = 0 }

-- whether there is none
unfoldable pub is_no_time : Time → Bool
is_no_time t = t.form == 0 && (t.day == 0 && (t.hour == 0 && (t.minute == 0 && t.second == 0)))

-- ---- a time

-- "hours 0 to 23, minutes .. 0 to 59"
unfoldable pub in_day : Time → Bool
in_day t = nat_le t.hour 23 && nat_le t.minute 59

-- "Days 1 to 31", and no second
unfoldable pub is_day_time : Time → Bool
is_day_time t = within 1 31 t.day && (in_day t && t.second == 0)

-- no day; ".. seconds 0 to 59"
unfoldable pub is_clock_time : Time → Bool
is_clock_time t = t.day == 0 && (in_day t && nat_le t.second 59)

-- by the letter
unfoldable pub is_time : Time → Bool
is_time t = cond (is_day t.form) (is_day_time t) (is_clock t.form && is_clock_time t)

-- ---- read

-- its seven bytes, six of them digits
abbrev pub time_bytes : ℕ
time_bytes = 7

-- three numbers in the places that the letter gives them; "Parts a kind lacks are 0" (document 01)
unfoldable pub time_of : ℕ → ℕ → ℕ → ℕ → Time
time_of first second third form =
    cond (is_clock form)
    (record { day = 0; hour = first; minute = second; second = third; form = form })
    (record { day = first; hour = second; minute = third; second = 0; form = form })

-- the numbers of "two digits each", and the letter behind them
unfoldable pub time_in : List ℕ → Time
time_in s = time_of (number_of (take 2 s)) (number_of (take 2 (drop 2 s))) (number_of (take 2 (drop 4 s))) (slice_index s 6)

-- seven bytes, six digits first, that say a time
unfoldable pub read_time : List ℕ → Option Time
read_time s = cond (length s == time_bytes && (every is_digit (take 6 s) && is_time (time_in s))) (Some (time_in s)) None

-- document 02's number: "17 for a bad time"
unfoldable pub time_number : Option Time → ℕ
time_number (Some t) = 0
time_number None = 17

-- ---- written

-- "two digits each, zeros kept", and the letter
unfoldable pub seven_bytes : ℕ → ℕ → ℕ → ℕ → List ℕ
seven_bytes first second third form = digits_of 2 first ++ (digits_of 2 second ++ (digits_of 2 third ++ form ∷ []))

-- the seven bytes of a time
unfoldable pub present_text : Time → List ℕ
present_text t =
    cond (is_clock t.form)
    (seven_bytes t.hour t.minute t.second t.form)
    (seven_bytes t.day t.hour t.minute t.form)

-- whether there is a time: it has a letter
unfoldable pub is_present : Time → Bool
is_present t = not (t.form == 0)

-- those bytes, or none where there is no time
unfoldable pub time_text : Time → List ℕ
time_text t = cond (is_present t) (present_text t) []

-- what a record may have: no time, or one
unfoldable pub time_in_range : Time → Bool
time_in_range t = is_no_time t || is_time t

-- "(15 in a record)"
unfoldable pub time_refusal : Time → ℕ
time_refusal t = cond (time_in_range t) 0 15
