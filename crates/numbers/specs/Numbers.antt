-- Numbers as text: decimal digits without a zero in front, a dash before a negative number, and two hexadecimal digits
-- for a byte; and such text read.
-- Assumes nothing.
use Rattle.std.specs.Prelude.{ℕ, zero, suc, ◌+◌, ◌-◌, ◌*◌, ◌/◌, ◌%◌, Bool, true, false, cond, List, [], ◌∷◌, ◌++◌, length, drop, ℤ, pos, negsuc, ◌==◌, nat_le, nat_lt, slice_index, Option, Some, None, Result, Ok, Err}
use Rattle.laws.specs.Bytes.{dash, digit0, small_a, within, is_digit}
use Rattle.laws.specs.Lists.{every}
use Rattle.numbers.specs.Sign.{number_on}
use Rattle.numbers.specs.declared.CountError.{CountError}
use Rattle.numbers.specs.declared.CountError.TheVariants.{Over, Malformed}

-- ---- decimal

-- the character of the last decimal digit of v
unfoldable pub digit_of : ℕ → ℕ
digit_of v = digit0 + v % 10

-- the last k decimal digits of v
unfoldable pub digits_of : ℕ → ℕ → List ℕ
digits_of zero v = []
digits_of (suc k) v = digits_of k (v / 10) ++ digit_of v ∷ []

-- the decimal number that digits go on to write behind the number v
unfoldable pub number_after : ℕ → List ℕ → ℕ
number_after v [] = v
number_after v (b ∷ t) = number_after (10 * v + (b - digit0)) t

-- the decimal number that digits write
unfoldable pub number_of : List ℕ → ℕ
number_of t = number_after 0 t

-- below ten the one digit; else those of the tenth and the last one behind them. `left` bounds their number
unfoldable pub digits_by : ℕ → ℕ → List ℕ
digits_by zero n = []
digits_by (suc left) n = cond (nat_lt n 10) ((digit0 + n) ∷ []) (digits_by left (n / 10) ++ (digit0 + n % 10) ∷ [])

-- the digits of n, of which there are no more than n + 1
unfoldable pub digits : ℕ → List ℕ
digits n = digits_by (suc n) n

unfoldable pub decimal : ℤ → List ℕ
decimal (pos n) = digits n
decimal (negsuc n) = dash ∷ digits (suc n)

-- the number of digits, if it is at most `most`
unfoldable pub count_of : List ℕ → ℕ → Result ℕ CountError
count_of s most = cond (nat_le (number_of s) most) (Ok (number_of s)) (Err Over)

-- digits alone, at least one
unfoldable pub read_count : List ℕ → ℕ → Result ℕ CountError
read_count s most = cond (length s == 0) (Err Malformed) (cond (every is_digit s) (count_of s most) (Err Malformed))

-- a count on a side of 0
unfoldable pub on_side : Bool → Result ℕ CountError → Option ℤ
on_side minus (Ok size) = number_on minus size
on_side minus (Err e) = None

-- a dash and digits, or digits alone, of a number that an `i32` holds: none is of a size past 2147483648
unfoldable pub read_number : List ℕ → Option ℤ
read_number s =
    cond (slice_index s 0 == dash)
    (on_side true (read_count (drop 1 s) 2147483648))
    (on_side false (read_count s 2147483648))

-- ---- hexadecimal, in small letters

-- the last digit of n
unfoldable pub hex_digit : ℕ → ℕ
hex_digit n = cond (nat_lt (n % 16) 10) (digit0 + n % 16) (small_a + n % 16 - 10)

-- both digits of a byte
unfoldable pub hex_pair : ℕ → List ℕ
hex_pair b = hex_digit (b / 16) ∷ hex_digit b ∷ []

abbrev pub small_f : ℕ
small_f = 0x66

-- what a digit stands for; no other byte is one
unfoldable pub hex_value : ℕ → Option ℕ
hex_value d = cond (is_digit d) (Some (d - digit0)) (cond (within small_a small_f d) (Some (d - small_a + 10)) None)
