-- What the definitions amount to: numbers written read back, and two numbers have two texts.
-- Assumes nothing.
use Rattle.std.specs.Prelude.{Some, Ok}
use Rattle.std.proofs.Common.{◌≡◌, ℕ, ◌<◌, ◌≤◌, get_or, ℤ, w32, SFits}
use Rattle.laws.specs.Bytes.{digit0}
use Rattle.numbers.specs.Numbers.{digits, decimal, read_count, read_number, hex_digit, hex_value}
use Rattle.numbers.proofs.Numbers as numbers
use Rattle.numbers.proofs.Hex as hex

pub count_reads_back : (n most : ℕ) → n ≤ most → read_count (digits n) most ≡ Ok n
count_reads_back = numbers.count_back

-- of every number that an `i32` holds
pub number_reads_back : (z : ℤ) → SFits w32 z → read_number (decimal z) ≡ Some z
number_reads_back = numbers.number_back

pub count_has_no_zero_in_front : (n : ℕ) → 0 < n → digit0 < get_or (digits n) 0 0
count_has_no_zero_in_front = numbers.no_zero_in_front

pub one_text_one_number : (y z : ℤ) → decimal y ≡ decimal z → y ≡ z
one_text_one_number = numbers.decimal_one

pub hex_digit_reads_back : (n : ℕ) → n < 16 → hex_value (hex_digit n) ≡ Some n
hex_digit_reads_back = hex.hex_reads_back
