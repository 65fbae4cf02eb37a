-- Two digits and their number, there and back; three such numbers and a letter, and the seven bytes of them.
-- Assumes nothing.
use Rattle.std.proofs.Common.{◌≡◌, ℕ, ◌+◌, ◌-◌, ◌*◌, ◌/◌, ◌%◌, ◌<◌, true, [], ◌∷◌, length, take, refl, arith}
use Rattle.laws.specs.Bytes.{digit0, digit9, is_digit}
use Rattle.laws.specs.Lists.{every}
use Rattle.laws.proofs.Tests.{within_yes}
use Rattle.numbers.specs.Numbers.{digit_of, digits_of, number_after, number_of}
use Rattle.numbers.proofs.Counts.{a_digit}
use Rattle.time.specs.Time.{time_of, time_in, seven_bytes}

-- ---- two digits

-- a number of two digits read again
pub number_back : (v : ℕ) → v < 100 → number_of (digits_of 2 v) ≡ v
unfolding number_of number_after digits_of digit_of
number_back v h = omega arith

-- two digits written again
pub digits_back : (a b : ℕ) → is_digit a ≡ true → is_digit b ≡ true → digits_of 2 (number_of (a ∷ b ∷ [])) ≡ a ∷ b ∷ []
unfolding number_of number_after digits_of digit_of
digits_back a b p q =
    let da = a_digit a p in
    let db = a_digit b q in
    let e : digit0 + (10 * (10 * 0 + (a - digit0)) + (b - digit0)) / 10 % 10 ≡ a = omega arith in
    let f : digit0 + (10 * (10 * 0 + (a - digit0)) + (b - digit0)) % 10 ≡ b = omega arith in
    rw (e, f)

a_digit_is : (v : ℕ) → is_digit (digit_of v) ≡ true
unfolding digit_of
a_digit_is v = within_yes digit0 digit9 (digit0 + v % 10) (omega arith) (omega arith)

-- ---- seven bytes

pub seven_long : (first second third form : ℕ) → length (seven_bytes first second third form) ≡ 7
unfolding seven_bytes digits_of
seven_long first second third form = refl

pub seven_digits : (first second third form : ℕ) → every is_digit (take 6 (seven_bytes first second third form)) ≡ true
unfolding seven_bytes digits_of every
seven_digits first second third form =
    rw (a_digit_is (first / 10), a_digit_is first, a_digit_is (second / 10), a_digit_is second, a_digit_is (third / 10), a_digit_is third)

pub seven_say : (first second third form : ℕ) → first < 100 → second < 100 → third < 100 → time_in (seven_bytes first second third form) ≡ time_of first second third form
unfolding time_in seven_bytes digits_of
seven_say first second third form h k l =
    rw (number_back first h, number_back second k, number_back third l)
