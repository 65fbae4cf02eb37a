-- `value`: so far every byte was a digit, v is the number they write, and v has no more digits than that. Assumes nothing.
use Rattle.std.proofs.Common.{◌≡◌, ℕ, ◌+◌, ◌*◌, ◌-◌, ◌/◌, ◌%◌, ◌^◌, ◌<◌, ◌≤◌, true, false, leb, Some, None, List, length, get_or, drop, sym, refl, ◌∙◌, arith, rules}
use Rattle.laws.specs.Bytes.{digit0, is_digit, within}
use Rattle.laws.specs.Lists.{every}
use Rattle.laws.proofs.Each.{every_more, every_not}
use Rattle.numbers.specs.Numbers.{number_after, number_of}
use Rattle.numbers.proofs.Counts.{a_digit, digits_all, grown_more, grown_whole}
use Rattle.lonlat.specs.Digits.{size_of}
use Rattle.lonlat.proofs.Digits.{grows, seven, value_number, sixty_number}
use Rattle.lonlat.proofs.value.Goals as goal

module _ (t : List ℕ) (i : ℕ) (e : every is_digit t ≡ every is_digit (drop i t)) where
  none : i < length t → is_digit (get_or t i 0) ≡ false → None ≡ size_of t
  unfolding size_of
  none h k = rw (every_not is_digit 0 t i h k e)

  ended : (v : ℕ) → 4 ≤ length t → length t ≤ i → number_of t ≡ number_after v (drop i t) → Some (record { hundredths = 6000 * (v / 10000) + v % 10000; sixty = leb 6000 (v % 10000) }) ≡ size_of t
  unfolding size_of
  ended v l h n =
      let d : every is_digit t ≡ true = sym (digits_all t i e h) in
      rw (d, value_number t l d, sixty_number t l d, grown_whole t i v n h)

  module _ (v : ℕ) (h : i < length t) (k : is_digit (get_or t i 0) ≡ true) where
    low : v < 10 ^ i → 10 * v + (get_or t i 0 - digit0) < 10 ^ (i + 1)
    low l = grows v i (get_or t i 0 - digit0) l (omega (arith, a_digit (get_or t i 0) k))

    goes_on : v < 10 ^ i → number_of t ≡ number_after v (drop i t)
        → (10 * v + (get_or t i 0 - digit0) < 10 ^ (i + 1)) × (every is_digit t ≡ every is_digit (drop (i + 1) t)) × (number_of t ≡ number_after (10 * v + (get_or t i 0 - digit0)) (drop (i + 1) t))
    goes_on l n = (low l, every_more is_digit 0 t i h k e, grown_more t i v n h)

pub loop-b-init : goal.loop-b-init
unfolding number_of
loop-b-init c = (omega arith, refl, refl)

pub returns-then-not-is_ascii_digit : goal.returns-then-not-is_ascii_digit
unfolding within
returns-then-not-is_ascii_digit c = none c.args.t.now c.loop-b.b-index c.loop-b.invariant.1 c.loop-b-test.true (sym c.is_ascii_digit.ensures.value ∙ c.if-not-is_ascii_digit.true)

pub overflow_mul-v : goal.overflow_mul-v
overflow_mul-v c = let small : c.loop-b.v < 10000000 = seven c.loop-b.v c.loop-b.b-index c.loop-b.invariant.0 (omega arith) in omega arith

pub overflow_add-v : goal.overflow_add-v
unfolding within
overflow_add-v c = let small : c.loop-b.v < 10000000 = seven c.loop-b.v c.loop-b.b-index c.loop-b.invariant.0 (omega arith) in omega arith

pub loop-b-preserved : goal.loop-b-preserved
unfolding within
loop-b-preserved c = let l = c.loop-b in
    rw c.from.ensures (goes_on c.args.t.now l.b-index l.invariant.1 l.v c.loop-b-test.true (sym c.is_ascii_digit.ensures.value ∙ c.if-not-is_ascii_digit.false) l.invariant.0 l.invariant.2)

pub overflow_mul-result : goal.overflow_mul-result
overflow_mul-result c = let small : c.loop-b.v < 10000000 = seven c.loop-b.v c.loop-b.b-index c.loop-b.invariant.0 (omega arith) in omega arith

pub overflow_add-result : goal.overflow_add-result
overflow_add-result c = let small : c.loop-b.v < 10000000 = seven c.loop-b.v c.loop-b.b-index c.loop-b.invariant.0 (omega arith) in omega arith

pub returns : goal.returns
returns c = search (rules, ended)
