-- `character_of`: each bit has its digits and its blank. Assumes nothing.
use Rattle.std.proofs.Common.{◌≡◌, ℕ, ◌+◌, ◌-◌, ◌%◌, ◌<◌, ◌≤◌, true, false, arith}
use Rattle.laws.specs.Bytes.{digit0, capital_a, capital_k, capital_l, capital_p, capital_z, is_digit}
use Rattle.mic_e.specs.Character.{character_of}
use Rattle.mic_e.specs.declared.Bit.TheVariants.{Zero, Custom, Standard}
use Rattle.numbers.proofs.Counts.{digit_yes, digit_no, digit_value}
use Rattle.mic_e.proofs.character_of.Goals as goal
use Rattle.mic_e.proofs.character_of.Goals.{in-Zero, in-Custom, in-Standard}

-- what stands for a digit, counted from a bit's 0
module _ (d : ℕ) (byte : d < 256) (digit : (d + 208) % 256 < 10) where
  yes : is_digit d ≡ true
  yes = digit_yes d ((d + 208) % 256) (omega arith) (omega arith)

  from_0 : (d + 208) % 256 ≡ d - digit0
  from_0 = digit_value d ((d + 208) % 256) (omega arith) (omega arith)

  least : digit0 ≤ d
  least = omega arith

  zero_digit : digit0 + (d + 208) % 256 ≡ character_of Zero d
  unfolding character_of
  zero_digit = rw yes (omega (arith, from_0))

  custom_digit : capital_a + (d + 208) % 256 ≡ character_of Custom d
  unfolding character_of
  custom_digit = rw yes (omega (arith, from_0))

  standard_digit : capital_p + (d + 208) % 256 ≡ character_of Standard d
  unfolding character_of
  standard_digit = rw yes (omega (arith, from_0))

-- what stands for any other byte
module _ (d : ℕ) (byte : d < 256) (other : 10 ≤ (d + 208) % 256) where
  no : is_digit d ≡ false
  no = digit_no d ((d + 208) % 256) (omega arith) (omega arith) (omega arith)

  zero_blank : capital_l ≡ character_of Zero d
  unfolding character_of
  zero_blank = rw no

  custom_blank : capital_k ≡ character_of Custom d
  unfolding character_of
  custom_blank = rw no

  standard_blank : capital_z ≡ character_of Standard d
  unfolding character_of
  standard_blank = rw no

pub returns-then-digit-lt10 : goal.returns-then-digit-lt10
returns-then-digit-lt10 c =
    let d : c.args.d < 256 = c.ranges.d.fits in
    elim c.match-bit.branch [
      | in-Zero w ↦ rw (w.zero-is, w.in-Zero.is) (zero_digit c.args.d d c.if-digit-lt10.true)
      | in-Custom w ↦ rw (w.zero-is, w.in-Custom.is) (custom_digit c.args.d d c.if-digit-lt10.true)
      | in-Standard w ↦ rw (w.zero-is, w.in-Standard.is) (standard_digit c.args.d d c.if-digit-lt10.true)
    ]

pub returns-else-digit-lt10 : goal.returns-else-digit-lt10
returns-else-digit-lt10 c =
    let d : c.args.d < 256 = c.ranges.d.fits in
    elim c.match-bit.branch [
      | in-Zero w ↦ rw (w.zero-is, w.in-Zero.is) (zero_blank c.args.d d c.if-digit-lt10.false)
      | in-Custom w ↦ rw (w.zero-is, w.in-Custom.is) (custom_blank c.args.d d c.if-digit-lt10.false)
      | in-Standard w ↦ rw (w.zero-is, w.in-Standard.is) (standard_blank c.args.d d c.if-digit-lt10.false)
    ]
