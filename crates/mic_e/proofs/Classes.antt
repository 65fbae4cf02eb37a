-- The class test by one subtraction, as the method `wrapping_sub` gives it: a byte is in a class exactly when its difference from the
-- class's first byte is below the class's width.
-- Assumes nothing.
use Rattle.std.proofs.Common.{◌≡◌, ℕ, ◌+◌, ◌-◌, ◌%◌, ◌^◌, ◌<◌, ◌≤◌, true, false, ltb, arith}
use Rattle.laws.specs.Bytes.{within}
use Rattle.laws.proofs.Classes.{class_test, in_class, not_in_class, class_place}

-- k is what a byte's 256 lacks of the class's first byte; the class is the bytes from first to last, as many as width
module _ (first last width k b : ℕ) (byte : b < 256) (turn : first + k ≡ 256) (wide : first + width ≡ last + 1) (fits : last < 256) where
  wraps : ((b + k) % 256 + first) % 2 ^ 8 ≡ b
  wraps = omega arith

  pub tests : ltb ((b + k) % 256) width ≡ within first last b
  tests = class_test first last width b ((b + k) % 256) wraps (omega arith) wide fits

  pub inside : (b + k) % 256 < width → within first last b ≡ true
  inside h = in_class first last width b ((b + k) % 256) wraps h wide fits

  pub outside : width ≤ (b + k) % 256 → within first last b ≡ false
  outside h = not_in_class first last width b ((b + k) % 256) wraps h wide fits (omega arith)

  pub place : (b + k) % 256 < width → (b + k) % 256 ≡ b - first
  place h = class_place first last width b ((b + k) % 256) wraps h wide fits

pub ruleset classes = (tests, inside, outside)
