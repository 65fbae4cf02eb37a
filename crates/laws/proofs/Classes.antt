-- The class test by one subtraction: a byte is in a class exactly when its difference from the class's first byte, wrapped as
-- `wrapping_sub` promises it, is below the class's width.
-- Assumes nothing.
use Rattle.std.proofs.Common.{◌≡◌, ℕ, ◌+◌, ◌-◌, ◌%◌, ◌^◌, ◌<◌, ◌≤◌, true, false, ltb, sym, ◌∙◌, ⊎_elim, arith, ltb-false, ltb-true, le-ltb, lt-ltb}
use Rattle.laws.specs.Bytes.{within}
use Rattle.laws.proofs.Tests.{bool_cases, not_so, within_low, within_high, within_yes}

-- d is the wrapped difference of a byte b; the class is the bytes from first to last, as many as width
module _ (first last width b d : ℕ) (wraps : (d + first) % 2 ^ 8 ≡ b) (byte : d < 2 ^ 8) (wide : first + width ≡ last + 1) (fits : last < 2 ^ 8) where
  below : ltb d width ≡ true → within first last b ≡ true
  below e = let h : d < width = ltb-true d width e in within_yes first last b (omega arith) (omega arith)

  past : ltb d width ≡ false → within first last b ≡ false
  past e =
      let h : width ≤ d = ltb-false d width e in
      not_so (within first last b) (λ t. omega (arith, within_low first last b t, within_high first last b t))

  pub class_test : ltb d width ≡ within first last b
  class_test = ⊎_elim (λ e. e ∙ sym (below e)) (λ e. e ∙ sym (past e)) (bool_cases (ltb d width))

-- ---- as the code's branches leave it

module _ (first last width b d : ℕ) (wraps : (d + first) % 2 ^ 8 ≡ b) where
  pub in_class : d < width → first + width ≡ last + 1 → last < 2 ^ 8 → within first last b ≡ true
  in_class h wide fits = sym (class_test first last width b d wraps (omega arith) wide fits) ∙ lt-ltb d width h

  pub not_in_class : width ≤ d → first + width ≡ last + 1 → last < 2 ^ 8 → d < 2 ^ 8 → within first last b ≡ false
  not_in_class h wide fits byte = sym (class_test first last width b d wraps byte wide fits) ∙ le-ltb d width h

  -- within the class nothing wraps
  pub class_place : d < width → first + width ≡ last + 1 → last < 2 ^ 8 → d ≡ b - first
  class_place h wide fits = omega (arith, within_low first last b (in_class h wide fits))

-- for `search`, which shows by `ltb-true` that the last byte of a class is below 256
pub ruleset classes = (class_test, in_class, not_in_class, ltb-true)
