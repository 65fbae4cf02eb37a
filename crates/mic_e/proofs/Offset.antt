-- The offset of 28: the bytes from 28 on are a class of 228, so of one of them 227 at most is left; a byte below 28 wraps, and
-- stands for nothing.
-- Assumes nothing.
use Rattle.std.proofs.Common.{◌≡◌, ℕ, ◌+◌, ◌-◌, ◌%◌, ◌^◌, ◌<◌, ◌≤◌, Bool, true, false, cond, leb, ltb, Some, None, refl, arith, le-leb, leb-false, le-ltb, lt-ltb}
use mathlib.Core.Bool.{and-true}
use Rattle.laws.specs.Bytes.{within}
use Rattle.laws.proofs.Tests.{within_low}
use Rattle.laws.proofs.Classes.{in_class, not_in_class, class_place}
use Rattle.mic_e.specs.Private.{reading}

-- not in a class, and not above it
within_below : (lo hi b : ℕ) → within lo hi b ≡ false → b ≤ hi → b < lo
unfolding within
within_below lo hi b e k = leb-false lo b (rw (le-leb b hi k, and-true (leb lo b)) at e)

-- d is the wrapped difference of a byte b
module _ (b d : ℕ) (wraps : (d + 28) % 2 ^ 8 ≡ b) where
  pub from_28 : d ≤ 227 → 28 ≤ b
  from_28 h = within_low 28 255 b (in_class 28 255 228 b d wraps (omega arith) (omega arith) (omega arith))

  pub less_28 : d ≤ 227 → d ≡ b - 28
  less_28 h = class_place 28 255 228 b d wraps (omega arith) (omega arith) (omega arith)

  pub below_28 : 227 < d → d < 2 ^ 8 → b < 28
  below_28 h byte = within_below 28 255 b (not_in_class 28 255 228 b d wraps (omega arith) (omega arith) (omega arith) byte) (omega arith)

  -- what the definition says of the byte
  pub leaves : d ≤ 227 → Some d ≡ reading b
  unfolding reading
  leaves h = rw (le-ltb b 28 (from_28 h), less_28 h)

  pub leaves_nothing : 227 < d → d < 2 ^ 8 → None ≡ reading b
  unfolding reading
  leaves_nothing h byte = rw (lt-ltb b 28 (below_28 h byte))

-- ---- by the definition, whatever took the 28 off

-- d is what b stands for
module _ (b d : ℕ) (e : Some d ≡ reading b) where
  stands : (ltb b 28 ≡ false) × (d ≡ b - 28)
  unfolding reading
  stands = go (ltb b 28) e
    where
      go : (t : Bool) → Some d ≡ cond t None (Some (b - 28)) → (t ≡ false) × (d ≡ b - 28)
      go true q = cc
      go false q = (refl, cc)

  -- the definition's test
  pub taken : ltb b 28 ≡ false
  taken = stands.0

  pub stood_for : d ≡ b - 28
  stood_for = stands.1

  pub most : b < 256 → d ≤ 227
  most h = omega (arith, stood_for)

pub stands_for_nothing : (b : ℕ) → None ≡ reading b → ltb b 28 ≡ true
unfolding reading
stands_for_nothing b e = go (ltb b 28) e
  where
    go : (t : Bool) → None ≡ cond t None (Some (b - 28)) → t ≡ true
    go true q = refl
    go false q = cc
