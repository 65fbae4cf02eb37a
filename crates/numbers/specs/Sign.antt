-- A number by its sign and its size, which is its distance from 0. Of an angle the sign is its side (document 01): "north and east
-- positive", "Zero south or west is plain 0".
-- Assumes nothing.
use Rattle.std.specs.Prelude.{ℕ, Bool, cond, not, ℤ, pos, neg_ℤ, int_le, nat_le, unsigned_abs, Option, Some, None}
use Rattle.std.specs.Int.Signed.{non_neg}
use Rattle.numbers.specs.declared.Sides.{Sides}

-- the number of that size, below 0 where minus is said
unfoldable pub signed_of : Bool → ℕ → ℤ
signed_of minus size = cond minus (neg_ℤ (pos size)) (pos size)

-- the largest size that an `i32` holds on a side of 0
unfoldable pub most_on : Bool → ℕ
most_on minus = cond minus 2147483648 2147483647

-- that number, if an `i32` holds it
unfoldable pub number_on : Bool → ℕ → Option ℤ
number_on minus size = cond (nat_le size (most_on minus)) (Some (signed_of minus size)) None

-- below 0; 0 itself is not
unfoldable pub is_minus : ℤ → Bool
is_minus angle = not (non_neg angle)

-- on a side of 0: below it where minus is said, above it else; 0 itself is on both
unfoldable pub is_on : Bool → ℤ → Bool
is_on minus z = cond minus (int_le z (pos 0)) (int_le (pos 0) z)

-- a number taken apart
unfoldable pub sides_of : ℤ → Sides
sides_of angle = record { minus = is_minus angle; size = unsigned_abs angle }
