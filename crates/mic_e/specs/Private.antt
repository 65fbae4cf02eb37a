-- What only private functions promise: what a byte stands for; three bits as a number, and back.
-- Assumes nothing.
use Rattle.std.specs.Prelude.{ℕ, ◌+◌, ◌-◌, ◌*◌, ◌/◌, ◌%◌, Bool, cond, not, ◌==◌, List, [], ◌∷◌, map, nat_lt, Option, Some, None}
use Rattle.mic_e.specs.declared.Bit.{Bit}
use Rattle.mic_e.specs.declared.Bit.TheVariants.{Zero, Custom, Standard}
use Rattle.mic_e.specs.Message.{is_custom, is_standard, is_one}

-- "Subtract 28 from each ..; below 28 is 12"
unfoldable pub reading : ℕ → Option ℕ
reading b = cond (nat_lt b 28) None (Some (b - 28))

-- whether a bit is that one
unfoldable pub is_bit : Bit → Bit → Bool
is_bit Zero b = not (is_one b)
is_bit Custom b = is_custom b
is_bit Standard b = is_standard b

-- a bit for each, the first the highest
unfoldable pub three_bits : Bool → Bool → Bool → ℕ
three_bits x y z = 4 * cond x 1 0 + 2 * cond y 1 0 + cond z 1 0

-- a bit where the number is odd
unfoldable pub bit_if_odd : Bit → ℕ → Bit
bit_if_odd bit n = cond (n % 2 == 1) bit Zero

-- the lowest three bits of a number
unfoldable pub bits_in : Bit → ℕ → List Bit
bits_in bit n = map (bit_if_odd bit) (n / 4 ∷ n / 2 ∷ n ∷ [])
