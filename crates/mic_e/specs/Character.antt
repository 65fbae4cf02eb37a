-- The characters of a Mic-E destination (document 01, module 4): "`0-9` digit, bit 0; `A-J` digit, custom 1; `P-Y` digit,
-- standard 1; `K` `L` `Z` blank with custom 1, 0, standard 1".
-- Assumes nothing.
use Rattle.std.specs.Prelude.{ℕ, ◌+◌, ◌-◌, Bool, cond, not, ◌&&◌, ◌||◌}
use Rattle.laws.specs.Bytes.{space, digit0, capital_a, capital_j, capital_k, capital_l, capital_p, capital_y, capital_z, within, is_digit}
use Rattle.mic_e.specs.declared.Bit.{Bit}
use Rattle.mic_e.specs.declared.Bit.TheVariants.{Zero, Custom, Standard}

-- ---- read

-- one of the characters above
unfoldable pub is_character : ℕ → Bool
is_character c = is_digit c || (within capital_a capital_l c || within capital_p capital_z c)

-- "The last three refuse `A-K`"
unfoldable pub is_last : ℕ → Bool
is_last c = is_character c && not (within capital_a capital_k c)

-- the digit or blank, as a character of text
unfoldable pub digit_of : ℕ → ℕ
digit_of c =
    cond (is_digit c) c
    (cond (within capital_a capital_j c) (c - capital_a + digit0)
    (cond (within capital_p capital_y c) (c - capital_p + digit0)
    space))

-- the bit that goes with it
unfoldable pub bit_of : ℕ → Bit
bit_of c = cond (within capital_a capital_k c) Custom (cond (within capital_p capital_z c) Standard Zero)

-- "P to Z there mean north, offset 100, west"
abbrev pub is_flagged : ℕ → Bool
is_flagged c = within capital_p capital_z c

-- ---- written

-- the character of a bit and a digit; any other byte than a digit is a blank
unfoldable pub character_of : Bit → ℕ → ℕ
character_of Zero d = cond (is_digit d) d capital_l
character_of Custom d = cond (is_digit d) (d - digit0 + capital_a) capital_k
character_of Standard d = cond (is_digit d) (d - digit0 + capital_p) capital_z

-- a flag is a standard 1 or a 0
unfoldable pub flag_bit : Bool → Bit
flag_bit flag = cond flag Standard Zero
