-- What the private function promises that reads two digits.
-- Assumes nothing.
use Rattle.std.specs.Prelude.{ℕ, cond, ◌&&◌, [], ◌∷◌, Some, None, Option}
use Rattle.laws.specs.Bytes.{is_digit}
use Rattle.numbers.specs.Numbers.{number_of}

-- the number of two digits, if digits they are
unfoldable pub pair_of : ℕ → ℕ → Option ℕ
pair_of tens ones = cond (is_digit tens && is_digit ones) (Some (number_of (tens ∷ ones ∷ []))) None
