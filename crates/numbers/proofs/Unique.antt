-- What each public function promises fixes its result: two results that meet one promise are equal.
-- Assumes nothing.
use Rattle.std.specs.Prelude.{Option, Result}
use Rattle.std.proofs.Common.{◌≡◌, ℕ, Bool, List, ℤ}
use Rattle.laws.proofs.Unique.{one_value}
use Rattle.buffer.specs.Filled.{filled, added}
use Rattle.buffer.proofs.Unique.{one_filled}
use Rattle.numbers.specs.declared.Sides.{Sides}
use Rattle.numbers.specs.declared.CountError.{CountError}
use Rattle.numbers.specs.Sign.{sides_of, number_on, is_on}
use Rattle.numbers.specs.Numbers.{digits, decimal, read_count, read_number, hex_pair, hex_value}

pub unique_parts : (number : ℤ) (r r' : Sides) → r ≡ sides_of number → r' ≡ sides_of number → r ≡ r'
unique_parts number r r' = one_value r r' (sides_of number)

pub unique_is_on : (minus : Bool) (number : ℤ) (r r' : Bool) → r ≡ is_on minus number → r' ≡ is_on minus number → r ≡ r'
unique_is_on minus number r r' = one_value r r' (is_on minus number)

pub unique_signed : (minus : Bool) (size : ℕ) (r r' : Option ℤ) → r ≡ number_on minus size → r' ≡ number_on minus size → r ≡ r'
unique_signed minus size r r' = one_value r r' (number_on minus size)

pub unique_hex_value : (d : ℕ) (r r' : Option ℕ) → r ≡ hex_value d → r' ≡ hex_value d → r ≡ r'
unique_hex_value d r r' = one_value r r' (hex_value d)

pub unique_read_count : (s : List ℕ) (most : ℕ) (r r' : Result ℕ CountError) → r ≡ read_count s most → r' ≡ read_count s most → r ≡ r'
unique_read_count s most r r' = one_value r r' (read_count s most)

pub unique_read_number : (s : List ℕ) (r r' : Option ℤ) → r ≡ read_number s → r' ≡ read_number s → r ≡ r'
unique_read_number s r r' = one_value r r' (read_number s)

module _ (r r' : ℕ) (o o' : List ℕ) where
  pub unique_put_count : (n : ℕ) (out : List ℕ) (at : ℕ) → filled o r ≡ added (filled out at) (digits n) → filled o' r' ≡ added (filled out at) (digits n) → (r ≡ r') × (o ≡ o')
  unique_put_count n out at = one_filled r r' o o' (added (filled out at) (digits n))

  pub unique_put_number : (n : ℤ) (out : List ℕ) (at : ℕ) → filled o r ≡ added (filled out at) (decimal n) → filled o' r' ≡ added (filled out at) (decimal n) → (r ≡ r') × (o ≡ o')
  unique_put_number n out at = one_filled r r' o o' (added (filled out at) (decimal n))

  pub unique_put_hex : (b : ℕ) (out : List ℕ) (at : ℕ) → filled o r ≡ added (filled out at) (hex_pair b) → filled o' r' ≡ added (filled out at) (hex_pair b) → (r ≡ r') × (o ≡ o')
  unique_put_hex b out at = one_filled r r' o o' (added (filled out at) (hex_pair b))
