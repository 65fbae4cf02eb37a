-- The longitude of a side and a size: r is the number that was answered for it.
-- Assumes nothing.
use Rattle.std.proofs.Common.{◌≡◌, ℕ, ◌<◌, ◌≤◌, Bool, Option, Some, None, ℤ, arith, le-ltb, lt-ltb}
use Rattle.numbers.specs.Sign.{number_on}
use Rattle.numbers.proofs.Sign.{number_told, number_never}
use Rattle.lonlat.specs.Angle.{most_longitude, longitude_of}

pub longitude_past : (size : ℕ) (west : Bool) → most_longitude < size → None ≡ longitude_of size west
unfolding longitude_of
longitude_past size west h = rw (lt-ltb most_longitude size h)

module _ (size : ℕ) (west : Bool) (h : size ≤ most_longitude) (r : Option ℤ) (e : r ≡ number_on west size) where
  pub longitude_made : (z z' : ℤ) → r ≡ Some z → z' ≡ z → Some (record { 0 = z' }) ≡ longitude_of size west
  unfolding longitude_of
  longitude_made z z' f g = rw (le-ltb most_longitude size h, ← number_told west size (omega arith) r e z f, g)

  pub longitude_never : r ≡ None → None ≡ longitude_of size west
  longitude_never f = absurd (number_never west size (omega arith) r e f)
