-- Laws of the parts of a line: as many bytes as there are or fewer, and the words.
-- Assumes nothing.
use mathlib.Core.Path.{◌≡◌, sym}
use mathlib.Core.List.{List}
use Prim.Native.Nat.{ℕ, ◌≤◌}
use lib.ListN.{length, take}
use lib.Seq.{length-take-le}

pub first_bytes : (n : ℕ) (s : List ℕ) → n ≤ length s → n ≡ length (take n s)
first_bytes n s h = sym (length-take-le n s h)
