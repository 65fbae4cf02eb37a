-- What each public function promises fixes its result: two results that meet one promise are equal.
-- Assumes nothing.
use mathlib.Core.Path.{◌≡◌}
use mathlib.Core.Bool.{Bool}
use mathlib.Core.List.{List}
use Prim.Native.Nat.{ℕ}
use Rattle.buffer.specs.declared.Answer.{Answer}
use Rattle.buffer.specs.Wrote.{ends, wrote}
use Rattle.buffer.proofs.Wrote.{one_end}
use Rattle.row.specs.Row.{row_by}

module _ (r r' : Answer) (o o' out : List ℕ) where
  pub unique_write_row : (strict : Bool) (number : ℕ) (line : List ℕ) → ends r o ≡ wrote 0 (row_by strict number line) out
      → ends r' o' ≡ wrote 0 (row_by strict number line) out
      → (r ≡ r') × (o ≡ o')
  unique_write_row strict number line = one_end r r' o o' (wrote 0 (row_by strict number line) out)
