-- What each public function promises fixes its result: two results that meet one promise are equal.
-- Assumes nothing.
use mathlib.Core.Path.{◌≡◌}
use mathlib.Core.List.{List}
use Prim.Native.Nat.{ℕ}
use lib.ListN.{take, drop}
use Rattle.laws.proofs.Unique.{one_value}
use Rattle.lines.specs.Parts.{first_word, other_words}
use Rattle.std.specs.Prelude.{Option}
use Rattle.lines.specs.declared.Line.{Line}
use Rattle.lines.specs.Lines.{line_at}

module _ (s r r' : List ℕ) where
  pub unique_cut : (n : ℕ) → r ≡ take n s → r' ≡ take n s → r ≡ r'
  unique_cut n = one_value r r' (take n s)

  pub unique_tail : (n : ℕ) → r ≡ drop n s → r' ≡ drop n s → r ≡ r'
  unique_tail n = one_value r r' (drop n s)

  pub unique_first : r ≡ first_word s → r' ≡ first_word s → r ≡ r'
  unique_first = one_value r r' (first_word s)

  pub unique_rest : r ≡ other_words s → r' ≡ other_words s → r ≡ r'
  unique_rest = one_value r r' (other_words s)

pub unique_line_at : (s : List ℕ) (from : ℕ) (r r' : Option Line) → r ≡ line_at s from → r' ≡ line_at s from → r ≡ r'
unique_line_at s from r r' = one_value r r' (line_at s from)
