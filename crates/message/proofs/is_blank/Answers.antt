-- A walk over all bytes: each is zero as far as it came. Assumes nothing.
use Rattle.std.proofs.Common.{◌≡◌, ℕ, ◌+◌, ◌<◌, ◌≤◌, Bool, eqb, ◌&&◌, List, length, drop, get_or, sym, ◌∙◌, arith, rules}
use mathlib.Core.Bool.{and-true, and_assoc}
use lib.ListN.{drop_of_length-le}
use Rattle.laws.specs.Lists.{zeros}
use Rattle.laws.proofs.Lists.{next}
use Rattle.message.proofs.is_blank.Goals as goal

module _ (b fine : Bool) (l : List ℕ) (i : ℕ) (e : b ≡ (fine && zeros (drop i l))) where
  zeros_more : i < length l → b ≡ ((fine && eqb (get_or l i 0) 0) && zeros (drop (i + 1) l))
  unfolding zeros
  zeros_more h = e ∙ rw (next 0 l i h) (sym (and_assoc fine (eqb (get_or l i 0) 0) (zeros (drop (i + 1) l))))

  zeros_end : (m : ℕ) → length l ≡ m → m ≤ i → fine ≡ b
  unfolding zeros
  zeros_end m w h = let k : length l ≤ i = omega arith in sym (e ∙ rw (drop_of_length-le l k) (and-true fine))

pub loop-b-preserved : goal.loop-b-preserved
loop-b-preserved c = search (rules, zeros_more, rules)

pub returns : goal.returns
returns c = search (rules, zeros_end, rules)
