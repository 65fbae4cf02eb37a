-- `write_three` answers by the limit and then by the buffer's room; else the three pieces stand at its front.
-- Assumes nothing.
use mathlib.Core.Path.{◌≡◌}
use mathlib.Core.List.{List, ◌++◌}
use Prim.Native.Nat.{ℕ, ◌+◌, ◌-◌, ◌<◌, ◌≤◌}
use native.Mathlib.Omega.{arith}
use lib.ListN.{length, length-append}
use lib.Seq.{paste}
use Rattle.buffer.specs.declared.Answer.{Answer}
use Rattle.buffer.specs.Wrote.{ends, refused_by, no_room, done_by, over_by, wrote}
use Rattle.buffer.proofs.Wrote.{refuses, no_room_lem, writes, put_all, over, not_over}
use borrow.Author.Rules.{rules}
use Rattle.buffer.proofs.write_three.Goals as goal

module _ (limit : ℕ) (r : Answer) (head middle tail out : List ℕ) where
  abbrev all : List ℕ
  all = head ++ (middle ++ tail)

  size : length all ≡ length head + length middle + length tail
  size = omega (arith, length-append head (middle ++ tail), length-append middle tail)

  long_by : r ≡ refused_by 1 → limit < length all → ends r out ≡ wrote (over_by limit all) all out
  long_by e h = rw e (refuses 1 (over_by limit all) all out (over limit all h) (λ q. omega arith))

  long_head : r ≡ refused_by 1 → limit < length head → ends r out ≡ wrote (over_by limit all) all out
  long_head e h = long_by e (omega (arith, size))

  module _ (k : length head ≤ limit) where
    long_middle : r ≡ refused_by 1 → limit - length head < length middle → ends r out ≡ wrote (over_by limit all) all out
    long_middle e h = long_by e (omega (arith, size))

    module _ (l : length middle ≤ limit - length head) where
      long_tail : r ≡ refused_by 1 → limit - length head - length middle < length tail → ends r out ≡ wrote (over_by limit all) all out
      long_tail e h = long_by e (omega (arith, size))

      module _ (h : length tail ≤ limit - length head - length middle) where
        fine : over_by limit all ≡ 0
        fine = not_over limit all (omega (arith, size))

        short : r ≡ no_room (length head + length middle + length tail) → length out < length head + length middle + length tail → ends r out ≡ wrote (over_by limit all) all out
        short e w = rw e (no_room_lem (over_by limit all) (length head + length middle + length tail) all out fine size w)

        fits : (o₁ o₂ o₃ : List ℕ) → r ≡ done_by (length head + length middle + length tail) → length head + length middle + length tail ≤ length out
            → o₁ ≡ paste out 0 head (length head) → o₂ ≡ paste o₁ (length head) middle (length middle) → o₃ ≡ paste o₂ (length head + length middle) tail (length tail)
            → ends r o₃ ≡ wrote (over_by limit all) all out
        fits o₁ o₂ o₃ e w p q s = rw e (writes (over_by limit all) (length head + length middle + length tail) all out o₃ fine size w (put_all head middle tail out o₁ o₂ o₃ p q s))

pub returns-then-limit-n : goal.returns-then-limit-n
returns-then-limit-n c = search (rules, long_head)

pub returns-then-limit-n-2 : goal.returns-then-limit-n-2
returns-then-limit-n-2 c = search (rules, long_middle)

pub returns-then-limit-n-3 : goal.returns-then-limit-n-3
returns-then-limit-n-3 c = search (rules, long_tail)

pub returns-then-out-n : goal.returns-then-out-n
returns-then-out-n c = search (rules, short)

pub returns : goal.returns
returns c = search (rules, fits)
