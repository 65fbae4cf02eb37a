-- `write_two` writes three pieces, the last of them empty. Assumes nothing.
use mathlib.Core.Path.{◌≡◌, ap, ◌∙◌}
use mathlib.Core.List.{List, [], ◌++◌, append-nil}
use Prim.Native.Nat.{ℕ}
use Rattle.buffer.specs.Wrote.{Wrote, over_by, wrote}
use borrow.Author.Rules.{rules}
use Rattle.buffer.proofs.write_two.Goals as goal

without_a_third : (limit : ℕ) (head tail out : List ℕ) (w : Wrote)
    → w ≡ wrote (over_by limit (head ++ (tail ++ []))) (head ++ (tail ++ [])) out → w ≡ wrote (over_by limit (head ++ tail)) (head ++ tail) out
without_a_third limit head tail out w e = e ∙ ap (λ (l : List ℕ). wrote (over_by limit (head ++ l)) (head ++ l) out) (append-nil tail)

pub returns : goal.returns
returns c = search (rules, without_a_third)
