-- Walking a capture with `line_at`, from 0 and on from each answer's next place: it gives the capture's lines, each once
-- and in order, and it ends.
-- Assumes nothing.
use mathlib.Core.Path.{◌≡◌, refl, sym, ap, ap₂, ◌∙◌}
use mathlib.Core.Bool.{Bool, true, false, cond}
use mathlib.Core.List.{List, [], ◌∷◌, ◌++◌, append-nil}
use Prim.Native.Nat.{ℕ, zero, suc, ◌+◌, ◌-◌, ◌<◌, ◌≤◌}
use native.Mathlib.Omega.{arith}
use native.Mathlib.Nat.{le_of_suc-le-suc}
use lib.Dec.{ltb, eqb}
use borrow.Author.Tests.{ltb-true, ltb-false}
use lib.ListN.{length, take, drop, length-take, length-drop, drop_of_length-le}
use lib.Seq.{take-take, take-length, drop-drop, append_snoc}
use Rattle.laws.specs.Bytes.{line_feed}
use Rattle.laws.specs.Lists.{index_of}
use Rattle.laws.proofs.Places.{index_le}
use Rattle.lines.specs.declared.Line.{Line}
use Rattle.std.specs.Prelude.{Option, Some, None}
use Rattle.lines.proofs.Bare.{bare_prefix, bare_length}
use Rattle.lines.specs.Lines.{placed, without_return, last_line, lines_after, lines, line_from, line_at}

-- ---- the lines by the first LF

after_feed : (begun t : List ℕ) → index_of line_feed t < length t
    → lines_after begun t ≡ without_return (begun ++ take (index_of line_feed t) t) ∷ lines (drop (suc (index_of line_feed t)) t)
unfolding lines_after lines index_of
after_feed begun [] h = absurd (omega arith)
after_feed begun (b ∷ l) h = go (eqb b line_feed) (λ k. after_feed (begun ++ b ∷ []) l k) h
  where
    go : (t : Bool)
        → (index_of line_feed l < length l → lines_after (begun ++ b ∷ []) l ≡ without_return ((begun ++ b ∷ []) ++ take (index_of line_feed l) l) ∷ lines (drop (suc (index_of line_feed l)) l))
        → cond t 0 (suc (index_of line_feed l)) < suc (length l)
        → cond t (without_return begun ∷ lines_after [] l) (lines_after (begun ++ b ∷ []) l)
        ≡ without_return (begun ++ take (cond t 0 (suc (index_of line_feed l))) (b ∷ l)) ∷ lines_after [] (drop (suc (cond t 0 (suc (index_of line_feed l)))) (b ∷ l))
    go true r h = ap (λ (x : List ℕ). without_return x ∷ lines_after [] l) (sym (append-nil begun))
    go false r h = r (le_of_suc-le-suc h) ∙ ap (λ (x : List ℕ). without_return x ∷ lines_after [] (drop (suc (index_of line_feed l)) l)) (append_snoc begun b (take (index_of line_feed l) l))

after_last : (begun t : List ℕ) → index_of line_feed t ≡ length t → lines_after begun t ≡ last_line (begun ++ t)
unfolding lines_after index_of
after_last begun [] h = ap last_line (sym (append-nil begun))
after_last begun (b ∷ l) h = go (eqb b line_feed) (λ k. after_last (begun ++ b ∷ []) l k) h
  where
    go : (t : Bool)
        → (index_of line_feed l ≡ length l → lines_after (begun ++ b ∷ []) l ≡ last_line ((begun ++ b ∷ []) ++ l))
        → cond t 0 (suc (index_of line_feed l)) ≡ suc (length l)
        → cond t (without_return begun ∷ lines_after [] l) (lines_after (begun ++ b ∷ []) l) ≡ last_line (begun ++ b ∷ l)
    go true r h = absurd (omega arith)
    go false r h = r (omega arith) ∙ ap last_line (append_snoc begun b l)

-- a line up to its LF, and the lines behind it
pub lines_ended : (t : List ℕ) → index_of line_feed t < length t → lines t ≡ without_return (take (index_of line_feed t) t) ∷ lines (drop (suc (index_of line_feed t)) t)
unfolding lines
lines_ended t h = after_feed [] t h

-- no LF: one line, unless there is nothing
pub lines_last : (t : List ℕ) → index_of line_feed t ≡ length t → 0 < length t → lines t ≡ t ∷ []
unfolding lines last_line
lines_last [] h k = absurd (omega arith)
lines_last (b ∷ l) h k = after_last [] (b ∷ l) h

pub lines_none : lines [] ≡ []
unfolding lines lines_after last_line
lines_none = refl

-- ---- one step of the walk

-- the bytes between two places
abbrev pub between : List ℕ → ℕ → ℕ → List ℕ
between s start end = take (end - start) (drop start s)

-- the line that an answer gives, and what `onward` makes of the next place
unfoldable pub stepped : List ℕ → (ℕ → List (List ℕ)) → Option Line → List (List ℕ)
stepped s onward (Some line) = between s line.start line.end ∷ onward line.next
stepped s onward None = []

module _ (s : List ℕ) (from : ℕ) where
  left : List ℕ
  left = drop from s

  feed : ℕ
  feed = index_of line_feed left

  line_between : between s from (from + length (without_return (take feed left))) ≡ without_return (take feed left)
  unfolding left
  line_between =
      let l : List ℕ = take feed left in
      let e : from + length (without_return l) - from ≡ length (without_return l) = omega arith in
      let h : length (without_return l) ≤ feed = omega (arith, bare_length l, length-take feed left) in
      ap (λ (n : ℕ). take n left) e ∙ sym (take-take (length (without_return l)) feed left h) ∙ bare_prefix l

  all_between : between s from (from + length left) ≡ left
  unfolding left
  all_between =
      let e : from + length (drop from s) - from ≡ length (drop from s) = omega arith in
      ap (λ (n : ℕ). take n (drop from s)) e ∙ take-length (drop from s)

  behind : drop (from + feed + 1) s ≡ drop (suc feed) left
  unfolding left
  behind =
      let e : from + feed + 1 ≡ from + suc feed = omega arith in
      ap (λ (n : ℕ). drop n s) e ∙ sym (drop-drop (suc feed) from s)

  at_end : drop (from + length left) s ≡ []
  unfolding left
  at_end = drop_of_length-le s {i = from + length (drop from s)} (omega (arith, length-drop from s))

  -- from a place on: the line there, and the lines from the next place on
  pub one_line : lines (drop from s) ≡ stepped s (λ n. lines (drop n s)) (line_at s from)
  unfolding line_at line_from stepped left feed
  one_line = go (ltb from (length s)) refl
    where
      here : (t : Bool) → ltb feed (length left) ≡ t → from < length s
          → lines left ≡ stepped s (λ n. lines (drop n s)) (Some (cond t (placed from (from + length (without_return (take feed left))) (from + feed + 1)) (placed from (from + length left) (from + length left))))
      here true e h = lines_ended left (ltb-true feed (length left) e) ∙ ap₂ (λ (x y : List ℕ). x ∷ lines y) (sym line_between) (sym behind)
      here false e h =
          let n : index_of line_feed left ≡ length left = omega (arith, ltb-false feed (length left) e, index_le line_feed left) in
          lines_last left n (omega (arith, length-drop from s)) ∙ ap₂ (λ (x : List ℕ) (y : List (List ℕ)). x ∷ y) (sym all_between) (sym (ap lines at_end ∙ lines_none))

      go : (t : Bool) → ltb from (length s) ≡ t → lines left ≡ stepped s (λ n. lines (drop n s)) (cond t (Some (line_from from left feed)) None)
      go true e = here (ltb feed (length left)) refl (ltb-true from (length s) e)
      go false e = ap lines (drop_of_length-le s (ltb-false from (length s) e)) ∙ lines_none

-- ---- where an answer's places lie

pub record Ahead (s : List ℕ) (from start end next : ℕ) : Type 0 where
  pub here : start ≡ from
  pub ordered : start ≤ end
  pub inside : end ≤ next
  pub moves : from < next
  pub stays : next ≤ length s

pub ahead : (s : List ℕ) (from start end next : ℕ) → line_at s from ≡ Some (placed start end next) → Ahead s from start end next
unfolding line_at line_from left feed
ahead s from start end next = go (ltb from (length s)) refl
  where
    lies : (x y : ℕ) → Some (placed from x y) ≡ Some (placed start end next) → from ≤ x → x ≤ y → from < y → y ≤ length s → Ahead s from start end next
    lies x y q h₁ h₂ h₃ h₄ =
        let same : placed from x y ≡ placed start end next = cc in
        let p₁ : from ≡ start = ap (λ (l : Line). l.start) same in
        let p₂ : x ≡ end = ap (λ (l : Line). l.end) same in
        let p₃ : y ≡ next = ap (λ (l : Line). l.next) same in
        record { here = sym p₁; ordered = omega arith; inside = omega arith; moves = omega arith; stays = omega arith }

    here : (t : Bool) → ltb (feed s from) (length (left s from)) ≡ t → from < length s
        → Some (cond t (placed from (from + length (without_return (take (feed s from) (left s from)))) (from + feed s from + 1)) (placed from (from + length (left s from)) (from + length (left s from)))) ≡ Some (placed start end next)
        → Ahead s from start end next
    here true e h q =
        let k : feed s from < length (left s from) = ltb-true (feed s from) (length (left s from)) e in
        let b = bare_length (take (feed s from) (left s from)) in
        let l = length-take (feed s from) (left s from) in
        let d : length (left s from) ≡ length s - from = length-drop from s in
        lies (from + length (without_return (take (feed s from) (left s from)))) (from + feed s from + 1) q (omega arith) (omega arith) (omega arith) (omega arith)
    here false e h q =
        let d : length (left s from) ≡ length s - from = length-drop from s in
        lies (from + length (left s from)) (from + length (left s from)) q (omega arith) (omega arith) (omega arith) (omega arith)

    go : (t : Bool) → ltb from (length s) ≡ t → cond t (Some (line_from from (left s from) (feed s from))) None ≡ Some (placed start end next) → Ahead s from start end next
    go true e q = here (ltb (feed s from) (length (left s from))) refl (ltb-true from (length s) e) q
    go false e q = absurd (let z : ◌≡◌ {A = ℕ} 0 1 = cc in omega arith)

-- ---- the walk

-- the lines met on the way from a place, in at most so many steps
unfoldable pub walk : ℕ → List ℕ → ℕ → List (List ℕ)
walk zero s from = []
walk (suc steps) s from = stepped s (walk steps s) (line_at s from)

-- with a step for each byte that is left, and one to find the end, the walk meets every line: more steps change nothing
pub walk_from : (steps : ℕ) (s : List ℕ) (from : ℕ) → length s - from < steps → walk steps s from ≡ lines (drop from s)
unfolding walk stepped
walk_from zero s from h = absurd (omega arith)
walk_from (suc steps) s from h = go (line_at s from) refl (λ n k. walk_from steps s n k) ∙ sym (one_line s from)
  where
    go : (line : Option Line) → line_at s from ≡ line → ((n : ℕ) → length s - n < steps → walk steps s n ≡ lines (drop n s)) → stepped s (walk steps s) line ≡ stepped s (λ n. lines (drop n s)) line
    go (Some line) e r =
        let a = ahead s from line.start line.end line.next e in
        ap (λ (y : List (List ℕ)). between s line.start line.end ∷ y) (r line.next (omega arith))
    go None e r = refl

-- from 0 it gives exactly the lines
pub walk_lines : (steps : ℕ) (s : List ℕ) → length s < steps → walk steps s 0 ≡ lines s
walk_lines steps s h = walk_from steps s 0 (omega arith)
