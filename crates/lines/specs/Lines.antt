-- The lines of a capture (document 01, the listing program): "lines ended by LF (a last nonempty one need not be), a CR
-- before it dropped." One CR, and only before an LF.
-- Assumes nothing.
use Rattle.std.specs.Prelude.{Option, Some, None, ℕ, ◌+◌, ◌-◌, cond, List, [], ◌∷◌, ◌++◌, ltb, eqb, length, get_or, take, drop}
use Rattle.laws.specs.Bytes.{line_feed, carriage_return}
use Rattle.laws.specs.Lists.{index_of}
use Rattle.lines.specs.declared.Line.{Line}

-- "a CR before it dropped": the bytes before an LF, without a CR that ends them
unfoldable pub without_return : List ℕ → List ℕ
without_return l = cond (eqb (get_or l (length l - 1) 0) carriage_return) (take (length l - 1) l) l

-- "a last nonempty one need not be": what stands behind the last LF
unfoldable pub last_line : List ℕ → List (List ℕ)
last_line [] = []
last_line (b ∷ l) = (b ∷ l) ∷ []

-- "lines ended by LF": `begun` is what stands before the bytes at hand in their line
unfoldable pub lines_after : List ℕ → List ℕ → List (List ℕ)
lines_after begun [] = last_line begun
lines_after begun (b ∷ l) = cond (eqb b line_feed) (without_return begun ∷ lines_after [] l) (lines_after (begun ++ b ∷ []) l)

-- all the lines, in order
unfoldable pub lines : List ℕ → List (List ℕ)
lines s = lines_after [] s

-- ---- the line at a place, as places

abbrev pub placed : ℕ → ℕ → ℕ → Line
placed start end next = record { start = start; end = end; next = next }

-- t is what stands from the place on, and n the place of its first LF
unfoldable pub line_from : ℕ → List ℕ → ℕ → Line
line_from from t n =
    cond (ltb n (length t))
    (placed from (from + length (without_return (take n t))) (from + n + 1))
    (placed from (from + length t) (from + length t))

-- where the line at a place starts and ends, and the place of the next; no line at the end or past it
unfoldable pub line_at : List ℕ → ℕ → Option Line
line_at s from = cond (ltb from (length s)) (Some (line_from from (drop from s) (index_of line_feed (drop from s)))) None
