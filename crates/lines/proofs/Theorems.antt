-- What the definition of a capture's lines amounts to: every line is met once and in order.
-- Assumes nothing.
use mathlib.Core.Path.{◌≡◌}
use mathlib.Core.List.{List}
use Prim.Native.Nat.{ℕ, ◌<◌}
use lib.ListN.{length, drop}
use Rattle.std.specs.Prelude.{Some}
use Rattle.lines.specs.Lines.{placed, lines, line_at}
use Rattle.lines.proofs.Walk as walk
use Rattle.lines.proofs.Walk.{stepped, Ahead}

-- the line at a place, and the lines from its next place on, are the lines from that place on
pub line_then_lines : (s : List ℕ) (from : ℕ) → lines (drop from s) ≡ stepped s (λ n. lines (drop n s)) (line_at s from)
line_then_lines = walk.one_line

-- each answer moves on, and stays within the capture
pub line_moves_on : (s : List ℕ) (from start end next : ℕ) → line_at s from ≡ Some (placed start end next) → Ahead s from start end next
line_moves_on = walk.ahead

-- the walk from 0 gives exactly the lines, each once and in order; with a step more than there are bytes it has ended
pub walk_is_lines : (steps : ℕ) (s : List ℕ) → length s < steps → walk.walk steps s 0 ≡ lines s
walk_is_lines = walk.walk_lines
