-- `fill`: what is moved to the front lies in the buffer.
-- Assumes nothing.
use Rattle.std.proofs.Common.{rules}
use Rattle.stream.proofs.Shifted.{kept_within}
use Rattle.stream.proofs.input.Reader.fill.Goals as goal

pub slice_bounds-read-count : goal.slice_bounds-read-count
slice_bounds-read-count g c = kept_within _ _ _ _ _ c.shift-held.ensures

pub slice_bounds-read-start : goal.slice_bounds-read-start
slice_bounds-read-start g c = let h = kept_within _ _ _ _ _ c.shift-held.ensures in search (rules, h)

pub invariant_of-self : goal.invariant_of-self
invariant_of-self g c = let h = kept_within _ _ _ _ _ c.shift-held.ensures in search (rules, h)

pub invariant_of-self-in-Break-1 : goal.invariant_of-self-in-Break-1
invariant_of-self-in-Break-1 g c = let h = kept_within _ _ _ _ _ c.shift-held.ensures in search (rules, h)

pub invariant_of-self-4 : goal.invariant_of-self-4
invariant_of-self-4 g c = let h = kept_within _ _ _ _ _ c.shift-held.ensures in search (rules, h)
