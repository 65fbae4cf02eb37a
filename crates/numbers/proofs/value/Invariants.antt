-- `value`: so far v is the number of the digits passed, and at most the most.
-- Assumes nothing.
use Rattle.std.proofs.Common.{◌≡◌, ◌≤◌, drop}
use Rattle.numbers.specs.Numbers.{number_after, number_of}
use Rattle.numbers.proofs.value.Given as goal

abbrev pub invariant-loop-b : goal.invariant-loop-b
invariant-loop-b l = (l.v ≤ l.most) × (number_of l.s ≡ number_after l.v (drop l.b-index l.s))
