-- A walk over all bytes: each is zero as far as it came. Assumes nothing.
use Rattle.std.proofs.Common.{◌≡◌, ◌&&◌, drop}
use Rattle.laws.specs.Lists.{zeros}
use Rattle.message.proofs.is_blank.Given as goal

abbrev pub invariant-loop-b : goal.invariant-loop-b
invariant-loop-b l = zeros l.b-items ≡ (l.fine && zeros (drop l.b-index l.b-items))
