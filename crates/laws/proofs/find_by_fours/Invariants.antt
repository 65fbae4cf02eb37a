-- Four places a turn, none of them b. Assumes nothing.
use Rattle.std.proofs.Common.{◌-◌, length}
use Rattle.laws.proofs.Search.{NoneBefore}
use Rattle.laws.proofs.find_by_fours.Given as goal

abbrev pub invariant-loop-i : goal.invariant-loop-i
invariant-loop-i l = NoneBefore l.b l.t l.i

abbrev pub decreases-loop-i : goal.decreases-loop-i
decreases-loop-i l = length l.t - l.i
