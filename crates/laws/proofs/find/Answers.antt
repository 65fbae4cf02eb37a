-- One place a turn, from where the search by fours left off. Assumes nothing.
use Rattle.std.proofs.Common.{arith}
use Rattle.laws.proofs.Search.{hit, miss, none}
use Rattle.laws.proofs.find.Goals as goal

pub returns-then-t-i : goal.returns-then-t-i
returns-then-t-i c = hit _ _ _ c.loop-i.invariant c.loop-i-test.true c.if-t-i.true

pub loop-i-preserved : goal.loop-i-preserved
loop-i-preserved c = miss _ _ _ c.loop-i.invariant _ (omega arith) c.loop-i-test.true c.if-t-i.false

pub returns : goal.returns
returns c = none _ _ _ c.loop-i.invariant c.loop-i-test.false
