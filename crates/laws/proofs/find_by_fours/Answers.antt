-- Four places a turn, none of them b. Assumes nothing.
use Rattle.std.proofs.Common.{arith, rules}
use Rattle.laws.proofs.Search.{miss_one, miss_two, miss_three, miss_four}
use Rattle.laws.proofs.find_by_fours.Goals as goal

pub loop-i-init : goal.loop-i-init
loop-i-init c = (omega arith, omega arith)

pub returns-then-t-i-2 : goal.returns-then-t-i-2
returns-then-t-i-2 c = miss_one _ _ _ c.loop-i.invariant c.loop-i-test.true c.if-t-i.false

pub returns-then-t-i-3 : goal.returns-then-t-i-3
returns-then-t-i-3 c = miss_two _ _ _ c.loop-i.invariant c.loop-i-test.true c.if-t-i.false c.if-t-i-2.false

pub returns-then-t-i-4 : goal.returns-then-t-i-4
returns-then-t-i-4 c = miss_three _ _ _ c.loop-i.invariant c.loop-i-test.true c.if-t-i.false c.if-t-i-2.false c.if-t-i-3.false

pub loop-i-preserved : goal.loop-i-preserved
loop-i-preserved c = search (rules, miss_four)
