-- `value`: so far v is the number of the digits passed, and at most the most.
-- Assumes nothing.
use Rattle.std.proofs.Common.{refl, arith, rules}
use Rattle.numbers.specs.Numbers.{number_of}
use Rattle.numbers.proofs.Counts.{digit_at, grown_more, grown_over, grown_all}
use Rattle.numbers.proofs.value.Goals as goal

pub loop-b-init : goal.loop-b-init
unfolding number_of
loop-b-init c = (omega arith, refl)

pub overflow_sub-v : goal.overflow_sub-v
overflow_sub-v c = omega (arith, digit_at c.args.s.now c.loop-b.b-index c.requires c.loop-b-test.true)

pub returns-then-most-v : goal.returns-then-most-v
returns-then-most-v c = search (rules, grown_over)

pub loop-b-preserved : goal.loop-b-preserved
loop-b-preserved c = (omega arith, search (rules, grown_more))

pub returns : goal.returns
returns c = search (rules, grown_all)
