-- `put_number`: the digits of the size, and a dash before them where the number is negative; a size has ten digits at most.
-- Assumes nothing.
use Rattle.std.proofs.Common.{◌<◌, arith, rules}
use Rattle.numbers.proofs.Digits.{size_short, plus_put, minus_put}
use Rattle.numbers.proofs.put_number.Goals as goal

pub overflow_sub-text : goal.overflow_sub-text
overflow_sub-text c = omega (arith, let short : 9 < c.spell-from.result = search (size_short, rules) in short)

pub overflow_sub-from : goal.overflow_sub-from
overflow_sub-from c = omega (arith, let short : 9 < c.spell-from.result = search (size_short, rules) in short)

pub returns-then-sides-clause-value : goal.returns-then-sides-clause-value
returns-then-sides-clause-value c = search (rules, minus_put, size_short)

pub returns-else-sides-clause-value : goal.returns-else-sides-clause-value
returns-else-sides-clause-value c = search (rules, plus_put)
