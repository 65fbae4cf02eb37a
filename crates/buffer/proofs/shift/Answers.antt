-- `shift`: bytes that there are, and else none.
-- Assumes nothing.
use Rattle.std.proofs.Common.{rules}
use Rattle.buffer.specs.Filled.{shifted}
use Rattle.buffer.proofs.shift.Goals as goal

pub returns-then-to-from : goal.returns-then-to-from
unfolding shifted
returns-then-to-from c = search rules

pub returns : goal.returns
unfolding shifted
returns c = search rules
