-- The length of the whole, and then the time in front. Assumes nothing.
use Rattle.std.proofs.Common.{rules}
use Rattle.message.proofs.Status.{status_long, status_read}
use Rattle.message.proofs.read_status.Goals as goal

pub returns-then-s-gt62 : goal.returns-then-s-gt62
returns-then-s-gt62 c = search (rules, status_long)

pub returns-else-s-gt62 : goal.returns-else-s-gt62
returns-else-s-gt62 c = search (rules, status_read)
