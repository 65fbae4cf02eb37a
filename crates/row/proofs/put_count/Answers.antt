-- `put_count`: the digits and a byte, one behind the other.
-- Assumes nothing.
use Rattle.buffer.proofs.Filled.{two_added}
use Rattle.row.proofs.Fits.{count_short}
use borrow.Author.Rules.{rules}
use Rattle.row.proofs.put_count.Goals as goal

pub returns : goal.returns
returns c = record { written = search (rules, two_added); width = search (rules, count_short) }
