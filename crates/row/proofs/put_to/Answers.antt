-- `put_to`: the outermost destination, by the number of packets inside.
-- Assumes nothing.
use Rattle.row.proofs.Rows.{to_put, outer_to_put}
use Rattle.row.proofs.Fits.{to_width, outer_to_width}
use borrow.Author.Rules.{rules}
use Rattle.row.proofs.put_to.Goals as goal

pub returns-then-inner-eq0 : goal.returns-then-inner-eq0
returns-then-inner-eq0 c = record { written = search (rules, to_put); width = search (rules, to_width) }

pub returns-else-inner-eq0 : goal.returns-else-inner-eq0
returns-else-inner-eq0 c = record { written = search (rules, outer_to_put); width = search (rules, outer_to_width) }
