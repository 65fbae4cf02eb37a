-- `put_fields`: number and answer, and the rest by the answer.
-- Assumes nothing.
use Rattle.row.proofs.Rows.{row_refused, row_accepted}
use Rattle.row.proofs.Fits.{refused_width, accepted_width}
use borrow.Author.Rules.{rules}
use Rattle.row.proofs.put_fields.Goals as goal

pub returns-then-read-ne0 : goal.returns-then-read-ne0
returns-then-read-ne0 c = record { written = search (rules, row_refused); width = search (rules, refused_width) }

pub returns-else-read-ne0 : goal.returns-else-read-ne0
returns-else-read-ne0 c = record { written = search (rules, row_accepted); width = search (rules, accepted_width) }
