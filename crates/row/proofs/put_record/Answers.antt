-- `put_record`: callsigns, hops and place, one behind the other.
-- Assumes nothing.
use Rattle.row.proofs.Rows.{record_put}
use Rattle.row.proofs.Fits.{record_width}
use borrow.Author.Rules.{rules}
use Rattle.row.proofs.put_record.Goals as goal

pub returns : goal.returns
returns c = record { written = search (rules, record_put); width = search (rules, record_width) }
