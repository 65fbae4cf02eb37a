-- `put_hops`: the hops' number and the number of heard ones.
-- Assumes nothing.
use Rattle.row.proofs.Rows.{hops_put}
use Rattle.row.proofs.Fits.{hops_width}
use borrow.Author.Rules.{rules}
use Rattle.row.proofs.put_hops.Goals as goal

pub returns : goal.returns
returns c = record { written = search (rules, hops_put); width = search (rules, hops_width) }
