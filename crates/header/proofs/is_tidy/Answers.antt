-- The number of hops, and the spare ones. Assumes nothing.
use borrow.Author.Rules.{rules, length_unmapped}
use Rattle.header.proofs.InRange.{tidy_by}
use Rattle.header.proofs.is_tidy.Goals as goal

pub returns-then-p-le8 : goal.returns-then-p-le8
returns-then-p-le8 c = search (rules, tidy_by, length_unmapped)
