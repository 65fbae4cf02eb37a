-- The range, and then the text in use. Assumes nothing.
use borrow.Author.Rules.{rules, length_unmapped}
use Rattle.header.proofs.InRange.{named}
use Rattle.header.proofs.is_named.Goals as goal

pub returns-then-in_range : goal.returns-then-in_range
returns-then-in_range c = search (rules, named, length_unmapped)
