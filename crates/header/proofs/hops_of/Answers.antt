-- None behind a source that is the last address; else those of the walk. Assumes nothing.
use Rattle.header.proofs.Frames.{none_behind, some_behind}
use borrow.Author.Rules.{rules}
use Rattle.header.proofs.hops_of.Goals as goal

pub returns-then-last : goal.returns-then-last
returns-then-last c = search (rules, none_behind)

pub returns : goal.returns
returns c = search (rules, some_behind)
