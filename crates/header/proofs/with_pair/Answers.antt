-- The control pair behind the addresses. Assumes nothing.
use Rattle.header.proofs.Frames.{no_pair, pair_there}
use borrow.Author.Rules.{rules}
use Rattle.header.proofs.with_pair.Goals as goal

pub returns-then-has_pair : goal.returns-then-has_pair
returns-then-has_pair c = search (rules, pair_there)

pub returns : goal.returns
returns c = search (rules, no_pair)
