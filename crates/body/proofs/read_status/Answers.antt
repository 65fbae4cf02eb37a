-- Where the text stands behind the time. Assumes nothing.
use Rattle.body.proofs.Reading.{start_within_input}
use borrow.Author.Rules.{rules}
use Rattle.body.proofs.read_status.Goals as goal

pub span_from-requires : goal.span_from-requires
span_from-requires c = search (rules, start_within_input)
