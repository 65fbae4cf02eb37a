-- `put_text`: a text and a byte, one behind the other.
-- Assumes nothing.
use Rattle.buffer.proofs.Filled.{two_added}
use borrow.Author.Rules.{rules}
use Rattle.row.proofs.put_text.Goals as goal

pub returns : goal.returns
returns c = search (rules, two_added)
