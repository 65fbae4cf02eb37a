-- `put_number`: the number's text and a byte, one behind the other.
-- Assumes nothing.
use Rattle.row.proofs.Rows.{number_put}
use Rattle.numbers.proofs.Digits.{number_width}
use borrow.Author.Rules.{rules}
use Rattle.row.proofs.put_number.Goals as goal

pub returns : goal.returns
returns c = record { written = search (rules, number_put); width = search (rules, number_width) }
