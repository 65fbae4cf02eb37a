-- The type byte, the 8 of the information, and the six characters. Assumes nothing.
use Rattle.body.specs.Written.{information_of}
use Rattle.body.proofs.Writing.{report_out, report_written}
use borrow.Author.Rules.{rules}
use Rattle.body.proofs.write_report.Goals as goal

pub returns-then-w-ne0 : goal.returns-then-w-ne0
unfolding information_of
returns-then-w-ne0 c = search (rules, report_out)

pub returns : goal.returns
unfolding information_of
returns c = search (rules, report_written)
