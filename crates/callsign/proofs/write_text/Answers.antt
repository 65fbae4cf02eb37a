-- The range, and then the text in use. Assumes nothing.
use Rattle.callsign.proofs.Writes.{text_refused, text_written}
use Rattle.std.proofs.Common.{rules}
use borrow.Author.Rules.{length_unmapped}
use Rattle.callsign.proofs.write_text.Goals as goal

pub returns-then-not-in_range : goal.returns-then-not-in_range
returns-then-not-in_range c = search (rules, text_refused)

pub returns : goal.returns
returns c = search (rules, text_written, length_unmapped)
