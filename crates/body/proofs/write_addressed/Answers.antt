-- A text and an identifier that a message may have, or 18. Assumes nothing.
use Rattle.body.proofs.TextWriting.{text_unfit, identifier_unfit, message_written}
use borrow.Author.Rules.{rules}
use Rattle.body.proofs.write_addressed.Goals as goal

pub returns-then-not-is_text : goal.returns-then-not-is_text
returns-then-not-is_text c = search (rules, text_unfit)

pub returns-then-w-ne0 : goal.returns-then-w-ne0
returns-then-w-ne0 c = search (rules, identifier_unfit)

pub returns : goal.returns
returns c = search (rules, message_written)
