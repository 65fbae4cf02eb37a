-- The text, then the identifier, and then the whole. Assumes nothing.
use Rattle.laws.proofs.Lists.{part_length}
use Rattle.message.proofs.Writing.{message_no_text, message_no_identifier, tail_within, message_wrote}
use borrow.Author.Rules.{rules}
use Rattle.message.proofs.write_message.Goals as goal

pub returns-then-not-is_text : goal.returns-then-not-is_text
returns-then-not-is_text c = search (rules, message_no_text)

pub returns-then-w-ne0 : goal.returns-then-w-ne0
returns-then-w-ne0 c = search (rules, message_no_identifier)

pub slice_bounds-tail-end : goal.slice_bounds-tail-end
slice_bounds-tail-end c = search (rules, tail_within)

pub slice_bounds-write_three-end-2 : goal.slice_bounds-write_three-end-2
slice_bounds-write_three-end-2 c = search (rules, part_length, tail_within)

pub returns : goal.returns
returns c = search (rules, message_wrote)
