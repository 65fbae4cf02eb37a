-- The time, then the text, and then the whole. Assumes nothing.
use Rattle.laws.proofs.Lists.{part_length}
use Rattle.message.proofs.Writing.{status_no_time, head_within, status_no_text, status_wrote}
use borrow.Author.Rules.{rules}
use Rattle.message.proofs.write_status.Goals as goal

pub returns-then-w-ne0 : goal.returns-then-w-ne0
returns-then-w-ne0 c = search (rules, status_no_time)

pub returns-then-not-is_status_text : goal.returns-then-not-is_status_text
returns-then-not-is_status_text c = search (rules, status_no_text)

pub slice_bounds-head-end : goal.slice_bounds-head-end
slice_bounds-head-end c = search (rules, head_within)

pub slice_bounds-write_two-end : goal.slice_bounds-write_two-end
slice_bounds-write_two-end c = search (rules, part_length, head_within)

pub returns : goal.returns
returns c = search (rules, status_wrote)
