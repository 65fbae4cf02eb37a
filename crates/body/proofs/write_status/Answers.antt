-- Nothing but a time; and then a text that may stand behind it. Assumes nothing.
use Rattle.body.proofs.TextWriting.{status_time_out, status_text_unfit, status_len_fits, status_written}
use borrow.Author.Rules.{rules}
use Rattle.body.proofs.write_status.Goals as goal

pub overflow_add-t : goal.overflow_add-t
overflow_add-t c = search (rules, status_len_fits)

pub returns-then-t-ne0 : goal.returns-then-t-ne0
returns-then-t-ne0 c = search (rules, status_time_out)

pub returns-then-not-is_status_text : goal.returns-then-not-is_status_text
returns-then-not-is_status_text c = search (rules, status_text_unfit)

pub returns : goal.returns
returns c = search (rules, status_written)
