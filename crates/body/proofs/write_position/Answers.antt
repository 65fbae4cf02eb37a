-- No report, no addressee; and then what the writers of a time and of a place say. Assumes nothing.
use Rattle.body.proofs.Writing.{time_out, behind_fits, behind_within, left_long, end_fits, position_out, position_written}
use borrow.Author.Rules.{rules}
use Rattle.body.proofs.write_position.Goals as goal

pub overflow_add-behind-2 : goal.overflow_add-behind-2
overflow_add-behind-2 c = search (rules, end_fits)

pub returns-then-t-ne0 : goal.returns-then-t-ne0
returns-then-t-ne0 c = search (rules, time_out)

pub overflow_add-behind : goal.overflow_add-behind
overflow_add-behind c = search (rules, behind_fits)

pub slice_bounds-write_position-count : goal.slice_bounds-write_position-count
slice_bounds-write_position-count c = search (rules, behind_within)

pub slice_bounds-bytes-start-2 : goal.slice_bounds-bytes-start-2
slice_bounds-bytes-start-2 c = search (rules, behind_within)

pub slice_bounds-bytes-end-2 : goal.slice_bounds-bytes-end-2
slice_bounds-bytes-end-2 c = search (rules, left_long)

pub returns-then-p-ne0 : goal.returns-then-p-ne0
returns-then-p-ne0 c = search (rules, position_out)

pub returns : goal.returns
returns c = search (rules, position_written)
