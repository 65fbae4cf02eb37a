-- 2 without a colon, else what stands before it. Assumes nothing.
use Rattle.laws.proofs.Places.{found_part, found_fits}
use Rattle.header.proofs.Heads.{no_colon, at_colon}
use borrow.Author.Rules.{rules}
use Rattle.header.proofs.read_any_length.Goals as goal

pub returns-then-c-s : goal.returns-then-c-s
returns-then-c-s c = search (rules, no_colon)

pub slice_bounds-read_before-end : goal.slice_bounds-read_before-end
slice_bounds-read_before-end c = search (rules, found_part)

pub overflow_add-c : goal.overflow_add-c
overflow_add-c c = search (rules, found_fits)

pub returns : goal.returns
returns c = search (rules, at_colon)
