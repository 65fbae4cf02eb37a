-- Destination up to the first comma, hops after it. Assumes nothing.
use Rattle.laws.proofs.Places.{found_part, found_next, found_fits}
use Rattle.header.proofs.Heads.{to_refused, to_alone, to_hops_refused, to_hops}
use borrow.Author.Rules.{rules}
use Rattle.header.proofs.read_route.Goals as goal

pub slice_bounds-read_text-end : goal.slice_bounds-read_text-end
slice_bounds-read_text-end c = search (rules, found_part)

pub returns-then-to-ne0 : goal.returns-then-to-ne0
returns-then-to-ne0 c = search (rules, to_refused)

pub returns-then-d-t : goal.returns-then-d-t
returns-then-d-t c = search (rules, to_alone)

pub overflow_add-d : goal.overflow_add-d
overflow_add-d c = search (rules, found_fits)

pub slice_bounds-read_hops-count : goal.slice_bounds-read_hops-count
slice_bounds-read_hops-count c = search (rules, found_next)

pub slice_bounds-read_hops-start : goal.slice_bounds-read_hops-start
slice_bounds-read_hops-start c = search (rules, found_next)

pub returns-in-Err : goal.returns-in-Err
returns-in-Err c = search (rules, to_hops_refused)

pub returns-in-Ok : goal.returns-in-Ok
returns-in-Ok c = search (rules, to_hops)
