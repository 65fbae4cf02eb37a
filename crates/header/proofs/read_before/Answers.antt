-- Source up to the first `>`, the route after it. Assumes nothing.
use borrow.Author.Rules.{rules}
use Rattle.laws.proofs.Places.{found_part, found_next, found_fits}
use Rattle.header.proofs.Heads.{no_source, source_refused, source_read}
use Rattle.header.proofs.read_before.Goals as goal

pub returns-then-g-t : goal.returns-then-g-t
returns-then-g-t c = search (rules, no_source)

pub slice_bounds-read_text-end : goal.slice_bounds-read_text-end
slice_bounds-read_text-end c = search (rules, found_part)

pub returns-then-from-ne0 : goal.returns-then-from-ne0
returns-then-from-ne0 c = search (rules, source_refused)

pub overflow_add-g : goal.overflow_add-g
overflow_add-g c = search (rules, found_fits)

pub slice_bounds-read_route-count : goal.slice_bounds-read_route-count
slice_bounds-read_route-count c = search (rules, found_next)

pub slice_bounds-read_route-start : goal.slice_bounds-read_route-start
slice_bounds-read_route-start c = search (rules, found_next)

pub returns : goal.returns
returns c = search (rules, source_read)
