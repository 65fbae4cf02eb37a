-- Stars are carried back from the last hop to the first. Assumes nothing.
use Rattle.std.proofs.Common.{rules, refl}
use Rattle.header.proofs.Stars.{carrying_start, twice_fits, star_fits, carrying_more, carrying_done}
use Rattle.header.proofs.carry.Goals as goal

pub loop-i-init : goal.loop-i-init
loop-i-init c = (search (rules, carrying_start), refl)

pub overflow_mul-stars : goal.overflow_mul-stars
overflow_mul-stars c = search (rules, twice_fits)

pub overflow_add-stars : goal.overflow_add-stars
overflow_add-stars c = search (rules, star_fits)

pub loop-i-preserved : goal.loop-i-preserved
loop-i-preserved c = (search (rules, carrying_more), c.loop-i.invariant.1)

pub returns : goal.returns
returns c = search (rules, carrying_done)
