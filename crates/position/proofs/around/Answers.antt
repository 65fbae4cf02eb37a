-- `around`: twice the angle, less and more. Assumes nothing.
use Rattle.std.proofs.Common.{rules}
use Rattle.position.specs.Private.{box_around}
use Rattle.position.proofs.Boxes.{twice_fits, low_fits, high_fits, low_is, high_is}
use Rattle.position.proofs.around.Goals as goal

pub overflow_mul-twice : goal.overflow_mul-twice
overflow_mul-twice c = search (rules, twice_fits)

pub overflow_sub-result : goal.overflow_sub-result
overflow_sub-result c = search (rules, low_fits)

pub overflow_add-result : goal.overflow_add-result
overflow_add-result c = search (rules, high_fits)

pub returns : goal.returns
unfolding box_around
returns c = let a = c.args in
    let f = c.ranges in
    rw (low_is a.angle f.angle c.requires.0 a.below f.below c.requires.1, high_is a.angle f.angle c.requires.0 a.above f.above c.requires.2)
