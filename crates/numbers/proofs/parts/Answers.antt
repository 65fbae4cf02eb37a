-- `parts`: the sign is the test against 0. Assumes nothing.
use Rattle.std.proofs.Common.{nat_abs, ap, ◌∙◌}
use Rattle.numbers.proofs.Sign.{back, taken_apart}
use Rattle.numbers.proofs.parts.Goals as goal

pub returns : goal.returns
returns c = let z = c.args.angle in
    let same = back z c.ranges.angle in
    taken_apart z _ _ same (c.unsigned_abs.ensures.value ∙ ap nat_abs same)
