-- `bounds_of`: the angle in range, and then the range about it. Assumes nothing.
use Rattle.numbers.proofs.Sign.{back}
use Rattle.position.proofs.Floats.{no_bounds_lem, bounds_lem}
use Rattle.position.proofs.Numerals.{nought}
use Rattle.std.proofs.Common.{rules}
use Rattle.position.proofs.bounds_of.Goals as goal

pub returns-then-not-in_reach : goal.returns-then-not-in_reach
returns-then-not-in_reach c = let b = back c.args.angle c.ranges.angle in rw nought (search (rules, no_bounds_lem))

pub returns : goal.returns
returns c = let b = back c.args.angle c.ranges.angle in search (rules, bounds_lem)
