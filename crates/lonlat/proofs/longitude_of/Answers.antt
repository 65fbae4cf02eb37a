-- `longitude_of`: the one test on the size, and the number of one that small. Assumes nothing.
use Rattle.numbers.proofs.Sign.{back}
use Rattle.lonlat.proofs.Angle.{longitude_past, longitude_made, longitude_never}
use Rattle.std.proofs.Common.{rules}
use Rattle.lonlat.proofs.longitude_of.Goals as goal

pub returns-then-size-gt1080000 : goal.returns-then-size-gt1080000
returns-then-size-gt1080000 c = search (rules, longitude_past)

pub returns-in_err-angle : goal.returns-in_err-angle
returns-in_err-angle c = search (rules, longitude_never)

pub returns : goal.returns
returns c = search (rules, back, longitude_made, c.in_ok-angle.was)
