-- `angle_in`: the value of the digits against the limit, and then its side. Assumes nothing.
use Rattle.numbers.proofs.Sign.{back}
use Rattle.lonlat.proofs.Reading.{angle_none, angle_big, angle_of, angle_never}
use Rattle.std.proofs.Common.{rules}
use Rattle.lonlat.proofs.angle_in.Goals as goal

pub returns-in_err-size : goal.returns-in_err-size
returns-in_err-size c = search (rules, angle_none)

pub returns-then-most-size : goal.returns-then-most-size
returns-then-most-size c = search (rules, angle_big)

pub returns-in_err-angle : goal.returns-in_err-angle
returns-in_err-angle c = search (rules, angle_never, c.in_ok-size.was)

pub returns : goal.returns
returns c = search (rules, back, angle_of, c.in_ok-size.was, c.in_ok-angle.was)
