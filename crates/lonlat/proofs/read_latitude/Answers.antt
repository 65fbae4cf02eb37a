-- `read_latitude`: eight bytes with the point at its place, and then the six places and the letter. Assumes nothing.
use Rattle.std.proofs.Common.{◌≡◌, length, arith, rules}
use Rattle.lonlat.proofs.Reading.{latitude_length, latitude_point, latitude_whole}
use Rattle.lonlat.proofs.read_latitude.Goals as goal

pub returns-in_default : goal.returns-in_default
returns-in_default c = latitude_length c.args.s.now (λ eight. omega arith)

pub returns-in_default-2 : goal.returns-in_default-2
returns-in_default-2 c = latitude_length c.args.s.now (λ eight. omega arith)

pub returns-then-point-ne46 : goal.returns-then-point-ne46
returns-then-point-ne46 c = let eight : length c.args.s.now ≡ 8 = omega arith in search (rules, latitude_point)

pub returns : goal.returns
returns c = let eight : length c.args.s.now ≡ 8 = omega arith in search (rules, latitude_whole)
