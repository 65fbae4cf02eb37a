-- `read_longitude`: the blanks, nine bytes with the point at its place, and then the seven places and the letter. Assumes nothing.
use Rattle.std.proofs.Common.{◌≡◌, length, arith, rules}
use Rattle.lonlat.proofs.Reading.{longitude_many, longitude_length, longitude_point, longitude_whole}
use Rattle.lonlat.proofs.read_longitude.Goals as goal

pub returns-then-blanks-gt5 : goal.returns-then-blanks-gt5
returns-then-blanks-gt5 c = search (rules, longitude_many)

pub returns-in_default : goal.returns-in_default
returns-in_default c = longitude_length c.args.s.now c.args.blanks c.if-blanks-gt5.false (λ nine. omega arith)

pub returns-in_default-2 : goal.returns-in_default-2
returns-in_default-2 c = longitude_length c.args.s.now c.args.blanks c.if-blanks-gt5.false (λ nine. omega arith)

pub returns-then-point-ne46 : goal.returns-then-point-ne46
returns-then-point-ne46 c = let nine : length c.args.s.now ≡ 9 = omega arith in search (rules, longitude_point)

pub returns : goal.returns
returns c = let nine : length c.args.s.now ≡ 9 = omega arith in search (rules, longitude_whole)
