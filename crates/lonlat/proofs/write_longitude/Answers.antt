-- `write_longitude`: the angle in range, and then the text. Assumes nothing.
use Rattle.numbers.proofs.Sign.{back}
use Rattle.lonlat.proofs.Writing.{longitude_far, longitude_wrote}
use Rattle.std.proofs.Common.{rules}
use Rattle.lonlat.proofs.write_longitude.Goals as goal

pub returns-then-sides-gt1080000 : goal.returns-then-sides-gt1080000
returns-then-sides-gt1080000 c = let g = back c.args.l.0 (record { sfits = search rules }) in search (rules, longitude_far)

pub returns : goal.returns
returns c = let g = back c.args.l.0 (record { sfits = search rules }) in search (rules, longitude_wrote)
