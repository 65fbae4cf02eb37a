-- `write_latitude`: the angle and the blanks in range, and then the text. Assumes nothing.
use Rattle.numbers.proofs.Sign.{back}
use Rattle.lonlat.proofs.Writing.{latitude_out, latitude_wrote}
use Rattle.std.proofs.Common.{rules}
use Rattle.lonlat.proofs.write_latitude.Goals as goal

pub returns-then-sides-gt540000 : goal.returns-then-sides-gt540000
returns-then-sides-gt540000 c = let g = back c.args.l.0 (record { sfits = search rules }) in search (rules, latitude_out)

pub returns : goal.returns
returns c = let g = back c.args.l.0 (record { sfits = search rules }) in search (rules, latitude_wrote)
