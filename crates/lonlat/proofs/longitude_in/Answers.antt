-- `longitude_in`: the letter, and then the angle of the digits. Assumes nothing.
use Rattle.lonlat.proofs.Reading.{longitude_letter, longitude_bad, longitude_found}
use Rattle.numbers.proofs.Sign.{back}
use Rattle.std.proofs.Common.{rules}
use Rattle.lonlat.proofs.longitude_in.Goals as goal

pub returns-in_err-west : goal.returns-in_err-west
returns-in_err-west c = search (rules, longitude_letter)

pub returns-in_err-read : goal.returns-in_err-read
returns-in_err-read c = search (rules, longitude_bad, c.in_ok-west.was)

pub returns : goal.returns
returns c = search (rules, back, longitude_found, c.in_ok-west.was, c.in_ok-read.was)
