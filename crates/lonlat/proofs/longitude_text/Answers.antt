-- `longitude_text`: seven digits, the point and the letter. Assumes nothing.
use Rattle.lonlat.proofs.Writing.{longitude_made}
use Rattle.std.proofs.Common.{rules}
use Rattle.lonlat.proofs.longitude_text.Goals as goal

pub returns : goal.returns
returns c = search (rules, longitude_made)
