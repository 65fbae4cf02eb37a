-- `latitude_text`: six digits, the last of them blank, the point and the letter. Assumes nothing.
use Rattle.lonlat.proofs.Writing.{latitude_made}
use Rattle.std.proofs.Common.{rules}
use Rattle.lonlat.proofs.latitude_text.Goals as goal

pub returns : goal.returns
returns c = search (rules, latitude_made)
