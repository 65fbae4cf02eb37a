-- std raises what the definition raises: computed at each byte. Assumes nothing.
use Rattle.std.proofs.Common.{◌∙◌}
use Rattle.std.specs.Char.{to_ascii_uppercase}
use Rattle.laws.specs.Bytes.{within, raised}
use Rattle.laws.proofs.Every.{same_below}
use Rattle.callsign.proofs.capital.Goals as goal

pub returns : goal.returns
unfolding raised within
returns c = c.to_ascii_uppercase.ensures.value ∙ same_below 256 to_ascii_uppercase raised tt c.args.c c.ranges.c.fits
