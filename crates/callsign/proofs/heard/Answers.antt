-- `heard` tests bit 7: computed at each byte. Assumes nothing.
use Rattle.std.proofs.Common.{not, eqb}
use lib.Bits.{bit_and}
use Rattle.laws.proofs.Every.{same_test}
use Rattle.callsign.specs.Address.{heard_of}
use Rattle.callsign.proofs.heard.Goals as goal

pub returns : goal.returns
unfolding heard_of
returns c = same_test 256 (λ b. not (eqb (bit_and b 128) 0)) heard_of tt c.args.b c.ranges.b.fits
