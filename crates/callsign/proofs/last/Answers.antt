-- `last` tests the low bit: computed at each byte. Assumes nothing.
use Rattle.std.proofs.Common.{not, eqb}
use lib.Bits.{bit_and}
use Rattle.laws.proofs.Every.{same_test}
use Rattle.callsign.specs.Address.{last_of}
use Rattle.callsign.proofs.last.Goals as goal

pub returns : goal.returns
unfolding last_of
returns c = same_test 256 (λ b. not (eqb (bit_and b 1) 0)) last_of tt c.args.b c.ranges.b.fits
