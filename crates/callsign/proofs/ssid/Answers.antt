-- `ssid` keeps four bits: a mask is a remainder. Assumes nothing.
use Rattle.std.proofs.Common.{◌/◌}
use lib.Bits.{and_mask}
use Rattle.callsign.specs.Address.{ssid_of}
use Rattle.callsign.proofs.ssid.Goals as goal

pub returns : goal.returns
unfolding ssid_of
returns c = and_mask (c.args.b / 2) 4
