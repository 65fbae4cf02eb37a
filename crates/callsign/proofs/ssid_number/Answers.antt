-- An optional sign, and then digits. Assumes nothing.
use Rattle.std.proofs.Common.{rules}
use Rattle.callsign.proofs.Numbers.{no_ssid_number, signed, unsigned}
use Rattle.callsign.proofs.ssid_number.Goals as goal

pub returns-in-empty : goal.returns-in-empty
returns-in-empty c = search (rules, no_ssid_number)

pub returns-in-43 : goal.returns-in-43
returns-in-43 c = search (rules, signed)

pub returns-in_default : goal.returns-in_default
returns-in_default c = search (rules, unsigned)
