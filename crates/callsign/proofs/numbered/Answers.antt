-- Call, dash and digits go in one after the other. Assumes nothing.
use Rattle.std.proofs.Common.{rules}
use Rattle.callsign.proofs.Digits.{no_number, one_digit, two_digits}
use Rattle.callsign.proofs.numbered.Goals as goal

pub returns-then-ssid-eq0 : goal.returns-then-ssid-eq0
returns-then-ssid-eq0 c = search (rules, no_number)

pub returns-then-ssid-lt10 : goal.returns-then-ssid-lt10
returns-then-ssid-lt10 c = search (rules, one_digit)

pub returns : goal.returns
returns c = search (rules, two_digits)
