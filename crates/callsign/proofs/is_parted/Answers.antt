-- What stands behind the call, by the SSID's length. Assumes nothing.
use Rattle.std.proofs.Common.{rules}
use borrow.Author.Rules.{length_unmapped}
use Rattle.callsign.proofs.Ranges.{none_parted, dash_inside, ssid_inside, undashed, one_parted, more_parted}
use Rattle.callsign.proofs.is_parted.Goals as goal

pub bounds-c-n : goal.bounds-c-n
bounds-c-n c = search (rules, dash_inside)

pub bounds-c-n-then-c-n-eq45 : goal.bounds-c-n-then-c-n-eq45
bounds-c-n-then-c-n-eq45 c = search (rules, ssid_inside)

pub bounds-c-n-in_default : goal.bounds-c-n-in_default
bounds-c-n-in_default c = search (rules, dash_inside)

pub returns-in-0 : goal.returns-in-0
returns-in-0 c = search (rules, none_parted)

pub returns-then-c-n-eq45 : goal.returns-then-c-n-eq45
returns-then-c-n-eq45 c = search (rules, one_parted, length_unmapped)

pub returns-else-c-n-eq45 : goal.returns-else-c-n-eq45
returns-else-c-n-eq45 c = search (rules, undashed)

pub returns-in_default : goal.returns-in_default
returns-in_default c = search (rules, more_parted, length_unmapped)
