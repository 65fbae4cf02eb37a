-- Refused before any byte; nothing of a Q element; or as its callsign's address is put. Assumes nothing.
use Rattle.std.proofs.Common.{rules}
use Rattle.header.proofs.HopsPut.{address_out, q_left_out, address_in}
use Rattle.header.proofs.Draft.put_hop_address.Goals as goal

pub returns-then-not-is_tidy_hop : goal.returns-then-not-is_tidy_hop
returns-then-not-is_tidy_hop c = search (rules, address_out)

pub returns-then-h-eq-Q_ELEMENT : goal.returns-then-h-eq-Q_ELEMENT
returns-then-h-eq-Q_ELEMENT c = search (rules, q_left_out)

pub returns-else-h-eq-Q_ELEMENT : goal.returns-else-h-eq-Q_ELEMENT
returns-else-h-eq-Q_ELEMENT c = search (rules, address_in)
