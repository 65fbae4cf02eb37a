-- Refused before any byte, or as its callsign is put. Assumes nothing.
use Rattle.std.proofs.Common.{rules}
use Rattle.header.proofs.HopsPut.{hop_out, hop_in}
use Rattle.header.proofs.Draft.put_hop.Goals as goal

pub returns-then-is_tidy_hop : goal.returns-then-is_tidy_hop
returns-then-is_tidy_hop c = search (rules, hop_in)

pub returns-else-is_tidy_hop : goal.returns-else-is_tidy_hop
returns-else-is_tidy_hop c = search (rules, hop_out)
