-- The bytes and the star go out together. Assumes nothing.
use Rattle.std.proofs.Common.{rules}
use Rattle.callsign.proofs.Writes.{with_star_lem, without_star}
use Rattle.callsign.proofs.write_starred.Goals as goal

pub returns-then-starred : goal.returns-then-starred
returns-then-starred c = search (rules, with_star_lem)

pub returns-else-starred : goal.returns-else-starred
returns-else-starred c = search (rules, without_star)
