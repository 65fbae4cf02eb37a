-- `read_position`: 7, 10, 8, and then the longitude. Assumes nothing.
use Rattle.position.proofs.Reading.{position_compressed, position_short, latitude_refused, latitude_over, latitude_found}
use Rattle.std.proofs.Common.{rules}
use Rattle.position.proofs.read_position.Goals as goal
use Rattle.position.proofs.read_position.Goals.{in_default-via-in-Some+else-not-is_over, in_default-via-in_default}

pub returns-then-not-uncompressed : goal.returns-then-not-uncompressed
returns-then-not-uncompressed c = search (rules, position_compressed)

pub returns-then-s-lt19 : goal.returns-then-s-lt19
returns-then-s-lt19 c = search (rules, position_short)

pub returns-in-Some : goal.returns-in-Some
returns-in-Some c = search (rules, latitude_found)

pub returns-in_default : goal.returns-in_default
returns-in_default c = elim c.in_default.branch [
  | in_default-via-in-Some+else-not-is_over w ↦ search (rules, latitude_over)
  | in_default-via-in_default w ↦ search (rules, latitude_refused)
]
