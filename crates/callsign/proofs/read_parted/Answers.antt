-- The two sides of a dash. Assumes nothing.
use Rattle.std.proofs.Common.{rules}
use Rattle.callsign.proofs.Texts.{no_call, no_ssid, ssid_zero, ssid_kept}
use Rattle.callsign.proofs.read_parted.Goals as goal
use Rattle.callsign.proofs.read_parted.Goals.{then-is_empty-via-then-is_empty, then-is_empty-via-else-is_empty+then-is_empty-2}

pub returns-then-is_empty : goal.returns-then-is_empty
returns-then-is_empty c = elim c.then-is_empty.branch [
  | then-is_empty-via-then-is_empty w ↦ search (rules, no_call)
  | then-is_empty-via-else-is_empty+then-is_empty-2 w ↦ search (rules, no_ssid)
]

pub returns-then-is_zero : goal.returns-then-is_zero
returns-then-is_zero c = search (rules, ssid_zero)

pub returns : goal.returns
returns c = search (rules, ssid_kept)
