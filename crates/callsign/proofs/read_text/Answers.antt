-- Nothing read, or the star off, and then the rest. Assumes nothing.
use Rattle.std.proofs.Common.{rules}
use Rattle.callsign.proofs.Texts.{none_read, starred, unstarred}
use Rattle.callsign.proofs.read_text.Goals as goal

pub returns-in-empty : goal.returns-in-empty
returns-in-empty c = search (rules, none_read)

pub returns-in-42 : goal.returns-in-42
returns-in-42 c = search (rules, starred)

pub returns-in_default : goal.returns-in_default
returns-in_default c = search (rules, unstarred)
