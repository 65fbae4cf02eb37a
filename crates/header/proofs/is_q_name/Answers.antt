-- By the third byte, if the first two are `qA`. Assumes nothing.
use Rattle.std.proofs.Common.{rules}
use Rattle.header.proofs.Hops.{name_by_third, name_by_start}
use Rattle.header.proofs.is_q_name.Goals as goal

pub returns-in-Some : goal.returns-in-Some
returns-in-Some c = search (rules, name_by_third)

pub returns-in-None : goal.returns-in-None
returns-in-None c = search (rules, name_by_start)
