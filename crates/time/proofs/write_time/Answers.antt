-- No time, then the range, and then the text. Assumes nothing.
use Rattle.time.proofs.Writing.{none_wrote, time_out, time_wrote}
use Rattle.std.proofs.Common.{rules}
use Rattle.time.proofs.write_time.Goals as goal

pub returns-then-is_blank : goal.returns-then-is_blank
returns-then-is_blank c = search (rules, none_wrote)

pub returns-then-not-is_time : goal.returns-then-not-is_time
returns-then-not-is_time c = search (rules, time_out)

pub returns : goal.returns
returns c = search (rules, time_wrote)
