-- The call's characters one by one, and the seventh byte. Assumes nothing.
use Rattle.std.proofs.Common.{rules}
use Rattle.callsign.proofs.Sends.{start, sends, not_sent, all_sent, too_long}
use Rattle.callsign.proofs.packed.Goals as goal

pub returns-then-call-gt6 : goal.returns-then-call-gt6
returns-then-call-gt6 c = search (rules, too_long)

pub loop-i-init : goal.loop-i-init
loop-i-init c = search (rules, start)

pub returns-then-not-letter_or_digit : goal.returns-then-not-letter_or_digit
returns-then-not-letter_or_digit c = search (rules, not_sent)

pub loop-i-preserved : goal.loop-i-preserved
loop-i-preserved c = search (rules, sends)

pub returns : goal.returns
returns c = search (rules, all_sent)
