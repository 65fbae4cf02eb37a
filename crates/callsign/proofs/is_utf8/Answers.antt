-- The reader of characters: what is left of the text stands behind the bytes still owed. Assumes nothing.
use Rattle.std.proofs.Common.{rules}
use Rattle.callsign.proofs.Unicode.{none_begun, span_below, span_above, span_passed, none_begins, ascii_passed, first_passed, all_passed}
use Rattle.callsign.proofs.is_utf8.Goals as goal
use Rattle.callsign.proofs.is_utf8.Goals.{then-owed-eq0+else-is_ascii+in-Some, else-owed-eq0+then-owed-b+then-b-owed, else-owed-b-via-then-owed-b+else-b-owed, else-owed-b-via-else-owed-b}

pub loop-b-init : goal.loop-b-init
loop-b-init c = rw c.new-owed.ensures (none_begun _)

pub returns-in_default : goal.returns-in_default
returns-in_default c = search (rules, none_begins)

pub returns-else-owed-b : goal.returns-else-owed-b
returns-else-owed-b c = elim c.else-owed-b.branch [ else-owed-b-via-then-owed-b+else-b-owed w ↦ search (rules, span_above) | else-owed-b-via-else-owed-b w ↦ search (rules, span_below) ]

pub loop-b-preserved-then-is_ascii : goal.loop-b-preserved-then-is_ascii
loop-b-preserved-then-is_ascii c = search (rules, ascii_passed)

pub loop-b-preserved : goal.loop-b-preserved
loop-b-preserved c = elim c.if-owed-eq0.branch [ then-owed-eq0+else-is_ascii+in-Some w ↦ rw w.owed-is (first_passed _ _ _ _ _ c.loop-b-test.true c.loop-b.invariant w.if-owed-eq0.true _ _ w.in-Some.is w.after_first.ensures) | else-owed-eq0+then-owed-b+then-b-owed w ↦ search (rules, span_passed) ]

pub returns : goal.returns
returns c = search (rules, all_passed)
