-- The call's characters one by one, and the seventh byte. Assumes nothing.
use Rattle.callsign.proofs.Sends.{Sent}
use Rattle.callsign.proofs.packed.Given as goal

abbrev pub invariant-loop-i : goal.invariant-loop-i
invariant-loop-i l = Sent l.call l.bytes l.i
