-- Six characters one by one, and the seventh byte. Assumes nothing.
use Rattle.callsign.proofs.Characters.{Sofar}
use Rattle.callsign.proofs.read_address.Given as goal

abbrev pub invariant-loop-d : goal.invariant-loop-d
invariant-loop-d l = Sofar l.b l.call l.n l.space l.d-index
