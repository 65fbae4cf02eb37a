-- The hops of a text: each part between commas is one, a Q element or a callsign, and their stars are carried back. Assumes nothing.
use Rattle.std.proofs.Common.{length}
use Rattle.header.proofs.TextHops.{Reading}
use Rattle.header.proofs.read_hops.Given as goal

abbrev pub invariant-loop-n : goal.invariant-loop-n
invariant-loop-n l = Reading l.s l.t l.hops l.n

abbrev pub decreases-loop-n : goal.decreases-loop-n
decreases-loop-n l = length l.t
