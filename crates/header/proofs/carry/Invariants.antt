-- Stars are carried back from the last hop to the first: those behind the next are done. Assumes nothing.
use Rattle.std.proofs.Common.{◌≡◌}
use Rattle.header.proofs.Stars.{Carrying}
use Rattle.header.proofs.carry.Given as goal

abbrev pub invariant-loop-i : goal.invariant-loop-i
invariant-loop-i l = Carrying l.fn.typed.hops l.fn.typed.count l.path.hops l.stars l.heard l.i × (l.path.count ≡ l.fn.typed.count)
