-- The reader of characters: what is left of the text stands behind the bytes still owed. Assumes nothing.
use Rattle.std.proofs.Common.{◌≡◌, drop}
use Rattle.callsign.specs.Utf8.{owed, characters, utf8}
use Rattle.callsign.proofs.is_utf8.Given as goal

abbrev pub invariant-loop-b : goal.invariant-loop-b
invariant-loop-b l = utf8 l.t ≡ characters (owed l.owed.count l.owed.lowest l.owed.highest) (drop l.b-index l.t)
