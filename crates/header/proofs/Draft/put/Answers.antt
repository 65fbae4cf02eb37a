-- The writer gets what stands behind the pieces. Assumes nothing.
use Rattle.std.proofs.Common.{rules}
use Rattle.header.proofs.Pieces.{place_fits, piece_put, piece_room}
use Rattle.header.specs.Pieces.{plain}
use Rattle.header.proofs.Draft.put.Goals as goal

pub overflow_add-self : goal.overflow_add-self
overflow_add-self c = search (rules, place_fits)

pub invariant_of-self : goal.invariant_of-self
invariant_of-self c = piece_room _ _ _ _ (plain c.args.s.now) c.self.invariant c.write-w.ensures

pub returns : goal.returns
returns c = rw (← c.self.view_is) (piece_put _ _ _ _ (plain c.args.s.now) c.self.invariant c.write-w.ensures _ _ c.max-self-inside.ensures)
