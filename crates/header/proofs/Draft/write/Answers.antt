-- A refusal that was kept, or the bytes in use. Assumes nothing.
use Rattle.std.proofs.Common.{refl}
use Rattle.buffer.specs.Filled.{front_of}
use Rattle.buffer.proofs.Wrote.{passed_on}
use Rattle.header.proofs.Pieces.{accepted_out}
use Rattle.header.proofs.Draft.write.Goals as goal

pub returns-then-self-ne0 : goal.returns-then-self-ne0
returns-then-self-ne0 c = rw (← c.self.view_is) (passed_on _ _ _ _ _ c.refused.ensures c.if-self-ne0.true refl)

pub returns : goal.returns
unfolding front_of
returns c = rw (← c.self.view_is) (accepted_out _ _ _ _ c.if-self-ne0.false c.write.ensures)
