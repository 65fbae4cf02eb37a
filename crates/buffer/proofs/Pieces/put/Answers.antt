-- `put`: the writer gets what stands behind the bytes in use, and its answer says whether the piece fits.
-- Assumes nothing.
use Rattle.std.proofs.Common.{arith, rules}
use Rattle.buffer.proofs.Filled.{no_place_lem, place_within, put_as}
use Rattle.buffer.proofs.Pieces.put.Goals as goal

pub overflow_add-self : goal.overflow_add-self
overflow_add-self c = let p = c.args.self.now in
    omega (arith, place_within c.args.s.now p.bytes.now _ p.len 0 c.write-answer.result c.if-self.true c.write-answer.ensures)

pub returns-then-self-clause-value : goal.returns-then-self-clause-value
returns-then-self-clause-value c = search (rules, put_as)

pub returns-else-self-clause-value : goal.returns-else-self-clause-value
returns-else-self-clause-value c = search (rules, no_place_lem)
