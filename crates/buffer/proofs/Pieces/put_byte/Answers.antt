-- `put_byte`: a byte stored at its place, or no place.
-- Assumes nothing.
use Rattle.std.proofs.Common.{rules}
use Rattle.buffer.proofs.Filled.{byte_not, byte_stored}
use Rattle.buffer.proofs.Pieces.put_byte.Goals as goal

pub returns-then-self-clause-value : goal.returns-then-self-clause-value
returns-then-self-clause-value c = search (rules, byte_stored)

pub returns-else-self-clause-value : goal.returns-else-self-clause-value
returns-else-self-clause-value c = search (rules, byte_not)
