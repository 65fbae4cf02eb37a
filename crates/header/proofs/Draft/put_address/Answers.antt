-- An address is put, or refused before any byte. Assumes nothing.
use Rattle.std.proofs.Common.{rules}
use Rattle.header.proofs.Pieces.{address_refused_lem, address_put}
use Rattle.header.proofs.Draft.put_address.Goals as goal

pub returns-then-a-eq0 : goal.returns-then-a-eq0
returns-then-a-eq0 c = search (rules, address_put)

pub returns-else-a-eq0 : goal.returns-else-a-eq0
returns-else-a-eq0 c = search (rules, address_refused_lem)
