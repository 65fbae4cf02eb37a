-- 18 for an addressee of another length, else what message writes. Assumes nothing.
use Rattle.parts.proofs.Parts.{not_nine, to_nine}
use borrow.Author.Rules.{rules}
use Rattle.parts.proofs.tusselgro_write_message.Goals as goal

pub returns-then-addressee-ne9 : goal.returns-then-addressee-ne9
returns-then-addressee-ne9 c = search (rules, not_nine)

pub returns : goal.returns
returns c = search (rules, to_nine)
