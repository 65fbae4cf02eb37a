-- The header's refusal; or header and body in the scratch, and then the text and what follows it. Assumes nothing.
use Rattle.packet.proofs.Behind.{behind_refused, behind_written}
use borrow.Author.Rules.{rules}
use Rattle.packet.proofs.write_behind.Goals as goal

pub returns-then-w-ne0 : goal.returns-then-w-ne0
returns-then-w-ne0 c = search (rules, behind_refused)

pub returns : goal.returns
returns c = search (rules, behind_written)
