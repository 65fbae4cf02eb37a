-- The header's refusal, or the body's. Assumes nothing.
use Rattle.packet.proofs.Behind.{beside_header, beside_body}
use borrow.Author.Rules.{rules}
use Rattle.packet.proofs.refused_beside.Goals as goal

pub returns-then-judged-ne0 : goal.returns-then-judged-ne0
returns-then-judged-ne0 c = search (rules, beside_header)

pub returns : goal.returns
returns c = search (rules, beside_body)
