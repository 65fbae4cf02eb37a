-- 15 for a number of no message, else what mic_e writes. Assumes nothing.
use Rattle.numbers.proofs.Sign.{back}
use Rattle.parts.proofs.Parts.{no_message, of_message}
use borrow.Author.Rules.{rules}
use Rattle.parts.proofs.tusselgro_write_destination.Goals as goal

pub returns-then-message-gt15 : goal.returns-then-message-gt15
returns-then-message-gt15 c = search (rules, no_message)

pub returns : goal.returns
returns c = search (rules, of_message, back, rules)
