-- With a time, the length; without one, the length and what the text starts with. Assumes nothing.
use Rattle.std.proofs.Common.{◌∙◌, rules}
use Rattle.std.proofs.lemmas.Bool.{lt-leb}
use Rattle.message.proofs.Status.{timed_text, text_over, timeless_text}
use Rattle.message.proofs.is_status_text.Goals as goal

pub returns-then-t-ne0 : goal.returns-then-t-ne0
returns-then-t-ne0 c = search (rules, timed_text)

pub returns-then-text-le62 : goal.returns-then-text-le62
returns-then-text-le62 c = search (rules, timeless_text)

pub returns-else-text-le62 : goal.returns-else-text-le62
returns-else-text-le62 c = lt-leb _ _ c.if-text-le62.false ∙ text_over c.args.t c.args.text.now c.if-t-ne0.false c.if-text-le62.false
