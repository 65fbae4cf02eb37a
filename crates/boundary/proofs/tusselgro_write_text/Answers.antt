-- 15 for an unknown number, else what packet writes. Assumes nothing.
use Rattle.boundary.proofs.Writing.{text_unknown, text_known}
use borrow.Author.Rules.{rules}
use Rattle.boundary.proofs.tusselgro_write_text.Goals as goal

pub returns-then-not-is_known : goal.returns-then-not-is_known
returns-then-not-is_known c = search (rules, text_unknown)

pub returns : goal.returns
returns c = search (rules, text_known)
