-- 15 for a path that is not tidy; else the pieces of the text decide. Assumes nothing.
use borrow.Author.Rules.{rules, length_unmapped}
use Rattle.header.proofs.InRange.{judged_count}
use Rattle.header.proofs.TextWritten.{text_untidy, text_out}
use Rattle.header.proofs.write_text.Goals as goal

pub returns-then-not-is_tidy : goal.returns-then-not-is_tidy
returns-then-not-is_tidy c = search (rules, text_untidy)

pub shared_ref_as_front-put_hops : goal.shared_ref_as_front-put_hops
shared_ref_as_front-put_hops c = search (rules, judged_count, length_unmapped)

pub returns : goal.returns
returns c = search (rules, text_out)
