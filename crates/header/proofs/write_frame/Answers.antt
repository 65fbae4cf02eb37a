-- 15 for a path that is not tidy; else the pieces of the frame decide. Assumes nothing.
use borrow.Author.Rules.{rules, length_unmapped}
use Rattle.header.proofs.InRange.{judged_count}
use Rattle.header.proofs.FrameWritten.{frame_untidy, frame_out}
use Rattle.header.proofs.write_frame.Goals as goal

pub returns-then-not-is_tidy : goal.returns-then-not-is_tidy
returns-then-not-is_tidy c = search (rules, frame_untidy)

pub shared_ref_as_front-hops : goal.shared_ref_as_front-hops
shared_ref_as_front-hops c = search (rules, judged_count, length_unmapped)

pub returns : goal.returns
returns c = search (rules, frame_out)
