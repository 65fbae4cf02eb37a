-- Source, its hops, and the control pair. Assumes nothing.
use Rattle.header.proofs.Frames.{hops_count, no_source, source_refused, source_hops_refused, source_hops}
use borrow.Author.Rules.{rules}
use Rattle.header.proofs.read_source.Goals as goal

pub returns-then-s-lt14 : goal.returns-then-s-lt14
returns-then-s-lt14 c = search (rules, no_source)

pub returns-then-from-ne0 : goal.returns-then-from-ne0
returns-then-from-ne0 c = search (rules, source_refused)

pub returns-in-Err : goal.returns-in-Err
returns-in-Err c = search (rules, source_hops_refused)

pub with_pair-requires : goal.with_pair-requires
with_pair-requires c = search (rules, hops_count)

pub returns-in-Ok : goal.returns-in-Ok
returns-in-Ok c = search (rules, source_hops)
