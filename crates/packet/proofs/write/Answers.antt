-- Nothing inside, the body and its destination; and then the header, the body and the text. Assumes nothing.
use Rattle.laws.proofs.Lists.{part_length}
use Rattle.packet.proofs.Lines.{inside_unwritten, inner_not_blank, body_within, tail_within, body_short, body_unwritten, body_written}
use borrow.Author.Rules.{rules, length_unmapped}
use Rattle.packet.proofs.write.Goals as goal

pub returns-then-r-ne0 : goal.returns-then-r-ne0
returns-then-r-ne0 c = search (rules, inside_unwritten)

pub returns-then-not-is_blank : goal.returns-then-not-is_blank
returns-then-not-is_blank c = search (rules, inner_not_blank)

pub returns-then-b-ne0 : goal.returns-then-b-ne0
returns-then-b-ne0 c = search (rules, body_unwritten)

pub slice_bounds-write_behind-end : goal.slice_bounds-write_behind-end
slice_bounds-write_behind-end c = search (rules, part_length, body_within)

pub slice_bounds-write_behind-end-2 : goal.slice_bounds-write_behind-end-2
slice_bounds-write_behind-end-2 c = search (rules, part_length, tail_within)

pub shared_ref_as_front-write_behind : goal.shared_ref_as_front-write_behind
shared_ref_as_front-write_behind c = search (rules, body_within)

pub shared_ref_as_front-write_behind-2 : goal.shared_ref_as_front-write_behind-2
shared_ref_as_front-write_behind-2 c = search (rules, tail_within)

pub write_behind-requires : goal.write_behind-requires
write_behind-requires c = search (rules, body_short, length_unmapped)

pub returns : goal.returns
returns c = search (rules, body_written)
