-- A frame by itself, and what it holds, as C has it. Assumes nothing.
use Rattle.boundary.proofs.Records.{held_frame_in_c, alone_frame_in_c}
use borrow.Author.Rules.{rules}
use Rattle.boundary.proofs.tusselgro_read_frame.Goals as goal

pub returns-then-holds_packet : goal.returns-then-holds_packet
returns-then-holds_packet c = search (rules, held_frame_in_c)

pub returns : goal.returns
returns c = search (rules, alone_frame_in_c)
