-- A frame: 1 by its length, then destination, source and the rest. Assumes nothing.
use Rattle.laws.proofs.Lists.{part_length}
use Rattle.header.proofs.Frames.{no_destination, destination_refused, destination_last, destination_read}
use Rattle.laws.proofs.Picks.{picks}
use Rattle.header.specs.Frame.{read_frame_header}
use borrow.Author.Rules.{rules}
use Rattle.header.proofs.read_frame.Goals as goal

pub returns-then-s-gt-MOST_BYTES : goal.returns-then-s-gt-MOST_BYTES
unfolding read_frame_header
returns-then-s-gt-MOST_BYTES c = search (rules, picks)

pub returns-then-s-lt7 : goal.returns-then-s-lt7
returns-then-s-lt7 c = search (rules, no_destination)

pub slice_bounds-read_address-end : goal.slice_bounds-read_address-end
slice_bounds-read_address-end c = search (rules, part_length)

pub returns-then-to-ne0 : goal.returns-then-to-ne0
returns-then-to-ne0 c = search (rules, destination_refused)

pub returns-then-to : goal.returns-then-to
returns-then-to c = search (rules, destination_last)

pub returns : goal.returns
returns c = search (rules, destination_read)
