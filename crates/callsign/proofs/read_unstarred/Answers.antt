-- A text without its star: too long, not UTF-8, without a dash, or by its two sides. Assumes nothing.
use Rattle.std.proofs.Common.{rules}
use Rattle.laws.proofs.Places.{found_part, found_next, found_fits}
use Rattle.callsign.proofs.Padded.{front_padded}
use Rattle.callsign.proofs.Texts.{too_long, no_utf8, undashed, dashed, sides, split}
use Rattle.callsign.proofs.read_unstarred.Goals as goal

pub returns-then-t-gt16 : goal.returns-then-t-gt16
returns-then-t-gt16 c = search (rules, too_long)

pub is_text-requires : goal.is_text-requires
is_text-requires c = search (rules, front_padded)

pub returns-then-not-is_text : goal.returns-then-not-is_text
returns-then-not-is_text c = search (rules, no_utf8)

pub returns-then-d-t : goal.returns-then-d-t
returns-then-d-t c = search (rules, undashed)

pub slice_bounds-read_parted-end : goal.slice_bounds-read_parted-end
slice_bounds-read_parted-end c = found_part _ _ _ c.find-d.ensures

pub overflow_add-d : goal.overflow_add-d
overflow_add-d c = search (rules, found_fits)

pub slice_bounds-read_parted-count : goal.slice_bounds-read_parted-count
slice_bounds-read_parted-count c = search (rules, found_next)

pub slice_bounds-read_parted-start : goal.slice_bounds-read_parted-start
slice_bounds-read_parted-start c = search (rules, found_next)

pub read_parted-requires : goal.read_parted-requires
read_parted-requires c = (search (rules, sides), search (rules, split))

pub returns : goal.returns
returns c = search (rules, dashed)
