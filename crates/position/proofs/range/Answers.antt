-- `range`: half the width to either side. Assumes nothing.
use Rattle.position.specs.Bounds.{range_of}
use Rattle.position.proofs.Numerals.{two}
use Rattle.position.proofs.range.Goals as goal

pub returns : goal.returns
unfolding range_of
returns c = rw (two, c.degree_width-width.ensures)
