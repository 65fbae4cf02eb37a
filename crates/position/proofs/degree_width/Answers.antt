-- `degree_width`: the width in hundredths of a minute, over a degree's. Assumes nothing.
use Rattle.position.proofs.Boxes.{width_held}
use Rattle.position.proofs.Floats.{degrees_wide}
use Rattle.position.proofs.Numerals.{six_thousand}
use Rattle.position.proofs.degree_width.Goals as goal

pub returns : goal.returns
returns c = rw (six_thousand, c.from.ensures, width_held c.args.blanks c.width.result c.width.ensures) (degrees_wide c.args.blanks)
