-- The box of the latitude that the number is, on the side that is told. Assumes nothing.
use mathlib.Core.Path.{◌∙◌, ap}
use lib.IntN.{ℤ}
use Rattle.lonlat.specs.Angle.{most_latitude}
use Rattle.numbers.proofs.Sign.{back}
use Rattle.position.specs.Page.{box_of}
use borrow.Author.Rules.{rules}
use Rattle.boundary.proofs.tusselgro_latitude_box.Goals as goal

pub returns : goal.returns
returns c = c.latitude_box.ensures ∙ ap (λ (z : ℤ). box_of most_latitude z c.args.blanks c.args.south) (back c.args.latitude (record { sfits = search rules }))
