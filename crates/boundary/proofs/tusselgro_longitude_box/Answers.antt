-- The box of the longitude that the number is, on the side that is told. Assumes nothing.
use mathlib.Core.Path.{◌∙◌, ap}
use lib.IntN.{ℤ}
use Rattle.lonlat.specs.Angle.{most_longitude}
use Rattle.numbers.proofs.Sign.{back}
use Rattle.position.specs.Page.{box_of}
use borrow.Author.Rules.{rules}
use Rattle.boundary.proofs.tusselgro_longitude_box.Goals as goal

pub returns : goal.returns
returns c = c.longitude_box.ensures ∙ ap (λ (z : ℤ). box_of most_longitude z c.args.blanks c.args.west) (back c.args.longitude (record { sfits = search rules }))
