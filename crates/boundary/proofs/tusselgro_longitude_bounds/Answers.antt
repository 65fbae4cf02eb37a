-- The bounds of the longitude that the number is. Assumes nothing.
use mathlib.Core.Path.{◌∙◌, ap}
use lib.IntN.{ℤ}
use Rattle.lonlat.specs.Angle.{most_longitude}
use Rattle.numbers.proofs.Sign.{back}
use Rattle.position.specs.Bounds.{bounds_of}
use borrow.Author.Rules.{rules}
use Rattle.boundary.proofs.tusselgro_longitude_bounds.Goals as goal

pub returns : goal.returns
returns c = c.longitude_bounds.ensures ∙ ap (λ (z : ℤ). bounds_of most_longitude z c.args.blanks) (back c.args.longitude (record { sfits = search rules }))
