-- The bounds of the latitude that the number is. Assumes nothing.
use mathlib.Core.Path.{◌∙◌, ap}
use lib.IntN.{ℤ}
use Rattle.lonlat.specs.Angle.{most_latitude}
use Rattle.numbers.proofs.Sign.{back}
use Rattle.position.specs.Bounds.{bounds_of}
use borrow.Author.Rules.{rules}
use Rattle.boundary.proofs.tusselgro_latitude_bounds.Goals as goal

pub returns : goal.returns
returns c = c.latitude_bounds.ensures ∙ ap (λ (z : ℤ). bounds_of most_latitude z c.args.blanks) (back c.args.latitude (record { sfits = search rules }))
