-- The fields of the longitude that the number is. Assumes nothing.
use mathlib.Core.Path.{ap, ◌∙◌}
use lib.IntN.{ℤ}
use Rattle.numbers.proofs.Sign.{back}
use Rattle.lonlat.specs.Longitude.{longitude_refusal}
use Rattle.fields.specs.Lists.{listed, longitude_fields}
use borrow.Author.Rules.{rules}
use Rattle.boundary.proofs.tusselgro_list_longitude.Goals as goal

pub returns : goal.returns
returns c = let a = c.args in
    c.list_longitude.ensures ∙ ap (λ (z : ℤ). listed (longitude_refusal z) (longitude_fields a.hundred a.west z) a.out.now) (back a.longitude (record { sfits = search rules }))
