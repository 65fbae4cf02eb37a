-- The text of the longitude that the number is. Assumes nothing.
use mathlib.Core.Path.{ap, ◌∙◌}
use lib.IntN.{ℤ}
use Rattle.buffer.specs.Wrote.{wrote}
use Rattle.numbers.proofs.Sign.{back}
use Rattle.lonlat.specs.Longitude.{longitude_refusal, longitude_text}
use borrow.Author.Rules.{rules}
use Rattle.parts.proofs.tusselgro_write_longitude.Goals as goal

pub returns : goal.returns
returns c = let a = c.args in
    c.write_longitude.ensures ∙ ap (λ (z : ℤ). wrote (longitude_refusal z) (longitude_text z) a.out.now) (back a.longitude (record { sfits = search rules }))
