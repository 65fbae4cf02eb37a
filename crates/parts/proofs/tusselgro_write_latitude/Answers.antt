-- The text of the latitude that the number is. Assumes nothing.
use mathlib.Core.Path.{ap, ◌∙◌}
use lib.IntN.{ℤ}
use Rattle.buffer.specs.Wrote.{wrote}
use Rattle.numbers.proofs.Sign.{back}
use Rattle.lonlat.specs.Latitude.{latitude_refusal, latitude_text}
use borrow.Author.Rules.{rules}
use Rattle.parts.proofs.tusselgro_write_latitude.Goals as goal

pub returns : goal.returns
returns c = let a = c.args in
    c.write_latitude.ensures ∙ ap (λ (z : ℤ). wrote (latitude_refusal z a.blanks) (latitude_text z a.blanks) a.out.now) (back a.latitude (record { sfits = search rules }))
