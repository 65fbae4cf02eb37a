-- `latitude_box`: the one definition at the latitude's limit. Assumes nothing.
use Rattle.std.proofs.Common.{ℤ, ap, ◌∙◌, rules}
use Rattle.lonlat.specs.Angle.{most_latitude}
use Rattle.numbers.proofs.Sign.{back}
use Rattle.position.specs.Page.{box_of}
use Rattle.position.proofs.latitude_box.Goals as goal

pub returns : goal.returns
returns c = c.box_of.ensures ∙ ap (λ (z : ℤ). box_of most_latitude z c.args.blanks c.args.south) (back c.args.l.0 (record { sfits = search rules }))
