-- `longitude_bounds`: the one definition at the longitude's limit. Assumes nothing.
use Rattle.std.proofs.Common.{ℤ, ap, ◌∙◌, rules}
use Rattle.lonlat.specs.Angle.{most_longitude}
use Rattle.numbers.proofs.Sign.{back}
use Rattle.position.specs.Bounds.{bounds_of}
use Rattle.position.proofs.longitude_bounds.Goals as goal

pub returns : goal.returns
returns c = c.bounds_of.ensures ∙ ap (λ (z : ℤ). bounds_of most_longitude z c.args.blanks) (back c.args.l.0 (record { sfits = search rules }))
