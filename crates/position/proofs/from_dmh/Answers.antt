-- `from_dmh`: the source's formula. Assumes nothing.
use Rattle.position.specs.Bounds.{from_dmh}
use Rattle.position.proofs.Numerals.{sixty, six_thousand}
use Rattle.position.proofs.from_dmh.Goals as goal

pub returns : goal.returns
unfolding from_dmh
returns c = rw (sixty, six_thousand)
