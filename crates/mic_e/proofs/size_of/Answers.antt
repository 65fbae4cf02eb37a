-- `size_of` is the size of the two parts. Assumes nothing.
use Rattle.std.proofs.Common.{ap}
use Rattle.numbers.specs.Sign.{sides_of}
use Rattle.numbers.specs.declared.Sides.{Sides}
use Rattle.mic_e.proofs.size_of.Goals as goal

pub returns : goal.returns
unfolding sides_of
returns c = ap (λ (s : Sides). s.size) c.sides_of.ensures
