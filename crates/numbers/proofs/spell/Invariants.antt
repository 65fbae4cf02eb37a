-- `spell`: the digits behind the place are the number's last ones, and those before them are what is left of it. The
-- measure is that rest.
-- Assumes nothing.
use Rattle.numbers.proofs.Digits.{Spelt}
use Rattle.numbers.proofs.spell.Given as goal

abbrev pub invariant-loop-rest : goal.invariant-loop-rest
invariant-loop-rest l = Spelt l.n l.text l.at l.rest

abbrev pub decreases-loop-rest : goal.decreases-loop-rest
decreases-loop-rest l = l.rest
