-- `spell`: the digits behind the place are the number's last ones, and those before them are what is left of it. The
-- measure is that rest.
-- Assumes nothing.
use Rattle.std.proofs.Common.{rules}
use Rattle.std.proofs.Common.{arith, length-set}
use Rattle.numbers.proofs.Digits.{spelt_none, spelt_more, spelt_all}
use Rattle.numbers.proofs.spell.Goals as goal

pub loop-rest-init : goal.loop-rest-init
loop-rest-init c = spelt_none c.args.n c.args.text.now (omega arith) c.requires

pub loop-rest-preserved : goal.loop-rest-preserved
loop-rest-preserved c = search (rules, spelt_more)

pub shape_of-text : goal.shape_of-text
shape_of-text c = simp length-set (omega arith)

pub returns : goal.returns
returns c = (omega arith, search (rules, spelt_all))
