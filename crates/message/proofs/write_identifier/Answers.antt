-- None, one that is not too long, or one that is. Assumes nothing.
use Rattle.std.proofs.Common.{◌<◌, length, arith, rules}
use Rattle.message.proofs.Writing.{identifier_none, identifier_over, identifier_wrote}
use Rattle.message.proofs.write_identifier.Goals as goal

pub returns-in-0 : goal.returns-in-0
returns-in-0 c = search (rules, identifier_none)

pub returns-in-1-to-5 : goal.returns-in-1-to-5
returns-in-1-to-5 c = identifier_wrote c.write_two.result c.args.out.now c.args.identifier.now (λ e. omega arith) (omega arith) c.write_two.new.out c.write_two.ensures

pub returns-in_default : goal.returns-in_default
returns-in_default c = let h : 5 < length c.args.identifier.now = omega arith in search (rules, identifier_over)
