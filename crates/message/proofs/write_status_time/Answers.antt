-- The letter, and then what the writer of times does. Assumes nothing.
use Rattle.std.proofs.Common.{arith}
use Rattle.message.proofs.Writing.{letter_out, time_wrote}
use Rattle.message.proofs.write_status_time.Goals as goal

pub returns-in-0 : goal.returns-in-0
returns-in-0 c = time_wrote c.args.t c.write_time.result c.args.out.now c.in-0.is c.write_time.new.out c.write_time.ensures

pub returns-in_default : goal.returns-in_default
returns-in_default c = letter_out c.args.t c.refused.result c.args.out.now (λ e. grind arith) (λ e. grind arith) c.refused.ensures
