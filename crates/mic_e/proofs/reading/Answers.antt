-- `reading`: of a byte from 28 on the subtraction leaves what it stands for, and of one below it more than 227. Assumes nothing.
use Rattle.std.proofs.Common.{arith}
use Rattle.mic_e.proofs.Offset.{leaves, leaves_nothing}
use Rattle.mic_e.proofs.reading.Goals as goal

pub returns-then-reading-le227 : goal.returns-then-reading-le227
returns-then-reading-le227 c = leaves c.args.b _ (omega arith) c.if-reading-le227.true

pub returns-else-reading-le227 : goal.returns-else-reading-le227
returns-else-reading-le227 c = leaves_nothing c.args.b _ (omega arith) c.if-reading-le227.false (omega arith)
