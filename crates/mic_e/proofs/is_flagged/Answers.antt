-- `is_flagged` tests the class of P to Z. Assumes nothing.
use Rattle.std.proofs.Common.{rules}
use Rattle.mic_e.proofs.Classes.{classes}
use Rattle.mic_e.proofs.is_flagged.Goals as goal

pub returns : goal.returns
returns c = search (rules, classes)
