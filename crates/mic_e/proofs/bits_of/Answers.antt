-- `bits_of`: standard below 7, custom below 15, and else Unknown. Assumes nothing.
use Rattle.mic_e.proofs.Messages.{standard_bits, custom_bits, unknown_bits}
use Rattle.std.proofs.Common.{rules}
use Rattle.mic_e.proofs.bits_of.Goals as goal

pub returns-in-0-to-6 : goal.returns-in-0-to-6
returns-in-0-to-6 c = search (rules, standard_bits)

pub returns-in-7-to-14 : goal.returns-in-7-to-14
returns-in-7-to-14 c = search (rules, custom_bits)

pub returns-in_default : goal.returns-in_default
returns-in_default c = search (rules, unknown_bits)
