-- `bit_of`: each branch is a case of `bit_of`. Assumes nothing.
use Rattle.std.proofs.Common.{rules}
use Rattle.laws.proofs.Picks.{picks}
use Rattle.mic_e.proofs.Classes.{classes}
use Rattle.mic_e.specs.Character.{bit_of}
use Rattle.mic_e.proofs.bit_of.Goals as goal

pub returns-then-c-lt11 : goal.returns-then-c-lt11
unfolding bit_of
returns-then-c-lt11 c = search (rules, picks, classes)

pub returns-then-c-lt11-2 : goal.returns-then-c-lt11-2
unfolding bit_of
returns-then-c-lt11-2 c = search (rules, picks, classes)

pub returns-else-c-lt11-2 : goal.returns-else-c-lt11-2
unfolding bit_of
returns-else-c-lt11-2 c = search (rules, picks, classes)
