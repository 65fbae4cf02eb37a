-- `digit_of`: each branch is a case of `digit_of`. Assumes nothing.
use Rattle.std.proofs.Common.{rules}
use Rattle.laws.proofs.Picks.{picks}
use Rattle.mic_e.proofs.Classes.{classes}
use Rattle.mic_e.specs.Character.{digit_of}
use Rattle.mic_e.proofs.digit_of.Goals as goal

pub returns-then-c-lt10 : goal.returns-then-c-lt10
unfolding digit_of
returns-then-c-lt10 c = search (rules, picks, classes)

pub returns-then-c-lt10-2 : goal.returns-then-c-lt10-2
unfolding digit_of
returns-then-c-lt10-2 c = search (rules, picks, classes)

pub returns-then-c-lt10-3 : goal.returns-then-c-lt10-3
unfolding digit_of
returns-then-c-lt10-3 c = search (rules, picks, classes)

pub returns-else-c-lt10-3 : goal.returns-else-c-lt10-3
unfolding digit_of
returns-else-c-lt10-3 c = search (rules, picks, classes)
