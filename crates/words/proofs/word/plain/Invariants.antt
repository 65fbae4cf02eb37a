-- `plain`: each turn takes a character or more off the text.
-- Assumes nothing.
use lib.ListN.{length}
use Rattle.words.proofs.word.plain.Given as goal

abbrev pub decreases-loop-left : goal.decreases-loop-left
decreases-loop-left l = length l.left
