-- `unpadded`: each turn takes a space off the text.
-- Assumes nothing.
use lib.ListN.{length}
use Rattle.show.proofs.unpadded.Given as goal

abbrev pub decreases-loop-text : goal.decreases-loop-text
decreases-loop-text l = length l.text
