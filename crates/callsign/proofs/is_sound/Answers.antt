-- UTF-8 in front, and zeros behind. Assumes nothing.
use Rattle.std.proofs.Common.{◌∙◌, rules}
use Rattle.laws.proofs.Picks.{and_no, picks}
use Rattle.callsign.specs.Range.{sound}
use Rattle.callsign.proofs.is_sound.Goals as goal

pub returns-then-is_text : goal.returns-then-is_text
unfolding sound
returns-then-is_text c = search (rules, picks)

pub returns-else-is_text : goal.returns-else-is_text
unfolding sound
returns-else-is_text c = c.if-is_text.false ∙ and_no _ _ _ c.is_text.ensures c.if-is_text.false
