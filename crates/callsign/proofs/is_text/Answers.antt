-- ASCII is UTF-8; else each byte is looked at. Assumes nothing.
use Rattle.std.proofs.Common.{◌∙◌}
use Rattle.callsign.proofs.Ascii.{front_of_ascii}
use Rattle.callsign.proofs.is_text.Goals as goal

pub returns-then-is_ascii : goal.returns-then-is_ascii
returns-then-is_ascii c = c.if-is_ascii.true ∙ front_of_ascii _ _ c.requires c.if-is_ascii.ensures.cases
