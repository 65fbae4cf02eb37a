-- 15 for a number of no field, else what callsign writes. Assumes nothing.
use Rattle.parts.proofs.Parts.{no_field, in_field}
use borrow.Author.Rules.{rules}
use Rattle.parts.proofs.tusselgro_write_address.Goals as goal

pub returns-then-field-gt3 : goal.returns-then-field-gt3
returns-then-field-gt3 c = search (rules, no_field)

pub returns : goal.returns
returns c = search (rules, in_field)
