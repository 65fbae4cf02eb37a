-- `write_position`: the latitude, the longitude, the letters, the symbol, and then the bytes. Assumes nothing.
use Rattle.position.proofs.Writing.{still_nineteen, latitude_out, longitude_out_lem, letters_out, symbols_out, position_wrote}
use Rattle.std.proofs.Common.{rules}
use Rattle.position.proofs.write_position.Goals as goal
use Rattle.position.proofs.write_position.Goals.{then-east-ne0-via-then-east-ne0, then-east-ne0-via-else-east-ne0+then-not-letters_agree, then-east-ne0-via-else-east-ne0+else-not-letters_agree+then-not-symbols_in_range}

pub returns-then-north-ne0 : goal.returns-then-north-ne0
returns-then-north-ne0 c = search (rules, latitude_out)

pub returns-then-east-ne0 : goal.returns-then-east-ne0
returns-then-east-ne0 c = elim c.then-east-ne0.branch [
  | then-east-ne0-via-then-east-ne0 w ↦ search (rules, longitude_out_lem)
  | then-east-ne0-via-else-east-ne0+then-not-letters_agree w ↦ search (rules, letters_out)
  | then-east-ne0-via-else-east-ne0+else-not-letters_agree+then-not-symbols_in_range w ↦ search (rules, symbols_out)
]

pub slice_bounds-write-end : goal.slice_bounds-write-end
slice_bounds-write-end c = search (rules, still_nineteen)

pub returns : goal.returns
returns c = search (rules, position_wrote)
