-- `put_place`: the place by the kind.
-- Assumes nothing.
use Rattle.std.proofs.Common.{sym}
use Rattle.row.specs.Row.{spaced, absent_angles}
use Rattle.row.proofs.Rows.{same_fields}
use Rattle.row.proofs.Fits.{absent_width}
use Rattle.row.proofs.Theorems.{without_place, with_place}
use Rattle.row.proofs.put_place.Goals as goal

pub returns-in-Position : goal.returns-in-Position
returns-in-Position c = let e = with_place c.args.kind c.args.place c.in-Position.is in
    record { written = same_fields _ _ _ _ (sym e) c.put_angles.ensures.written; width = rw e c.put_angles.ensures.width }

pub returns-in-Unknown : goal.returns-in-Unknown
unfolding spaced absent_angles
returns-in-Unknown c = let e = without_place c.args.kind c.args.place c.in-Unknown.is in
    record { written = same_fields _ _ _ _ (sym e) c.put_text.ensures; width = rw e absent_width }
