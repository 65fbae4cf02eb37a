-- `write_row`: what was put into the text is the row, and is written.
-- Assumes nothing.
use Rattle.std.proofs.Common.{refl, ap, ◌∙◌}
use Rattle.buffer.specs.Filled.{Filled, added_all}
use Rattle.row.specs.Row.{spaced, row_fields}
use Rattle.row.proofs.Rows.{row_written}
use Rattle.row.proofs.write_row.Goals as goal

pub returns : goal.returns
returns c =
    let put = c.put_fields.ensures.written ∙ ap (λ (f : Filled). added_all f (spaced (row_fields c.args.number c.read.result))) c.new-row.ensures.value in
    row_written c.args.strict c.args.number _ _ _ _ _ _ _ _ _ c.read.ensures c.put_fields.ensures.width refl put c.written.ensures c.write.ensures
