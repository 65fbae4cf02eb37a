-- `put_own_to`: the destination by the kind.
-- Assumes nothing.
use Rattle.row.specs.Row.{own_to_field}
use Rattle.std.proofs.Common.{sym}
use Rattle.row.proofs.Rows.{same_field, own_to_put}
use Rattle.row.proofs.Theorems.{kept_to}
use Rattle.row.proofs.Fits.{no_to_width, own_to_width}
use borrow.Author.Rules.{rules}
use Rattle.row.proofs.put_own_to.Goals as goal

pub returns-in-MicE : goal.returns-in-MicE
unfolding own_to_field
returns-in-MicE c = record { written = search (rules, own_to_put); width = search (rules, own_to_width, no_to_width) }

pub returns-in-Unknown : goal.returns-in-Unknown
returns-in-Unknown c = let e = kept_to c.args.kind c.args.to c.in-Unknown.is in
    record { written = same_field _ _ _ _ _ (sym e) c.put_call.ensures.written; width = rw e c.put_call.ensures.width }
