-- `put_call`: a point, or the bytes of the text that are shown.
-- Assumes nothing.
use Rattle.row.proofs.Rows.{same_field}
use Rattle.row.proofs.Calls.{shown_point, shown_text}
use mathlib.Core.Path.{◌≡◌}
use native.Mathlib.Omega.{arith}
use lib.ListN.{length}
use Rattle.row.proofs.Fits.{call_width}
use borrow.Author.Rules.{rules}
use Rattle.row.proofs.put_call.Goals as goal

pub returns-then-n-eq0 : goal.returns-then-n-eq0
returns-then-n-eq0 c = record { written = search (rules, same_field, shown_point); width = search (rules, call_width) }

pub slice_bounds-text-end : goal.slice_bounds-text-end
slice_bounds-text-end c = let whole : length c.args.c.text ≡ 16 = search rules in omega (arith, c.text_len-n.ensures)

pub returns-else-n-eq0 : goal.returns-else-n-eq0
returns-else-n-eq0 c = record { written = search (rules, same_field, shown_text); width = search (rules, call_width) }
