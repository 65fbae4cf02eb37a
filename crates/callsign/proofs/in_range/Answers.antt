-- The range by the code's tests; the text is judged whole. Assumes nothing.
use Rattle.std.proofs.Common.{sym, ◌∙◌, rules}
use mathlib.Core.Bool.{false≢true}
use borrow.Author.Tests.{lt-leb}
use borrow.Author.Rules.{length_unmapped}
use Rattle.callsign.proofs.Ranges.{too_long, unparted, sounded}
use Rattle.callsign.proofs.in_range.Goals as goal
use Rattle.callsign.proofs.in_range.Goals.{then-n-le16, else-n-le16}

pub returns-then-is_parted : goal.returns-then-is_parted
returns-then-is_parted c = elim c.if-n-le16.branch [
  | then-n-le16 w ↦ let t = sym w.value-is ∙ c.if-is_parted.true in search (rules, sounded, length_unmapped)
  | else-n-le16 w ↦ absurd (false≢true (sym (lt-leb _ _ w.if-n-le16.false) ∙ sym w.value-is ∙ c.if-is_parted.true))
]

pub returns-else-is_parted : goal.returns-else-is_parted
returns-else-is_parted c = c.if-is_parted.false ∙ elim c.if-n-le16.branch [
  | then-n-le16 w ↦ let t = sym w.value-is ∙ c.if-is_parted.false in search (rules, unparted, length_unmapped)
  | else-n-le16 w ↦ search (rules, too_long)
]
