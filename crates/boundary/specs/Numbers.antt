-- The kinds of a record by number. The document numbers none, but a record of zeros is to be the blank one: "Unknown kind, all lengths
-- and numbers 0" (document 01, 'Numbers a refusal carries'). The messages have the numbers of `message_number`.
-- Assumes nothing.
use Rattle.std.specs.Prelude.{ℕ, cond, eqb}
use Rattle.body.specs.declared.Kind.{Kind}
use Rattle.body.specs.declared.Kind.TheVariants.{Unknown, Position, MicE, Message, Status}

-- the number of a kind
unfoldable pub kind_number : Kind → ℕ
kind_number Unknown = 0
kind_number Position = 1
kind_number MicE = 2
kind_number Message = 3
kind_number Status = 4

-- the highest of them; a writer refuses one above with 15
abbrev pub most_kind : ℕ
most_kind = 4

-- the kind of a number; of any other, Unknown
unfoldable pub kind_at : ℕ → Kind
kind_at n = cond (eqb n 1) Position (cond (eqb n 2) MicE (cond (eqb n 3) Message (cond (eqb n 4) Status Unknown)))
