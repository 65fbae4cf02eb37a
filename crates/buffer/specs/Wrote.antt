-- What a writer or lister answers and leaves in the buffer lent to it (document 01, 'Numbers a refusal carries'):
-- "A refused writer or lister changes no output byte and reports 0. On success only the first bytes, as many as
-- reported, change. .. The number needed is 0 except at 16."
-- Assumes nothing.
use Rattle.std.specs.Prelude.{ℕ, zero, suc, cond, List, ◌++◌, length, drop, ltb}
use Rattle.buffer.specs.declared.Answer.{Answer}

-- the answer, and the buffer as it was left
pub record Wrote : Type 0 where
  pub answer : Answer
  pub buffer : List ℕ

abbrev pub ends : Answer → List ℕ → Wrote
ends r out = record { answer = r; buffer = out }

-- a refusal by its number
abbrev pub refused_by : ℕ → Answer
refused_by n = record { refusal = n; reported = 0; needed = 0 }

-- the buffer is too short
abbrev pub no_room : ℕ → Answer
no_room n = record { refusal = 16; reported = 0; needed = n }

-- done, with the number reported
abbrev pub done_by : ℕ → Answer
done_by n = record { refusal = 0; reported = n; needed = 0 }

-- refused by a number other than 16, or 0 and then: 16, or the bytes in front of what stays of the buffer
unfoldable pub wrote_as : ℕ → ℕ → List ℕ → List ℕ → Wrote
wrote_as zero reported bytes out =
    cond (ltb (length out) (length bytes))
    (ends (no_room (length bytes)) out)
    (ends (done_by reported) (bytes ++ drop (length bytes) out))
wrote_as (suc k) reported bytes out = ends (refused_by (suc k)) out

-- a writer reports the bytes written; a lister (`wrote_as` itself) the number of fields
unfoldable pub wrote : ℕ → List ℕ → List ℕ → Wrote
wrote refusal bytes out = wrote_as refusal (length bytes) bytes out

-- 1 for bytes over a limit, else 0
unfoldable pub over_by : ℕ → List ℕ → ℕ
over_by limit bytes = cond (ltb limit (length bytes)) 1 0
