-- What the private functions of the search promise: the fields that a target of either kind tests for, and what is known
-- of the second and third bytes once the first is.
-- Assumes nothing.
use Rattle.std.specs.Prelude.{◌≡◌, ℕ, ◌+◌, ◌*◌, ◌<◌, ◌≤◌, Bool, false, cond, List, [], ◌∷◌, pos, ◌==◌, nat_lt, unsigned_abs, Option, Some, None}
use Rattle.std.specs.declared.ops.Range.{Range}
use Rattle.mic_e.specs.Motion.{read_motion}
use Rattle.mic_e.specs.Longitude.{read_longitude}
use Rattle.lonlat.specs.declared.Longitude.{Longitude}
use Rattle.fields.specs.Each.{Field, field, cell}
use Rattle.fields.specs.Lists.{is_motion, is_longitude}

-- the fields that read as a speed and course
unfoldable pub motion_hits : ℕ → ℕ → ℕ → ℕ → ℕ → Bool
motion_hits speed course = λ a b c. is_motion speed course (read_motion a b c)

-- the fields that read as a longitude of that size; it stands for either side
unfoldable pub size_hits : ℕ → Bool → ℕ → ℕ → ℕ → Bool
size_hits size hundred = λ a b c. is_longitude (pos size) (read_longitude hundred false a b c)

-- the one field, or none
unfoldable pub fields_of : ℕ → ℕ → Option ℕ → List Field
fields_of a b (Some c) = field a b c ∷ []
fields_of a b None = []

-- the third byte that is z more than 28, if it is one and the field passes
unfoldable pub third_at : (ℕ → ℕ → ℕ → Bool) → ℕ → ℕ → ℕ → Option ℕ
third_at test a b z = cond (nat_lt 227 z) None (cond (test a b (z + 28)) (Some (z + 28)) None)

-- the size of a longitude that was read
unfoldable pub base_in : Option Longitude → Option ℕ
base_in (Some l) = Some (unsigned_abs l.0)
base_in None = None

-- the size under two bytes, with no hundredths
unfoldable pub base_of : Bool → ℕ → ℕ → Option ℕ
base_of hundred a b = base_in (read_longitude hundred false a b 28)

-- a span by its ends
abbrev pub span_from : ℕ → ℕ → Range ℕ
span_from from to = record { start = from; end = to }

-- no second byte at all
abbrev pub no_span : Range ℕ
no_span = span_from 0 0

-- the second bytes whose tens, less 28, are `gap`
unfoldable pub ten_from : ℕ → Range ℕ
ten_from gap = cond (nat_lt 22 gap) (span_from 0 0) (cond (gap == 22) (span_from 248 256) (span_from (28 + 10 * gap) (38 + 10 * gap)))

-- no field that begins with a has its second byte outside the span
pub record Spans (test : ℕ → ℕ → ℕ → Bool) (a : ℕ) (r : Range ℕ) : Type 0 where
  pub order : r.start ≤ r.end
  pub most : r.end ≤ 256
  pub below : (b : ℕ) → b < r.start → cell test a b ≡ []
  pub above : (b : ℕ) → r.end ≤ b → b < 256 → cell test a b ≡ []
