-- The information of a Mic-E report (document 01, module 4): the eight bytes after its type byte. What follows them is
-- the comment.
-- Assumes nothing.
use Rattle.std.specs.Prelude.{ℕ, Bool, cond, ◌||◌, List, [], ◌∷◌, length, nat_lt, slice_index, unsigned_abs, Option, Some, None}
use Rattle.mic_e.specs.Motion.{read_motion, motion_out, motion_field}
use Rattle.mic_e.specs.Longitude.{read_longitude, longitude_out, longitude_field}
use Rattle.lonlat.specs.declared.Longitude.{Longitude}
use Rattle.mic_e.specs.declared.Information.{Information}
use Rattle.mic_e.specs.declared.Motion.{Motion}

-- ---- read

-- longitude, then speed and course; "Code byte precedes table byte."
unfoldable pub information_of : ℕ → ℕ → Option Longitude → Option Motion → Option Information
information_of code table (Some longitude) (Some motion) =
    Some (record { longitude = longitude; speed = motion.speed; course = motion.course; code = code; table = table })
information_of code table (Some longitude) None = None
information_of code table None motion = None

-- "Information: at least 8 bytes."
unfoldable pub read_information : List ℕ → Bool → Bool → Option Information
read_information s hundred west =
    cond (nat_lt (length s) 8) None
    (information_of (slice_index s 6) (slice_index s 7)
    (read_longitude hundred west (slice_index s 0) (slice_index s 1) (slice_index s 2))
    (read_motion (slice_index s 3) (slice_index s 4) (slice_index s 5)))

-- document 01's number
unfoldable pub information_number : Option Information → ℕ
information_number (Some information) = 0
information_number None = 12

-- ---- written

-- out of the range that a writer takes
unfoldable pub information_out : Information → Bool
information_out i = longitude_out i.longitude.0 || motion_out i.speed.0 i.course.0

-- 15 for a part out of range
unfoldable pub information_refusal : Information → ℕ
information_refusal i = cond (information_out i) 15 0

-- a field's bytes in front of others
abbrev pub field_bytes : List ℕ → List ℕ → List ℕ
field_bytes f rest = slice_index f 0 ∷ slice_index f 1 ∷ slice_index f 2 ∷ rest

-- longitude, then speed and course, then code and table
unfoldable pub information_bytes : Information → List ℕ
information_bytes i =
    field_bytes (longitude_field (unsigned_abs i.longitude.0))
    (field_bytes (motion_field i.speed.0 i.course.0)
    (i.code ∷ i.table ∷ []))
