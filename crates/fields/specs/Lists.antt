-- The two lists (document 01): all the fields that read as a target, and what a lister answers and leaves. "A lister
-- reports the number of fields, and three times as many bytes change; at 16 it returns those bytes." A list target may be
-- 180 degrees: its refusal is `longitude_refusal` of lonlat, as for a longitude in text.
-- Assumes nothing.
use Rattle.std.specs.Prelude.{ℕ, Bool, false, cond, ◌&&◌, List, length, ℤ, pos, negsuc, ◌==◌, Option, Some, None}
use Rattle.buffer.specs.Wrote.{Wrote, wrote_as}
use Rattle.mic_e.specs.Motion.{read_motion, motion_out}
use Rattle.mic_e.specs.Longitude.{read_longitude}
use Rattle.mic_e.specs.declared.Motion.{Motion}
use Rattle.lonlat.specs.declared.Longitude.{Longitude}
use Rattle.fields.specs.Each.{Field, all_fields, flat}

-- the fields' number reported, their bytes written
unfoldable pub listed : ℕ → List Field → List ℕ → Wrote
listed refusal fields out = wrote_as refusal (length fields) (flat fields) out

-- ---- motion

-- a motion that was read is that speed and that course
unfoldable pub is_motion : ℕ → ℕ → Option Motion → Bool
is_motion speed course (Some m) = m.speed.0 == speed && m.course.0 == course
is_motion speed course None = false

-- all the fields that read as that speed and course
unfoldable pub motion_fields : ℕ → ℕ → List Field
motion_fields speed course = all_fields (λ a b c. is_motion speed course (read_motion a b c))

-- 15 is given for a "list target out of range"
unfoldable pub motion_refusal : ℕ → ℕ → ℕ
motion_refusal speed course = cond (motion_out speed course) 15 0

-- ---- longitude

-- two angles are one
unfoldable pub same_angle : ℤ → ℤ → Bool
same_angle (pos a) (pos b) = a == b
same_angle (pos a) (negsuc b) = false
same_angle (negsuc a) (pos b) = false
same_angle (negsuc a) (negsuc b) = a == b

-- a longitude that was read is that one
unfoldable pub is_longitude : ℤ → Option Longitude → Bool
is_longitude target (Some l) = same_angle l.0 target
is_longitude target None = false

-- under an offset and a side
unfoldable pub longitude_fields : Bool → Bool → ℤ → List Field
longitude_fields hundred west target = all_fields (λ a b c. is_longitude target (read_longitude hundred west a b c))
