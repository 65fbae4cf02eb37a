-- A status behind its type byte (document 02, R-5; APRS 1.0.1, chapter 16): "A status is up to 62 bytes, or a `z` time as in R-3 and up
-- to 55. Seven bytes that form such a time are read as one; a timeless status whose text starts so is not written (18)."
-- Assumes nothing.
use Rattle.std.specs.Prelude.{ℕ, Bool, cond, not, ◌&&◌, ◌||◌, List, ◌++◌, length, take, drop, eqb, leb, Option, Some, None}
use Rattle.laws.specs.Bytes.{small_z}
use Rattle.time.specs.declared.Time.{Time}
use Rattle.time.specs.Time.{no_time, is_no_time, is_time, is_present, time_bytes, read_time, time_text}

-- ---- read

-- "a `z` time": what was read, if it has that letter
unfoldable pub zulu_of : Option Time → Time
zulu_of (Some t) = cond (eqb t.form small_z) t no_time
zulu_of None = no_time

-- the time that bytes start with, or none: "Seven bytes that form such a time are read as one"
unfoldable pub time_before : List ℕ → Time
time_before s = zulu_of (read_time (take time_bytes s))

-- "up to 62 bytes, or a `z` time .. and up to 55"
unfoldable pub most_text : Time → ℕ
most_text t = cond (is_present t) 55 62

-- the text behind that time
unfoldable pub text_behind : Time → List ℕ → List ℕ
text_behind t s = drop (length (time_text t)) s

-- the time and its text; a text that is too long is refused
unfoldable pub status_of : Time → List ℕ → Option Time
status_of t text = cond (leb (length text) (most_text t)) (Some t) None

unfoldable pub read_status : List ℕ → Option Time
read_status s = status_of (time_before s) (text_behind (time_before s) s)

-- document 02's number: "18 for a malformed message or status"
unfoldable pub status_number : Option Time → ℕ
status_number (Some t) = 0
status_number None = 18

-- ---- written

-- the time's seven bytes or none, and the text
unfoldable pub status_text : Time → List ℕ → List ℕ
status_text t text = time_text t ++ text

-- no time, or "a `z` time as in R-3"
unfoldable pub is_status_time : Time → Bool
is_status_time t = is_no_time t || (is_time t && eqb t.form small_z)

-- 15 for "a time of a status that is not `z` or out of range"
unfoldable pub status_time_refusal : Time → ℕ
status_time_refusal t = cond (is_status_time t) 0 15

-- not too long, and no "timeless status whose text starts so"
unfoldable pub is_status_text : Time → List ℕ → Bool
is_status_text t text = leb (length text) (most_text t) && (is_present t || not (is_present (time_before text)))

-- 18 for another
unfoldable pub status_text_refusal : Time → List ℕ → ℕ
status_text_refusal t text = cond (is_status_text t text) 0 18

-- 15, then 18
unfoldable pub status_refusal : Time → List ℕ → ℕ
status_refusal t text = cond (is_status_time t) (status_text_refusal t text) 15
