-- A callsign and its text (document 01, 'Modules in port order', 1): "Text: one trailing `*` is removed and reported.
-- The rest must be UTF-8. The first `-` splits it; either side empty is 3. No dash: all is call, which may be empty.
-- SSID `0` alone becomes none; `00` and `01` stay as text." Order: "A callsign: star off, 4, 3." Document 02, R-2: "The callsign
-- reader shall report that the text had SSID `0`".
-- Assumes nothing.
use Rattle.std.specs.Prelude.{ℕ, suc, ◌-◌, Bool, true, false, cond, not, List, [], ◌∷◌, ◌++◌, length, take, drop, ◌==◌, nat_lt, slice_index}
use Rattle.laws.specs.Bytes.{star, dash, digit0}
use Rattle.laws.specs.Lists.{index_of, pad_to}
use Rattle.callsign.specs.Utf8.{utf8}
use Rattle.callsign.specs.declared.Callsign.{Callsign}
use Rattle.callsign.specs.declared.CallRead.{CallRead}

-- call and SSID as they are written, with a dash between them where there is an SSID
unfoldable pub joined : List ℕ → List ℕ → List ℕ
joined call [] = call
joined call (x ∷ ssid) = call ++ dash ∷ x ∷ ssid

-- "`String` and `Vec` become a 16-byte array with two lengths"; and R-2's mark
abbrev pub call_as : List ℕ → ℕ → ℕ → Bool → Callsign
call_as text n k zero = record { text = text; call_len = n; ssid_len = k; had_zero_ssid = zero }

-- the record of a call and an SSID, without the mark
unfoldable pub made : List ℕ → List ℕ → Callsign
made call ssid = call_as (pad_to 16 0 (joined call ssid)) (length call) (length ssid) false

-- a callsign with the mark set, or with it taken off
unfoldable pub marked_as : Bool → Callsign → Callsign
marked_as zero c = call_as c.text c.call_len c.ssid_len zero

-- the callsign with nothing in it
unfoldable pub blank_call : Callsign
blank_call = made [] []

-- an SSID that is `0` alone
unfoldable pub is_zero : List ℕ → Bool
is_zero [] = false
is_zero (x ∷ []) = x == digit0
is_zero (x ∷ y ∷ l) = false

-- a refusal: a blank callsign, no star
unfoldable pub call_refused : ℕ → CallRead
call_refused n = record { refusal = n; call = blank_call; starred = false }

-- done: the callsign, and whether it was starred
unfoldable pub call_accepted : Callsign → Bool → CallRead
call_accepted c starred = record { refusal = 0; call = c; starred = starred }

-- the two sides of the first dash
unfoldable pub parted : List ℕ → List ℕ → Bool → CallRead
parted call ssid starred =
    cond (length call == 0) (call_refused 3)
    (cond (length ssid == 0) (call_refused 3)
    (cond (is_zero ssid) (call_accepted (marked_as true (made call [])) starred)
    (call_accepted (made call ssid) starred)))

-- the text without its star
unfoldable pub read_unstarred : List ℕ → Bool → CallRead
read_unstarred t starred =
    cond (nat_lt 16 (length t)) (call_refused 4)
    (cond (not (utf8 t)) (call_refused 3)
    (cond (index_of dash t == length t) (call_accepted (made t []) starred)
    (parted (take (index_of dash t) t) (drop (suc (index_of dash t)) t) starred)))

-- "one trailing `*` is removed and reported"; an empty text ends in none
unfoldable pub read_text : List ℕ → CallRead
read_text s =
    cond (slice_index s (length s - 1) == star)
    (read_unstarred (take (length s - 1) s) true)
    (read_unstarred s false)
