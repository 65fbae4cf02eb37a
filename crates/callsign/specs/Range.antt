-- Which callsigns are in range, and the text that is written of one. Document 01: "15 is given for: .. callsign text
-- over 16 bytes, not UTF-8, or SSID `0`; spare bytes .. not zero". UTF-8 is judged of call and SSID each. Document 02, R-2, of the
-- mark: "Writers ignore it".
-- Assumes nothing.
use Rattle.std.specs.Prelude.{ℕ, ◌+◌, Bool, true, false, cond, not, ◌&&◌, List, [], ◌∷◌, ◌++◌, take, drop, ◌==◌, nat_le, slice_index}
use Rattle.laws.specs.Bytes.{star, dash}
use Rattle.laws.specs.Lists.{zeros}
use Rattle.callsign.specs.Utf8.{utf8}
use Rattle.callsign.specs.Text.{joined, is_zero}
use Rattle.callsign.specs.declared.Callsign.{Callsign}

-- the call's bytes
unfoldable pub call_part : Callsign → List ℕ
call_part c = take c.call_len c.text

-- the SSID's bytes, which stand behind the dash
unfoldable pub ssid_part : Callsign → List ℕ
ssid_part c = take c.ssid_len (drop (c.call_len + 1) c.text)

-- how many bytes call, dash and SSID take
unfoldable pub text_len : Callsign → ℕ
text_len c = cond (c.ssid_len == 0) c.call_len (c.call_len + 1 + c.ssid_len)

-- a dash between call and SSID, where there is an SSID
unfoldable pub is_dashed : Callsign → Bool
is_dashed c = cond (c.ssid_len == 0) true (slice_index c.text c.call_len == dash)

-- the text's length, UTF-8 of each part, no SSID `0`, its dash, and nothing in the spare bytes
unfoldable pub in_range : Callsign → Bool
in_range c =
    nat_le (text_len c) 16
    && utf8 (call_part c)
    && utf8 (ssid_part c)
    && not (is_zero (ssid_part c))
    && is_dashed c
    && zeros (drop (text_len c) c.text)

-- no call, no SSID, no byte
unfoldable pub is_blank_call : Callsign → Bool
is_blank_call c = c.call_len == 0 && (c.ssid_len == 0 && zeros c.text)

-- 15 for a callsign out of range
unfoldable pub range_refusal : Callsign → ℕ
range_refusal c = cond (in_range c) 0 15

-- ---- the text written

-- call, dash and SSID
unfoldable pub text_of : Callsign → List ℕ
text_of c = joined (call_part c) (ssid_part c)

-- a star behind it, or none
unfoldable pub with_star : List ℕ → Bool → List ℕ
with_star l true = l ++ star ∷ []
with_star l false = l

-- the first n bytes are UTF-8 and the others zero: for the contract of a private function
unfoldable pub sound : List ℕ → ℕ → Bool
sound text n = utf8 (take n text) && zeros (drop n text)
