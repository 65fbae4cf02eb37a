-- An AX.25 address written (AX.25 2.2, section 3.12; document 01, 'Modules in port order', 1): "Writing: call at most 6
-- bytes, letters (raised to capitals) and digits; SSID text an optional `+`, then one or more digits, value at most 15.
-- Upper bits are 111 for a destination, 011 for a source, heard-1-1 for a hop." Refused with 15, then 13.
-- Assumes nothing.
use Rattle.std.specs.Prelude.{ℕ, ◌+◌, ◌-◌, ◌*◌, Bool, true, false, cond, not, List, [], ◌∷◌, ◌++◌, map, length, replicate, ◌==◌, nat_lt, Result, Ok, Err}
use Rattle.laws.specs.Bytes.{space, plus, is_letter_or_digit, raised}
use Rattle.laws.specs.Lists.{every}
use Rattle.numbers.specs.declared.CountError.{CountError}
use Rattle.numbers.specs.Numbers.{read_count}
use Rattle.callsign.specs.Range.{in_range, call_part, ssid_part}
use Rattle.callsign.specs.declared.Callsign.{Callsign}
use Rattle.callsign.specs.declared.AddressWritten.{AddressWritten}
use Rattle.callsign.specs.declared.Field.{Field}
use Rattle.callsign.specs.declared.Field.TheVariants.{Destination, Source, Hop}

-- ---- the SSID's number

-- no SSID is 0; "an optional `+`, then one or more digits, value at most 15"
unfoldable pub ssid_number : List ℕ → Result ℕ CountError
ssid_number [] = Ok 0
ssid_number (x ∷ l) = read_count (cond (x == plus) l (x ∷ l)) 15

-- ---- the seven bytes

-- a flag as a bit
unfoldable pub bit : Bool → ℕ
bit true = 1
bit false = 0

-- "111 for a destination, 011 for a source, heard-1-1 for a hop"
unfoldable pub upper_bits : Field → ℕ
upper_bits Destination = 7
upper_bits Source = 3
upper_bits (Hop heard) = 4 * bit heard + 3

-- three upper bits, four of SSID, and the last flag
unfoldable pub seventh_of : Field → ℕ → Bool → ℕ
seventh_of field ssid last = upper_bits field * 32 + ssid * 2 + bit last

-- a character as it is sent: raised, and shifted left by one
unfoldable pub sent : ℕ → ℕ
sent c = raised c * 2

-- a refusal: no bytes
unfoldable pub unwritten_by : ℕ → AddressWritten
unwritten_by n = record { refusal = n; bytes = replicate 7 0 }

-- the call, spaces up to six bytes, and the seventh byte
unfoldable pub packed_as : List ℕ → ℕ → AddressWritten
packed_as call seventh =
    cond (nat_lt 6 (length call)) (unwritten_by 13)
    (cond (not (every is_letter_or_digit call)) (unwritten_by 13)
    (record { refusal = 0; bytes = map sent call ++ replicate (6 - length call) (space * 2) ++ seventh ∷ [] }))

-- the call with the SSID's number
unfoldable pub packed_by : List ℕ → Result ℕ CountError → Field → Bool → AddressWritten
packed_by call (Ok ssid) field last = packed_as call (seventh_of field ssid last)
packed_by call (Err e) field last = unwritten_by 13

-- 15, then 13
unfoldable pub write_address : Callsign → Field → Bool → AddressWritten
write_address c field last =
    cond (not (in_range c)) (unwritten_by 15)
    (packed_by (call_part c) (ssid_number (ssid_part c)) field last)
