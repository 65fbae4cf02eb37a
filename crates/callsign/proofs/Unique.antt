-- What each public function promises fixes its result: two results that meet one promise are equal.
-- Assumes nothing.
use Rattle.std.proofs.Common.{◌≡◌, ℕ, min, Bool, List, take}
use Rattle.laws.specs.Bytes.{is_letter_or_digit, raised}
use Rattle.buffer.specs.Wrote.{ends, wrote}
use Rattle.buffer.specs.declared.Answer.{Answer}
use Rattle.laws.proofs.Unique.{one_value}
use Rattle.buffer.proofs.Wrote.{one_end}
use Rattle.callsign.specs.declared.Callsign.{Callsign}
use Rattle.callsign.specs.declared.CallRead.{CallRead}
use Rattle.callsign.specs.declared.AddressRead.{AddressRead}
use Rattle.callsign.specs.declared.AddressWritten.{AddressWritten}
use Rattle.callsign.specs.declared.Field.{Field}
use Rattle.callsign.specs.Text.{blank_call, made, read_text}
use Rattle.callsign.specs.Range.{text_len, in_range, is_blank_call, range_refusal, text_of, with_star}
use Rattle.callsign.specs.Address.{ssid_of, heard_of, last_of, ssid_text, read_address}
use Rattle.callsign.specs.Packed.{write_address}

pub unique_blank : (r r' : Callsign) → r ≡ blank_call → r' ≡ blank_call → r ≡ r'
unique_blank r r' = one_value r r' blank_call

pub unique_read_text : (s : List ℕ) (r r' : CallRead) → r ≡ read_text s → r' ≡ read_text s → r ≡ r'
unique_read_text s r r' = one_value r r' (read_text s)

pub unique_in_range : (c : Callsign) (r r' : Bool) → r ≡ in_range c → r' ≡ in_range c → r ≡ r'
unique_in_range c r r' = one_value r r' (in_range c)

pub unique_text_len : (c : Callsign) (r r' : ℕ) → r ≡ min (text_len c) 16 → r' ≡ min (text_len c) 16 → r ≡ r'
unique_text_len c r r' = one_value r r' (min (text_len c) 16)

pub unique_is_blank : (c : Callsign) (r r' : Bool) → r ≡ is_blank_call c → r' ≡ is_blank_call c → r ≡ r'
unique_is_blank c r r' = one_value r r' (is_blank_call c)

pub unique_write_text : (c : Callsign) (starred : Bool) (out o o' : List ℕ) (r r' : Answer)
    → ends r o ≡ wrote (range_refusal c) (with_star (text_of c) starred) out
    → ends r' o' ≡ wrote (range_refusal c) (with_star (text_of c) starred) out
    → (r ≡ r') × (o ≡ o')
unique_write_text c starred out o o' r r' e e' = one_end r r' o o' (wrote (range_refusal c) (with_star (text_of c) starred) out) e e'

pub unique_last : (b : ℕ) (r r' : Bool) → r ≡ last_of b → r' ≡ last_of b → r ≡ r'
unique_last b r r' = one_value r r' (last_of b)

pub unique_heard : (b : ℕ) (r r' : Bool) → r ≡ heard_of b → r' ≡ heard_of b → r ≡ r'
unique_heard b r r' = one_value r r' (heard_of b)

pub unique_ssid : (b r r' : ℕ) → r ≡ ssid_of b → r' ≡ ssid_of b → r ≡ r'
unique_ssid b r r' = one_value r r' (ssid_of b)

pub unique_letter_or_digit : (c : ℕ) (r r' : Bool) → r ≡ is_letter_or_digit c → r' ≡ is_letter_or_digit c → r ≡ r'
unique_letter_or_digit c r r' = one_value r r' (is_letter_or_digit c)

pub unique_capital : (c r r' : ℕ) → r ≡ raised c → r' ≡ raised c → r ≡ r'
unique_capital c r r' = one_value r r' (raised c)

pub unique_address_call : (call : List ℕ) (len seventh : ℕ) (r r' : Callsign)
    → r ≡ made (take len call) (ssid_text (ssid_of seventh)) → r' ≡ made (take len call) (ssid_text (ssid_of seventh)) → r ≡ r'
unique_address_call call len seventh r r' = one_value r r' (made (take len call) (ssid_text (ssid_of seventh)))

pub unique_read_address : (b : List ℕ) (r r' : AddressRead) → r ≡ read_address b → r' ≡ read_address b → r ≡ r'
unique_read_address b r r' = one_value r r' (read_address b)

pub unique_write_address : (c : Callsign) (field : Field) (last : Bool) (r r' : AddressWritten)
    → r ≡ write_address c field last → r' ≡ write_address c field last → r ≡ r'
unique_write_address c field last r r' = one_value r r' (write_address c field last)
