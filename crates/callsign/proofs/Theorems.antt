-- What the definitions of a callsign amount to: read and written they agree, what is read is in range, and what the mark of a dropped
-- zero says.
-- Assumes nothing.
use Rattle.std.proofs.Common.{◌≡◌, ℕ, Bool, true, false, ◌⊎◌, List, [], ◌∷◌, refl}
use Rattle.laws.specs.Bytes.{within, raised}
use Rattle.laws.specs.Lists.{every, pad_to, zeros}
use Rattle.numbers.specs.Numbers.{number_after, number_of, count_of, read_count}
use Rattle.callsign.specs.declared.Callsign.{Callsign}
use Rattle.callsign.specs.declared.Field.{Field}
use Rattle.callsign.specs.declared.Field.TheVariants.{Hop}
use Rattle.callsign.specs.Utf8.{after, characters, utf8}
use Rattle.callsign.specs.Text.{joined, made, marked_as, is_zero, call_accepted, read_text}
use Rattle.callsign.specs.Range.{call_part, ssid_part, text_len, is_dashed, in_range, range_refusal, text_of, with_star}
use Rattle.callsign.specs.Address.{ssid_of, heard_of, last_of, onto, are_spaces, unpacked, ssid_text, address_of, read_address}
use Rattle.callsign.specs.Packed.{ssid_number, bit, upper_bits, seventh_of, sent, packed_as, packed_by, write_address}
use Rattle.callsign.proofs.Ranges.{accepted}
use Rattle.callsign.proofs.Bits.{heard_in}
use Rattle.callsign.proofs.Characters.{address_as}
use Rattle.callsign.proofs.AddressBack as address
use Rattle.callsign.proofs.TextBack as text
use Rattle.callsign.proofs.TextAgain as again
use Rattle.callsign.proofs.Marks as marks

-- an address that was written reads back: the call raised, the SSID's number as text, bit 7 as the field has it
pub address_reads_back : (c : Callsign) (field : Field) (last : Bool) → (write_address c field last).refusal ≡ 0
    → read_address (write_address c field last).bytes ≡ address_as (address.in_address c) (heard_in field) last
address_reads_back = address.address_back

-- an address is refused with 15 exactly where its callsign is out of range; one in range is written, or refused with 13
pub address_out_of_range : (c : Callsign) (field : Field) (last : Bool) → in_range c ≡ false → (write_address c field last).refusal ≡ 15
address_out_of_range = address.out_of_range

pub address_within_range : (c : Callsign) (field : Field) (last : Bool) → in_range c ≡ true → ((write_address c field last).refusal ≡ 0) ⊎ ((write_address c field last).refusal ≡ 13)
address_within_range = address.within_range

-- whatever is read of an address is in range
pub address_is_in_range : (b : List ℕ) → in_range (read_address b).call ≡ true
address_is_in_range = address.address_range

-- whatever is read of a text is in range, so it can be written
pub text_is_in_range : (s : List ℕ) → in_range (read_text s).call ≡ true
text_is_in_range = text.text_range

pub text_can_be_written : (s : List ℕ) → range_refusal (read_text s).call ≡ 0
text_can_be_written s = accepted (read_text s).call (text.text_range s)

-- what an accepted text is written as, with the `-0` that its mark tells of and the star that was reported, is that text
pub text_is_kept : (s : List ℕ) → (read_text s).refusal ≡ 0 → text.as_read (read_text s) ≡ s
text_is_kept = text.text_back

-- a callsign that was read, written with a star or without one, reads back without its mark, unless its text ends in a star
pub text_reads_back : (s : List ℕ) → (read_text s).refusal ≡ 0 → again.ends_in_star (text_of (read_text s).call) ≡ false → (b : Bool)
    → read_text (with_star (text_of (read_text s).call) b) ≡ call_accepted (marks.unmarked_call (read_text s).call) b
text_reads_back = again.text_again

-- ---- document 02, R-2: the mark of a dropped `0`

-- an accepted text sets it exactly where its SSID, once the star is off, is `0`
pub mark_exactly : (s : List ℕ) → (read_text s).refusal ≡ 0 → (read_text s).call.had_zero_ssid ≡ is_zero (marks.typed_ssid (marks.star_off s))
mark_exactly = marks.text_mark

-- an address never does: its callsign without a mark is that callsign
pub address_has_no_mark : (b : List ℕ) → marks.unmarked_call (read_address b).call ≡ (read_address b).call
address_has_no_mark = marks.unmarked_address

-- the writers do not look at it
pub marks_move_no_text : (zero : Bool) (c : Callsign) → (range_refusal (marked_as zero c) ≡ range_refusal c) × (text_of (marked_as zero c) ≡ text_of c)
unfolding range_refusal
marks_move_no_text zero c = (rw (marks.mark_in_range zero c), marks.mark_in_text zero c)

pub marks_move_no_address : (zero : Bool) (c : Callsign) (field : Field) (last : Bool) → write_address (marked_as zero c) field last ≡ write_address c field last
marks_move_no_address = marks.mark_in_address

-- ---- P10: hop N0CALL-1, heard, last

abbrev pub n0call_1 : Callsign
n0call_1 = made (78 ∷ 48 ∷ 67 ∷ 65 ∷ 76 ∷ 76 ∷ []) (49 ∷ [])

abbrev pub p10_bytes : List ℕ
p10_bytes = 0x9c ∷ 0x60 ∷ 0x86 ∷ 0x82 ∷ 0x98 ∷ 0x98 ∷ 0xe3 ∷ []

pub P10 : write_address n0call_1 (Hop true) true ≡ record { refusal = 0; bytes = p10_bytes }
unfolding write_address in_range text_len call_part ssid_part is_dashed utf8 characters after within zeros is_zero made joined pad_to ssid_number read_count count_of number_of number_after every packed_by packed_as sent raised seventh_of upper_bits bit
P10 = refl

pub p10_read : read_address p10_bytes ≡ address_as n0call_1 true true
unfolding read_address address_of unpacked onto are_spaces last_of heard_of ssid_of ssid_text within raised made joined pad_to
p10_read = refl
