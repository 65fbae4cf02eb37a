-- The destination of a Mic-E report (document 01, module 4): six call characters that carry the latitude's digits, the
-- message, and the flags north, offset 100 and west.
-- Assumes nothing.
use Rattle.std.specs.Prelude.{ℕ, Bool, cond, ◌&&◌, List, [], ◌∷◌, length, replicate, ℤ, ◌==◌, slice_index, slice_index_or, Option, Some, None}
use Rattle.laws.specs.Bytes.{point, capital_n, capital_s}
use Rattle.numbers.specs.Sign.{is_minus}
use Rattle.lonlat.specs.Latitude.{read_latitude, latitude_text, latitude_refusal}
use Rattle.lonlat.specs.declared.LatitudeRead.{LatitudeRead}
use Rattle.mic_e.specs.Character.{is_character, is_last, is_flagged, digit_of, bit_of, character_of, flag_bit}
use Rattle.mic_e.specs.Longitude.{longitude_out, hundred_of}
use Rattle.mic_e.specs.Message.{message_of, bits_of}
use Rattle.mic_e.specs.declared.Bit.{Bit}
use Rattle.mic_e.specs.declared.Bit.TheVariants.{Zero}
use Rattle.mic_e.specs.declared.Message.{Message}
use Rattle.mic_e.specs.declared.Destination.{Destination}
use Rattle.mic_e.specs.declared.DestinationWritten.{DestinationWritten}

-- ---- read

-- each place holds a character that it takes
unfoldable pub are_characters : List ℕ → Bool
are_characters call =
    is_character (slice_index call 0) && (is_character (slice_index call 1) && (is_character (slice_index call 2)
    && (is_last (slice_index call 3) && (is_last (slice_index call 4) && is_last (slice_index call 5)))))

-- the latitude's text: the digits and blanks, and the letter that the fourth character means
unfoldable pub text_in : List ℕ → List ℕ
text_in call =
    digit_of (slice_index call 0) ∷ digit_of (slice_index call 1) ∷ digit_of (slice_index call 2) ∷ digit_of (slice_index call 3)
    ∷ point ∷ digit_of (slice_index call 4) ∷ digit_of (slice_index call 5)
    ∷ cond (is_flagged (slice_index call 3)) capital_n capital_s ∷ []

-- "The first three give the message"; the last three "mean north, offset 100, west", the first of them by the text's letter
unfoldable pub destination_with : List ℕ → Option LatitudeRead → Option Destination
destination_with call (Some read) =
    Some (record {
      latitude = read.latitude;
      message = message_of (bit_of (slice_index call 0)) (bit_of (slice_index call 1)) (bit_of (slice_index call 2));
      blanks = read.blanks;
      south = read.south;
      hundred = is_flagged (slice_index call 4);
      west = is_flagged (slice_index call 5);
      sixty = read.sixty;
    })
destination_with call None = None

-- "Destination: 6 call characters"
unfoldable pub read_destination : List ℕ → Option Destination
read_destination call =
    cond (length call == 6)
    (cond (are_characters call) (destination_with call (read_latitude (text_in call))) None)
    None

-- document 01's number
unfoldable pub destination_number : Option Destination → ℕ
destination_number (Some destination) = 0
destination_number None = 11

-- ---- written

-- the characters of a latitude's text, under the message's bits and the flags
unfoldable pub characters_of : List ℕ → List Bit → Bool → Bool → List ℕ
characters_of text bits hundred west =
    character_of (slice_index_or bits 0 Zero) (slice_index text 0) ∷ character_of (slice_index_or bits 1 Zero) (slice_index text 1)
    ∷ character_of (slice_index_or bits 2 Zero) (slice_index text 2)
    ∷ character_of (flag_bit (slice_index text 7 == capital_n)) (slice_index text 3)
    ∷ character_of (flag_bit hundred) (slice_index text 5) ∷ character_of (flag_bit west) (slice_index text 6) ∷ []

-- the six characters of a latitude, a message and a longitude's flags
unfoldable pub destination_bytes : ℤ → ℕ → Message → ℤ → List ℕ
destination_bytes latitude blanks message longitude =
    characters_of (latitude_text latitude blanks) (bits_of message) (hundred_of longitude) (is_minus longitude)

-- "15 is given for: an angle .. out of range; precision outside 0 to 5; .. a Mic-E angle of 180 degrees"
unfoldable pub destination_refusal : ℤ → ℕ → ℤ → ℕ
destination_refusal latitude blanks longitude = cond (longitude_out longitude) 15 (latitude_refusal latitude blanks)

-- the six bytes, or zeros with the refusal
unfoldable pub write_destination : ℤ → ℕ → Message → ℤ → DestinationWritten
write_destination latitude blanks message longitude =
    cond (destination_refusal latitude blanks longitude == 0)
    (record { bytes = destination_bytes latitude blanks message longitude; refusal = 0 })
    (record { bytes = replicate 6 0; refusal = destination_refusal latitude blanks longitude })
