-- Document 01's cases P1 to P9, and a zero in the south, by computation.
-- Assumes nothing.
use Rattle.std.proofs.Common.{◌≡◌, ℕ, true, false, List, [], ◌∷◌, Some, None, pos, negsuc, refl}
use Rattle.laws.specs.Bytes.{capital_l, capital_s, capital_t, capital_u, within}
use Rattle.laws.specs.Lists.{index_of, every}
use Rattle.numbers.specs.Sign.{signed_of}
use Rattle.lonlat.specs.Digits.{last_as, degrees_of, minutes_of, hundredths_of, value_of, is_sixty, fits, angle_in}
use Rattle.numbers.specs.Numbers.{number_after, number_of}
use Rattle.lonlat.specs.Latitude.{blanks_in, rest_blank, counted_digits, latitude_with, latitude_in, read_latitude}
use Rattle.mic_e.specs.Turn.{less_if}
use Rattle.mic_e.specs.Motion.{knots, degrees, read_motion, tens_of, motion_field}
use Rattle.mic_e.specs.Longitude.{offset_of, wrapped, size_of, read_longitude, degrees_byte, hundred_for, hundred_of, minutes_byte, longitude_field}
use Rattle.mic_e.specs.Message.{is_custom, is_standard, is_one, message_by, message_of}
use Rattle.mic_e.specs.Character.{is_character, is_last, digit_of, bit_of}
use Rattle.mic_e.specs.Destination.{are_characters, text_in, destination_with, read_destination}
use Rattle.mic_e.specs.declared.Message.TheVariants.{M3, Emergency}

-- `S32U6T`, `LLLLLL`, `4LLLLL` and `0LLLLL`
abbrev S32U6T : List ℕ
S32U6T = capital_s ∷ 0x33 ∷ 0x32 ∷ capital_u ∷ 0x36 ∷ capital_t ∷ []

abbrev LLLLL : List ℕ
LLLLL = capital_l ∷ capital_l ∷ capital_l ∷ capital_l ∷ capital_l ∷ []

pub record Cases : Type 0 where
  pub p1 : read_motion 108 32 28 ≡ Some (record { speed = record { 0 = 0 }; course = record { 0 = 0 } })
  pub p2 : read_motion 28 28 28 ≡ Some (record { speed = record { 0 = 0 }; course = record { 0 = 0 } })
  pub p3 : read_motion 27 28 28 ≡ None
  pub p4 : motion_field 799 360 ≡ 107 ∷ 125 ∷ 88 ∷ []
  pub p5 : read_motion 28 37 28 ≡ None
  pub p6 : read_longitude true false 118 88 28 ≡ Some (record { 0 = pos 0 })
  pub p7_field : longitude_field 630000 ≡ 113 ∷ 88 ∷ 28 ∷ []
  pub p7_offset : hundred_of (pos 630000) ≡ true
  pub p8 : read_destination S32U6T
      ≡ Some (record { latitude = record { 0 = pos 200564 }; message = M3; blanks = 0; south = false; hundred = false; west = true; sixty = false })
  pub p9_all_blank : read_destination (capital_l ∷ LLLLL) ≡ None
  pub p9_five_blank : read_destination (0x34 ∷ LLLLL)
      ≡ Some (record { latitude = record { 0 = negsuc 239999 }; message = Emergency; blanks = 5; south = true; hundred = false; west = false; sixty = false })
  pub zero_south : read_destination (0x30 ∷ LLLLL)
      ≡ Some (record { latitude = record { 0 = pos 0 }; message = Emergency; blanks = 5; south = true; hundred = false; west = false; sixty = false })

pub cases : Cases
unfolding less_if read_motion knots degrees motion_field tens_of read_longitude size_of wrapped offset_of longitude_field degrees_byte minutes_byte hundred_for hundred_of signed_of read_destination are_characters is_character is_last within text_in digit_of bit_of destination_with message_of message_by is_one is_custom is_standard read_latitude latitude_in latitude_with counted_digits rest_blank blanks_in angle_in fits value_of is_sixty degrees_of minutes_of hundredths_of number_of number_after last_as every index_of
cases =
    record {
      p1 = refl;
      p2 = refl;
      p3 = refl;
      p4 = refl;
      p5 = refl;
      p6 = refl;
      p7_field = refl;
      p7_offset = refl;
      p8 = refl;
      p9_all_blank = refl;
      p9_five_blank = refl;
      zero_south = refl;
    }
