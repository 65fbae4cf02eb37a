-- The destination as written reads as what it was written for.
-- Assumes nothing.
use Rattle.std.proofs.Common.{◌≡◌, ℕ, ◌%◌, ◌<◌, ◌≤◌, Bool, true, false, cond, ◌&&◌, eqb, ltb, List, [], ◌∷◌, length, get_or, Some, ℤ, nat_abs, refl, ap, ◌∙◌, arith}
use Rattle.laws.specs.Bytes.{capital_n, capital_s}
use Rattle.laws.specs.Lists.{every}
use Rattle.laws.proofs.Tests.{and_first, and_second, picked}
use Rattle.lonlat.specs.Angle.{most_latitude, width_of}
use Rattle.numbers.specs.Sign.{is_minus}
use Rattle.lonlat.specs.Latitude.{is_digit_or_blank, latitude_in, latitude_places, read_latitude, blanked_places, north_or_south, latitude_text}
use Rattle.lonlat.proofs.Texts.{latitude_of_eight, latitude_of_text, blanked_six, blanked_at, latitude_text_places, latitude_text_letter}
use Rattle.lonlat.proofs.Theorems.{latitude_reads_back}
use Rattle.mic_e.specs.Character.{is_character, is_last, flag_bit}
use Rattle.mic_e.specs.Longitude.{hundred_of}
use Rattle.mic_e.specs.Message.{message_of, message_by, is_one, is_custom, is_standard, bits_of}
use Rattle.mic_e.specs.Destination.{are_characters, text_in, destination_with, read_destination, characters_of, destination_bytes}
use Rattle.mic_e.specs.declared.Bit.{Bit}
use Rattle.mic_e.specs.declared.Bit.TheVariants.{Zero}
use Rattle.mic_e.specs.declared.Message.{Message}
use Rattle.mic_e.specs.declared.Message.TheVariants.{M0, M1, M2, M3, M4, M5, M6, C0, C1, C2, C3, C4, C5, C6, Emergency, Unknown}
use Rattle.mic_e.proofs.CharacterFacts.{Carries, carries, bit_back, flag_last, flag_back, character_ascii, last_ascii}

-- the bits of a message as written read as the message
pub message_reads_back : (m : Message) → message_of (get_or (bits_of m) 0 Zero) (get_or (bits_of m) 1 Zero) (get_or (bits_of m) 2 Zero) ≡ m
unfolding message_of message_by is_one is_custom is_standard bits_of
message_reads_back M0 = refl
message_reads_back M1 = refl
message_reads_back M2 = refl
message_reads_back M3 = refl
message_reads_back M4 = refl
message_reads_back M5 = refl
message_reads_back M6 = refl
message_reads_back C0 = refl
message_reads_back C1 = refl
message_reads_back C2 = refl
message_reads_back C3 = refl
message_reads_back C4 = refl
message_reads_back C5 = refl
message_reads_back C6 = refl
message_reads_back Emergency = refl
message_reads_back Unknown = refl

-- the letter again, of its flag
letter_back : (angle : ℤ) → cond (eqb (north_or_south angle) capital_n) capital_n capital_s ≡ north_or_south angle
unfolding north_or_south
letter_back angle = picked (λ letter b. cond (eqb letter capital_n) capital_n capital_s ≡ letter) capital_s capital_n refl refl (is_minus angle)

module _ (angle : ℤ) (blanks : ℕ) (few : blanks ≤ 5) (bits : List Bit) (hundred west : Bool) where
  t : List ℕ
  t = latitude_text angle blanks

  call : List ℕ
  call = characters_of t bits hundred west

  six : latitude_places t ≡ blanked_places blanks (nat_abs angle)
  unfolding t
  six = latitude_text_places angle blanks (omega arith)

  letter : get_or t 7 0 ≡ north_or_south angle
  unfolding t
  letter = latitude_text_letter angle blanks (omega arith)

  shown : (i : ℕ) → i < 6 → is_digit_or_blank (get_or (latitude_places t) i 0) ≡ true
  shown i h = ap (λ (p : List ℕ). is_digit_or_blank (get_or p i 0)) six ∙ blanked_at blanks (nat_abs angle) (omega arith) i h

  c0 : Carries (get_or bits 0 Zero) (get_or t 0 0)
  c0 = carries (get_or bits 0 Zero) (get_or t 0 0) (shown 0 (omega arith))

  c1 : Carries (get_or bits 1 Zero) (get_or t 1 0)
  c1 = carries (get_or bits 1 Zero) (get_or t 1 0) (shown 1 (omega arith))

  c2 : Carries (get_or bits 2 Zero) (get_or t 2 0)
  c2 = carries (get_or bits 2 Zero) (get_or t 2 0) (shown 2 (omega arith))

  c3 : Carries (flag_bit (eqb (get_or t 7 0) capital_n)) (get_or t 3 0)
  c3 = carries (flag_bit (eqb (get_or t 7 0) capital_n)) (get_or t 3 0) (shown 3 (omega arith))

  c4 : Carries (flag_bit hundred) (get_or t 5 0)
  c4 = carries (flag_bit hundred) (get_or t 5 0) (shown 4 (omega arith))

  c5 : Carries (flag_bit west) (get_or t 6 0)
  c5 = carries (flag_bit west) (get_or t 6 0) (shown 5 (omega arith))

  all_stand : are_characters call ≡ true
  unfolding call characters_of are_characters
  all_stand = rw (c0.stands, c1.stands, c2.stands, flag_last _ _ c3, flag_last _ _ c4, flag_last _ _ c5)

  -- the text that the characters carry says what the text as written says
  text_back : read_latitude (text_in call) ≡ latitude_in (blanked_places blanks (nat_abs angle)) (north_or_south angle)
  unfolding call characters_of text_in
  text_back =
      latitude_of_eight _ _ _ _ _ _ _
      ∙ rw (c0.shown, c1.shown, c2.shown, c3.shown, c4.shown, c5.shown, flag_back _ _ c3, letter, letter_back angle, six)

  reads : nat_abs angle ≤ most_latitude → nat_abs angle % width_of blanks ≡ 0
      → read_destination call
      ≡ Some (record { latitude = record { 0 = angle }; message = message_of (get_or bits 0 Zero) (get_or bits 1 Zero) (get_or bits 2 Zero); blanks = blanks; south = is_minus angle; hundred = hundred; west = west; sixty = false })
  unfolding read_destination destination_with call characters_of latitude_text
  reads near width =
      let e = latitude_of_text (blanked_places blanks (nat_abs angle)) (north_or_south angle) (blanked_six blanks (nat_abs angle) (omega arith)) in
      rw (all_stand, text_back, ← e, latitude_reads_back angle blanks few near width, bit_back _ _ c0, bit_back _ _ c1, bit_back _ _ c2, flag_back _ _ c4, flag_back _ _ c5)

-- the destination as written, of a latitude that is a multiple of the width that its blanks leave, reads as the same
pub destination_reads_back : (latitude : ℤ) (blanks : ℕ) (m : Message) (longitude : ℤ)
    → nat_abs latitude ≤ most_latitude → blanks ≤ 5 → nat_abs latitude % width_of blanks ≡ 0
    → read_destination (destination_bytes latitude blanks m longitude)
    ≡ Some (record { latitude = record { 0 = latitude }; message = m; blanks = blanks; south = is_minus latitude; hundred = hundred_of longitude; west = is_minus longitude; sixty = false })
unfolding destination_bytes call t
destination_reads_back latitude blanks m longitude near few width =
    reads latitude blanks few (bits_of m) (hundred_of longitude) (is_minus longitude) near width
    ∙ rw (message_reads_back m)

-- six characters, each fit for its place
pub destination_length : (latitude : ℤ) (blanks : ℕ) (m : Message) (longitude : ℤ) → length (destination_bytes latitude blanks m longitude) ≡ 6
unfolding destination_bytes characters_of
destination_length latitude blanks m longitude = refl

destination_stands : (latitude : ℤ) (blanks : ℕ) (m : Message) (longitude : ℤ) → blanks ≤ 5 → are_characters (destination_bytes latitude blanks m longitude) ≡ true
unfolding destination_bytes call t
destination_stands latitude blanks m longitude few = all_stand latitude blanks few (bits_of m) (hundred_of longitude) (is_minus longitude)

-- and they are ASCII
characters_ascii : (a b c d e f : ℕ) → are_characters (a ∷ b ∷ c ∷ d ∷ e ∷ f ∷ []) ≡ true → every (λ x. ltb x 0x80) (a ∷ b ∷ c ∷ d ∷ e ∷ f ∷ []) ≡ true
unfolding are_characters every
characters_ascii a b c d e f h =
    let h₅ = is_last e && is_last f in
    let h₄ = is_last d && h₅ in
    let h₃ = is_character c && h₄ in
    let h₂ = is_character b && h₃ in
    let q₁ = and_second (is_character a) h₂ h in
    let q₂ = and_second (is_character b) h₃ q₁ in
    let q₃ = and_second (is_character c) h₄ q₂ in
    let q₄ = and_second (is_last d) h₅ q₃ in
    rw (
      character_ascii a (and_first (is_character a) h₂ h),
      character_ascii b (and_first (is_character b) h₃ q₁),
      character_ascii c (and_first (is_character c) h₄ q₂),
      last_ascii d (and_first (is_last d) h₅ q₃),
      last_ascii e (and_first (is_last e) (is_last f) q₄),
      last_ascii f (and_second (is_last e) (is_last f) q₄),
    )

pub destination_ascii : (latitude : ℤ) (blanks : ℕ) (m : Message) (longitude : ℤ) → blanks ≤ 5 → every (λ x. ltb x 0x80) (destination_bytes latitude blanks m longitude) ≡ true
unfolding destination_bytes characters_of
destination_ascii latitude blanks m longitude few = characters_ascii _ _ _ _ _ _ (destination_stands latitude blanks m longitude few)
