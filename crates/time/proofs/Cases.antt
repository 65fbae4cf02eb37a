-- Worked cases by computation: the published times (APRS 1.0.1, chapters 6 and 8) both ways, and what is no time though it looks like one.
-- Assumes nothing.
use Rattle.std.proofs.Common.{◌≡◌, ℕ, List, [], ◌∷◌, refl, Some, None}
use Rattle.laws.specs.Bytes.{digit0, digit9, slash, small_h, small_z, capital_z, within}
use Rattle.laws.specs.Lists.{every}
use Rattle.numbers.specs.Numbers.{digit_of, digits_of, number_after, number_of}
use Rattle.time.specs.declared.Time.{Time}
use Rattle.time.specs.Time.{is_day, no_time, is_no_time, in_day, is_day_time, is_clock_time, is_time, time_of, time_in, read_time, seven_bytes, present_text, is_present, time_text, time_in_range, time_refusal}

-- `092345` and a letter, and its time
abbrev ninth : ℕ → List ℕ
ninth letter = digit0 ∷ digit9 ∷ 0x32 ∷ 0x33 ∷ 0x34 ∷ 0x35 ∷ letter ∷ []

abbrev ninth_at : ℕ → Time
ninth_at letter = record { day = 9; hour = 23; minute = 45; second = 0; form = letter }

-- `234517h`, and its time
abbrev evening : List ℕ
evening = 0x32 ∷ 0x33 ∷ 0x34 ∷ 0x35 ∷ 0x31 ∷ 0x37 ∷ small_h ∷ []

abbrev evening_at : Time
evening_at = record { day = 0; hour = 23; minute = 45; second = 17; form = small_h }

-- `000000` and a letter
abbrev midnight : ℕ → List ℕ
midnight letter = digit0 ∷ digit0 ∷ digit0 ∷ digit0 ∷ digit0 ∷ digit0 ∷ letter ∷ []

abbrev midnight_at : Time
midnight_at = record { day = 0; hour = 0; minute = 0; second = 0; form = small_h }

pub record Cases : Type 0 where
  pub utc : read_time (ninth small_z) ≡ Some (ninth_at small_z)
  pub utc_text : time_text (ninth_at small_z) ≡ ninth small_z
  pub local : read_time (ninth slash) ≡ Some (ninth_at slash)
  pub local_text : time_text (ninth_at slash) ≡ ninth slash
  pub clock : read_time evening ≡ Some evening_at
  pub clock_text : time_text evening_at ≡ evening
  -- a clock at midnight is a time of zeros, and no time has no bytes
  pub midnight_clock : read_time (midnight small_h) ≡ Some midnight_at
  pub midnight_text : time_text midnight_at ≡ midnight small_h
  pub no_text : time_text no_time ≡ []
  -- there is no day 0, no capital letter, and no time of six bytes
  pub no_day : read_time (midnight small_z) ≡ None
  pub no_capital : read_time (ninth capital_z) ≡ None
  pub no_letter : read_time (digit0 ∷ digit9 ∷ 0x32 ∷ 0x33 ∷ 0x34 ∷ 0x35 ∷ []) ≡ None
  -- a record with a second under `z`, or with a day and no letter, is out of range
  pub spare_second : time_refusal (record { day = 9; hour = 23; minute = 45; second = 1; form = small_z }) ≡ 15
  pub lone_day : time_refusal (record { day = 9; hour = 0; minute = 0; second = 0; form = 0 }) ≡ 15

pub cases : Cases
unfolding is_day no_time is_no_time in_day is_day_time is_clock_time is_time time_of time_in read_time seven_bytes present_text is_present time_text time_in_range time_refusal within every digit_of digits_of number_after number_of
cases =
    record {
      utc = refl;
      utc_text = refl;
      local = refl;
      local_text = refl;
      clock = refl;
      clock_text = refl;
      midnight_clock = refl;
      midnight_text = refl;
      no_text = refl;
      no_day = refl;
      no_capital = refl;
      no_letter = refl;
      spare_second = refl;
      lone_day = refl;
    }
