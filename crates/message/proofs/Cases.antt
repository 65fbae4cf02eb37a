-- Worked cases by computation: the published messages and status lines (APRS 1.0.1, chapters 14 and 16) both ways, the lengths at which
-- they end, and what only looks like a part of one.
-- Assumes nothing.
use mathlib.Core.Path.{◌≡◌, refl}
use mathlib.Core.List.{List, [], ◌∷◌, ◌++◌}
use Prim.Native.Nat.{ℕ}
use lib.ListN.{drop, replicate}
use Rattle.laws.specs.Bytes.{space, slash, digit0, digit9, colon, small_a, small_h, small_z, capital_z, brace, bar, tilde, within}
use Rattle.laws.specs.Lists.{index_of, every, pad_to}
use Rattle.numbers.specs.Numbers.{digit_of, digits_of, number_after, number_of}
use Rattle.time.specs.declared.Time.{Time}
use Rattle.time.specs.Time.{is_day, no_time, is_no_time, in_day, is_day_time, is_clock_time, is_time, time_of, time_in, read_time, seven_bytes, present_text, is_present, time_text}
use Rattle.std.specs.Prelude.{Some, None}
use Rattle.message.specs.Message.{is_text_byte, is_text, is_identifier, has_identifier, text_in, identifier_in, is_addressed, is_message, no_addressee, message_accepted, message_refused, read_message, addressee_text, identifier_text, message_text, identifier_refusal, message_refusal}
use Rattle.message.specs.Status.{zulu_of, time_before, most_text, text_behind, status_of, read_status, status_text, is_status_time, is_status_text, status_text_refusal, status_refusal}

-- ---- the bytes

-- `WU2Z`, padded with spaces
abbrev wu2z : List ℕ
wu2z = 0x57 ∷ 0x55 ∷ 0x32 ∷ 0x5a ∷ space ∷ space ∷ space ∷ space ∷ space ∷ []

-- a message to it: `:` and what is given
abbrev sent : List ℕ → List ℕ
sent l = wu2z ++ colon ∷ l

-- `Testing`
abbrev testing : List ℕ
testing = 0x54 ∷ 0x65 ∷ 0x73 ∷ 0x74 ∷ 0x69 ∷ 0x6e ∷ 0x67 ∷ []

-- `003`
abbrev three : List ℕ
three = digit0 ∷ digit0 ∷ 0x33 ∷ []

-- `ack003`
abbrev ack : List ℕ
ack = small_a ∷ 0x63 ∷ 0x6b ∷ three

-- `a{b`
abbrev braced : List ℕ
braced = small_a ∷ brace ∷ 0x62 ∷ []

-- `x`, so many of them
abbrev xs : ℕ → List ℕ
xs n = replicate n 0x78

-- `Net Control Center`
abbrev center : List ℕ
center = 0x4e ∷ 0x65 ∷ 0x74 ∷ space ∷ 0x43 ∷ 0x6f ∷ 0x6e ∷ 0x74 ∷ 0x72 ∷ 0x6f ∷ 0x6c ∷ space ∷ 0x43 ∷ 0x65 ∷ 0x6e ∷ 0x74 ∷ 0x65 ∷ 0x72 ∷ []

-- `092345`, a letter and what is given, and its time
abbrev ninth : ℕ → List ℕ → List ℕ
ninth letter l = digit0 ∷ digit9 ∷ 0x32 ∷ 0x33 ∷ 0x34 ∷ 0x35 ∷ letter ∷ l

abbrev ninth_at : ℕ → Time
ninth_at letter = record { day = 9; hour = 23; minute = 45; second = 0; form = letter }

-- `234517hx` and `000000zx`
abbrev evening : List ℕ
evening = 0x32 ∷ 0x33 ∷ 0x34 ∷ 0x35 ∷ 0x31 ∷ 0x37 ∷ small_h ∷ xs 1

abbrev midnight : List ℕ
midnight = digit0 ∷ digit0 ∷ digit0 ∷ digit0 ∷ digit0 ∷ digit0 ∷ small_z ∷ xs 1

-- ---- the cases

pub record Messages : Type 0 where
  pub plain : read_message (sent testing) ≡ message_accepted wu2z 7 0
  pub plain_text : message_text wu2z testing [] ≡ sent testing
  pub numbered : read_message (sent (testing ++ brace ∷ three)) ≡ message_accepted wu2z 7 3
  pub numbered_text : message_text wu2z testing three ≡ sent (testing ++ brace ∷ three)
  -- an acknowledgement is text
  pub acknowledged : read_message (sent ack) ≡ message_accepted wu2z 6 0
  -- the first `{` ends the text, another is the identifier's
  pub brace_within : read_message (sent (brace ∷ braced)) ≡ message_accepted wu2z 0 3
  pub brace_kept : identifier_in (drop 10 (sent (brace ∷ braced))) ≡ braced
  -- no text and no identifier; nine bytes, or no `:` behind them
  pub empty : read_message (sent []) ≡ message_accepted wu2z 0 0
  pub nine_bytes : read_message wu2z ≡ message_refused
  pub no_colon : read_message (wu2z ++ testing) ≡ message_refused
  -- 67 bytes of text, 5 of identifier
  pub longest : read_message (sent (xs 67 ++ brace ∷ xs 5)) ≡ message_accepted wu2z 67 5
  pub text_68 : read_message (sent (xs 68)) ≡ message_refused
  pub identifier_6 : read_message (sent (testing ++ brace ∷ xs 6)) ≡ message_refused
  pub identifier_0 : read_message (sent (testing ++ brace ∷ [])) ≡ message_refused
  pub a_bar : read_message (sent (bar ∷ testing)) ≡ message_refused
  pub a_tilde : read_message (sent (tilde ∷ testing)) ≡ message_refused
  -- the same of what is handed over to be written
  pub not_written_68 : message_refusal (xs 68) [] ≡ 18
  pub not_written_6 : message_refusal testing (xs 6) ≡ 18
  pub not_written_brace : message_refusal braced [] ≡ 18

pub messages : Messages
unfolding is_text_byte is_text is_identifier has_identifier text_in identifier_in is_addressed is_message no_addressee message_refused read_message addressee_text identifier_text message_text identifier_refusal message_refusal within index_of every pad_to
messages =
    record {
      plain = refl;
      plain_text = refl;
      numbered = refl;
      numbered_text = refl;
      acknowledged = refl;
      brace_within = refl;
      brace_kept = refl;
      empty = refl;
      nine_bytes = refl;
      no_colon = refl;
      longest = refl;
      text_68 = refl;
      identifier_6 = refl;
      identifier_0 = refl;
      a_bar = refl;
      a_tilde = refl;
      not_written_68 = refl;
      not_written_6 = refl;
      not_written_brace = refl;
    }

pub record StatusLines : Type 0 where
  pub plain : read_status center ≡ Some no_time
  pub plain_text : status_text no_time center ≡ center
  pub timed : read_status (ninth small_z center) ≡ Some (ninth_at small_z)
  pub timed_text : status_text (ninth_at small_z) center ≡ ninth small_z center
  pub behind : text_behind (ninth_at small_z) (ninth small_z center) ≡ center
  pub empty : read_status [] ≡ Some no_time
  -- what is no `z` time is text: local time, a clock's, day 0, a capital letter
  pub local : read_status (ninth slash (xs 1)) ≡ Some no_time
  pub clock : read_status evening ≡ Some no_time
  pub no_day : read_status midnight ≡ Some no_time
  pub no_capital : read_status (ninth capital_z (xs 1)) ≡ Some no_time
  -- 62 bytes, or a time and 55
  pub longest : read_status (xs 62) ≡ Some no_time
  pub text_63 : read_status (xs 63) ≡ None
  pub longest_timed : read_status (ninth small_z (xs 55)) ≡ Some (ninth_at small_z)
  pub timed_56 : read_status (ninth small_z (xs 56)) ≡ None
  -- 15 for another letter; 18 for a text that would read as a time; behind a time it may start with another
  pub local_time : status_refusal (ninth_at slash) center ≡ 15
  pub starts_timed : status_refusal no_time (ninth small_z (xs 1)) ≡ 18
  pub time_behind_time : status_refusal (ninth_at small_z) (ninth small_z (xs 1)) ≡ 0
  pub not_written_63 : status_refusal no_time (xs 63) ≡ 18
  pub not_written_56 : status_refusal (ninth_at small_z) (xs 56) ≡ 18

pub status_lines : StatusLines
unfolding zulu_of time_before most_text text_behind status_of read_status status_text is_status_time is_status_text status_text_refusal status_refusal is_day no_time is_no_time in_day is_day_time is_clock_time is_time time_of time_in read_time seven_bytes present_text is_present time_text within every digit_of digits_of number_after number_of
status_lines =
    record {
      plain = refl;
      plain_text = refl;
      timed = refl;
      timed_text = refl;
      behind = refl;
      empty = refl;
      local = refl;
      clock = refl;
      no_day = refl;
      no_capital = refl;
      longest = refl;
      text_63 = refl;
      longest_timed = refl;
      timed_56 = refl;
      local_time = refl;
      starts_timed = refl;
      time_behind_time = refl;
      not_written_63 = refl;
      not_written_56 = refl;
    }
