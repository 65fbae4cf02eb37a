-- Document 01, 'Values for the bench': P1 to P12 as one table, `BenchValues`, under one theorem, `bench_values`. Each line
-- quotes its case and states it of the definitions that the promises cite. Angles are whole hundredths of a minute. P11 stands there
-- twice, the second time with a Q element among the hops (document 02, R-7).
-- Assumes nothing.
use mathlib.Core.Path.{◌≡◌, refl}
use mathlib.Core.Bool.{Bool, true, false}
use mathlib.Core.List.{List, [], ◌∷◌, ◌++◌}
use Prim.Native.Nat.{ℕ, ◌+◌, ◌*◌}
use Rattle.std.specs.Prelude.{Option, Some}
use lib.IntN.{pos, neg_ℤ}
use Rattle.laws.specs.Bytes.{star, comma, point, digit0, colon, greater, within, capital_a, capital_b, capital_c, capital_l, capital_n, capital_s, capital_t, capital_u}
use Rattle.laws.specs.Lists.{index_of, any_of, same_bytes, pad_to}
use Rattle.callsign.specs.declared.Callsign.{Callsign}
use Rattle.callsign.specs.declared.Field.TheVariants.{Hop}
use Rattle.callsign.specs.Utf8.{after, characters, utf8}
use Rattle.callsign.specs.Text.{joined, made, is_zero, call_accepted, parted, read_unstarred, read_text}
use Rattle.callsign.specs.Range.{call_part, ssid_part, text_of, with_star}
use Rattle.callsign.specs.Address.{read_address}
use Rattle.callsign.specs.Packed.{bit, write_address}
use Rattle.callsign.proofs.Theorems.{P10, p10_read}
use Rattle.lonlat.specs.Latitude.{latitude_read, read_latitude, latitude_number}
use Rattle.lonlat.specs.declared.LatitudeRead.{LatitudeRead}
use Rattle.lonlat.proofs.Theorems.{ninety_degrees, sixty_minutes, past_ninety}
use Rattle.mic_e.specs.Turn.{less_if}
use Rattle.mic_e.specs.Motion.{degrees as course, read_motion, motion_number, motion_out, motion_field}
use Rattle.mic_e.specs.Longitude.{read_longitude, longitude_out, longitude_field, hundred_of}
use Rattle.mic_e.specs.Destination.{read_destination, destination_number}
use Rattle.mic_e.specs.declared.Message.TheVariants.{M3, Emergency}
use Rattle.mic_e.specs.declared.Motion.{Motion}
use Rattle.mic_e.proofs.Cases.{cases}
use Rattle.header.specs.declared.Hop as hops
use Rattle.header.specs.Hop.{qAC, is_q_name, heard_as, call_hop, q_hop, is_heard, is_q_element, heard_if}
use Rattle.header.specs.Header.{before, path_of, hops_of, header_of, header_accepted, unless_refused, with_hops}
use Rattle.header.specs.Text.{on_first, fields, first_of, others_of, starts_q, hop_of, hop_named, read_hop, hop_then, text_hops, stars_of, carried, read_route, read_before, read_header_text, read_text_header, hops_text, route_text, header_text}

-- ---- what the table's lines are written with

-- three bytes
abbrev bytes : ℕ → ℕ → ℕ → List ℕ
bytes a b c = a ∷ b ∷ c ∷ []

abbrev moving : ℕ → ℕ → Option Motion
moving knots degree = Some (record { speed = record { 0 = knots }; course = record { 0 = degree } })

abbrev degrees : ℕ → ℕ
degrees d = d * 6000

-- characters, and the texts that the cases name
abbrev digit : ℕ → ℕ
digit d = digit0 + d

abbrev S32U6T : List ℕ
S32U6T = capital_s ∷ digit 3 ∷ digit 2 ∷ capital_u ∷ digit 6 ∷ capital_t ∷ []

abbrev LLLLLL : List ℕ
LLLLLL = capital_l ∷ capital_l ∷ capital_l ∷ capital_l ∷ capital_l ∷ capital_l ∷ []

abbrev 4LLLLL : List ℕ
4LLLLL = digit 4 ∷ capital_l ∷ capital_l ∷ capital_l ∷ capital_l ∷ capital_l ∷ []

abbrev N0CALL : List ℕ
N0CALL = capital_n ∷ digit 0 ∷ capital_c ∷ capital_a ∷ capital_l ∷ capital_l ∷ []

abbrev address : List ℕ
address = 0x9c ∷ 0x60 ∷ 0x86 ∷ 0x82 ∷ 0x98 ∷ 0x98 ∷ 0xe3 ∷ []

-- `S>T,A,B*,C:`
abbrev line : List ℕ
line = capital_s ∷ greater ∷ capital_t ∷ comma ∷ capital_a ∷ comma ∷ capital_b ∷ star ∷ comma ∷ capital_c ∷ colon ∷ []

-- `S>T,A,qAC,B*,C:`
abbrev line_past_q : List ℕ
line_past_q = capital_s ∷ greater ∷ capital_t ∷ comma ∷ capital_a ∷ comma ∷ qAC ++ comma ∷ capital_b ∷ star ∷ comma ∷ capital_c ∷ colon ∷ []

-- a callsign of one letter, and a hop that is one
abbrev lone : ℕ → Callsign
lone letter = made (letter ∷ []) []

abbrev hop : ℕ → Bool → hops.Hop
hop letter heard = call_hop (lone letter) heard

-- A and B heard, C not
abbrev heard_to_b : List hops.Hop
heard_to_b = hop capital_a true ∷ hop capital_b true ∷ hop capital_c false ∷ []

-- the same with a Q element behind A
abbrev heard_past_q : List hops.Hop
heard_past_q = hop capital_a true ∷ q_hop qAC ∷ hop capital_b true ∷ hop capital_c false ∷ []

-- `ddmm.hhN` by its digits
abbrev north : ℕ → ℕ → ℕ → ℕ → ℕ → ℕ → List ℕ
north a b c d e f = digit a ∷ digit b ∷ digit c ∷ digit d ∷ point ∷ digit e ∷ digit f ∷ capital_n ∷ []

-- a northern latitude without blanks, its minutes below 60 or not
abbrev at_north : ℕ → Bool → Option LatitudeRead
at_north size sixty = Some (latitude_read (pos size) 0 false sixty)

-- ---- the table

pub record BenchValues : Type 0 where
  -- "P1 motion 108,32,28: 0 knots, course 0."
  pub p1 : read_motion 108 32 28 ≡ moving 0 0
  -- "P2 28,28,28: the same."
  pub p2 : read_motion 28 28 28 ≡ moving 0 0
  -- "P3 27,28,28: 12."
  pub p3 : motion_number (read_motion 27 28 28) ≡ 12
  -- "P4 799 knots, 360: written 107,125,88."
  pub p4 : (motion_out 799 360 ≡ false) × (motion_field 799 360 ≡ bytes 107 125 88)
  -- "P5 28,37,28: course 500, so 12."
  pub p5 : (course 37 28 ≡ 500) × (motion_number (read_motion 28 37 28) ≡ 12)
  -- "P6 longitude 118,88,28, offset 100, east: 0."
  pub p6 : read_longitude true false 118 88 28 ≡ Some (record { 0 = pos 0 })
  -- "P7 105 degrees east: written 113,88,28, offset 100."
  pub p7 : (longitude_out (pos (degrees 105)) ≡ false)
      × (longitude_field (degrees 105) ≡ bytes 113 88 28) × (hundred_of (pos (degrees 105)) ≡ true)
  -- "P8 destination S32U6T: 200564, no blanks, M3, offset 0, west."
  pub p8 : read_destination S32U6T
      ≡ Some (record { latitude = record { 0 = pos 200564 }; message = M3; blanks = 0; south = false; hundred = false; west = true; sixty = false })
  -- "P9 LLLLLL: 11; 4LLLLL: -240000, five blanks, Emergency."
  pub p9 : (destination_number (read_destination LLLLLL) ≡ 11)
      × (read_destination 4LLLLL
      ≡ Some (record { latitude = record { 0 = neg_ℤ (pos 240000) }; message = Emergency; blanks = 5; south = true; hundred = false; west = false; sixty = false }))
  -- "P10 hop N0CALL-1, heard, last: 9c 60 86 82 98 98 e3."
  pub p10 : (write_address (made N0CALL (digit 1 ∷ [])) (Hop true) true ≡ record { refusal = 0; bytes = address })
      × (read_address address ≡ record { refusal = 0; call = made N0CALL (digit 1 ∷ []); heard = true; last = true })
  -- "P11 hops A,B*,C: A and B heard, C not; written A,B*,C."
  pub p11 : (read_text_header line
      ≡ header_accepted (lone capital_s) (lone capital_t) (path_of heard_to_b) 11 2)
      × (header_text (read_text_header line).header ≡ line)
  -- document 02, R-7: "passed over when stars are carried back. In text it is written at its place"
  pub p11_past_q : (read_text_header line_past_q
      ≡ header_accepted (lone capital_s) (lone capital_t) (path_of heard_past_q) 15 4)
      × (header_text (read_text_header line_past_q).header ≡ line_past_q)
  -- "P12 9000.00N and 8960.00N: 540000; 9000.01N: 8."
  pub p12 : (read_latitude (north 9 0 0 0 0 0) ≡ at_north 540000 false)
      × (read_latitude (north 8 9 6 0 0 0) ≡ at_north 540000 true)
      × (latitude_number (read_latitude (north 9 0 0 0 0 1)) ≡ 8)

-- ---- the theorem

p11_read_lem : read_text_header line
    ≡ header_accepted (lone capital_s) (lone capital_t) (path_of heard_to_b) 11 2
unfolding read_text_header read_header_text read_before read_route with_hops unless_refused header_accepted header_of path_of fields on_first first_of others_of text_hops hop_then before read_hop starts_q hop_of read_text read_unstarred parted call_accepted index_of utf8 characters after within is_zero made joined pad_to carried stars_of bit any_of is_heard is_q_element heard_if heard_as call_hop
p11_read_lem = refl

p11_written_lem : header_text (header_of (lone capital_s) (lone capital_t) (path_of heard_to_b)) ≡ line
unfolding header_text route_text header_of path_of hops_of hops_text any_of is_heard heard_as call_hop text_of call_part ssid_part with_star made joined pad_to
p11_written_lem = refl

past_q_read : read_text_header line_past_q
    ≡ header_accepted (lone capital_s) (lone capital_t) (path_of heard_past_q) 15 4
unfolding read_text_header read_header_text read_before read_route with_hops unless_refused header_accepted header_of path_of fields on_first first_of others_of text_hops hop_then before read_hop starts_q is_q_name same_bytes hop_named q_hop hop_of read_text read_unstarred parted call_accepted index_of utf8 characters after within is_zero made joined pad_to carried stars_of bit any_of is_heard is_q_element heard_if heard_as call_hop
past_q_read = refl

past_q_written : header_text (header_of (lone capital_s) (lone capital_t) (path_of heard_past_q)) ≡ line_past_q
unfolding header_text route_text header_of path_of hops_of hops_text any_of is_heard heard_as call_hop q_hop text_of call_part ssid_part with_star made joined pad_to
past_q_written = refl

pub bench_values : BenchValues
unfolding course less_if motion_number motion_out longitude_out destination_number latitude_number header_accepted
bench_values =
    record {
      p1 = cases.p1;
      p2 = cases.p2;
      p3 = rw cases.p3;
      p4 = (refl, cases.p4);
      p5 = (refl, rw cases.p5);
      p6 = cases.p6;
      p7 = (refl, cases.p7_field, cases.p7_offset);
      p8 = cases.p8;
      p9 = (rw cases.p9_all_blank, cases.p9_five_blank);
      p10 = (P10, p10_read);
      p11 = (p11_read_lem, rw p11_read_lem p11_written_lem);
      p11_past_q = (past_q_read, rw past_q_read past_q_written);
      p12 = (ninety_degrees, sixty_minutes, rw past_ninety);
    }
