-- P11 of document 01 in a whole packet, by computing: hops A,B*,C of a line with a position read as A and B heard, C not, and
-- the record is written as the same line.
-- Assumes nothing.
use mathlib.Core.Path.{◌≡◌, refl}
use mathlib.Core.Bool.{false}
use mathlib.Core.List.{List, [], ◌∷◌, ◌++◌}
use Prim.Native.Nat.{ℕ}
use lib.IntN.{pos}
use Rattle.laws.specs.Bytes.{comma, point, slash, dash, digit0, colon, greater, bang, capital_e, capital_n, within}
use Rattle.laws.specs.Lists.{index_of, every, any_of, pad_to}
use Rattle.callsign.specs.Utf8.{after, characters, utf8}
use Rattle.callsign.specs.Text.{joined, made, is_zero, call_accepted, parted, read_unstarred, read_text as read_call}
use Rattle.callsign.specs.Range.{call_part, ssid_part, text_of as call_text, with_star}
use Rattle.header.specs.Hop.{heard_as, call_hop, is_heard, is_q_element, heard_if}
use Rattle.header.specs.Header.{blank_header, path_of, hops_of, header_of, header_accepted, unless_refused as unless_header, before, with_hops}
use Rattle.header.specs.Text.{on_first, fields, first_of, others_of, starts_q, hop_of, read_hop, hop_then, text_hops, stars_of, carried}
use Rattle.header.specs.Text.{read_route, read_before, read_header_text, hops_text, route_text, header_text}
use Rattle.header.proofs.Theorems.{p11_text, p11_hops}
use Rattle.numbers.specs.Sign.{signed_of, is_minus}
use Rattle.lonlat.specs.Digits.{last_as, degrees_of, minutes_of, hundredths_of, value_of, size_of, fits, angle_in, places_of, text_of}
use Rattle.numbers.specs.Numbers.{number_after, number_of, digit_of, digits_of}
use Rattle.lonlat.specs.Latitude.{blanks_in, rest_blank, counted_digits, latitude_with, latitude_in, read_latitude, north_or_south, blanked_places, latitude_text}
use Rattle.lonlat.specs.Longitude.{longitude_with, longitude_in, read_longitude, east_or_west, longitude_text}
use Rattle.time.specs.Time.{no_time, is_present, time_text}
use Rattle.position.specs.Position.{is_numeric, is_uncompressed, with_longitude, with_latitude, read_position_by, position_text}
use Rattle.message.specs.Message.{no_addressee}
use Rattle.body.specs.declared.Kind.TheVariants.{Position}
use Rattle.body.specs.Body.{no_span, no_report, opening_of, span_from, position_body, position_from, time_at, behind_time, positioned_from, body_after, read_body_by}
use Rattle.body.specs.Written.{to_as, written_to, position_type, position_bytes, bytes_as, body_bytes, tail_as, tail_bytes}
use Rattle.packet.specs.declared.Record.{Record}
use Rattle.packet.specs.Packet.{kept_to, record_of, packet_of, holds_packet, unless_refused, body_behind, packet_after, read_any_text_by, read_text_by, read_text}
use Rattle.packet.specs.Written.{written_header, bytes_of, text_bytes}

-- `X>Y,A,B*,C:!0000.00N/00000.00E-`
abbrev pub p11_line : List ℕ
p11_line =
    0x58 ∷ greater ∷ 0x59 ∷ comma ∷ p11_text
    ++ (colon ∷ bang ∷ digit0 ∷ digit0 ∷ digit0 ∷ digit0 ∷ point ∷ digit0 ∷ digit0 ∷ capital_n ∷ slash
    ∷ digit0 ∷ digit0 ∷ digit0 ∷ digit0 ∷ digit0 ∷ point ∷ digit0 ∷ digit0 ∷ capital_e ∷ dash ∷ [])

abbrev pub p11_record : Record
p11_record =
    record {
      header = record { from = made (0x58 ∷ []) []; to = made (0x59 ∷ []) []; path = path_of p11_hops };
      body = record {
        kind = Position;
        place = record { latitude = record { 0 = pos 0 }; longitude = record { 0 = pos 0 }; blanks = 0; table = slash; code = dash; south = false; west = false };
        time = no_time;
        messaging = false;
        report = no_report;
        comment = record { at = 31; len = 0 };
        identifier = no_span;
        addressee = no_addressee;
      };
      innermost = blank_header;
      inner = 0;
    }

pub p11_read : read_text p11_line ≡ record { refusal = 0; «record» = p11_record }
unfolding
    read_text_by read_any_text_by packet_after unless_refused body_behind holds_packet packet_of record_of kept_to read_body_by opening_of body_after positioned_from time_at behind_time position_from position_body span_from read_header_text
    read_before read_route with_hops stars_of path_of header_of unless_header header_accepted first_of others_of fields on_first text_hops hop_then
    before read_hop starts_q hop_of read_call read_unstarred parted call_accepted index_of utf8 characters after within is_zero made
    joined pad_to carried any_of is_heard is_q_element heard_if heard_as call_hop read_position_by is_uncompressed is_numeric with_latitude with_longitude
    read_latitude latitude_in latitude_with read_longitude longitude_in longitude_with blanks_in rest_blank counted_digits every
    last_as number_after number_of degrees_of minutes_of hundredths_of value_of size_of fits angle_in signed_of
p11_read = refl

pub p11_written : text_bytes p11_record [] [] ≡ p11_line
unfolding
    text_bytes bytes_of body_bytes bytes_as tail_bytes tail_as position_type position_bytes no_time is_present time_text written_header written_to to_as position_text latitude_text longitude_text
    blanked_places north_or_south east_or_west is_minus text_of places_of digits_of digit_of last_as header_text route_text hops_text
    hops_of any_of is_heard heard_as call_hop call_text call_part ssid_part with_star made joined pad_to path_of
p11_written = refl
