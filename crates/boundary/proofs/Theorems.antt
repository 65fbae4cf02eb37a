-- What a record as C has it keeps: all of a record. The blank record is all zeros, and a record that was read is known to the
-- writers.
-- Assumes nothing.
use mathlib.Core.Path.{◌≡◌, refl, sym, ap, ◌∙◌}
use mathlib.Core.Bool.{true, false}
use lib.IntN.{pos}
use lib.ListN.{replicate}
use Rattle.callsign.specs.declared.Callsign.{Callsign}
use Rattle.laws.specs.Lists.{pad_to}
use Rattle.callsign.specs.Text.{blank_call, made, joined}
use Rattle.header.specs.declared.Hop.{Hop}
use Rattle.header.specs.declared.Header.{Header}
use Rattle.header.specs.Hop.{heard_as, call_hop}
use Rattle.header.specs.Header.{blank_header, header_of, path_of, blank_hop}
use Rattle.mic_e.specs.Message.{message_number}
use Rattle.time.specs.Time.{no_time}
use Rattle.message.specs.Message.{no_addressee}
use Rattle.body.specs.Body.{no_report, no_span, blank_body}
use Rattle.packet.specs.declared.Record.{Record}
use Rattle.packet.specs.Record.{blank_record}
use Rattle.boundary.specs.declared.CRecord.{CRecord}
use Rattle.boundary.specs.Numbers.{kind_number}
use Rattle.boundary.specs.Record.{report_in_c, body_in_c, record_in_c, is_known, report_meant, body_meant, record_meant}
use Rattle.boundary.proofs.Numbers.{kind_kept, message_kept}

-- a record given to C means itself, whatever it holds: nothing is lost
pub back_again : (r : Record) → record_meant (record_in_c r) ≡ r
unfolding record_meant body_meant report_meant record_in_c body_in_c report_in_c
back_again r = rw ((kind_kept r.body.kind).0, (message_kept r.body.report.message).0)

-- so two records that are the same to C are the same
pub apart_in_c : (r s : Record) → record_in_c r ≡ record_in_c s → r ≡ s
apart_in_c r s e = sym (back_again r) ∙ ap (λ (f : CRecord). record_meant f) e ∙ back_again s

-- what was read is known to a writer
pub known_in_c : (r : Record) → is_known (record_in_c r).body ≡ true
unfolding is_known record_in_c body_in_c report_in_c
known_in_c r = rw ((kind_kept r.body.kind).1, (message_kept r.body.report.message).1)

abbrev pub no_call : Callsign
no_call = record { text = replicate 16 0; call_len = 0; ssid_len = 0; had_zero_ssid = false }

abbrev pub no_hop : Hop
no_hop = record { call = no_call; kind = 0 }

abbrev pub no_header : Header
no_header = record { from = no_call; to = no_call; path = record { hops = replicate 8 no_hop; count = 0 } }

-- every byte of a record, number by number, 0
abbrev pub all_zero : CRecord
all_zero =
    record {
      header = no_header;
      body = record {
        place = record { latitude = record { 0 = pos 0 }; longitude = record { 0 = pos 0 }; blanks = 0; table = 0; code = 0; south = false; west = false };
        report = record { speed = record { 0 = 0 }; course = record { 0 = 0 }; message = 0; current = false };
        comment = record { at = 0; len = 0 };
        identifier = record { at = 0; len = 0 };
        time = record { day = 0; hour = 0; minute = 0; second = 0; form = 0 };
        addressee = replicate 9 0;
        messaging = false;
        kind = 0;
      };
      innermost = no_header;
      inner = 0;
    }

-- "A refused decode returns the blank record: Unknown kind, all lengths and numbers 0."
pub blank_is_zeros : record_in_c blank_record ≡ all_zero
unfolding record_in_c body_in_c report_in_c blank_record blank_body no_report no_span no_addressee no_time kind_number message_number blank_header header_of path_of blank_hop call_hop heard_as blank_call made joined pad_to
blank_is_zeros = refl

pub zeros_are_blank : record_meant all_zero ≡ blank_record
zeros_are_blank = ap (λ (f : CRecord). record_meant f) (sym blank_is_zeros) ∙ back_again blank_record
