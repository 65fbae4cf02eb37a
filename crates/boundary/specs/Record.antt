-- A record as C has it: packet's record, but that its kind and its message are numbers. What a reader gives has their numbers;
-- what a writer is given stands for a record, or is refused.
-- Assumes nothing.
use Rattle.std.specs.Prelude.{ℕ, Bool, cond, ◌&&◌, List, leb}
use Rattle.mic_e.specs.Message.{message_number, message_at, most_message}
use Rattle.body.specs.declared.Report.{Report}
use Rattle.body.specs.declared.Body.{Body}
use Rattle.packet.specs.declared.Record.{Record}
use Rattle.packet.specs.declared.PacketRead.{PacketRead}
use Rattle.packet.specs.Written.{text_refusal, frame_refusal}
use Rattle.boundary.specs.declared.CReport.{CReport}
use Rattle.boundary.specs.declared.CBody.{CBody}
use Rattle.boundary.specs.declared.CRecord.{CRecord}
use Rattle.boundary.specs.declared.CRead.{CRead}
use Rattle.boundary.specs.Numbers.{kind_number, kind_at, most_kind}

-- ---- what a reader gives

-- a report with its message's number
unfoldable pub report_in_c : Report → CReport
report_in_c r = record { speed = r.speed; course = r.course; message = message_number r.message; current = r.current }

-- a body with its kind's number
unfoldable pub body_in_c : Body → CBody
body_in_c b =
    record {
      place = b.place;
      report = report_in_c b.report;
      comment = b.comment;
      identifier = b.identifier;
      time = b.time;
      addressee = b.addressee;
      messaging = b.messaging;
      kind = kind_number b.kind;
    }

-- both headers and the number of packets inside as they are, and that body
unfoldable pub record_in_c : Record → CRecord
record_in_c r = record { header = r.header; body = body_in_c r.body; innermost = r.innermost; inner = r.inner }

-- the record and the refusal
unfoldable pub read_in_c : PacketRead → CRead
read_in_c p = record { «record» = record_in_c p.«record»; refusal = p.refusal }

-- ---- what a writer is given

-- the report whose message has that number
unfoldable pub report_meant : CReport → Report
report_meant r = record { speed = r.speed; course = r.course; message = message_at r.message; current = r.current }

-- the body whose kind has that number
unfoldable pub body_meant : CBody → Body
body_meant b =
    record {
      place = b.place;
      report = report_meant b.report;
      comment = b.comment;
      identifier = b.identifier;
      time = b.time;
      addressee = b.addressee;
      messaging = b.messaging;
      kind = kind_at b.kind;
    }

-- the record of that body
unfoldable pub record_meant : CRecord → Record
record_meant r = record { header = r.header; body = body_meant r.body; innermost = r.innermost; inner = r.inner }

-- a kind and a message of those numbers exist
unfoldable pub is_known : CBody → Bool
is_known b = leb b.kind most_kind && leb b.report.message most_message

-- "15: record .. out of range"; else what is refused of the record that is meant
unfoldable pub refused_or : CRecord → ℕ → ℕ
refused_or r n = cond (is_known r.body) n 15

-- of a line
unfoldable pub text_refusal_in_c : CRecord → List ℕ → List ℕ → ℕ
text_refusal_in_c r comment identifier = refused_or r (text_refusal (record_meant r) comment identifier)

-- of a frame
unfoldable pub frame_refusal_in_c : CRecord → List ℕ → List ℕ → ℕ
frame_refusal_in_c r comment identifier = refused_or r (frame_refusal (record_meant r) comment identifier)
