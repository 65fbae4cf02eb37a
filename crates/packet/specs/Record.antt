-- The record of a packet, blank: "A refused decode returns the blank record: Unknown kind, all lengths and numbers 0."
-- (document 01, 'Numbers a refusal carries')
-- Assumes nothing.
use Rattle.std.specs.Prelude.{ℕ}
use Rattle.header.specs.declared.Header.{Header}
use Rattle.header.specs.Header.{blank_header}
use Rattle.body.specs.declared.Body.{Body}
use Rattle.body.specs.Body.{blank_body}
use Rattle.packet.specs.declared.Record.{Record}
use Rattle.packet.specs.declared.PacketRead.{PacketRead}

-- a header and a body, and no packet inside: "At 0 the inner header is blank." (document 02, R-6)
abbrev pub record_alone : Header → Body → Record
record_alone h b = record { header = h; body = b; innermost = blank_header; inner = 0 }

-- the blank header and the blank body
unfoldable pub blank_record : Record
blank_record = record_alone blank_header blank_body

-- a refusal: the blank record
unfoldable pub packet_refused : ℕ → PacketRead
packet_refused n = record { refusal = n; «record» = blank_record }
