-- The bytes of a record with its comment, or its text and identifier, as a line of text and as a frame, and which refusal comes first:
-- "Writing: 15, 14, 13 (AX.25 only; destination, source, hops in order), 1, 16." (document 01, 'Numbers a refusal carries'); 18 "next
-- after 14" (document 02, R-5).
-- Assumes nothing.
use Rattle.std.specs.Prelude.{ℕ, zero, suc, cond, List, ◌++◌, eqb}
use Rattle.buffer.specs.Wrote.{over_by}
use Rattle.header.specs.declared.Header.{Header}
use Rattle.header.specs.Header.{most_bytes}
use Rattle.header.specs.Text.{header_text}
use Rattle.header.specs.Frame.{header_frame}
use Rattle.header.specs.Range.{frame_refusal as header_frame_refusal}
use Rattle.body.specs.Written.{written_to, body_bytes, tail_bytes, body_refusal}
use Rattle.packet.specs.declared.Record.{Record}
use Rattle.packet.specs.Range.{range_refusal}
use Rattle.packet.specs.Packet.{header_to}

-- ---- the bytes

-- source, the destination that goes with the body, and path
unfoldable pub written_header : Record → Header
written_header r = header_to r.header (written_to r.body r.header.to)

-- the header's bytes, the body's, the comment's or text's, and the identifier's
unfoldable pub bytes_of : List ℕ → Record → List ℕ → List ℕ → List ℕ
bytes_of head r text identifier = (head ++ body_bytes r.body) ++ (text ++ tail_bytes r.body identifier)

-- of a line
unfoldable pub text_bytes : Record → List ℕ → List ℕ → List ℕ
text_bytes r text identifier = bytes_of (header_text (written_header r)) r text identifier

-- of a frame
unfoldable pub frame_bytes : Record → List ℕ → List ℕ → List ℕ
frame_bytes r text identifier = bytes_of (header_frame (written_header r)) r text identifier

-- ---- the refusals

-- the first of two refusals; 0 is none
unfoldable pub or_else : ℕ → ℕ → ℕ
or_else zero n = n
or_else (suc k) n = suc k

-- with a packet inside 14, document 02, R-6: "Writing them remains refused with 14"; else the body's 14 or 18
unfoldable pub content_refusal : Record → List ℕ → List ℕ → ℕ
content_refusal r text identifier = cond (eqb r.inner 0) (body_refusal r.body text identifier) 14

-- 15, then 14 or 18
unfoldable pub record_refusal : Record → List ℕ → List ℕ → ℕ
record_refusal r text identifier = or_else (range_refusal r) (content_refusal r text identifier)

-- 15, 14, 18, 1
unfoldable pub text_refusal : Record → List ℕ → List ℕ → ℕ
text_refusal r text identifier = or_else (record_refusal r text identifier) (over_by most_bytes (text_bytes r text identifier))

-- a header in range that cannot go into AX.25 is 13
unfoldable pub frame_refusal : Record → List ℕ → List ℕ → ℕ
frame_refusal r text identifier =
    or_else (record_refusal r text identifier) (or_else (header_frame_refusal (written_header r)) (over_by most_bytes (frame_bytes r text identifier)))
