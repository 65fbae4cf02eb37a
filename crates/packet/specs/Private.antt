-- What the private functions promise that write a packet: a header as a frame or as a line, and what follows it.
-- Assumes nothing.
use Rattle.std.specs.Prelude.{ℕ, Bool, cond, List, ◌++◌}
use Rattle.buffer.specs.Wrote.{Wrote, over_by, wrote}
use Rattle.header.specs.declared.Header.{Header}
use Rattle.header.specs.Text.{header_text}
use Rattle.header.specs.Frame.{header_frame}
use Rattle.header.specs.Range.{text_refusal as header_text_refusal, frame_refusal as header_frame_refusal}
use Rattle.header.specs.Header.{most_bytes}
use Rattle.packet.specs.Written.{or_else}

-- a header's bytes in a frame or in a line
unfoldable pub head_bytes : Bool → Header → List ℕ
head_bytes framed h = cond framed (header_frame h) (header_text h)

-- what its writer refuses with, but for 16
unfoldable pub head_refusal : Bool → Header → ℕ
head_refusal framed h = cond framed (header_frame_refusal h) (header_text_refusal h)

-- that header, a body's bytes, a text and what stands behind it, unless the header is refused or they are over the limit
unfoldable pub wrote_behind : Bool → Header → List ℕ → List ℕ → List ℕ → List ℕ → Wrote
wrote_behind framed h body text tail out =
    let bytes = (head_bytes framed h ++ body) ++ (text ++ tail) in
    wrote (or_else (head_refusal framed h) (over_by most_bytes bytes)) bytes out
