-- A packet read, from a line of text or from a frame: its header, and then its body (document 01, module 5: "Order,
-- text: 1; `:`; `>`; source; destination; hops from the left; body."), which may hold another packet (document 02, R-6). It is read as
-- usually or strictly (document 02, R-8): "A second entry", and it differs in how a body is judged.
-- Assumes nothing.
use Rattle.std.specs.Prelude.{ℕ, zero, suc, ◌+◌, Bool, cond, ◌&&◌, List, eqb, ltb, length, drop, get_or}
use Rattle.laws.specs.Bytes.{closing_brace}
use Rattle.callsign.specs.declared.Callsign.{Callsign}
use Rattle.callsign.specs.Text.{blank_call}
use Rattle.header.specs.declared.Header.{Header}
use Rattle.header.specs.declared.HeaderRead.{HeaderRead}
use Rattle.header.specs.Header.{most_bytes}
use Rattle.header.specs.Text.{read_header_text}
use Rattle.header.specs.Frame.{read_frame_header}
use Rattle.body.specs.declared.Kind.{Kind}
use Rattle.body.specs.declared.Kind.TheVariants.{Unknown, Position, MicE, Message, Status}
use Rattle.body.specs.declared.Span.{Span}
use Rattle.body.specs.declared.Body.{Body}
use Rattle.body.specs.declared.BodyRead.{BodyRead}
use Rattle.position.specs.Position.{usually, strictly}
use Rattle.body.specs.Body.{read_body_by}
use Rattle.packet.specs.declared.Record.{Record}
use Rattle.packet.specs.declared.PacketRead.{PacketRead}
use Rattle.packet.specs.Record.{record_alone, packet_refused}

-- a header with that destination
abbrev pub header_to : Header → Callsign → Header
header_to h to = record { from = h.from; to = to; path = h.path }

-- "a Mic-E record has no destination"; messages and status lines "keep their destination"
unfoldable pub kept_to : Kind → Callsign → Callsign
kept_to Unknown to = to
kept_to Position to = to
kept_to MicE to = blank_call
kept_to Message to = to
kept_to Status to = to

-- ---- a packet with none inside

-- the record of a header and a body
unfoldable pub record_of : Header → Body → Record
record_of h b = record_alone (header_to h (kept_to b.kind h.to)) b

-- a header that was read, and what its body gave
unfoldable pub packet_of : Header → BodyRead → PacketRead
packet_of h b = cond (eqb b.refusal 0) (record { refusal = 0; «record» = record_of h b.body }) (packet_refused b.refusal)

-- ---- a packet inside another (document 02, R-6)

-- "Up to four inner packets are read"
abbrev pub most_inner : ℕ
most_inner = 4

-- "A body starting `}` holds a complete textual header and body"
unfoldable pub holds_packet : List ℕ → ℕ → Bool
holds_packet s at = ltb at (length s) && eqb (get_or s at 0) closing_brace

-- a part that is not there: "0 and 0 where there is none"
unfoldable pub is_nowhere : Span → Bool
is_nowhere p = eqb p.at 0 && eqb p.len 0

-- a part of a text that starts so far in, by its place "in the whole input"; one that is not there stays so
unfoldable pub moved_span : ℕ → Span → Span
moved_span by p = cond (is_nowhere p) p (record { at = p.at + by; len = p.len })

-- a body, its comment or text and its identifier moved so
unfoldable pub moved_body : ℕ → Body → Body
moved_body by b =
    record {
      kind = b.kind;
      place = b.place;
      time = b.time;
      messaging = b.messaging;
      report = b.report;
      comment = moved_span by b.comment;
      identifier = moved_span by b.identifier;
      addressee = b.addressee;
    }

-- the innermost header: a packet's own where there is none inside
unfoldable pub innermost_of : Record → Header
innermost_of r = cond (eqb r.inner 0) r.header r.innermost

-- a packet from a place on, in another's body: "the record shows the outermost header, the innermost header and body, and their number";
-- the outermost keeps its destination
unfoldable pub record_around : Header → ℕ → Record → Record
record_around h at r = record { header = h; body = moved_body at r.body; innermost = innermost_of r; inner = r.inner + 1 }

-- "inner faults keep their numbers"
unfoldable pub packet_around : Header → ℕ → PacketRead → PacketRead
packet_around h at p = cond (eqb p.refusal 0) (record { refusal = 0; «record» = record_around h at p.«record» }) (packet_refused p.refusal)

-- ---- a header, and what stands behind it

-- a header that was refused refuses the packet
unfoldable pub unless_refused : HeaderRead → PacketRead → PacketRead
unless_refused h p = cond (eqb h.refusal 0) p (packet_refused h.refusal)

-- what stands from a place on, to the input's end, is the body; so many packets may still be read inside: "19 for a fifth, found before
-- its header is read"; "the inner packet's body may itself be a third-party body", and "is judged strictly as an outer one"
unfoldable pub body_behind : Bool → ℕ → Header → List ℕ → ℕ → PacketRead
body_behind strict zero h s at = cond (holds_packet s at) (packet_refused 19) (packet_of h (read_body_by strict h.to s at))
body_behind strict (suc left) h s at =
    let inside = drop (at + 1) s in
    let inner = read_header_text inside in
    cond (holds_packet s at)
    (packet_around h (at + 1) (unless_refused inner (body_behind strict left inner.header inside inner.body)))
    (packet_of h (read_body_by strict h.to s at))

-- the packet of a header that was read
unfoldable pub packet_after : Bool → ℕ → HeaderRead → List ℕ → PacketRead
packet_after strict left h s = unless_refused h (body_behind strict left h.header s h.body)

-- ---- the input

-- a text, however long
unfoldable pub read_any_text_by : Bool → List ℕ → PacketRead
read_any_text_by strict s = packet_after strict most_inner (read_header_text s) s

-- a line of text: 1, and then that
unfoldable pub read_text_by : Bool → List ℕ → PacketRead
read_text_by strict s = cond (ltb most_bytes (length s)) (packet_refused 1) (read_any_text_by strict s)

-- an AX.25 frame
unfoldable pub read_frame_by : Bool → List ℕ → PacketRead
read_frame_by strict s = packet_after strict most_inner (read_frame_header s) s

-- ---- as usually

abbrev pub read_any_text : List ℕ → PacketRead
read_any_text s = read_any_text_by usually s

abbrev pub read_text : List ℕ → PacketRead
read_text s = read_text_by usually s

abbrev pub read_frame : List ℕ → PacketRead
read_frame s = read_frame_by usually s

-- ---- strictly: "There is one for lines and one for frames"

abbrev pub strict_text : List ℕ → PacketRead
strict_text s = read_text_by strictly s

abbrev pub strict_frame : List ℕ → PacketRead
strict_frame s = read_frame_by strictly s
