-- A packet read by itself, whatever its body holds, and the packet that it is with what its body holds: the way by which most packets,
-- which hold none, are read quickly.
-- Assumes nothing.
use Rattle.std.specs.Prelude.{ℕ, zero, suc, ◌+◌, Bool, cond, List, eqb, ltb, length, drop}
use Rattle.header.specs.declared.Header.{Header}
use Rattle.header.specs.declared.HeaderRead.{HeaderRead}
use Rattle.header.specs.Header.{blank_header}
use Rattle.header.specs.Text.{read_header_text}
use Rattle.header.specs.Frame.{read_frame_header}
use Rattle.body.specs.declared.BodyRead.{BodyRead}
use Rattle.body.specs.Body.{blank_body, read_body_by}
use Rattle.packet.specs.declared.Outer.{Outer}
use Rattle.packet.specs.declared.PacketRead.{PacketRead}
use Rattle.packet.specs.Record.{record_alone, packet_refused}
use Rattle.packet.specs.Packet.{header_to, kept_to, holds_packet, packet_around, packet_after}

-- ---- by itself

-- a refusal: nothing, and the input's end for the body's place
unfoldable pub outer_refused : List ℕ → ℕ → Outer
outer_refused s n = record { header = blank_header; body = blank_body; at = length s; refusal = n }

-- a header that was read, the place of its body, and what that gave by its type byte
unfoldable pub outer_of : Header → List ℕ → ℕ → BodyRead → Outer
outer_of h s at b =
    cond (eqb b.refusal 0)
    (record { header = header_to h (kept_to b.body.kind h.to); body = b.body; at = at; refusal = 0 })
    (outer_refused s b.refusal)

-- a header, and the body behind it
unfoldable pub outer_after : Bool → HeaderRead → List ℕ → Outer
outer_after strict h s = cond (eqb h.refusal 0) (outer_of h.header s h.body (read_body_by strict h.header.to s h.body)) (outer_refused s h.refusal)

-- a frame, or a text: 1 where it has more than so many bytes, and then its header and the body behind it
unfoldable pub outer_within : Bool → ℕ → Bool → List ℕ → Outer
outer_within strict most framed s = cond (ltb most (length s)) (outer_refused s 1) (outer_after strict (cond framed (read_frame_header s) (read_header_text s)) s)

-- ---- with what it holds

-- with none inside
unfoldable pub alone_of : Outer → PacketRead
alone_of o = record { refusal = o.refusal; «record» = record_alone o.header o.body }

-- a text inside as a packet, where so many may still be read
unfoldable pub inside_of : Bool → ℕ → List ℕ → PacketRead
inside_of strict zero t = packet_refused 19
inside_of strict (suc left) t = packet_after strict left (read_header_text t) t

-- around the packet inside, if its body holds one
unfoldable pub packet_from : Bool → ℕ → Outer → List ℕ → PacketRead
packet_from strict left o s = cond (holds_packet s o.at) (packet_around o.header (o.at + 1) (inside_of strict left (drop (o.at + 1) s))) (alone_of o)
