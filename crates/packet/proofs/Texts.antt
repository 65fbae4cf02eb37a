-- Messages and status lines in a packet (document 02, R-5): every line or frame whose body starts with one of their type bytes is read as
-- its parts joined, or refused with 18; and what is written of them is never too long.
-- Assumes nothing.
use mathlib.Core.Path.{◌≡◌, refl, sym, ap, ◌∙◌}
use mathlib.Core.Logic.{◌⊎◌, inl, inr, ⊎_elim}
use mathlib.Core.Bool.{Bool, true, false, cond, ◌&&◌, and-false}
use mathlib.Core.List.{List, ◌++◌, append_assoc}
use Prim.Native.Nat.{ℕ, ◌+◌, ◌<◌, ◌≤◌}
use native.Mathlib.Omega.{arith}
use borrow.Author.Tests.{eq-eqb, ne_eqb, eqb-true}
use lib.Dec.{eqb, ltb}
use lib.ListN.{length, get_or, length-append}
use Rattle.laws.specs.Bytes.{colon, greater, closing_brace}
use Rattle.laws.proofs.Tests.{passed, and_first, and_second}
use Rattle.buffer.proofs.Wrote.{not_over}
use Rattle.message.specs.Message.{addressee_bytes}
use Rattle.header.specs.declared.HeaderRead.{HeaderRead}
use Rattle.header.specs.Header.{most_bytes, header_refused}
use Rattle.header.specs.Text.{read_header_text, read_text_header}
use Rattle.header.specs.Frame.{read_frame_header}
use Rattle.header.specs.Range.{header_in_range, is_blank_header, text_refusal as header_text_refusal, frame_refusal as header_frame_refusal}
use Rattle.body.specs.declared.Kind.{Kind}
use Rattle.body.specs.declared.Kind.TheVariants.{Message, Status}
use Rattle.position.specs.Position.{usually}
use Rattle.body.specs.Body.{read_body}
use Rattle.body.specs.Range.{body_in_range}
use Rattle.body.specs.Written.{body_bytes, tail_bytes, body_refusal, write_body}
use Rattle.body.proofs.TextBack.{TextIs, TextOr18}
use Rattle.body.proofs.Theorems.{read_message_or_18, read_status_or_18, message_at_most_84, status_at_most_63}
use Rattle.packet.specs.declared.Record.{Record}
use Rattle.packet.specs.declared.PacketRead.{PacketRead}
use Rattle.packet.specs.Record.{packet_refused}
use Rattle.packet.specs.Packet.{most_inner, header_to, record_of, packet_of, holds_packet, innermost_of, packet_after, read_any_text_by, read_any_text, read_text_by, read_text, read_frame_by, read_frame}
use Rattle.packet.specs.Range.{inner_in_range, record_in_range, range_refusal}
use Rattle.packet.specs.Written.{written_header, bytes_of, text_bytes, frame_bytes, content_refusal, record_refusal, text_refusal, frame_refusal}
use Rattle.packet.specs.Private.{head_bytes, head_refusal}
use Rattle.packet.proofs.Ways.{alone_is}
use Rattle.packet.proofs.Order.{or_none, or_both, record_refuses, header_left}
use Rattle.packet.proofs.Behind.{head_short}

-- ---- read

-- a packet whose body, behind its header, is one of that kind, whose bytes are its parts joined; or 18
abbrev pub PacketText : Kind → List ℕ → HeaderRead → PacketRead → Type 0
PacketText kind s h p = ((p.refusal ≡ 0) × TextIs kind s h.body p.«record».body) ⊎ (p ≡ packet_refused 18)

-- a header that was read and a body behind it that starts with the byte k
pub record Starts (k : ℕ) (s : List ℕ) (h : HeaderRead) : Type 0 where
  pub read : h.refusal ≡ 0
  pub some : h.body < length s
  pub first : get_or s h.body 0 ≡ k

-- such a body holds no packet
starts_alone : (k : ℕ) (s : List ℕ) (h : HeaderRead) → (k ≡ closing_brace → ⊥) → Starts k s h → holds_packet s h.body ≡ false
unfolding holds_packet
starts_alone k s h n x = rw (x.first, ne_eqb k closing_brace n) (and-false (ltb h.body (length s)))

module _ (kind : Kind) (k : ℕ) (n : k ≡ closing_brace → ⊥) (so : (h : HeaderRead) (s : List ℕ) (x : Starts k s h) → TextOr18 s h.body x.some kind (read_body h.header.to s h.body)) where
  after_text : (left : ℕ) (h : HeaderRead) (s : List ℕ) → Starts k s h → PacketText kind s h (packet_after usually left h s)
  unfolding packet_of record_of packet_refused
  after_text left h s x =
      let b = read_body h.header.to s h.body in
      rw (alone_is usually left h s x.read (starts_alone k s h n x))
      (⊎_elim (λ y. rw (eq-eqb b.refusal 0 y.0) (inl (refl, y.1))) (λ e. rw e (inr refl)) (so h s x))

  any_text_kind : (s : List ℕ) → Starts k s (read_header_text s) → PacketText kind s (read_header_text s) (read_any_text s)
  unfolding read_any_text_by
  any_text_kind s = after_text most_inner (read_header_text s) s

  text_kind : (s : List ℕ) → Starts k s (read_text_header s) → PacketText kind s (read_text_header s) (read_text s)
  unfolding read_text_by read_text_header header_refused
  text_kind s = go (ltb most_bytes (length s))
    where
      go : (t : Bool) → Starts k s (cond t (header_refused 1) (read_header_text s)) → PacketText kind s (cond t (header_refused 1) (read_header_text s)) (cond t (packet_refused 1) (read_any_text s))
      go true x = absurd (omega (arith, x.read))
      go false x = any_text_kind s x

  frame_kind : (s : List ℕ) → Starts k s (read_frame_header s) → PacketText kind s (read_frame_header s) (read_frame s)
  unfolding read_frame_by
  frame_kind s = after_text most_inner (read_frame_header s) s

message_so : (h : HeaderRead) (s : List ℕ) (x : Starts colon s h) → TextOr18 s h.body x.some Message (read_body h.header.to s h.body)
message_so h s x = read_message_or_18 h.header.to s h.body x.some x.first

status_so : (h : HeaderRead) (s : List ℕ) (x : Starts greater s h) → TextOr18 s h.body x.some Status (read_body h.header.to s h.body)
status_so h s x = read_status_or_18 h.header.to s h.body x.some x.first

module _ (s : List ℕ) where
  pub any_text_message : Starts colon s (read_header_text s) → PacketText Message s (read_header_text s) (read_any_text s)
  any_text_message = any_text_kind Message colon (λ e. omega (arith, e)) message_so s

  pub any_text_status : Starts greater s (read_header_text s) → PacketText Status s (read_header_text s) (read_any_text s)
  any_text_status = any_text_kind Status greater (λ e. omega (arith, e)) status_so s

  pub text_message : Starts colon s (read_text_header s) → PacketText Message s (read_text_header s) (read_text s)
  text_message = text_kind Message colon (λ e. omega (arith, e)) message_so s

  pub text_status : Starts greater s (read_text_header s) → PacketText Status s (read_text_header s) (read_text s)
  text_status = text_kind Status greater (λ e. omega (arith, e)) status_so s

  pub frame_message : Starts colon s (read_frame_header s) → PacketText Message s (read_frame_header s) (read_frame s)
  frame_message = frame_kind Message colon (λ e. omega (arith, e)) message_so s

  pub frame_status : Starts greater s (read_frame_header s) → PacketText Status s (read_frame_header s) (read_frame s)
  frame_status = frame_kind Status greater (λ e. omega (arith, e)) status_so s

-- ---- written: with the longest header at most 262 bytes, so that 1 is never given

module _ (r : Record) (text identifier : List ℕ) (z : record_refusal r text identifier ≡ 0) where
  taken : (range_refusal r ≡ 0) × (content_refusal r text identifier ≡ 0)
  unfolding record_refusal
  taken = or_both (range_refusal r) (content_refusal r text identifier) z

  -- there is no packet inside
  alone : (eqb r.inner 0 ≡ true) × (body_refusal r.body text identifier ≡ 0)
  unfolding content_refusal
  alone = passed (eqb r.inner 0) (body_refusal r.body text identifier) 14 0 (λ q. omega arith) taken.1

  range_alone : record_in_range r ≡ (header_in_range r.header && (is_blank_header r.innermost && body_in_range r.body r.header.to))
  unfolding record_in_range inner_in_range innermost_of
  range_alone = rw alone.0

  parts_in_range : (is_blank_header r.innermost && body_in_range r.body r.header.to) ≡ true
  unfolding range_refusal
  parts_in_range =
      and_second (header_in_range r.header) (is_blank_header r.innermost && body_in_range r.body r.header.to)
      (sym range_alone ∙ (passed (record_in_range r) 0 15 0 (λ q. omega arith) taken.0).0)

  in_range_lem : body_in_range r.body r.header.to ≡ true
  in_range_lem = and_second (is_blank_header r.innermost) (body_in_range r.body r.header.to) parts_in_range

  none : r.inner ≡ 0
  none = eqb-true r.inner 0 alone.0

  blank : is_blank_header r.innermost ≡ true
  blank = and_first (is_blank_header r.innermost) (body_in_range r.body r.header.to) parts_in_range

  abbrev said : List ℕ
  said = body_bytes r.body ++ (text ++ tail_bytes r.body identifier)

  long : (head : List ℕ) → length (bytes_of head r text identifier) ≡ length head + length said
  unfolding bytes_of
  long head = ap length (append_assoc head (body_bytes r.body) (text ++ tail_bytes r.body identifier)) ∙ length-append head said

  module _ (short : length said ≤ 84) where
    at_most_262 : (framed : Bool) → head_refusal framed (written_header r) ≡ 0 → length (bytes_of (head_bytes framed (written_header r)) r text identifier) ≤ 262
    at_most_262 framed h = omega (arith, long (head_bytes framed (written_header r)), head_short framed (written_header r) h)

    header_taken : header_text_refusal (written_header r) ≡ 0
    header_taken =
        let both = or_both (header_text_refusal (header_to r.header (write_body r.body r.header.to text identifier).to)) (write_body r.body r.header.to text identifier).refusal (sym (record_refuses r none text identifier blank) ∙ z) in
        sym (header_left r none text identifier blank both.1) ∙ z

    line_short : length (text_bytes r text identifier) ≤ 262
    unfolding text_bytes head_bytes head_refusal
    line_short = at_most_262 false header_taken

    line_fits : text_refusal r text identifier ≡ 0
    unfolding text_refusal
    line_fits = or_none (record_refusal r text identifier) _ z ∙ not_over most_bytes (text_bytes r text identifier) (omega (arith, line_short))

    frame_fits : header_frame_refusal (written_header r) ≡ 0 → frame_refusal r text identifier ≡ 0
    unfolding frame_refusal frame_bytes head_bytes head_refusal
    frame_fits h =
        or_none (record_refusal r text identifier) _ z ∙ or_none (header_frame_refusal (written_header r)) _ h
        ∙ not_over most_bytes (frame_bytes r text identifier) (omega (arith, at_most_262 true h))

  module _ (k : r.body.kind ≡ Message) (nine : length r.body.addressee ≡ addressee_bytes) where
    message_said : length said ≤ 84
    message_said = message_at_most_84 r.body text identifier k nine alone.1

    pub message_line_short : length (text_bytes r text identifier) ≤ 262
    message_line_short = line_short message_said

    pub message_line_fits : text_refusal r text identifier ≡ 0
    message_line_fits = line_fits message_said

    pub message_frame_fits : header_frame_refusal (written_header r) ≡ 0 → frame_refusal r text identifier ≡ 0
    message_frame_fits = frame_fits message_said

  module _ (k : r.body.kind ≡ Status) where
    status_said : length said ≤ 84
    status_said = omega (arith, status_at_most_63 r.body r.header.to text identifier k in_range_lem alone.1)

    pub status_line_fits : text_refusal r text identifier ≡ 0
    status_line_fits = line_fits status_said

    pub status_frame_fits : header_frame_refusal (written_header r) ≡ 0 → frame_refusal r text identifier ≡ 0
    status_frame_fits = frame_fits status_said
