-- The crate's theorems: what is read, as usually and strictly, the boxes of it, the marks of dropped zeros, its time, messages and
-- status lines, packets inside packets, Q elements in a frame, and what of it is not written.
-- Assumes nothing.
use mathlib.Core.Path.{◌≡◌, refl, ap, ◌∙◌}
use mathlib.Core.Bool.{Bool, true, false, not, cond}
use mathlib.Core.List.{List, []}
use Prim.Native.Nat.{ℕ, ◌+◌, ◌≤◌}
use native.Mathlib.Omega.{arith}
use lib.Dec.{ltb}
use lib.ListN.{length, drop}
use Rattle.laws.specs.Bytes.{colon, greater}
use Rattle.laws.proofs.Unique.{alike_without}
use Rattle.buffer.specs.Wrote.{over_by, wrote}
use Rattle.header.specs.declared.HeaderRead.{HeaderRead}
use Rattle.header.specs.Header.{most_bytes, blank_header}
use Rattle.header.specs.Text.{read_header_text, read_text_header}
use Rattle.header.specs.Frame.{read_frame_header}
use Rattle.header.specs.Range.{frame_refusal as header_frame_refusal}
use Rattle.header.proofs.Marks.{unmarked}
use Rattle.message.specs.Message.{addressee_bytes}
use Rattle.position.specs.Position.{usually, strictly}
use Rattle.body.specs.declared.Kind.TheVariants.{Message, Status}
use Rattle.body.specs.declared.Span.{Span}
use Rattle.body.specs.Range.{is_excepted}
use Rattle.body.proofs.TextBack.{spanned}
use Rattle.body.proofs.Theorems.{InnerEdges}
use Rattle.packet.specs.declared.Record.{Record}
use Rattle.packet.specs.declared.PacketRead.{PacketRead}
use Rattle.packet.specs.Record.{blank_record, packet_refused}
use Rattle.packet.specs.Range.{record_in_range, range_refusal}
use Rattle.packet.specs.Packet.{most_inner, moved_span, record_around, packet_after, read_any_text_by, read_any_text, read_text_by, read_text, strict_text, read_frame_by, read_frame, strict_frame}
use Rattle.packet.specs.Written.{written_header, text_bytes, frame_bytes, or_else, content_refusal, record_refusal, text_refusal, frame_refusal}
use Rattle.packet.proofs.Packets.{any_is, line_read, frame_is}
use Rattle.packet.proofs.Order.{or_or, inside_refuses}
use Rattle.packet.proofs.Inside.{Holds, inside_at, inside_text, holds_four, four_inside, after_accepted, after_faulty, after_fifth, after_nothing, text_inside, frame_inside, moved_shows}
use Rattle.packet.proofs.Given.{Given, after_blank, refused_first, given_range, any_text_given, text_given, frame_given}
use Rattle.packet.proofs.Times.{TimeKept, any_text_time_kept, text_time_kept, frame_time_kept}
use Rattle.packet.proofs.Texts.{PacketText, Starts, any_text_message, any_text_status, text_message, text_status, frame_message, frame_status, message_line_short, message_line_fits, message_frame_fits, status_line_fits, status_frame_fits}
use Rattle.packet.proofs.Marks.{unmarked_record, unmarked_text_bytes, unmarked_frame_bytes, unmarked_refusal_of_text, unmarked_refusal_of_frame, unmarked_blank_record, unmarked_frame_header, LineKept, any_text_line_kept, text_line_kept}
use Rattle.packet.proofs.Strict.{Stricter, is_sound_packet, after_stricter}
use Rattle.packet.proofs.WithoutQ.{record_without_q, without_q_bytes, without_q_refusal}

-- ---- "A refused decode returns the blank record", as usually or strictly

module _ (strict : Bool) (s : List ℕ) where
  pub any_text_refused_blank : ((read_any_text_by strict s).refusal ≡ 0 → ⊥) → read_any_text_by strict s ≡ packet_refused (read_any_text_by strict s).refusal
  unfolding read_any_text_by
  any_text_refused_blank = after_blank strict most_inner (read_header_text s) s

  pub text_refused_blank : ((read_text_by strict s).refusal ≡ 0 → ⊥) → read_text_by strict s ≡ packet_refused (read_text_by strict s).refusal
  unfolding read_text_by
  text_refused_blank = refused_first (ltb most_bytes (length s)) 1 (read_any_text_by strict s) any_text_refused_blank

  pub frame_refused_blank : ((read_frame_by strict s).refusal ≡ 0 → ⊥) → read_frame_by strict s ≡ packet_refused (read_frame_by strict s).refusal
  unfolding read_frame_by
  frame_refused_blank = after_blank strict most_inner (read_frame_header s) s

-- ---- document 02, R-8: "a line accepted strictly gives the same record there as usually"; which numbers a strict refusal has beside the
-- usual answer, and what is accepted strictly: what is accepted usually, with all minutes below 60 and a table byte of the class

pub text_strictly : (s : List ℕ) → Stricter (read_text s) (strict_text s) (is_sound_packet most_inner (read_text_header s) s)
text_strictly s = rw (← line_read usually s, ← line_read strictly s) (after_stricter (read_text_header s) s)

pub frame_strictly : (s : List ℕ) → Stricter (read_frame s) (strict_frame s) (is_sound_packet most_inner (read_frame_header s) s)
frame_strictly s = rw (frame_is usually s, frame_is strictly s) (after_stricter (read_frame_header s) s)

-- ---- what is read is in range but for a Mic-E angle of 180 degrees and a position symbol byte of 128 or more

pub any_text_range : (s : List ℕ) → record_in_range (read_any_text s).«record» ≡ not (is_excepted (read_any_text s).«record».body)
any_text_range s = given_range (omega arith) (any_text_given usually s)

pub text_range : (s : List ℕ) → record_in_range (read_text s).«record» ≡ not (is_excepted (read_text s).«record».body)
text_range s = given_range (omega arith) (text_given usually s)

pub frame_range : (s : List ℕ) → record_in_range (read_frame s).«record» ≡ not (is_excepted (read_frame s).«record».body)
frame_range s = given_range (omega arith) (frame_given usually s)

-- ---- a comment or a text is a place in the input

pub any_text_comment_within : (s : List ℕ) → (read_any_text s).«record».body.comment.at + (read_any_text s).«record».body.comment.len ≤ length s
any_text_comment_within s = (any_text_given usually s).within

pub text_comment_within : (s : List ℕ) → (read_text s).«record».body.comment.at + (read_text s).«record».body.comment.len ≤ length s
text_comment_within s = (text_given usually s).within

pub frame_comment_within : (s : List ℕ) → (read_frame s).«record».body.comment.at + (read_frame s).«record».body.comment.len ≤ length s
frame_comment_within s = (frame_given usually s).within

-- ---- so is an identifier (document 02, R-5)

pub any_text_identifier_within : (s : List ℕ) → (read_any_text s).«record».body.identifier.at + (read_any_text s).«record».body.identifier.len ≤ length s
any_text_identifier_within s = (any_text_given usually s).identifier_within

pub text_identifier_within : (s : List ℕ) → (read_text s).«record».body.identifier.at + (read_text s).«record».body.identifier.len ≤ length s
text_identifier_within s = (text_given usually s).identifier_within

pub frame_identifier_within : (s : List ℕ) → (read_frame s).«record».body.identifier.at + (read_frame s).«record».body.identifier.len ≤ length s
frame_identifier_within s = (frame_given usually s).identifier_within

-- ---- document 02, R-1: "the digits we print are the inner edge" of the page's boxes

pub any_text_inner_edges : (s : List ℕ) → InnerEdges (read_any_text s).«record».body
any_text_inner_edges s = (any_text_given usually s).edges

pub text_inner_edges : (s : List ℕ) → InnerEdges (read_text s).«record».body
text_inner_edges s = (text_given usually s).edges

pub frame_inner_edges : (s : List ℕ) → InnerEdges (read_frame s).«record».body
frame_inner_edges s = (frame_given usually s).edges

-- ---- document 02, R-2: "every header reader passes this on for source, destination and each hop"

-- the bytes of an accepted text, up to its body, are the record's callsigns with `-0` where the mark is set, and with the stars that
-- were typed; but for the destination that a Mic-E record lacks
pub any_text_is_kept : (s : List ℕ) → (read_any_text s).refusal ≡ 0 → LineKept s (read_header_text s) (read_any_text s).«record»
any_text_is_kept = any_text_line_kept

pub text_is_kept : (s : List ℕ) → (read_text s).refusal ≡ 0 → LineKept s (read_text_header s) (read_text s).«record»
text_is_kept = text_line_kept

-- "In frames it is never set": the header of any frame, accepted or not, has no mark; a packet inside it is text, and may have some
pub frame_has_no_mark : (s : List ℕ) → unmarked (read_frame s).«record».header ≡ (read_frame s).«record».header
frame_has_no_mark = unmarked_frame_header

-- nor has the blank record any, which refusals return
pub blank_has_no_mark : unmarked_record blank_record ≡ blank_record
blank_has_no_mark = unmarked_blank_record

-- "Writers ignore it": of records that differ in marks alone, answer and buffer are the same
module _ (r r' : Record) (e : unmarked_record r ≡ unmarked_record r') (text identifier out : List ℕ) where
  pub marks_move_no_text : wrote (text_refusal r text identifier) (text_bytes r text identifier) out ≡ wrote (text_refusal r' text identifier) (text_bytes r' text identifier) out
  marks_move_no_text = alike_without unmarked_record (λ x. wrote (text_refusal x text identifier) (text_bytes x text identifier) out) (λ x. rw (unmarked_refusal_of_text x text identifier, unmarked_text_bytes x text identifier)) r r' e

  pub marks_move_no_frame : wrote (frame_refusal r text identifier) (frame_bytes r text identifier) out ≡ wrote (frame_refusal r' text identifier) (frame_bytes r' text identifier) out
  marks_move_no_frame = alike_without unmarked_record (λ x. wrote (frame_refusal x text identifier) (frame_bytes x text identifier) out) (λ x. rw (unmarked_refusal_of_frame x text identifier, unmarked_frame_bytes x text identifier)) r r' e

-- ---- document 02, R-3: "two digits each, zeros kept"

-- with no packet inside, the seven bytes of a record's time stood behind the type byte of its body, as they are written
pub any_text_time_is_kept : (s : List ℕ) → TimeKept s (read_header_text s) (read_any_text s).«record»
any_text_time_is_kept = any_text_time_kept

pub text_time_is_kept : (s : List ℕ) → TimeKept s (read_text_header s) (read_text s).«record»
text_time_is_kept = text_time_kept

pub frame_time_is_kept : (s : List ℕ) → TimeKept s (read_frame_header s) (read_frame s).«record»
frame_time_is_kept = frame_time_kept

-- ---- document 02, R-5: messages and status lines

-- where a header was read and the body behind it starts `:`, the packet is a message whose bytes from there on are its parts joined, and
-- which is written again with its text and its identifier; or it is refused with 18
pub any_text_message_or_18 : (s : List ℕ) → Starts colon s (read_header_text s) → PacketText Message s (read_header_text s) (read_any_text s)
any_text_message_or_18 = any_text_message

pub text_message_or_18 : (s : List ℕ) → Starts colon s (read_text_header s) → PacketText Message s (read_text_header s) (read_text s)
text_message_or_18 = text_message

pub frame_message_or_18 : (s : List ℕ) → Starts colon s (read_frame_header s) → PacketText Message s (read_frame_header s) (read_frame s)
frame_message_or_18 = frame_message

-- where it starts `>`, the same of a status
pub any_text_status_or_18 : (s : List ℕ) → Starts greater s (read_header_text s) → PacketText Status s (read_header_text s) (read_any_text s)
any_text_status_or_18 = any_text_status

pub text_status_or_18 : (s : List ℕ) → Starts greater s (read_text_header s) → PacketText Status s (read_text_header s) (read_text s)
text_status_or_18 = text_status

pub frame_status_or_18 : (s : List ℕ) → Starts greater s (read_frame_header s) → PacketText Status s (read_frame_header s) (read_frame s)
frame_status_or_18 = frame_status

-- the longest line with a message has 262 bytes: 178 of header and 84 of body
pub message_at_most_262 : (r : Record) (text identifier : List ℕ) → record_refusal r text identifier ≡ 0 → r.body.kind ≡ Message → length r.body.addressee ≡ addressee_bytes
    → length (text_bytes r text identifier) ≤ 262
message_at_most_262 = message_line_short

-- so neither is ever refused with 1
module _ (r : Record) (text identifier : List ℕ) (z : record_refusal r text identifier ≡ 0) where
  pub message_is_never_too_long : r.body.kind ≡ Message → length r.body.addressee ≡ addressee_bytes → text_refusal r text identifier ≡ 0
  message_is_never_too_long = message_line_fits r text identifier z

  pub message_frame_is_never_too_long : r.body.kind ≡ Message → length r.body.addressee ≡ addressee_bytes → header_frame_refusal (written_header r) ≡ 0 → frame_refusal r text identifier ≡ 0
  message_frame_is_never_too_long = message_frame_fits r text identifier z

  pub status_is_never_too_long : r.body.kind ≡ Status → text_refusal r text identifier ≡ 0
  status_is_never_too_long = status_line_fits r text identifier z

  pub status_frame_is_never_too_long : r.body.kind ≡ Status → header_frame_refusal (written_header r) ≡ 0 → frame_refusal r text identifier ≡ 0
  status_frame_is_never_too_long = status_frame_fits r text identifier z

-- ---- document 02, R-6: third-party traffic

-- "Up to four inner packets are read": the number of every record is 0 to 4
pub any_text_at_most_four : (s : List ℕ) → (read_any_text s).«record».inner ≤ 4
any_text_at_most_four s = (any_text_given usually s).number

pub text_at_most_four : (s : List ℕ) → (read_text s).«record».inner ≤ 4
text_at_most_four s = (text_given usually s).number

pub frame_at_most_four : (s : List ℕ) → (read_frame s).«record».inner ≤ 4
frame_at_most_four s = (frame_given usually s).number

-- and at 0 the inner header is blank
pub any_text_blank_at_0 : (s : List ℕ) → (read_any_text s).«record».inner ≡ 0 → (read_any_text s).«record».innermost ≡ blank_header
any_text_blank_at_0 s = (any_text_given usually s).blank

pub text_blank_at_0 : (s : List ℕ) → (read_text s).«record».inner ≡ 0 → (read_text s).«record».innermost ≡ blank_header
text_blank_at_0 s = (text_given usually s).blank

pub frame_blank_at_0 : (s : List ℕ) → (read_frame s).«record».inner ≡ 0 → (read_frame s).«record».innermost ≡ blank_header
frame_blank_at_0 s = (frame_given usually s).blank

-- what a packet is whose header was read and whose body holds a text, by what that text is by itself: with up to three packets inside it,
-- its record with the outermost header, the number one higher and the places moved by where it starts; refused, the same refusal; where
-- it holds four, as its number says if it is accepted, 19, whatever the fourth is; and "`}` alone is 2"
pub record ThirdParty (h : HeaderRead) (text : List ℕ) (inner p : PacketRead) : Type 0 where
  pub accepted : inner.refusal ≡ 0 → inner.«record».inner ≤ 3 → p ≡ record { refusal = 0; «record» = record_around h.header (inside_at h) inner.«record» }
  pub faulty : (inner.refusal ≡ 0 → ⊥) → holds_four text ≡ false → p ≡ packet_refused inner.refusal
  pub fifth : holds_four text ≡ true → p ≡ packet_refused 19
  pub four : inner.«record».inner ≡ 4 → holds_four text ≡ true
  pub nothing : text ≡ [] → p ≡ packet_refused 2

after_third_party : (s : List ℕ) (h : HeaderRead) → Holds s h → ThirdParty h (inside_text s h) (read_any_text (inside_text s h)) (packet_after usually most_inner h s)
after_third_party s h x =
    record { accepted = after_accepted s h x; faulty = after_faulty s h x; fifth = after_fifth s h x; four = four_inside (inside_text s h); nothing = after_nothing s h x }

pub any_text_third_party : (s : List ℕ) → Holds s (read_header_text s)
    → ThirdParty (read_header_text s) (inside_text s (read_header_text s)) (read_any_text (inside_text s (read_header_text s))) (read_any_text s)
any_text_third_party s x = rw (any_is usually s) (after_third_party s (read_header_text s) x)

-- of a line and of a frame the text inside is a line by itself
pub text_third_party : (s : List ℕ) → Holds s (read_text_header s)
    → ThirdParty (read_text_header s) (inside_text s (read_text_header s)) (read_text (inside_text s (read_text_header s))) (read_text s)
text_third_party s x = rw (text_inside s (inside_at (read_text_header s)) x.read, ← line_read usually s) (after_third_party s (read_text_header s) x)

pub frame_third_party : (s : List ℕ) → Holds s (read_frame_header s)
    → ThirdParty (read_frame_header s) (inside_text s (read_frame_header s)) (read_text (inside_text s (read_frame_header s))) (read_frame s)
frame_third_party s x = rw (frame_inside s (inside_at (read_frame_header s)) x.read, frame_is usually s) (after_third_party s (read_frame_header s) x)

-- "places counted in the whole input": what stands at a place inside stands at the moved one in the whole
pub moved_places_show_the_same : (by : ℕ) (s : List ℕ) (p : Span) → spanned (moved_span by p) s ≡ spanned p (drop by s)
moved_places_show_the_same = moved_shows

-- "Writing them remains refused with 14", after 15
pub third_party_is_never_written : (r : Record) → (r.inner ≡ 0 → ⊥) → (text identifier : List ℕ) → record_refusal r text identifier ≡ or_else (range_refusal r) 14
third_party_is_never_written r z text identifier = inside_refuses r z text identifier

-- ---- document 02, R-7: Q elements in the path

-- "in a frame it is left out": the frame of a record is that of the record without the Q elements of its outermost header
pub q_elements_leave_frames : (r : Record) → record_in_range r ≡ true → (text identifier : List ℕ)
    → (frame_refusal (record_without_q r) text identifier ≡ frame_refusal r text identifier) × (frame_bytes (record_without_q r) text identifier ≡ frame_bytes r text identifier)
q_elements_leave_frames r e text identifier = (without_q_refusal r e text identifier, without_q_bytes r text identifier)

-- ---- which read records are not written: 15 for those two, 14 for Unknown and with a packet inside, 18 for what is handed over with a
-- message or a status, 1 over 512 bytes, and no other

module _ {size : ℕ} {r : Record} (g : Given most_inner size r) where
  given_first : range_refusal r ≡ cond (is_excepted r.body) 15 0
  unfolding range_refusal
  given_first = rw (given_range (omega arith) g) (turned (is_excepted r.body))
    where
      turned : (b : Bool) → ◌≡◌ {A = ℕ} (cond (not b) 0 15) (cond b 15 0)
      turned true = refl
      turned false = refl

  given_refusal : (text identifier : List ℕ) (n : ℕ) → or_else (record_refusal r text identifier) n ≡ or_else (cond (is_excepted r.body) 15 0) (or_else (content_refusal r text identifier) n)
  unfolding record_refusal
  given_refusal text identifier n = or_or (range_refusal r) (content_refusal r text identifier) n ∙ ap (λ (k : ℕ). or_else k (or_else (content_refusal r text identifier) n)) given_first

  given_text : (text identifier : List ℕ) → text_refusal r text identifier
      ≡ or_else (cond (is_excepted r.body) 15 0) (or_else (content_refusal r text identifier) (over_by most_bytes (text_bytes r text identifier)))
  unfolding text_refusal
  given_text text identifier = given_refusal text identifier (over_by most_bytes (text_bytes r text identifier))

pub any_text_unwritten : (s text identifier : List ℕ) → text_refusal (read_any_text s).«record» text identifier
    ≡ or_else (cond (is_excepted (read_any_text s).«record».body) 15 0)
    (or_else (content_refusal (read_any_text s).«record» text identifier) (over_by most_bytes (text_bytes (read_any_text s).«record» text identifier)))
any_text_unwritten s = given_text (any_text_given usually s)

pub text_unwritten : (s text identifier : List ℕ) → text_refusal (read_text s).«record» text identifier
    ≡ or_else (cond (is_excepted (read_text s).«record».body) 15 0)
    (or_else (content_refusal (read_text s).«record» text identifier) (over_by most_bytes (text_bytes (read_text s).«record» text identifier)))
text_unwritten s = given_text (text_given usually s)

-- the same of a frame, where 13 stands before 1
pub frame_unwritten : (s text identifier : List ℕ) → frame_refusal (read_frame s).«record» text identifier
    ≡ or_else (cond (is_excepted (read_frame s).«record».body) 15 0)
    (or_else (content_refusal (read_frame s).«record» text identifier)
    (or_else (header_frame_refusal (written_header (read_frame s).«record»)) (over_by most_bytes (frame_bytes (read_frame s).«record» text identifier))))
unfolding frame_refusal
frame_unwritten s text identifier =
    let r = (read_frame s).«record» in
    given_refusal (frame_given usually s) text identifier (or_else (header_frame_refusal (written_header r)) (over_by most_bytes (frame_bytes r text identifier)))
