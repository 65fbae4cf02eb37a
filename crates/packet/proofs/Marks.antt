-- The marks of dropped zeros in a record (document 02, R-2): the bytes of an accepted line stand in them, what is written does not depend on
-- them, and no frame's own header sets one.
-- Assumes nothing.
use mathlib.Core.Path.{◌≡◌, refl, sym, ap, ◌∙◌}
use mathlib.Core.Bool.{Bool, true, false, cond}
use mathlib.Core.List.{List, []}
use Prim.Native.Nat.{ℕ, ◌+◌}
use native.Mathlib.Omega.{arith}
use lib.Dec.{eqb, ltb}
use borrow.Author.Tests.{ne_eqb}
use lib.ListN.{length, take}
use Rattle.laws.proofs.Unique.{alike_without}
use Rattle.callsign.specs.declared.Callsign.{Callsign}
use Rattle.callsign.specs.Text.{marked_as, blank_call}
use Rattle.callsign.proofs.Marks.{mark_of_blank, unmarked_call, unmarked_made}
use Rattle.header.specs.declared.Header.{Header}
use Rattle.header.specs.declared.HeaderRead.{HeaderRead}
use Rattle.header.specs.Header.{most_bytes, header_of, header_refused}
use Rattle.header.specs.Text.{header_text, read_header_text, read_text_header}
use Rattle.header.specs.Frame.{header_frame, read_frame_header}
use Rattle.header.specs.Range.{frame_refusal as header_frame_refusal}
use Rattle.header.proofs.Kept.{header_typed, Kept}
use Rattle.header.proofs.Marks.{unmarked, twice_unmarked, unmarked_in_range, unmarked_is_blank, unmarked_text, unmarked_frame, unmarked_frame_refusal}
use Rattle.header.proofs.Theorems.{any_text_is_kept, frame_has_no_mark, blank_has_no_mark}
use Rattle.body.specs.declared.Kind.{Kind}
use Rattle.body.specs.declared.Kind.TheVariants.{Unknown, Position, MicE, Message, Status}
use Rattle.body.specs.declared.Body.{Body}
use Rattle.position.specs.Position.{usually}
use Rattle.body.specs.Body.{read_body}
use Rattle.body.specs.Range.{mic_e_in_range, in_range_as, body_in_range}
use Rattle.body.specs.Written.{to_as, written_to}
use Rattle.packet.specs.declared.Record.{Record}
use Rattle.packet.specs.Record.{blank_record, packet_refused}
use Rattle.packet.specs.Range.{inner_in_range, record_in_range, range_refusal}
use Rattle.packet.specs.Packet.{most_inner, header_to, kept_to, record_of, innermost_of, record_around, packet_after, read_any_text_by, read_any_text, read_text_by, read_text, read_frame_by, read_frame}
use Rattle.packet.specs.Written.{written_header, bytes_of, text_bytes, frame_bytes, content_refusal, record_refusal, text_refusal, frame_refusal}
use Rattle.packet.proofs.Ways.{inside, by_way}

-- ---- a record without its marks

unfoldable pub unmarked_record : Record → Record
unmarked_record r = record { header = unmarked r.header; body = r.body; innermost = unmarked r.innermost; inner = r.inner }

-- ---- the range

body_range : (k : Kind) (b : Body) (to : Callsign) → in_range_as k b (unmarked_call to) ≡ in_range_as k b to
unfolding in_range_as mic_e_in_range
body_range Unknown b to = refl
body_range Position b to = refl
body_range Message b to = refl
body_range Status b to = refl
body_range MicE b to = rw (mark_of_blank false to)

same_innermost : (r : Record) → innermost_of (unmarked_record r) ≡ unmarked (innermost_of r)
unfolding innermost_of unmarked_record
same_innermost r = go (eqb r.inner 0)
  where
    go : (t : Bool) → cond t (unmarked r.header) (unmarked r.innermost) ≡ unmarked (cond t r.header r.innermost)
    go true = refl
    go false = refl

same_inner : (r : Record) → inner_in_range (unmarked_record r) ≡ inner_in_range r
unfolding inner_in_range unmarked_record
same_inner r = rw (unmarked_is_blank r.innermost, unmarked_in_range r.innermost)

same_body : (b : Body) (h : Header) → body_in_range b (unmarked h).to ≡ body_in_range b h.to
unfolding body_in_range unmarked header_of
same_body b h = body_range b.kind b h.to

same_range : (r : Record) → record_in_range (unmarked_record r) ≡ record_in_range r
unfolding record_in_range
same_range r = rw (same_inner r, same_innermost r) (unfold unmarked_record in rw (unmarked_in_range r.header, same_body r.body (innermost_of r)) refl)

same_refusal : (r : Record) (text identifier : List ℕ) → record_refusal (unmarked_record r) text identifier ≡ record_refusal r text identifier
unfolding record_refusal range_refusal content_refusal
same_refusal r text identifier = rw (same_range r) (unfold unmarked_record in refl)

-- ---- the header that is written

-- with any destination
same_to : (h : Header) (to : Callsign) → unmarked (header_to (unmarked h) to) ≡ unmarked (header_to h to)
unfolding unmarked header_of
same_to h to = ap (λ (g : Header). header_to g (unmarked_call to)) (twice_unmarked h)

same_written : (k : Kind) (b : Body) (h : Header) → unmarked (header_to (unmarked h) (to_as k b (unmarked_call h.to))) ≡ unmarked (header_to h (to_as k b h.to))
unfolding to_as
same_written Unknown b h = same_to h (unmarked_call h.to) ∙ (unfold unmarked header_of marked_as in refl)
same_written Position b h = same_to h (unmarked_call h.to) ∙ (unfold unmarked header_of marked_as in refl)
same_written MicE b h = same_to h (to_as MicE b h.to)
same_written Message b h = same_to h (unmarked_call h.to) ∙ (unfold unmarked header_of marked_as in refl)
same_written Status b h = same_to h (unmarked_call h.to) ∙ (unfold unmarked header_of marked_as in refl)

same_header : (r : Record) → unmarked (written_header (unmarked_record r)) ≡ unmarked (written_header r)
unfolding written_header written_to unmarked_record
same_header r = unfold unmarked header_of in same_written r.body.kind r.body r.header

-- whatever does not look at a header's marks
same_of : {A : Type 0} (f : Header → A) → ((h : Header) → f (unmarked h) ≡ f h) → (r : Record) → f (written_header (unmarked_record r)) ≡ f (written_header r)
same_of f e r = alike_without unmarked f e (written_header (unmarked_record r)) (written_header r) (same_header r)

-- ---- what is written

module _ (r : Record) (text identifier : List ℕ) where
  pub unmarked_text_bytes : text_bytes (unmarked_record r) text identifier ≡ text_bytes r text identifier
  unfolding text_bytes bytes_of
  unmarked_text_bytes = rw (same_of header_text unmarked_text r) (unfold unmarked_record in refl)

  pub unmarked_frame_bytes : frame_bytes (unmarked_record r) text identifier ≡ frame_bytes r text identifier
  unfolding frame_bytes bytes_of
  unmarked_frame_bytes = rw (same_of header_frame unmarked_frame r) (unfold unmarked_record in refl)

  pub unmarked_refusal_of_text : text_refusal (unmarked_record r) text identifier ≡ text_refusal r text identifier
  unfolding text_refusal
  unmarked_refusal_of_text = rw (same_refusal r text identifier, unmarked_text_bytes)

  pub unmarked_refusal_of_frame : frame_refusal (unmarked_record r) text identifier ≡ frame_refusal r text identifier
  unfolding frame_refusal
  unmarked_refusal_of_frame = rw (same_refusal r text identifier, same_of header_frame_refusal unmarked_frame_refusal r, unmarked_frame_bytes)

-- ---- a frame read

-- without a destination
blank_to : (h : Header) → unmarked (header_to h blank_call) ≡ header_to (unmarked h) blank_call
unfolding unmarked header_of blank_call
blank_to h = rw (unmarked_made [] [])

kept_unmarked : (k : Kind) (h : Header) → unmarked h ≡ h → unmarked (header_to h (kept_to k h.to)) ≡ header_to h (kept_to k h.to)
unfolding kept_to
kept_unmarked Unknown h e = e
kept_unmarked Position h e = e
kept_unmarked Message h e = e
kept_unmarked Status h e = e
kept_unmarked MicE h e = blank_to h ∙ ap (λ (g : Header). header_to g blank_call) e

pub unmarked_blank_record : unmarked_record blank_record ≡ blank_record
unfolding unmarked_record blank_record
unmarked_blank_record = rw blank_has_no_mark

blank_unmarked : unmarked blank_record.header ≡ blank_record.header
unfolding blank_record
blank_unmarked = blank_has_no_mark

unmarked_after : (left : ℕ) (h : HeaderRead) (s : List ℕ) → unmarked h.header ≡ h.header → unmarked (packet_after usually left h s).«record».header ≡ (packet_after usually left h s).«record».header
unfolding packet_refused record_of record_around
unmarked_after left h s e =
    by_way usually left h s (λ p. unmarked p.«record».header ≡ p.«record».header) (λ n z. blank_unmarked)
    (λ o. kept_unmarked (read_body h.header.to s h.body).body.kind h.header e) (λ a. e)

pub unmarked_frame_header : (s : List ℕ) → unmarked (read_frame s).«record».header ≡ (read_frame s).«record».header
unfolding read_frame_by
unmarked_frame_header s = unmarked_after most_inner (read_frame_header s) s (frame_has_no_mark s)

-- ---- a line read

-- the destination that a record shows of the one that stood there: a Mic-E record with no packet inside shows none
unfoldable pub shown_to : Record → Callsign → Callsign
shown_to r to = cond (eqb r.inner 0) (kept_to r.body.kind to) to

-- the bytes up to the body, by the stars as typed and the destination that stood there
pub record LineKept (s : List ℕ) (h : HeaderRead) (r : Record) : Type 0 where
  pub source : Bool
  pub destination : Bool
  pub to : Callsign
  pub shown : r.header.to ≡ shown_to r to
  pub text : take h.body s ≡ header_typed source destination h.stars (header_to r.header to)

after_kept : (left : ℕ) (h : HeaderRead) (s : List ℕ) → (h.refusal ≡ 0 → Kept s h) → (packet_after usually left h s).refusal ≡ 0 → LineKept s h (packet_after usually left h s).«record»
unfolding packet_refused record_of record_around shown_to
after_kept left h s f =
    by_way usually left h s (λ p. p.refusal ≡ 0 → LineKept s h p.«record») (λ n y z. absurd (y z))
    (λ o z. let k = f o.header in record { source = k.source; destination = k.destination; to = h.header.to; shown = refl; text = k.text })
    (λ a z. let k = f a.header in record { source = k.source; destination = k.destination; to = h.header.to; shown = sym (around_shown (inside usually left h s).«record».inner _ _); text = k.text })
  where
    around_shown : (n : ℕ) (x y : Callsign) → cond (eqb (n + 1) 0) x y ≡ y
    around_shown n x y = rw (ne_eqb (n + 1) 0 (λ e. omega (arith, e)))

pub any_text_line_kept : (s : List ℕ) → (read_any_text s).refusal ≡ 0 → LineKept s (read_header_text s) (read_any_text s).«record»
unfolding read_any_text_by
any_text_line_kept s = after_kept most_inner (read_header_text s) s (any_text_is_kept s)

pub text_line_kept : (s : List ℕ) → (read_text s).refusal ≡ 0 → LineKept s (read_text_header s) (read_text s).«record»
unfolding read_text_by read_text_header packet_refused
text_line_kept s = go (ltb most_bytes (length s))
  where
    go : (t : Bool) → (cond t (packet_refused 1) (read_any_text s)).refusal ≡ 0 → LineKept s (cond t (header_refused 1) (read_header_text s)) (cond t (packet_refused 1) (read_any_text s)).«record»
    go true z = absurd (omega arith)
    go false z = any_text_line_kept s z
