-- What reading a packet gives, refused or not: a blank record at a refusal, a record in range but for two cases, at most as many packets
-- inside as may be read, angles that are the inner edges of their boxes, and a comment and an identifier within the input.
-- Assumes nothing.
use mathlib.Core.Path.{◌≡◌, refl, sym, ap, ◌∙◌}
use mathlib.Core.Bool.{Bool, true, false, not, cond, ◌&&◌, true≢false}
use mathlib.Core.List.{List}
use Prim.Native.Nat.{ℕ, zero, suc, ◌+◌, ◌-◌, ◌≤◌}
use native.Mathlib.Omega.{arith}
use native.Mathlib.Numerals.{sub-one}
use borrow.Author.Tests.{eqb-true, eqb-false, eq-eqb, ne_eqb, le-leb}
use lib.Dec.{eqb, ltb, leb}
use lib.ListN.{length, drop, length-drop}
use Rattle.laws.specs.Lists.{pad_to, zeros}
use Rattle.callsign.specs.declared.Callsign.{Callsign}
use Rattle.callsign.specs.Text.{made, joined, blank_call}
use Rattle.callsign.specs.Range.{in_range, is_blank_call}
use Rattle.callsign.proofs.Made.{blank_range as blank-call-range}
use Rattle.header.specs.declared.Header.{Header}
use Rattle.header.specs.declared.HeaderRead.{HeaderRead}
use Rattle.header.specs.Header.{most_bytes, blank_header}
use Rattle.header.specs.Text.{read_header_text}
use Rattle.header.specs.Frame.{read_frame_header}
use Rattle.header.specs.Range.{header_in_range, is_blank_header}
use Rattle.header.proofs.Answers.{blank_header_range, blank_is_blank}
use Rattle.header.proofs.InRange.{from_fine, to_fine, path_fine}
use Rattle.header.proofs.Theorems.{any_text_is_in_range, frame_is_in_range}
use Rattle.body.specs.declared.Kind.{Kind}
use Rattle.body.specs.declared.Kind.TheVariants.{Unknown, Position, MicE, Message, Status}
use Rattle.body.specs.declared.Span.{Span}
use Rattle.body.specs.declared.Body.{Body}
use Rattle.body.specs.declared.BodyRead.{BodyRead}
use Rattle.body.specs.Body.{no_span, blank_body, read_body_by}
use Rattle.body.specs.Range.{is_place_alone, is_report_alone, is_bare, unknown_in_range, position_in_range, mic_e_in_range, message_in_range, status_in_range, in_range_as, body_in_range, excepted_as, is_excepted}
use Rattle.body.proofs.Theorems.{read_comment_within, read_identifier_within, read_range, blank_range, InnerEdges, read_inner_edges, blank_inner_edges}
use Rattle.packet.specs.declared.Record.{Record}
use Rattle.packet.specs.declared.PacketRead.{PacketRead}
use Rattle.packet.specs.Record.{blank_record, packet_refused}
use Rattle.packet.specs.Range.{inner_in_range, record_in_range}
use Rattle.packet.specs.Packet.{most_inner, header_to, kept_to, record_of, is_nowhere, moved_span, moved_body, innermost_of, record_around, packet_after, read_any_text_by, read_text_by, read_frame_by}
use Rattle.packet.specs.Outer.{inside_of}
use Rattle.packet.proofs.Ways.{by_way, every_level}

-- ---- "A refused decode returns the blank record"

-- a packet with the blank record at a refusal
abbrev Blank : PacketRead → Type 0
Blank p = (p.refusal ≡ 0 → ⊥) → p ≡ packet_refused p.refusal

pub refused_first : (t : Bool) (n : ℕ) (p : PacketRead) → Blank p → Blank (cond t (packet_refused n) p)
unfolding packet_refused
refused_first true n p f = λ z. refl
refused_first false n p f = f

pub after_blank : (strict : Bool) (left : ℕ) (h : HeaderRead) (s : List ℕ) → Blank (packet_after strict left h s)
unfolding packet_refused
after_blank strict left h s = by_way strict left h s Blank (λ n y z. refl) (λ o z. absurd (z refl)) (λ a z. absurd (z refl))

-- ---- places moved, which nothing but their readers looks at

module _ (by : ℕ) where
  moved_kind : (b : Body) → (moved_body by b).kind ≡ b.kind
  unfolding moved_body
  moved_kind b = refl

  moved_as : (k : Kind) (b : Body) (to : Callsign) → in_range_as k (moved_body by b) to ≡ in_range_as k b to
  unfolding moved_body in_range_as unknown_in_range position_in_range mic_e_in_range message_in_range status_in_range is_bare is_place_alone is_report_alone
  moved_as Unknown b to = refl
  moved_as Position b to = refl
  moved_as MicE b to = refl
  moved_as Message b to = refl
  moved_as Status b to = refl

  moved_range : (b : Body) (to : Callsign) → body_in_range (moved_body by b) to ≡ body_in_range b to
  unfolding body_in_range
  moved_range b to = ap (λ (k : Kind). in_range_as k (moved_body by b) to) (moved_kind b) ∙ moved_as b.kind b to

  moved_excepted_as : (k : Kind) (b : Body) → excepted_as k (moved_body by b) ≡ excepted_as k b
  unfolding moved_body excepted_as
  moved_excepted_as Unknown b = refl
  moved_excepted_as Position b = refl
  moved_excepted_as MicE b = refl
  moved_excepted_as Message b = refl
  moved_excepted_as Status b = refl

  moved_excepted : (b : Body) → is_excepted (moved_body by b) ≡ is_excepted b
  unfolding is_excepted
  moved_excepted b = ap (λ (k : Kind). excepted_as k (moved_body by b)) (moved_kind b) ∙ moved_excepted_as b.kind b

  moved_edges : (b : Body) → InnerEdges b → InnerEdges (moved_body by b)
  unfolding moved_body
  moved_edges b e = record { latitude = e.latitude; longitude = e.longitude; longitude_whole = e.longitude_whole; without_blanks = e.without_blanks }

  -- a place within what follows the first bytes is one within the whole
  moved_within : (s : List ℕ) (p : Span) → p.at + p.len ≤ length (drop by s) → (moved_span by p).at + (moved_span by p).len ≤ length s
  unfolding moved_span is_nowhere
  moved_within s p w = go (is_nowhere p) refl
    where
      long : length (drop by s) ≡ length s - by
      long = length-drop by s

      some : is_nowhere p ≡ false → p.at + p.len ≡ 0 → ⊥
      some e z = true≢false (sym (rw (eq-eqb p.at 0 (omega (arith, z)), eq-eqb p.len 0 (omega (arith, z)))) ∙ e)

      go : (t : Bool) → is_nowhere p ≡ t → (cond t p (record { at = p.at + by; len = p.len })).at + (cond t p (record { at = p.at + by; len = p.len })).len ≤ length s
      go true e = omega (arith, w, long)
      go false e = omega (arith, w, long, some e)

-- ---- what is read is in range, but for the two cases

kept_range : (k : Kind) (to : Callsign) → in_range to ≡ true → in_range (kept_to k to) ≡ true
unfolding kept_to
kept_range Unknown to e = e
kept_range Position to e = e
kept_range Message to e = e
kept_range Status to e = e
kept_range MicE to e = blank-call-range

kept_blank : (k : Kind) (to : Callsign) → k ≡ MicE → is_blank_call (kept_to k to) ≡ true
unfolding kept_to is_blank_call blank_call made joined pad_to zeros
kept_blank k to e = rw e

-- a record that reading gives where so many packets may be inside: both headers, its body, and its comment and identifier within so many
-- bytes
pub record Given (left size : ℕ) (r : Record) : Type 0 where
  pub number : r.inner ≤ left
  pub blank : r.inner ≡ 0 → r.innermost ≡ blank_header
  pub header : header_in_range r.header ≡ true
  pub innermost : header_in_range (innermost_of r) ≡ true
  pub body : body_in_range r.body (innermost_of r).to ≡ not (is_excepted r.body)
  pub edges : InnerEdges r.body
  pub within : r.body.comment.at + r.body.comment.len ≤ size
  pub identifier_within : r.body.identifier.at + r.body.identifier.len ≤ size

blank_body_lem : not (is_excepted blank_body) ≡ true
unfolding blank_body is_excepted excepted_as
blank_body_lem = refl

blank_spans : (size : ℕ) → (blank_body.comment.at + blank_body.comment.len ≤ size) × (blank_body.identifier.at + blank_body.identifier.len ≤ size)
unfolding blank_body no_span
blank_spans size = (omega arith, omega arith)

pub blank_given : (left size : ℕ) → Given left size blank_record
unfolding blank_record innermost_of
blank_given left size =
    record {
      number = omega arith;
      blank = λ e. refl;
      header = blank_header_range;
      innermost = blank_header_range;
      body = blank_range blank_header.to ∙ sym blank_body_lem;
      edges = blank_inner_edges;
      within = (blank_spans size).0;
      identifier_within = (blank_spans size).1;
    }

-- with none inside
module _ (strict : Bool) (h : Header) (s : List ℕ) (at : ℕ) (e : header_in_range h ≡ true) where
  abbrev b : BodyRead
  b = read_body_by strict h.to s at

  abbrev kept : Callsign
  kept = kept_to b.body.kind h.to

  header_fine : header_in_range (header_to h kept) ≡ true
  unfolding header_in_range
  header_fine = rw (from_fine h e, kept_range b.body.kind h.to (to_fine h e), path_fine h e)

  own_given : (left : ℕ) → Given left (length s) (record_of h b.body)
  unfolding record_of innermost_of
  own_given left =
      record {
        number = omega arith;
        blank = λ z. refl;
        header = header_fine;
        innermost = header_fine;
        body = read_range strict h.to s at kept (kept_blank b.body.kind h.to);
        edges = read_inner_edges strict h.to s at;
        within = read_comment_within strict h.to s at;
        identifier_within = read_identifier_within strict h.to s at;
      }

-- around another
module _ (left : ℕ) (h : Header) (s : List ℕ) (at : ℕ) (r : Record) where
  pub around_innermost : innermost_of (record_around h at r) ≡ innermost_of r
  unfolding record_around
  around_innermost = unfold innermost_of in rw (ne_eqb (r.inner + 1) 0 (λ e. omega arith)) refl

  around_given : header_in_range h ≡ true → Given left (length (drop at s)) r → Given (suc left) (length s) (record_around h at r)
  unfolding record_around moved_body
  around_given e g =
      record {
        number = omega (arith, g.number);
        blank = λ z. absurd (omega (arith, z));
        header = e;
        innermost = ap header_in_range around_innermost ∙ g.innermost;
        body =
            ap (λ (x : Header). body_in_range (moved_body at r.body) x.to) around_innermost
            ∙ moved_range at r.body (innermost_of r).to ∙ g.body ∙ ap not (sym (moved_excepted at r.body));
        edges = moved_edges at r.body g.edges;
        within = moved_within at s r.body.comment g.within;
        identifier_within = moved_within at s r.body.identifier g.identifier_within;
      }

pub after_given : (strict : Bool) (left : ℕ) (h : HeaderRead) (s : List ℕ) → header_in_range h.header ≡ true → Given left (length s) (packet_after strict left h s).«record»
after_given strict =
    every_level strict (λ left s r. Given left (length s) r) (λ h. header_in_range h ≡ true) (λ left s. blank_given left (length s)) (λ left h s at e. own_given strict h s at e left)
    (λ left h s at r. around_given left h s (at + 1) r) any_text_is_in_range

-- a text inside: its number and its places
pub inside_given : (strict : Bool) (left : ℕ) (t : List ℕ) (p : PacketRead) → p ≡ inside_of strict left t → Given (left - 1) (length t) p.«record»
unfolding inside_of packet_refused
inside_given strict zero t p e = rw e (blank_given (0 - 1) (length t))
inside_given strict (suc k) t p e = rw (e, sub-one (suc k)) (after_given strict k (read_header_text t) t (any_text_is_in_range t))

-- ---- the range of the whole record

module _ {left size : ℕ} {r : Record} (few : left ≤ most_inner) (g : Given left size r) where
  inner_fine : inner_in_range r ≡ true
  unfolding inner_in_range
  inner_fine = go (eqb r.inner 0) refl
    where
      its_own : (r.inner ≡ 0 → ⊥) → innermost_of r ≡ r.innermost
      its_own n = unfold innermost_of in rw (ne_eqb r.inner 0 n) refl

      go : (t : Bool) → eqb r.inner 0 ≡ t → cond t (is_blank_header r.innermost) (leb r.inner most_inner && header_in_range r.innermost) ≡ true
      go true e = rw (g.blank (eqb-true r.inner 0 e)) blank_is_blank
      go false e = rw (le-leb r.inner most_inner (omega (arith, g.number, few))) (ap header_in_range (sym (its_own (eqb-false r.inner 0 e))) ∙ g.innermost)

  pub given_range : record_in_range r ≡ not (is_excepted r.body)
  unfolding record_in_range
  given_range = rw (g.header, inner_fine) g.body

-- ---- texts and frames

module _ (strict : Bool) (s : List ℕ) where
  pub any_text_given : Given most_inner (length s) (read_any_text_by strict s).«record»
  unfolding read_any_text_by
  any_text_given = after_given strict most_inner (read_header_text s) s (any_text_is_in_range s)

  pub text_given : Given most_inner (length s) (read_text_by strict s).«record»
  unfolding read_text_by packet_refused
  text_given = go (ltb most_bytes (length s))
    where
      go : (t : Bool) → Given most_inner (length s) (cond t (packet_refused 1) (read_any_text_by strict s)).«record»
      go true = blank_given most_inner (length s)
      go false = any_text_given

  pub frame_given : Given most_inner (length s) (read_frame_by strict s).«record»
  unfolding read_frame_by
  frame_given = after_given strict most_inner (read_frame_header s) s (frame_is_in_range s)
