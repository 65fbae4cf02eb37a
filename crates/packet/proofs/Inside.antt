-- Third-party traffic (document 02, R-6): a packet whose body holds another is that one with a header around it, or 19 where a fifth
-- stands inside; and what a record shows of places in the packet inside is there in the whole.
-- Assumes nothing.
use mathlib.Core.Path.{◌≡◌, refl, sym, ap, ◌∙◌}
use mathlib.Core.Bool.{Bool, true, false, cond, ◌&&◌, true≢false}
use mathlib.Core.List.{List, []}
use Prim.Native.Nat.{ℕ, zero, suc, ◌+◌, ◌≤◌}
use native.Mathlib.Omega.{arith}
use borrow.Author.Tests.{eq-eqb, ne_eqb, eqb-true, le-ltb, ltb-false}
use lib.Dec.{eqb, ltb}
use lib.ListN.{length, take, drop, length-drop}
use lib.Seq.{drop-drop}
use Rattle.laws.specs.Lists.{index_of}
use Rattle.laws.proofs.Tests.{and_both}
use Rattle.header.specs.declared.Header.{Header}
use Rattle.header.specs.declared.HeaderRead.{HeaderRead}
use Rattle.header.specs.Header.{most_bytes, header_refused}
use Rattle.header.specs.Text.{read_header_text, read_text_header}
use Rattle.header.specs.Frame.{read_frame_header}
use Rattle.header.proofs.Theorems.{any_text_is_in_range}
use Rattle.position.specs.Position.{usually}
use Rattle.body.specs.declared.Span.{Span}
use Rattle.body.proofs.TextBack.{spanned}
use Rattle.packet.specs.declared.PacketRead.{PacketRead}
use Rattle.packet.specs.Record.{packet_refused}
use Rattle.packet.specs.Packet.{most_inner, holds_packet, is_nowhere, moved_span, record_around, packet_around, unless_refused, packet_after, read_any_text_by, read_any_text, read_text_by, read_text}
use Rattle.packet.specs.Outer.{inside_of}
use Rattle.packet.proofs.Ways.{accepted, inside, by_body, refused_is, alone_is, around_is}
use Rattle.packet.proofs.Given.{after_given}

-- ---- around a packet that is accepted, or refused

around_accepted : (h : Header) (at : ℕ) (p : PacketRead) → p.refusal ≡ 0 → packet_around h at p ≡ accepted (record_around h at p.«record»)
unfolding packet_around
around_accepted h at p z = rw (eq-eqb p.refusal 0 z)

around_refused : (h : Header) (at : ℕ) (p : PacketRead) → (p.refusal ≡ 0 → ⊥) → packet_around h at p ≡ packet_refused p.refusal
unfolding packet_around
around_refused h at p z = rw (ne_eqb p.refusal 0 z)

around_fifth : (h : Header) (at : ℕ) → packet_around h at (packet_refused 19) ≡ packet_refused 19
unfolding packet_around packet_refused
around_fifth h at = refl

-- the packet inside was accepted where the whole is
inside_accepted : (h : Header) (at : ℕ) (p : PacketRead) → (packet_around h at p).refusal ≡ 0 → p.refusal ≡ 0
unfolding packet_around packet_refused
inside_accepted h at p = go (eqb p.refusal 0) refl
  where
    go : (t : Bool) → eqb p.refusal 0 ≡ t → (cond t (accepted (record_around h at p.«record»)) (packet_refused p.refusal)).refusal ≡ 0 → p.refusal ≡ 0
    go true e z = eqb-true p.refusal 0 e
    go false e z = z

-- and the whole's number is one higher
around_number : (h : Header) (at : ℕ) (p : PacketRead) → (packet_around h at p).refusal ≡ 0 → (packet_around h at p).«record».inner ≡ p.«record».inner + 1
unfolding record_around
around_number h at p z = ap (λ (x : PacketRead). x.«record».inner) (around_accepted h at p (inside_accepted h at p z))

-- ---- a packet around another

-- a header that was read, and a body behind it that holds a packet
pub record Holds (s : List ℕ) (h : HeaderRead) : Type 0 where
  pub read : h.refusal ≡ 0
  pub holds : holds_packet s h.body ≡ true

-- where the packet inside starts, and that text
abbrev pub inside_at : HeaderRead → ℕ
inside_at h = h.body + 1

abbrev pub inside_text : List ℕ → HeaderRead → List ℕ
inside_text s h = drop (inside_at h) s

-- ---- more packets, each in the body of the one before, than so many

-- whether a header was read and the body behind it holds a packet
abbrev is_held : List ℕ → HeaderRead → Bool
is_held s h = eqb h.refusal 0 && holds_packet s h.body

-- the headers around the last of them were read; its own is not looked at
abbrev pub holds_over : ℕ → List ℕ → HeaderRead → Bool
holds_over zero s h = is_held s h
holds_over (suc left) s h = is_held s h && holds_over left (inside_text s h) (read_header_text (inside_text s h))

is_held_lem : (s : List ℕ) (h : HeaderRead) → Holds s h → is_held s h ≡ true
is_held_lem s h x = rw (eq-eqb h.refusal 0 x.read, x.holds)

held : (s : List ℕ) (h : HeaderRead) → is_held s h ≡ true → Holds s h
held s h e =
    let both = and_both (eqb h.refusal 0) (holds_packet s h.body) e in
    record { read = eqb-true h.refusal 0 both.0; holds = both.1 }

module _ (left : ℕ) (s : List ℕ) (h : HeaderRead) where
  abbrev rest : Bool
  rest = holds_over left (inside_text s h) (read_header_text (inside_text s h))

  first_held : holds_over (suc left) s h ≡ true → Holds s h
  first_held e = held s h (and_both (is_held s h) rest e).0

  rest_over : holds_over (suc left) s h ≡ true → rest ≡ true
  rest_over e = (and_both (is_held s h) rest e).1

-- the whole is then refused with 19, whatever the last of them is
over_is_19 : (left : ℕ) (s : List ℕ) (h : HeaderRead) → holds_over left s h ≡ true → packet_after usually left h s ≡ packet_refused 19
unfolding inside_of
over_is_19 zero s h e = let x = held s h e in around_is usually zero h s x.read x.holds ∙ around_fifth h.header (inside_at h)
over_is_19 (suc k) s h e =
    let x = first_held k s h e in
    around_is usually (suc k) h s x.read x.holds
    ∙ ap (packet_around h.header (inside_at h)) (over_is_19 k (inside_text s h) (read_header_text (inside_text s h)) (rest_over k s h e)) ∙ around_fifth h.header (inside_at h)

-- without them one level more gives the same packet
module _ (left : ℕ) (s : List ℕ) (h : HeaderRead) (same : is_held s h ≡ true → inside usually left h s ≡ inside usually (suc left) h s) where
  after_same : packet_after usually left h s ≡ packet_after usually (suc left) h s
  after_same =
      by_body (packet_after usually left h s ≡ packet_after usually (suc left) h s) h s
      (λ z. refused_is usually left h s z ∙ sym (refused_is usually (suc left) h s z))
      (λ z e. alone_is usually left h s z e ∙ sym (alone_is usually (suc left) h s z e))
      (λ z e. around_is usually left h s z e ∙ ap (packet_around h.header (inside_at h)) (same (is_held_lem s h (record { read = z; holds = e }))) ∙ sym (around_is usually (suc left) h s z e))

enough : (left : ℕ) (s : List ℕ) (h : HeaderRead) → holds_over left s h ≡ false → packet_after usually left h s ≡ packet_after usually (suc left) h s
unfolding inside_of
enough zero s h n = after_same zero s h (λ e. absurd (true≢false (sym e ∙ n)))
enough (suc k) s h n = after_same (suc k) s h (λ e. enough k (inside_text s h) (read_header_text (inside_text s h)) (rw e at n))

-- and a packet that is accepted with one level more has them all inside
over_number : (left : ℕ) (s : List ℕ) (h : HeaderRead) → holds_over left s h ≡ true → (packet_after usually (suc left) h s).refusal ≡ 0 → left + 1 ≤ (packet_after usually (suc left) h s).«record».inner
unfolding inside_of
over_number zero s h e = let x = held s h e in rw (around_is usually 1 h s x.read x.holds) (λ a. omega (arith, around_number h.header (inside_at h) (inside usually 1 h s) a))
over_number (suc k) s h e =
    let x = first_held k s h e in
    rw (around_is usually (suc (suc k)) h s x.read x.holds)
    (λ a.
    omega (
      arith,
      around_number h.header (inside_at h) (inside usually (suc (suc k)) h s) a,
      over_number k (inside_text s h) (read_header_text (inside_text s h)) (rest_over k s h e) (inside_accepted h.header (inside_at h) (inside usually (suc (suc k)) h s) a),
    ))

-- ---- the whole, by what the text inside is by itself

-- four packets in a text: with a header around it the last of them is the fifth
abbrev pub holds_four : List ℕ → Bool
holds_four t = holds_over 3 t (read_header_text t)

module _ (t : List ℕ) where
  under_four : (read_any_text t).refusal ≡ 0 → (read_any_text t).«record».inner ≤ 3 → holds_four t ≡ false
  unfolding read_any_text_by
  under_four z few = go (holds_four t) refl
    where
      go : (b : Bool) → holds_four t ≡ b → b ≡ false
      go true e = absurd (omega (arith, few, over_number 3 t (read_header_text t) e z))
      go false e = refl

  pub four_inside : (read_any_text t).«record».inner ≡ 4 → holds_four t ≡ true
  unfolding read_any_text_by
  four_inside four = go (holds_four t) refl
    where
      three : holds_four t ≡ false → (packet_after usually most_inner (read_header_text t) t).«record».inner ≤ 3
      three e = rw (← enough 3 t (read_header_text t) e) (after_given usually 3 (read_header_text t) t (any_text_is_in_range t)).number

      go : (b : Bool) → holds_four t ≡ b → b ≡ true
      go true e = refl
      go false e = absurd (omega (arith, four, three e))

module _ (s : List ℕ) (h : HeaderRead) (x : Holds s h) where
  abbrev text : List ℕ
  text = inside_text s h

  the_whole : packet_after usually most_inner h s ≡ packet_around h.header (inside_at h) (packet_after usually 3 (read_header_text text) text)
  the_whole = around_is usually most_inner h s x.read x.holds ∙ (unfold inside_of in refl)

  -- 19, whatever stands behind the brace
  pub after_fifth : holds_four text ≡ true → packet_after usually most_inner h s ≡ packet_refused 19
  after_fifth e = the_whole ∙ ap (packet_around h.header (inside_at h)) (over_is_19 3 text (read_header_text text) e) ∙ around_fifth h.header (inside_at h)

  after_around : holds_four text ≡ false → packet_after usually most_inner h s ≡ packet_around h.header (inside_at h) (read_any_text text)
  unfolding read_any_text_by
  after_around n = the_whole ∙ ap (packet_around h.header (inside_at h)) (enough 3 text (read_header_text text) n)

  -- with up to three packets inside it: the header around it, and one more
  pub after_accepted : (read_any_text text).refusal ≡ 0 → (read_any_text text).«record».inner ≤ 3
      → packet_after usually most_inner h s ≡ accepted (record_around h.header (inside_at h) (read_any_text text).«record»)
  after_accepted z few = after_around (under_four text z few) ∙ around_accepted h.header (inside_at h) (read_any_text text) z

  -- a fault inside keeps its number
  pub after_faulty : ((read_any_text text).refusal ≡ 0 → ⊥) → holds_four text ≡ false → packet_after usually most_inner h s ≡ packet_refused (read_any_text text).refusal
  after_faulty z n = after_around n ∙ around_refused h.header (inside_at h) (read_any_text text) z

  -- no header stands inside
  pub after_nothing : text ≡ [] → packet_after usually most_inner h s ≡ packet_refused 2
  after_nothing e =
      the_whole
      ∙ ap (λ (l : List ℕ). packet_around h.header (inside_at h) (packet_after usually 3 (read_header_text l) l)) e
      ∙ (unfold packet_after unless_refused read_header_text index_of header_refused packet_refused packet_around in refl)

-- ---- a line or a frame: the text inside is no longer than it

short_inside : (s : List ℕ) (k : ℕ) → ltb most_bytes (length s) ≡ false → read_text (drop k s) ≡ read_any_text (drop k s)
unfolding read_text_by
short_inside s k e = let l = ltb-false most_bytes (length s) e in rw (le-ltb most_bytes (length (drop k s)) (omega (arith, length-drop k s)))

module _ (s : List ℕ) (k : ℕ) where
  by_header : (h : HeaderRead) → (ltb most_bytes (length s) ≡ true → h ≡ header_refused 1) → h.refusal ≡ 0 → read_text (drop k s) ≡ read_any_text (drop k s)
  unfolding header_refused
  by_header h long z = go (ltb most_bytes (length s)) refl
    where
      go : (b : Bool) → ltb most_bytes (length s) ≡ b → read_text (drop k s) ≡ read_any_text (drop k s)
      go true e = absurd (omega (arith, z, ap (λ (x : HeaderRead). x.refusal) (long e)))
      go false e = short_inside s k e

  pub text_inside : (read_text_header s).refusal ≡ 0 → read_text (drop k s) ≡ read_any_text (drop k s)
  text_inside = by_header (read_text_header s) (λ e. unfold read_text_header in rw e)

  pub frame_inside : (read_frame_header s).refusal ≡ 0 → read_text (drop k s) ≡ read_any_text (drop k s)
  frame_inside = by_header (read_frame_header s) (λ e. unfold read_frame_header in rw e)

-- ---- places

-- what stands at a place inside stands at the moved place in the whole
pub moved_shows : (by : ℕ) (s : List ℕ) (p : Span) → spanned (moved_span by p) s ≡ spanned p (drop by s)
unfolding moved_span
moved_shows by s p = go (is_nowhere p) refl
  where
    none : is_nowhere p ≡ true → p.len ≡ 0
    none e = eqb-true p.len 0 (unfold is_nowhere in (and_both (eqb p.at 0) (eqb p.len 0) e).1)

    go : (t : Bool) → is_nowhere p ≡ t → spanned (cond t p (record { at = p.at + by; len = p.len })) s ≡ spanned p (drop by s)
    go true e = rw (none e)
    go false e =
        let turned : by + p.at ≡ p.at + by = omega arith in
        ap (take p.len) (ap (λ (k : ℕ). drop k s) (sym turned) ∙ sym (drop-drop p.at by s))
