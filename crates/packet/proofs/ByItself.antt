-- A packet read by itself is the packet that the definition reads, once what its body holds is read too.
-- Assumes nothing.
use mathlib.Core.Path.{◌≡◌, refl, sym, ap, ◌∙◌}
use mathlib.Core.Bool.{Bool, true, false, cond}
use mathlib.Core.List.{List}
use Prim.Native.Nat.{ℕ, zero, suc, ◌+◌, ◌-◌}
use native.Mathlib.Omega.{arith}
use native.Mathlib.Numerals.{sub-one}
use borrow.Author.Tests.{le-ltb, eq-eqb, ne_eqb, eqb-true}
use borrow.Author.Rules.{part_to_end}
use lib.Dec.{eqb, ltb}
use lib.ListN.{length, drop, get_or}
use Rattle.laws.specs.Bytes.{closing_brace}
use Rattle.laws.proofs.Tests.{and_both}
use Rattle.callsign.specs.declared.Callsign.{Callsign}
use Rattle.header.specs.declared.HeaderRead.{HeaderRead}
use Rattle.header.specs.Header.{most_bytes, header_refused}
use Rattle.header.specs.Text.{read_header_text, read_text_header}
use Rattle.header.specs.Frame.{read_frame_header}
use Rattle.body.specs.Body.{blank_body, body_accepted, opening_of, body_after, read_body_by}
use Rattle.packet.specs.declared.Outer.{Outer}
use Rattle.packet.specs.declared.PacketRead.{PacketRead}
use Rattle.packet.specs.Record.{blank_record, packet_refused}
use Rattle.packet.specs.Packet.{most_inner, header_to, kept_to, record_of, packet_of, holds_packet, packet_around, packet_after, read_any_text_by, read_text_by, read_frame_by}
use Rattle.packet.specs.Outer.{outer_refused, outer_of, outer_after, outer_within, alone_of, inside_of, packet_from}
use Rattle.packet.proofs.Packets.{behind_brace, nothing_there, any_is, frame_is, line_read}
use Rattle.packet.proofs.Ways.{own, by_body, refused_is, alone_is, around_is}

-- ---- a frame or a line: 1 is the header's

refused_outer : (strict : Bool) (h : HeaderRead) (s : List ℕ) → h ≡ header_refused 1 → outer_after strict h s ≡ outer_refused s 1
unfolding outer_after header_refused
refused_outer strict h s e = rw e refl

frame_within : (strict : Bool) (s : List ℕ) → outer_within strict most_bytes true s ≡ outer_after strict (read_frame_header s) s
unfolding outer_within
frame_within strict s = go (ltb most_bytes (length s)) refl
  where
    go : (t : Bool) → ltb most_bytes (length s) ≡ t → cond t (outer_refused s 1) (outer_after strict (read_frame_header s) s) ≡ outer_after strict (read_frame_header s) s
    go true e = sym (refused_outer strict (read_frame_header s) s (unfold read_frame_header in rw e))
    go false e = refl

line_within : (strict : Bool) (s : List ℕ) → outer_within strict most_bytes false s ≡ outer_after strict (read_text_header s) s
unfolding outer_within read_text_header
line_within strict s = go (ltb most_bytes (length s))
  where
    go : (t : Bool) → cond t (outer_refused s 1) (outer_after strict (read_header_text s) s) ≡ outer_after strict (cond t (header_refused 1) (read_header_text s)) s
    go true = sym (refused_outer strict (header_refused 1) s refl)
    go false = refl

-- a text that is as long as it may be
any_within : (strict : Bool) (s : List ℕ) → outer_within strict (length s) false s ≡ outer_after strict (read_header_text s) s
unfolding outer_within
any_within strict s = rw (le-ltb (length s) (length s) (omega arith))

-- ---- what it holds

pub from_alone : (strict : Bool) (left : ℕ) (o : Outer) (s : List ℕ) (u : Bool) → u ≡ holds_packet s o.at → (r : PacketRead) → u ≡ false → r ≡ alone_of o → r ≡ packet_from strict left o s
unfolding packet_from
from_alone strict left o s u q r e w = rw (← q, e) w

-- ---- the same as the definition

-- a body that holds a packet is by itself of Unknown kind
brace_unknown : (strict : Bool) (to : Callsign) (s : List ℕ) (at : ℕ) → holds_packet s at ≡ true → read_body_by strict to s at ≡ body_accepted blank_body
unfolding holds_packet read_body_by
brace_unknown strict to s at e =
    let both = and_both (ltb at (length s)) (eqb (get_or s at 0) closing_brace) e in
    let b : get_or s at 0 ≡ closing_brace = eqb-true (get_or s at 0) closing_brace both.1 in
    rw (both.0, b) (unfold opening_of body_after in refl)

-- so its header keeps its destination
held_outer : (strict : Bool) (h : HeaderRead) (s : List ℕ) → h.refusal ≡ 0 → holds_packet s h.body ≡ true → outer_after strict h s ≡ record { header = h.header; body = blank_body; at = h.body; refusal = 0 }
unfolding outer_after outer_of
held_outer strict h s z e = rw (eq-eqb h.refusal 0 z, brace_unknown strict h.header.to s h.body e) (unfold blank_body kept_to in refl)

end_holds_none : (s : List ℕ) → holds_packet s (length s) ≡ false
end_holds_none s = sym (nothing_there s (length s) (omega arith))

refused_from : (strict : Bool) (left : ℕ) (s : List ℕ) (n : ℕ) → packet_from strict left (outer_refused s n) s ≡ packet_refused n
unfolding packet_from outer_refused
refused_from strict left s n = rw (end_holds_none s) (unfold alone_of packet_refused blank_record in refl)

own_from : (strict : Bool) (left : ℕ) (h : HeaderRead) (s : List ℕ) → h.refusal ≡ 0 → holds_packet s h.body ≡ false → packet_from strict left (outer_after strict h s) s ≡ packet_of h.header (own strict h s)
unfolding outer_after outer_of packet_of
own_from strict left h s z e = rw (eq-eqb h.refusal 0 z) (go (eqb (own strict h s).refusal 0))
  where
    made : Outer
    made = record { header = header_to h.header (kept_to (own strict h s).body.kind h.header.to); body = (own strict h s).body; at = h.body; refusal = 0 }

    go : (t : Bool) → packet_from strict left (cond t made (outer_refused s (own strict h s).refusal)) s ≡ cond t (record { refusal = 0; «record» = record_of h.header (own strict h s).body }) (packet_refused (own strict h s).refusal)
    go true = unfold packet_from in rw e (unfold alone_of record_of in refl)
    go false = refused_from strict left s (own strict h s).refusal

pub from_after : (strict : Bool) (left : ℕ) (h : HeaderRead) (s : List ℕ) → packet_from strict left (outer_after strict h s) s ≡ packet_after strict left h s
from_after strict left h s =
    by_body (packet_from strict left (outer_after strict h s) s ≡ packet_after strict left h s) h s
    (λ z. ap (λ (o : Outer). packet_from strict left o s) (refused_after z) ∙ refused_from strict left s h.refusal ∙ sym (refused_is strict left h s z))
    (λ z e. own_from strict left h s z e ∙ sym (alone_is strict left h s z e))
    (λ z e. ap (λ (o : Outer). packet_from strict left o s) (held_outer strict h s z e) ∙ held_from e ∙ sym (around_is strict left h s z e))
  where
    refused_after : (h.refusal ≡ 0 → ⊥) → outer_after strict h s ≡ outer_refused s h.refusal
    refused_after z = unfold outer_after in rw (ne_eqb h.refusal 0 z)

    held_from : holds_packet s h.body ≡ true
        → packet_from strict left (record { header = h.header; body = blank_body; at = h.body; refusal = 0 }) s ≡ packet_around h.header (h.body + 1) (inside_of strict left (drop (h.body + 1) s))
    held_from e = unfold packet_from in rw e

-- ---- the text inside, and the readers of the whole

pub inside_fifth : (strict : Bool) (left : ℕ) (t : List ℕ) (r : PacketRead) → left ≡ 0 → r ≡ packet_refused 19 → r ≡ inside_of strict left t
unfolding inside_of
inside_fifth strict left t r z w = rw z w

-- the rest of the input, as the code cuts it off
pub inside_text_lem : (strict : Bool) (left : ℕ) (s : List ℕ) (at : ℕ) (o : Outer) (r : PacketRead) → (left ≡ 0 → ⊥) → o ≡ outer_within strict (length (behind_brace s at)) false (behind_brace s at)
    → r ≡ packet_from strict (left - 1) o (behind_brace s at) → r ≡ inside_of strict left (drop (at + 1) s)
unfolding inside_of
inside_text_lem strict zero s at o r z f w = absurd (z refl)
inside_text_lem strict (suc k) s at o r z f w =
    w ∙ ap (λ (x : Outer). packet_from strict (suc k - 1) x (behind_brace s at)) (f ∙ any_within strict (behind_brace s at)) ∙ from_after strict (suc k - 1) (read_header_text (behind_brace s at)) (behind_brace s at)
    ∙ rw (sub-one (suc k), part_to_end s (at + 1))

pub ruleset inside_text = (inside_fifth, inside_text_lem)

pub any_from : (strict : Bool) (s : List ℕ) (o : Outer) (r : PacketRead) → o ≡ outer_within strict (length s) false s → r ≡ packet_from strict most_inner o s → r ≡ read_any_text_by strict s
any_from strict s o r f w = w ∙ ap (λ (x : Outer). packet_from strict most_inner x s) (f ∙ any_within strict s) ∙ from_after strict most_inner (read_header_text s) s ∙ sym (any_is strict s)

pub either_from : (strict : Bool) (s : List ℕ) (framed : Bool) (o : Outer) (r : PacketRead) → o ≡ outer_within strict most_bytes framed s → r ≡ packet_from strict most_inner o s
    → r ≡ cond framed (read_frame_by strict s) (read_text_by strict s)
either_from strict s true o r f w = w ∙ ap (λ (x : Outer). packet_from strict most_inner x s) (f ∙ frame_within strict s) ∙ from_after strict most_inner (read_frame_header s) s ∙ sym (frame_is strict s)
either_from strict s false o r f w = w ∙ ap (λ (x : Outer). packet_from strict most_inner x s) (f ∙ line_within strict s) ∙ from_after strict most_inner (read_text_header s) s ∙ line_read strict s
