-- The ways in which reading a packet ends: refused, with a body of its own, or around a packet inside; and what therefore holds at every
-- level.
-- Assumes nothing.
use mathlib.Core.Path.{◌≡◌, refl}
use mathlib.Core.Bool.{Bool, true, false, cond}
use mathlib.Core.List.{List}
use Prim.Native.Nat.{ℕ, zero, suc, ◌+◌}
use native.Mathlib.Omega.{arith}
use borrow.Author.Tests.{eq-eqb, ne_eqb, eqb-true, eqb-false}
use lib.Dec.{eqb}
use lib.ListN.{drop}
use Rattle.header.specs.declared.Header.{Header}
use Rattle.header.specs.declared.HeaderRead.{HeaderRead}
use Rattle.header.specs.Text.{read_header_text}
use Rattle.body.specs.declared.BodyRead.{BodyRead}
use Rattle.body.specs.Body.{read_body_by}
use Rattle.packet.specs.declared.Record.{Record}
use Rattle.packet.specs.declared.PacketRead.{PacketRead}
use Rattle.packet.specs.Record.{blank_record, packet_refused}
use Rattle.packet.specs.Outer.{inside_of}
use Rattle.packet.specs.Packet.{record_of, packet_of, holds_packet, record_around, packet_around, unless_refused, body_behind, packet_after}

-- ---- the ways

abbrev pub accepted : Record → PacketRead
accepted r = record { refusal = 0; «record» = r }

-- what a header's own body is
abbrev pub own : Bool → HeaderRead → List ℕ → BodyRead
own strict h s = read_body_by strict h.header.to s h.body

-- what the packet inside is, if its body holds one
abbrev pub inside : Bool → ℕ → HeaderRead → List ℕ → PacketRead
inside strict left h s = inside_of strict left (drop (h.body + 1) s)

-- a header that was read, and behind it a body that holds no packet
pub record Own (strict : Bool) (h : HeaderRead) (s : List ℕ) : Type 0 where
  pub header : h.refusal ≡ 0
  pub alone : holds_packet s h.body ≡ false
  pub read : (own strict h s).refusal ≡ 0

-- and one that does
pub record Around (strict : Bool) (left : ℕ) (h : HeaderRead) (s : List ℕ) : Type 0 where
  pub header : h.refusal ≡ 0
  pub holds : holds_packet s h.body ≡ true
  pub read : (inside strict left h s).refusal ≡ 0

-- a fifth is one that is refused
behind_is : (strict : Bool) (left : ℕ) (h : Header) (s : List ℕ) (at : ℕ)
    → body_behind strict left h s at ≡ cond (holds_packet s at) (packet_around h (at + 1) (inside_of strict left (drop (at + 1) s))) (packet_of h (read_body_by strict h.to s at))
unfolding body_behind inside_of packet_after packet_around packet_refused
behind_is strict zero h s at = refl
behind_is strict (suc k) h s at = refl

-- a refused header refuses the packet
pub refused_is : (strict : Bool) (left : ℕ) (h : HeaderRead) (s : List ℕ) → (h.refusal ≡ 0 → ⊥) → packet_after strict left h s ≡ packet_refused h.refusal
unfolding packet_after unless_refused
refused_is strict left h s z = rw (ne_eqb h.refusal 0 z)

-- a body that holds no packet is read by its type byte
pub alone_is : (strict : Bool) (left : ℕ) (h : HeaderRead) (s : List ℕ) → h.refusal ≡ 0 → holds_packet s h.body ≡ false → packet_after strict left h s ≡ packet_of h.header (own strict h s)
unfolding packet_after unless_refused
alone_is strict left h s z e = rw (eq-eqb h.refusal 0 z, behind_is strict left h.header s h.body, e)

-- one that does, as the packet inside
pub around_is : (strict : Bool) (left : ℕ) (h : HeaderRead) (s : List ℕ) → h.refusal ≡ 0 → holds_packet s h.body ≡ true → packet_after strict left h s ≡ packet_around h.header (h.body + 1) (inside strict left h s)
unfolding packet_after unless_refused
around_is strict left h s z e = rw (eq-eqb h.refusal 0 z, behind_is strict left h.header s h.body, e)

-- the header is refused; or its body holds no packet; or it does
module _ (P : Type 0) (h : HeaderRead) (s : List ℕ) (no : (h.refusal ≡ 0 → ⊥) → P) (yes : h.refusal ≡ 0 → holds_packet s h.body ≡ false → P) (around : h.refusal ≡ 0 → holds_packet s h.body ≡ true → P) where
  pub by_body : P
  by_body = go (eqb h.refusal 0) refl (holds_packet s h.body) refl
    where
      go : (t : Bool) → eqb h.refusal 0 ≡ t → (u : Bool) → holds_packet s h.body ≡ u → P
      go true e true f = around (eqb-true h.refusal 0 e) f
      go true e false f = yes (eqb-true h.refusal 0 e) f
      go false e u f = no (eqb-false h.refusal 0 e)

-- what holds of each way's packet holds of the packet
module _ (strict : Bool) (left : ℕ) (h : HeaderRead) (s : List ℕ) (P : PacketRead → Type 0) (no : (n : ℕ) → (n ≡ 0 → ⊥) → P (packet_refused n))
    (yes : Own strict h s → P (accepted (record_of h.header (own strict h s).body)))
    (around : Around strict left h s → P (accepted (record_around h.header (h.body + 1) (inside strict left h s).«record»))) where
  by_own : h.refusal ≡ 0 → holds_packet s h.body ≡ false → P (packet_of h.header (own strict h s))
  unfolding packet_of
  by_own z e = go (eqb (own strict h s).refusal 0) refl
    where
      go : (t : Bool) → eqb (own strict h s).refusal 0 ≡ t → P (cond t (accepted (record_of h.header (own strict h s).body)) (packet_refused (own strict h s).refusal))
      go true d = yes (record { header = z; alone = e; read = eqb-true (own strict h s).refusal 0 d })
      go false d = no (own strict h s).refusal (eqb-false (own strict h s).refusal 0 d)

  by_around : h.refusal ≡ 0 → holds_packet s h.body ≡ true → P (packet_around h.header (h.body + 1) (inside strict left h s))
  unfolding packet_around
  by_around z e = go (eqb (inside strict left h s).refusal 0) refl
    where
      go : (t : Bool) → eqb (inside strict left h s).refusal 0 ≡ t
          → P (cond t (accepted (record_around h.header (h.body + 1) (inside strict left h s).«record»)) (packet_refused (inside strict left h s).refusal))
      go true d = around (record { header = z; holds = e; read = eqb-true (inside strict left h s).refusal 0 d })
      go false d = no (inside strict left h s).refusal (eqb-false (inside strict left h s).refusal 0 d)

  pub by_way : P (packet_after strict left h s)
  by_way =
      by_body (P (packet_after strict left h s)) h s
      (λ z. rw (refused_is strict left h s z) (no h.refusal z))
      (λ z e. rw (alone_is strict left h s z e) (by_own z e))
      (λ z e. rw (around_is strict left h s z e) (by_around z e))

-- ---- every level

-- what holds of the blank record and of a packet with none inside, and of a packet around another of which it holds, holds of every
-- packet; Q is what is known of headers
module _ (strict : Bool) (P : ℕ → List ℕ → Record → Type 0) (Q : Header → Type 0)
    (blank : (left : ℕ) (s : List ℕ) → P left s blank_record)
    (yes : (left : ℕ) (h : Header) (s : List ℕ) (at : ℕ) → Q h → P left s (record_of h (read_body_by strict h.to s at).body))
    (around : (left : ℕ) (h : Header) (s : List ℕ) (at : ℕ) (r : Record) → Q h → P left (drop (at + 1) s) r → P (suc left) s (record_around h (at + 1) r))
    (known : (s : List ℕ) → Q (read_header_text s).header) where
  pub every_level : (left : ℕ) (h : HeaderRead) (s : List ℕ) → Q h.header → P left s (packet_after strict left h s).«record»
  unfolding packet_refused inside_of
  every_level zero h s q =
      by_way strict zero h s (λ p. P zero s p.«record») (λ n z. blank zero s) (λ o. yes zero h.header s h.body q) (λ a. absurd (omega (arith, a.read)))
  every_level (suc k) h s q =
      let t = drop (h.body + 1) s in
      by_way strict (suc k) h s (λ p. P (suc k) s p.«record») (λ n z. blank (suc k) s) (λ o. yes (suc k) h.header s h.body q)
      (λ a. around k h.header s h.body (packet_after strict k (read_header_text t) t).«record» q (every_level k (read_header_text t) t (known t)))
