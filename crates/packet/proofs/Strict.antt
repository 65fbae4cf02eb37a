-- Lines and frames read strictly (document 02, R-8): a strict answer is the usual one, but where the innermost body has a fault that only
-- the strict reader looks for.
-- Assumes nothing.
use mathlib.Core.Path.{◌≡◌, refl, sym, ap, ◌∙◌}
use mathlib.Core.Logic.{◌⊎◌, inl, inr, ⊎_elim}
use mathlib.Core.Bool.{Bool, true, false, cond, ◌&&◌}
use mathlib.Core.List.{List}
use Prim.Native.Nat.{ℕ, zero, suc, ◌+◌}
use native.Mathlib.Omega.{arith}
use borrow.Author.Tests.{eq-eqb, ne_eqb, eqb-true, eqb-false}
use lib.Dec.{eqb}
use lib.ListN.{drop}
use Rattle.laws.proofs.Tests.{picked}
use Rattle.header.specs.declared.Header.{Header}
use Rattle.header.specs.declared.HeaderRead.{HeaderRead}
use Rattle.header.specs.Text.{read_header_text}
use Rattle.position.specs.Position.{usually, strictly}
use Rattle.position.proofs.Strict.{unless, through_unless, number_of, is_fault, either_fault}
use Rattle.body.specs.declared.BodyRead.{BodyRead}
use Rattle.body.specs.Body.{body_refused}
use Rattle.body.proofs.Strict.{body_fault, body_strictly, body_fault_lem, IsBeside, body_beside, is_sound_body, body_sound}
use Rattle.packet.specs.declared.PacketRead.{PacketRead}
use Rattle.packet.specs.Record.{packet_refused}
use Rattle.packet.specs.Packet.{most_inner, packet_of, holds_packet, packet_around, packet_after}
use Rattle.packet.specs.Outer.{inside_of}
use Rattle.packet.proofs.Ways.{own, inside, by_body, refused_is, alone_is, around_is}

-- ---- the fault that only the strict reader finds; 0 is none

-- of a header's own body
abbrev own_fault : HeaderRead → List ℕ → ℕ
own_fault h s = body_fault h.header.to s h.body

-- of the innermost body: "An inner body is judged strictly as an outer one."
unfoldable pub packet_fault : ℕ → HeaderRead → List ℕ → ℕ
packet_fault zero h s = cond (eqb h.refusal 0) (cond (holds_packet s h.body) 0 (own_fault h s)) 0
packet_fault (suc left) h s =
    let t = drop (h.body + 1) s in
    cond (eqb h.refusal 0) (cond (holds_packet s h.body) (packet_fault left (read_header_text t) t) (own_fault h s)) 0

-- of the packet inside
unfoldable pub inside_fault : ℕ → List ℕ → ℕ
inside_fault zero t = 0
inside_fault (suc left) t = packet_fault left (read_header_text t) t

-- by the ways in which reading ends
fault_is : (left : ℕ) (h : HeaderRead) (s : List ℕ)
    → packet_fault left h s ≡ cond (eqb h.refusal 0) (cond (holds_packet s h.body) (inside_fault left (drop (h.body + 1) s)) (own_fault h s)) 0
unfolding packet_fault inside_fault
fault_is zero h s = refl
fault_is (suc k) h s = refl

module _ (left : ℕ) (h : HeaderRead) (s : List ℕ) where
  fault_refused : (h.refusal ≡ 0 → ⊥) → packet_fault left h s ≡ 0
  fault_refused z = rw (fault_is left h s, ne_eqb h.refusal 0 z)

  module _ (z : h.refusal ≡ 0) where
    fault_alone : holds_packet s h.body ≡ false → packet_fault left h s ≡ own_fault h s
    fault_alone e = rw (fault_is left h s, eq-eqb h.refusal 0 z, e)

    fault_around : holds_packet s h.body ≡ true → packet_fault left h s ≡ inside_fault left (drop (h.body + 1) s)
    fault_around e = rw (fault_is left h s, eq-eqb h.refusal 0 z, e)

-- ---- the strict reader is the usual one, but for its faults

module _ (left : ℕ) (h : HeaderRead) (s : List ℕ) (same : inside strictly left h s ≡ unless packet_refused (inside_fault left (drop (h.body + 1) s)) (inside usually left h s)) where
  level_strictly : packet_after strictly left h s ≡ unless packet_refused (packet_fault left h s) (packet_after usually left h s)
  level_strictly =
      by_body (packet_after strictly left h s ≡ unless packet_refused (packet_fault left h s) (packet_after usually left h s)) h s
      (λ z. rw (refused_is strictly left h s z, refused_is usually left h s z, fault_refused left h s z))
      (λ z e.
      rw (alone_is strictly left h s z e, alone_is usually left h s z e, fault_alone left h s z e)
      (ap (packet_of h.header) (body_strictly h.header.to s h.body) ∙ through_unless body_refused packet_refused (packet_of h.header) (λ n y. unfold packet_of in rw y) (own_fault h s) (own usually h s)))
      (λ z e.
      rw (around_is strictly left h s z e, around_is usually left h s z e, fault_around left h s z e)
      (ap (packet_around h.header (h.body + 1)) same ∙ through_unless packet_refused packet_refused (packet_around h.header (h.body + 1)) (λ n y. unfold packet_around packet_refused in rw y) (inside_fault left (drop (h.body + 1) s)) (inside usually left h s)))

pub after_strictly : (left : ℕ) (h : HeaderRead) (s : List ℕ) → packet_after strictly left h s ≡ unless packet_refused (packet_fault left h s) (packet_after usually left h s)
unfolding inside_of inside_fault
after_strictly zero h s = level_strictly zero h s refl
after_strictly (suc k) h s = level_strictly (suc k) h s (after_strictly k (read_header_text (drop (h.body + 1) s)) (drop (h.body + 1) s))

-- ---- which numbers a fault has

packet_fault_lem : (left : ℕ) (h : HeaderRead) (s : List ℕ) → is_fault (packet_fault left h s) ≡ true
unfolding packet_fault
packet_fault_lem zero h s =
    either_fault _ 0 (either_fault 0 _ refl (body_fault_lem h.header.to s h.body) (holds_packet s h.body)) refl (eqb h.refusal 0)
packet_fault_lem (suc k) h s =
    let inner = packet_fault_lem k (read_header_text (drop (h.body + 1) s)) (drop (h.body + 1) s) in
    either_fault _ 0 (either_fault _ _ inner (body_fault_lem h.header.to s h.body) (holds_packet s h.body)) refl (eqb h.refusal 0)

-- ---- what the fault is beside the usual answer

own_number : (h : Header) (b : BodyRead) → (packet_of h b).refusal ≡ b.refusal
unfolding packet_of packet_refused
own_number h b = number_of (λ (p : PacketRead). p.refusal) b.refusal _ _ refl refl

around_number : (h : Header) (at : ℕ) (p : PacketRead) → (packet_around h at p).refusal ≡ p.refusal
unfolding packet_around packet_refused
around_number h at p = number_of (λ (q : PacketRead). q.refusal) p.refusal _ _ refl refl

module _ (left : ℕ) (h : HeaderRead) (s : List ℕ) where
  abbrev usual : PacketRead
  usual = packet_after usually left h s

  -- the number of the usual answer is the header's, the body's or that of the packet inside
  number_refused : (h.refusal ≡ 0 → ⊥) → usual.refusal ≡ h.refusal
  number_refused z = ap (λ (p : PacketRead). p.refusal) (refused_is usually left h s z) ∙ (unfold packet_refused in refl)

  number_alone : h.refusal ≡ 0 → holds_packet s h.body ≡ false → usual.refusal ≡ (own usually h s).refusal
  number_alone z e = ap (λ (p : PacketRead). p.refusal) (alone_is usually left h s z e) ∙ own_number h.header (own usually h s)

  number_around : h.refusal ≡ 0 → holds_packet s h.body ≡ true → usual.refusal ≡ (inside usually left h s).refusal
  number_around z e = ap (λ (p : PacketRead). p.refusal) (around_is usually left h s z e) ∙ around_number h.header (h.body + 1) (inside usually left h s)

  level_beside : (((inside usually left h s).refusal ≡ 0 → ⊥) → IsBeside (inside usually left h s).refusal (inside_fault left (drop (h.body + 1) s)))
      → (usual.refusal ≡ 0 → ⊥) → IsBeside usual.refusal (packet_fault left h s)
  level_beside same n =
      by_body (IsBeside usual.refusal (packet_fault left h s)) h s
      (λ z. inl (fault_refused left h s z))
      (λ z e. rw (number_alone z e, fault_alone left h s z e) (body_beside h.header.to s h.body (λ y. n (number_alone z e ∙ y))))
      (λ z e. rw (number_around z e, fault_around left h s z e) (same (λ y. n (number_around z e ∙ y))))

after_beside : (left : ℕ) (h : HeaderRead) (s : List ℕ) → ((packet_after usually left h s).refusal ≡ 0 → ⊥) → IsBeside (packet_after usually left h s).refusal (packet_fault left h s)
unfolding inside_of inside_fault
after_beside zero h s = level_beside zero h s (λ n. inl refl)
after_beside (suc k) h s = level_beside (suc k) h s (after_beside k (read_header_text (drop (h.body + 1) s)) (drop (h.body + 1) s))

-- ---- what is accepted strictly: minutes below 60, and a table byte of the class

-- of the innermost body of a packet that was accepted
unfoldable pub is_sound_packet : ℕ → HeaderRead → List ℕ → Bool
is_sound_packet zero h s = is_sound_body h.header.to s h.body
is_sound_packet (suc left) h s =
    let t = drop (h.body + 1) s in
    cond (holds_packet s h.body) (is_sound_packet left (read_header_text t) t) (is_sound_body h.header.to s h.body)

after_sound : (left : ℕ) (h : HeaderRead) (s : List ℕ) → (packet_after usually left h s).refusal ≡ 0 → eqb (packet_fault left h s) 0 ≡ is_sound_packet left h s
unfolding inside_of inside_fault is_sound_packet packet_refused
after_sound zero h s n =
    by_body (eqb (packet_fault zero h s) 0 ≡ is_sound_body h.header.to s h.body) h s
    (λ z. absurd (z (sym (number_refused zero h s z) ∙ n)))
    (λ z e. rw (fault_alone zero h s z e) (body_sound h.header.to s h.body (sym (number_alone zero h s z e) ∙ n)))
    (λ z e. let k = number_around zero h s z e in absurd (omega (arith, n, k)))
after_sound (suc k) h s n =
    let t = drop (h.body + 1) s in
    by_body (eqb (packet_fault (suc k) h s) 0 ≡ cond (holds_packet s h.body) (is_sound_packet k (read_header_text t) t) (is_sound_body h.header.to s h.body)) h s
    (λ z. absurd (z (sym (number_refused (suc k) h s z) ∙ n)))
    (λ z e. rw (fault_alone (suc k) h s z e, e) (body_sound h.header.to s h.body (sym (number_alone (suc k) h s z e) ∙ n)))
    (λ z e. rw (fault_around (suc k) h s z e, e) (after_sound k (read_header_text t) t (sym (number_around (suc k) h s z e) ∙ n)))

-- ---- a strict answer beside the usual one

pub record Stricter (usual strict : PacketRead) (sound : Bool) : Type 0 where
  -- "a line accepted strictly gives the same record there as usually"
  pub same : strict.refusal ≡ 0 → strict ≡ usual
  -- what is refused usually is refused strictly, with the same number, or with 8 for 9 and 11 for 12
  pub refused : (usual.refusal ≡ 0 → ⊥) → (strict.refusal ≡ usual.refusal) ⊎ (((usual.refusal ≡ 9) × (strict.refusal ≡ 8)) ⊎ ((usual.refusal ≡ 12) × (strict.refusal ≡ 11)))
  -- what is accepted usually and refused strictly has one of 8, 9, 11 and 20
  pub number : usual.refusal ≡ 0 → is_fault strict.refusal ≡ true
  -- accepted strictly means accepted usually, with minutes below 60 and a table byte of the class
  pub accepted : eqb strict.refusal 0 ≡ (eqb usual.refusal 0 && sound)

module _ (p : PacketRead) (fault : ℕ) (sound : Bool) (one : is_fault fault ≡ true) (beside : (p.refusal ≡ 0 → ⊥) → IsBeside p.refusal fault) (told : p.refusal ≡ 0 → eqb fault 0 ≡ sound) where
  none_same : fault ≡ 0 → unless packet_refused fault p ≡ p
  none_same e = rw e

  fault_number : (fault ≡ 0 → ⊥) → (unless packet_refused fault p).refusal ≡ fault
  fault_number e = rw (ne_eqb fault 0 e) (unfold packet_refused in refl)

  unless_stricter : Stricter p (unless packet_refused fault p) sound
  unless_stricter = record { same = same; refused = refused; number = number; accepted = accepted (eqb p.refusal 0) refl }
    where
      same : (unless packet_refused fault p).refusal ≡ 0 → unless packet_refused fault p ≡ p
      same z = go (eqb fault 0) refl
        where
          go : (none : Bool) → eqb fault 0 ≡ none → unless packet_refused fault p ≡ p
          go true e = none_same (eqb-true fault 0 e)
          go false e = absurd (eqb-false fault 0 e (sym (fault_number (eqb-false fault 0 e)) ∙ z))

      refused : (p.refusal ≡ 0 → ⊥)
          → ((unless packet_refused fault p).refusal ≡ p.refusal) ⊎ (((p.refusal ≡ 9) × ((unless packet_refused fault p).refusal ≡ 8)) ⊎ ((p.refusal ≡ 12) × ((unless packet_refused fault p).refusal ≡ 11)))
      refused n =
          ⊎_elim
          (λ e. inl (ap (λ (q : PacketRead). q.refusal) (none_same e)))
          (λ b. inr (⊎_elim (λ x. inl (x.0, fault_number (λ z. omega (arith, z, x.1)) ∙ x.1)) (λ x. inr (x.0, fault_number (λ z. omega (arith, z, x.1)) ∙ x.1)) b))
          (beside n)

      number : p.refusal ≡ 0 → is_fault (unless packet_refused fault p).refusal ≡ true
      number z = picked (λ (q : PacketRead) none. is_fault q.refusal ≡ true) p (packet_refused fault) (rw z) (unfold packet_refused in one) (eqb fault 0)

      accepted : (t : Bool) → eqb p.refusal 0 ≡ t → eqb (unless packet_refused fault p).refusal 0 ≡ (t && sound)
      accepted true e = rw (← told (eqb-true p.refusal 0 e)) (go (eqb fault 0) refl)
        where
          go : (none : Bool) → eqb fault 0 ≡ none → eqb (cond none p (packet_refused fault)).refusal 0 ≡ none
          go true f = e
          go false f = unfold packet_refused in f
      accepted false e = go (eqb fault 0) refl
        where
          go : (none : Bool) → eqb fault 0 ≡ none → eqb (cond none p (packet_refused fault)).refusal 0 ≡ false
          go true f = e
          go false f = unfold packet_refused in f

pub after_stricter : (h : HeaderRead) (s : List ℕ) → Stricter (packet_after usually most_inner h s) (packet_after strictly most_inner h s) (is_sound_packet most_inner h s)
after_stricter h s =
    rw (after_strictly most_inner h s)
    (unless_stricter (packet_after usually most_inner h s) (packet_fault most_inner h s) (is_sound_packet most_inner h s) (packet_fault_lem most_inner h s) (after_beside most_inner h s) (after_sound most_inner h s))
