-- Laws of a message and of a status that are written, one for each answer of the code, by the facts that its tests leave.
-- Assumes nothing.
use mathlib.Core.Path.{◌≡◌, refl, sym, ap, ◌∙◌}
use mathlib.Core.Bool.{Bool, true, false, not, cond}
use mathlib.Core.List.{List, [], ◌∷◌, ◌++◌, append-nil}
use Prim.Native.Nat.{ℕ, ◌+◌, ◌-◌, ◌≤◌}
use native.Mathlib.Omega.{arith}
use mir.Val.{Fits}
use mir.Syntax.{w64}
use borrow.Author.Tests.{not-true, not-false}
use lib.Dec.{leb}
use lib.ListN.{length, replicate}
use Rattle.laws.specs.Bytes.{colon, greater}
use Rattle.laws.specs.Lists.{pad_to, zeros}
use Rattle.laws.proofs.Lists.{drop_replicate}
use Rattle.buffer.specs.declared.Answer.{Answer}
use Rattle.buffer.specs.Wrote.{ends, wrote}
use Rattle.buffer.proofs.Answers.{refusal_is, bytes_are, reported_is}
use Rattle.callsign.specs.declared.Callsign.{Callsign}
use Rattle.time.specs.Time.{time_text}
use Rattle.message.specs.Message.{addressee_bytes, addressee_text, is_text, identifier_text, identifier_refusal, message_refusal}
use Rattle.message.specs.Status.{is_status_time, status_time_refusal, is_status_text, status_text_refusal}
use Rattle.message.proofs.Theorems.{identifier_at_most_6, addressee_10, status_time_in_range}
use Rattle.body.specs.declared.Body.{Body}
use Rattle.body.specs.declared.BodyWritten.{BodyWritten}
use Rattle.body.specs.Range.{is_bare, status_in_range}
use Rattle.body.specs.Written.{message_bytes, status_bytes, most_fixed, most_tail, without_tail, unwritten, written_as, written_or}
use Rattle.body.proofs.Writing.{refused_is, accepted_is, behind_type, time_short}

-- ---- a message: the refusal of its identifier's writer is the judgement

module _ (addressee : List ℕ) (to : Callsign) (text identifier : List ℕ) (x : Bool) (k : x ≡ is_text text) where
  abbrev as_message : BodyWritten
  as_message = written_or (message_refusal text identifier) to (message_bytes addressee) (identifier_text identifier)

  pub text_unfit : (r : BodyWritten) → not x ≡ true → r ≡ written_as 18 to [] [] → r ≡ as_message
  unfolding message_refusal written_or
  text_unfit r l w = w ∙ rw (← k, not-true x l)

  -- a is what the identifier's writer answers
  module _ (l : not x ≡ false) (a : Answer) (tail : List ℕ) (w : ends a tail ≡ wrote (identifier_refusal identifier) (identifier_text identifier) (replicate most_tail 0)) where
    identifier_says : a.refusal ≡ identifier_refusal identifier
    identifier_says = refusal_is a tail (identifier_text identifier) (replicate most_tail 0) (identifier_refusal identifier) w (identifier_at_most_6 identifier)

    pub identifier_unfit : (r : BodyWritten) → (a.refusal ≡ 0 → ⊥) → r ≡ written_as 18 to [] [] → r ≡ as_message
    unfolding message_refusal identifier_refusal written_or
    identifier_unfit r z q = q ∙ rw (← k, not-false x l) (go (leb (length identifier) 5) identifier_says)
      where
        go : (t : Bool) → a.refusal ≡ cond t 0 18 → written_as 18 to [] [] ≡ written_or (cond t 0 18) to (message_bytes addressee) (identifier_text identifier)
        go true q = absurd (z q)
        go false q = refl

    module _ (z : a.refusal ≡ 0) where
      identifier_fine : identifier_refusal identifier ≡ 0
      identifier_fine = sym identifier_says ∙ z

      tail_is : tail ≡ pad_to most_tail 0 (identifier_text identifier)
      unfolding pad_to
      tail_is =
          bytes_are a tail (identifier_text identifier) (replicate most_tail 0) (identifier_refusal identifier) w identifier_fine (identifier_at_most_6 identifier identifier_fine)
          ∙ ap (λ (t : List ℕ). identifier_text identifier ++ t) (drop_replicate most_tail (length (identifier_text identifier)) 0)

      tail_long : a.reported ≡ length (identifier_text identifier)
      tail_long = reported_is a tail (identifier_text identifier) (replicate most_tail 0) (identifier_refusal identifier) w identifier_fine (identifier_at_most_6 identifier identifier_fine)

      as_written_lem : as_message ≡ written_as 0 to (message_bytes addressee) (identifier_text identifier)
      unfolding message_refusal written_or
      as_written_lem = rw (← k, not-false x l, identifier_fine)

      pub message_written : (front copied : List ℕ) → front ≡ addressee_text addressee → length addressee ≡ addressee_bytes → copied ≡ front
          → record { refusal = 0; to = to; bytes = colon ∷ (copied ++ replicate 16 0); tail = tail; len = 11; tail_len = a.reported } ≡ as_message
      unfolding written_as message_bytes pad_to
      message_written front copied q nine c =
          let ten : length (addressee_text addressee) ≡ 10 = addressee_10 addressee nine in
          rw (c, q, tail_is, tail_long) (rw (as_written_lem, ten))

-- ---- a status: so is that of its time's writer

front_padded : (k : ℕ) (x : List ℕ) → length x ≤ 26 → k ∷ (x ++ replicate (26 - length x) 0) ≡ pad_to most_fixed 0 (k ∷ x)
unfolding pad_to
front_padded k x h = let n : 26 - length x ≡ 27 - length (k ∷ x) = omega arith in ap (λ (m : ℕ). (k ∷ x) ++ replicate m 0) n

module _ (b : Body) (to : Callsign) (text : List ℕ) (u : Bool) (e : u ≡ is_bare b) (f : not u ≡ false) (v : Bool) (g : v ≡ zeros b.addressee) (h : not v ≡ false)
    (a : Answer) (left : List ℕ) (w : ends a left ≡ wrote (status_time_refusal b.time) (time_text b.time) behind_type) where
  abbrev as_status : BodyWritten
  as_status = written_or (status_text_refusal b.time text) to (status_bytes b.time) []

  status_room : status_time_refusal b.time ≡ 0 → length (time_text b.time) ≤ length behind_type
  unfolding status_time_refusal
  status_room z = omega (arith, time_short b.time (status_time_in_range b.time (accepted_is (is_status_time b.time) 0 (sym z) refl)))

  status_time_says : a.refusal ≡ cond (is_status_time b.time) 0 15
  unfolding status_time_refusal
  status_time_says = refusal_is a left (time_text b.time) behind_type (status_time_refusal b.time) w status_room

  pub status_time_out : (r x : BodyWritten) → (a.refusal ≡ 0 → ⊥) → r ≡ unwritten → r ≡ cond (status_in_range b) x unwritten
  unfolding status_in_range
  status_time_out r x z q = rw (← e, not-false u f, ← g, not-false v h, refused_is (is_status_time b.time) a.refusal status_time_says z) q

  module _ (z : a.refusal ≡ 0) where
    status_fine : is_status_time b.time ≡ true
    status_fine = accepted_is (is_status_time b.time) a.refusal status_time_says z

    taken : status_time_refusal b.time ≡ 0
    unfolding status_time_refusal
    taken = rw status_fine

    status_judged : (r : BodyWritten) → r ≡ as_status → r ≡ cond (status_in_range b) as_status unwritten
    unfolding status_in_range
    status_judged r q = rw (← e, not-false u f, ← g, not-false v h, status_fine) q

    status_reported : a.reported ≡ length (time_text b.time)
    status_reported = reported_is a left (time_text b.time) behind_type (status_time_refusal b.time) w taken (status_room taken)

    status_left : left ≡ time_text b.time ++ replicate (26 - length (time_text b.time)) 0
    status_left = bytes_are a left (time_text b.time) behind_type (status_time_refusal b.time) w taken (status_room taken) ∙ ap (λ (l : List ℕ). time_text b.time ++ l) (drop_replicate 26 (length (time_text b.time)) 0)

    pub status_len_fits : Fits w64 (1 + a.reported)
    status_len_fits = record { fits = omega (arith, status_reported, time_short b.time (status_time_in_range b.time status_fine)) }

    module _ (x : Bool) (k : x ≡ is_status_text b.time text) where
      pub status_text_unfit : (r : BodyWritten) → not x ≡ true → r ≡ written_as 18 to [] [] → r ≡ cond (status_in_range b) as_status unwritten
      unfolding status_text_refusal written_or
      status_text_unfit r l q = status_judged r (q ∙ rw (← k, not-true x l))

      pub status_written : not x ≡ false
          → (r : BodyWritten) → r ≡ without_tail to (greater ∷ (left ++ [])) (1 + a.reported) → r ≡ cond (status_in_range b) as_status unwritten
      unfolding status_text_refusal written_or written_as without_tail status_bytes
      status_written l r q =
          let long : 1 + a.reported ≡ length (greater ∷ time_text b.time) = omega (arith, status_reported) in
          status_judged r (q ∙ rw (← k, not-false x l, long, append-nil left, status_left, front_padded greater (time_text b.time) (status_room taken)))
