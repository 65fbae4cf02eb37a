-- What each answer of the writers must show.
-- Assumes nothing.
use mathlib.Core.Path.{◌≡◌, refl, sym, ap, ◌∙◌}
use mathlib.Core.Bool.{Bool, true, false, not, cond, and-true, and-false, true≢false}
use mathlib.Core.List.{List, [], ◌∷◌, ◌++◌}
use Prim.Native.Nat.{ℕ, ◌<◌, ◌≤◌}
use native.Mathlib.Omega.{arith}
use lib.Dec.{eqb, leb}
use lib.ListN.{length, take, replicate}
use borrow.Author.Tests.{eq-eqb, ne_eqb, le-leb, lt-leb, not-true, not-false}
use mathlib.Core.Logic.{◌⊎◌, ⊎_elim}
use Rattle.laws.specs.Bytes.{brace, small_z}
use Rattle.laws.proofs.Tests.{not_so, passed}
use Rattle.buffer.specs.declared.Answer.{Answer}
use Rattle.buffer.specs.Wrote.{Wrote, ends, refused_by, done_by, over_by, wrote}
use Rattle.buffer.proofs.Wrote.{refuses, writes, not_over}
use Rattle.buffer.proofs.Answers.{refusal_is, reported_is, front_is}
use Rattle.time.specs.declared.Time.{Time}
use Rattle.time.specs.Time.{is_no_time, is_time, is_present, time_text, time_in_range, time_refusal}
use Rattle.time.proofs.Tests.{time_present}
use Rattle.message.specs.Message.{is_text, addressee_text, identifier_text, message_text, identifier_refusal, message_refusal}
use Rattle.message.specs.Status.{is_status_time, is_status_text, status_text, status_time_refusal, status_text_refusal, status_refusal}
use Rattle.message.proofs.Theorems.{identifier_at_most_6, message_at_most_83, status_time_at_most_7, status_at_most_62}

-- ---- a refusal that is the outcome of a test: 0, or the number k

module _ (t : Bool) (n k : ℕ) (e : n ≡ cond t 0 k) where
  refused_test : (n ≡ 0 → ⊥) → t ≡ false
  refused_test h = not_so t (λ p. h (e ∙ rw p))

  passed_test : (k ≡ 0 → ⊥) → n ≡ 0 → t ≡ true
  passed_test h z = (passed t 0 k 0 h (sym e ∙ z)).0

-- ---- pieces that are within the limit and make the whole

pieces_wrote : (limit refusal : ℕ) (pieces whole out : List ℕ) (w : Wrote) → pieces ≡ whole → length whole ≤ limit → refusal ≡ 0
    → w ≡ wrote (over_by limit pieces) pieces out → w ≡ wrote refusal whole out
pieces_wrote limit refusal pieces whole out w q h z e =
    e ∙ ap (λ (l : List ℕ). wrote (over_by limit l) l out) q ∙ ap (λ (k : ℕ). wrote k whole out) (not_over limit whole h ∙ sym z)

-- ---- an identifier

module _ (r : Answer) (out : List ℕ) where
  pub identifier_none : (identifier : List ℕ) → length identifier ≡ 0 → r ≡ done_by 0 → ends r out ≡ wrote (identifier_refusal identifier) (identifier_text identifier) out
  unfolding identifier_refusal identifier_text
  identifier_none [] h e = rw e (writes 0 0 [] out out refl refl (omega arith) refl)
  identifier_none (b ∷ l) h e = absurd (omega arith)

  pub identifier_over : (identifier : List ℕ) → 5 < length identifier → r ≡ refused_by 18 → ends r out ≡ wrote (identifier_refusal identifier) (identifier_text identifier) out
  unfolding identifier_refusal
  identifier_over identifier h e = rw e (refuses 18 _ (identifier_text identifier) out (rw (lt-leb (length identifier) 5 h)) (λ q. omega arith))

  pub identifier_wrote : (identifier : List ℕ) → (length identifier ≡ 0 → ⊥) → length identifier ≤ 5 → (out' : List ℕ)
      → ends r out' ≡ wrote (over_by 6 (brace ∷ [] ++ identifier)) (brace ∷ [] ++ identifier) out → ends r out' ≡ wrote (identifier_refusal identifier) (identifier_text identifier) out
  unfolding identifier_refusal identifier_text
  identifier_wrote [] n h out' e = absurd (n refl)
  identifier_wrote (b ∷ l) n h out' e =
      pieces_wrote 6 _ (brace ∷ b ∷ l) (brace ∷ b ∷ l) out (ends r out') refl (omega arith) (rw (le-leb (length (b ∷ l)) 5 h)) e

-- ---- a message: u says whether the text is one

module _ (addressee text identifier : List ℕ) (u : Bool) (told : u ≡ is_text text) (r : Answer) (out : List ℕ) where
  pub message_no_text : not u ≡ true → r ≡ refused_by 18 → ends r out ≡ wrote (message_refusal text identifier) (message_text addressee text identifier) out
  unfolding message_refusal
  message_no_text h e = rw e (refuses 18 _ (message_text addressee text identifier) out (rw (← told, not-true u h)) (λ q. omega arith))

  -- w is what the identifier's writer answers, and tail the buffer that it leaves
  module _ (fine : not u ≡ false) (w : Answer) (tail : List ℕ) (made : ends w tail ≡ wrote (identifier_refusal identifier) (identifier_text identifier) (replicate 6 0)) where
    judged : w.refusal ≡ identifier_refusal identifier
    judged = refusal_is w tail (identifier_text identifier) (replicate 6 0) (identifier_refusal identifier) made (identifier_at_most_6 identifier)

    by_identifier : message_refusal text identifier ≡ identifier_refusal identifier
    unfolding message_refusal
    by_identifier = rw (← told, not-false u fine)

    pub message_no_identifier : (w.refusal ≡ 0 → ⊥) → r ≡ refused_by 18 → ends r out ≡ wrote (message_refusal text identifier) (message_text addressee text identifier) out
    unfolding identifier_refusal
    message_no_identifier h e =
        rw e
        (refuses 18 _ (message_text addressee text identifier) out
        (by_identifier ∙ rw (refused_test (leb (length identifier) 5) w.refusal 18 judged h))
        (λ q. omega arith))

    module _ (z : w.refusal ≡ 0) where
      taken : identifier_refusal identifier ≡ 0
      taken = sym judged ∙ z

      few : length (identifier_text identifier) ≤ 6
      few = identifier_at_most_6 identifier taken

      pub tail_within : length tail ≡ 6 → w.reported ≤ length tail
      tail_within six = omega (arith, reported_is w tail (identifier_text identifier) (replicate 6 0) (identifier_refusal identifier) made taken few, few)

      pub message_wrote : (head : List ℕ) → head ≡ addressee_text addressee → length addressee ≡ 9 → (out' : List ℕ)
          → ends r out' ≡ wrote (over_by 83 (head ++ (text ++ take w.reported tail))) (head ++ (text ++ take w.reported tail)) out
          → ends r out' ≡ wrote (message_refusal text identifier) (message_text addressee text identifier) out
      unfolding message_text
      message_wrote head q nine out' e =
          pieces_wrote 83 _ (head ++ (text ++ take w.reported tail)) (message_text addressee text identifier) out (ends r out')
          (rw (q, front_is w tail (identifier_text identifier) (replicate 6 0) (identifier_refusal identifier) made taken few))
          (message_at_most_83 addressee text identifier nine (by_identifier ∙ taken)) (by_identifier ∙ taken) e

-- ---- the time of a status

module _ (t : Time) where
  other_letter : (t.form ≡ 0 → ⊥) → (t.form ≡ small_z → ⊥) → is_status_time t ≡ false
  unfolding is_status_time is_no_time
  other_letter n m = rw (ne_eqb t.form 0 n, ne_eqb t.form small_z m) (and-false (is_time t))

  -- without a letter there is no time
  no_letter_no_time : eqb t.form 0 ≡ true → is_time t ≡ false
  unfolding is_present
  no_letter_no_time e = not_so (is_time t) (λ p. true≢false (sym (time_present t p) ∙ rw e))

  either_letter : (t.form ≡ 0) ⊎ (t.form ≡ small_z) → is_status_time t ≡ time_in_range t
  unfolding is_status_time time_in_range
  either_letter e = ⊎_elim (λ p. rw (no_letter_no_time (eq-eqb t.form 0 p))) (λ q. rw (eq-eqb t.form small_z q, and-true (is_time t))) e

module _ (t : Time) (r : Answer) (out : List ℕ) where
  pub letter_out : (t.form ≡ 0 → ⊥) → (t.form ≡ small_z → ⊥) → r ≡ refused_by 15 → ends r out ≡ wrote (status_time_refusal t) (time_text t) out
  unfolding status_time_refusal
  letter_out n m e = rw e (refuses 15 _ (time_text t) out (rw (other_letter t n m)) (λ q. omega arith))

  pub time_wrote : (t.form ≡ 0) ⊎ (t.form ≡ small_z) → (out' : List ℕ) → ends r out' ≡ wrote (time_refusal t) (time_text t) out
      → ends r out' ≡ wrote (status_time_refusal t) (time_text t) out
  unfolding status_time_refusal time_refusal
  time_wrote h out' e = rw (either_letter t h) e

-- ---- a status: w is what its time's writer answers, and head the buffer that it leaves

module _ (t : Time) (text : List ℕ) (r : Answer) (out : List ℕ) (w : Answer) (head : List ℕ) (made : ends w head ≡ wrote (status_time_refusal t) (time_text t) (replicate 7 0)) where
  time_room : status_time_refusal t ≡ 0 → length (time_text t) ≤ 7
  unfolding status_time_refusal
  time_room e = status_time_at_most_7 t (passed_test (is_status_time t) 0 15 (sym e) (λ q. omega arith) refl)

  time_judged : w.refusal ≡ cond (is_status_time t) 0 15
  unfolding status_time_refusal
  time_judged = refusal_is w head (time_text t) (replicate 7 0) (status_time_refusal t) made time_room

  pub status_no_time : (w.refusal ≡ 0 → ⊥) → r ≡ refused_by 15 → ends r out ≡ wrote (status_refusal t text) (status_text t text) out
  unfolding status_refusal
  status_no_time h e = rw e (refuses 15 _ (status_text t text) out (rw (refused_test (is_status_time t) w.refusal 15 time_judged h)) (λ q. omega arith))

  module _ (z : w.refusal ≡ 0) where
    timed : is_status_time t ≡ true
    timed = passed_test (is_status_time t) w.refusal 15 time_judged (λ q. omega arith) z

    time_taken : status_time_refusal t ≡ 0
    unfolding status_time_refusal
    time_taken = rw timed

    pub head_within : length head ≡ 7 → w.reported ≤ length head
    head_within seven = omega (arith, reported_is w head (time_text t) (replicate 7 0) (status_time_refusal t) made time_taken (time_room time_taken), time_room time_taken)

    -- u says whether the text may stand behind that time
    module _ (u : Bool) (told : u ≡ is_status_text t text) where
      pub status_no_text : not u ≡ true → r ≡ refused_by 18 → ends r out ≡ wrote (status_refusal t text) (status_text t text) out
      unfolding status_refusal status_text_refusal
      status_no_text h e = rw e (refuses 18 _ (status_text t text) out (rw (timed, ← told, not-true u h)) (λ q. omega arith))

      pub status_wrote : not u ≡ false → (out' : List ℕ)
          → ends r out' ≡ wrote (over_by 62 (take w.reported head ++ text)) (take w.reported head ++ text) out
          → ends r out' ≡ wrote (status_refusal t text) (status_text t text) out
      unfolding status_refusal status_text_refusal status_text
      status_wrote h out' e =
          pieces_wrote 62 _ (take w.reported head ++ text) (status_text t text) out (ends r out')
          (rw (front_is w head (time_text t) (replicate 7 0) (status_time_refusal t) made time_taken (time_room time_taken)))
          (status_at_most_62 t text timed (sym told ∙ not-false u h)) (rw (timed, ← told, not-false u h)) e
