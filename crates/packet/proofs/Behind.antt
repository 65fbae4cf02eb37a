-- A header in a scratch array, the body's bytes behind it, and then the text and what follows it: what the code leaves at each answer.
-- The longest header, 178 bytes, and the most that a body has before its text, 27, are the 205 bytes of the scratch.
-- Assumes nothing.
use mathlib.Core.Path.{◌≡◌, refl, sym, ap, ◌∙◌}
use mathlib.Core.Bool.{Bool, true, false, cond}
use mathlib.Core.List.{List, ◌++◌}
use Prim.Native.Nat.{ℕ, ◌+◌, ◌≤◌}
use native.Mathlib.Omega.{arith}
use lib.ListN.{length, take, drop, replicate, length-append, length-drop}
use Rattle.buffer.specs.declared.Answer.{Answer}
use Rattle.buffer.specs.Wrote.{ends, refused_by, over_by, wrote}
use Rattle.buffer.specs.Filled.{Filled, filled, front_of, added}
use Rattle.buffer.proofs.Wrote.{passed_on}
use Rattle.buffer.proofs.Answers.{refusal_is, bytes_are, reported_is, front_is}
use Rattle.buffer.proofs.Filled.{added_front}
use Rattle.header.specs.declared.Header.{Header}
use Rattle.header.specs.Text.{header_text}
use Rattle.header.specs.Frame.{header_frame}
use Rattle.header.specs.Range.{header_in_range, text_refusal as header_text_refusal}
use Rattle.header.proofs.Theorems.{text_at_most_178, frame_at_most_72}
use Rattle.header.specs.Header.{most_bytes}
use Rattle.packet.specs.Written.{or_else}
use Rattle.packet.specs.Private.{head_bytes, head_refusal, wrote_behind}
use Rattle.packet.proofs.Order.{or_first, or_none}

pub head_short : (framed : Bool) (h : Header) → head_refusal framed h ≡ 0 → length (head_bytes framed h) ≤ 178
unfolding head_refusal head_bytes header_text_refusal
head_short true h e = let s : length (header_frame h) ≤ 72 = frame_at_most_72 h e in omega arith
head_short false h e = text_at_most_178 h (fine (header_in_range h) e)
  where
    fine : (b : Bool) → ◌≡◌ {A = ℕ} (cond b 0 15) 0 → b ≡ true
    fine true d = refl
    fine false d = absurd (omega arith)

-- ---- what follows it

abbrev pub scratch : List ℕ
scratch = replicate 205 0

module _ (framed : Bool) (h : Header) (w : Answer) (head : List ℕ) (e : ends w head ≡ wrote (head_refusal framed h) (head_bytes framed h) scratch) where
  room : head_refusal framed h ≡ 0 → length (head_bytes framed h) ≤ length scratch
  room z = let s = head_short framed h z in omega arith

  says : w.refusal ≡ head_refusal framed h
  says = refusal_is w head (head_bytes framed h) scratch (head_refusal framed h) e room

  pub behind_refused : (body text tail out : List ℕ) (a : Answer) → (w.refusal ≡ 0 → ⊥) → a ≡ refused_by w.refusal → ends a out ≡ wrote_behind framed h body text tail out
  unfolding wrote_behind
  behind_refused body text tail out a z f =
      let bytes = (head_bytes framed h ++ body) ++ (text ++ tail) in
      passed_on a w.refusal (or_else (head_refusal framed h) (over_by most_bytes bytes)) bytes out f z
      (ap (λ (n : ℕ). or_else n (over_by most_bytes bytes)) (sym says) ∙ or_first w.refusal (over_by most_bytes bytes) z)

  module _ (z : w.refusal ≡ 0) (body : List ℕ) (short : length body ≤ 27) (before later : List ℕ) (k m : ℕ) (b : filled before k ≡ filled head w.reported)
      (p : filled later m ≡ added (filled before k) body) where
    none : head_refusal framed h ≡ 0
    none = sym says ∙ z

    reported : w.reported ≡ length (head_bytes framed h)
    reported = reported_is w head (head_bytes framed h) scratch (head_refusal framed h) e none (room none)

    long : length head ≡ 205
    long =
        ap length (bytes_are w head (head_bytes framed h) scratch (head_refusal framed h) e none (room none))
        ∙ length-append (head_bytes framed h) (drop (length (head_bytes framed h)) scratch)
        ∙ omega (arith, length-drop (length (head_bytes framed h)) scratch, room none)

    fits : w.reported + length body ≤ length head
    fits = omega (arith, reported, long, head_short framed h none)

    front_lem : take m later ≡ head_bytes framed h ++ body
    unfolding front_of
    front_lem =
        ap front_of (p ∙ ap (λ (f : Filled). added f body) b)
        ∙ added_front (filled head w.reported) body fits
        ∙ ap (λ (l : List ℕ). l ++ body) (front_is w head (head_bytes framed h) scratch (head_refusal framed h) e none (room none))

    pub behind_written : (front text tail out last : List ℕ) (a : Answer) → front ≡ take m later
        → ends a last ≡ wrote (over_by most_bytes (front ++ (text ++ tail))) (front ++ (text ++ tail)) out → ends a last ≡ wrote_behind framed h body text tail out
    unfolding wrote_behind
    behind_written front text tail out last a q f = rw (or_none (head_refusal framed h) _ none, ← front_lem, ← q) f

-- ---- a body that is refused

module _ (h : Header) (w : Answer) (head : List ℕ) (e : ends w head ≡ wrote (header_text_refusal h) (header_text h) (replicate 178 0)) (n : ℕ) (a : Answer) where
  header_says : w.refusal ≡ header_text_refusal h
  unfolding head_refusal head_bytes
  header_says = refusal_is w head (header_text h) (replicate 178 0) (header_text_refusal h) e (λ z. head_short false h z)

  pub beside_header : (w.refusal ≡ 0 → ⊥) → a ≡ refused_by w.refusal → a ≡ refused_by (or_else (header_text_refusal h) n)
  beside_header z q = rw (← header_says, or_first w.refusal n z) q

  pub beside_body : w.refusal ≡ 0 → a ≡ refused_by n → a ≡ refused_by (or_else (header_text_refusal h) n)
  beside_body z q = rw (← header_says, or_none w.refusal n z) q
