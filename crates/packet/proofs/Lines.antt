-- A record written as a frame or as a line: one law for each answer of the code.
-- Assumes nothing.
use mathlib.Core.Path.{◌≡◌, sym, ◌∙◌}
use mathlib.Core.Bool.{Bool, true, false, not, cond}
use mathlib.Core.List.{List, ◌++◌}
use Prim.Native.Nat.{ℕ, ◌≤◌}
use native.Mathlib.Omega.{arith}
use borrow.Author.Tests.{not-true, not-false}
use lib.ListN.{length, take, length-take}
use Rattle.buffer.specs.declared.Answer.{Answer}
use Rattle.buffer.specs.Wrote.{Wrote, ends, refused_by, over_by, wrote}
use Rattle.buffer.proofs.Wrote.{passed_on}
use Rattle.header.specs.declared.Header.{Header}
use Rattle.header.specs.Frame.{header_frame}
use Rattle.header.specs.Range.{is_blank_header, text_refusal as header_text_refusal}
use Rattle.body.specs.declared.BodyWritten.{BodyWritten}
use Rattle.body.specs.Written.{body_bytes, tail_bytes, write_body}
use Rattle.body.proofs.Theorems.{fixed_within, behind_within, fixed_bytes_lem, tail_bytes_lem}
use Rattle.packet.specs.declared.Record.{Record}
use Rattle.packet.specs.Packet.{header_to}
use Rattle.packet.specs.Range.{range_refusal}
use Rattle.header.specs.Header.{most_bytes}
use Rattle.packet.specs.Written.{written_header, bytes_of, text_bytes, frame_bytes, or_else, record_refusal, text_refusal, frame_refusal}
use Rattle.packet.specs.Private.{head_bytes, head_refusal, wrote_behind}
use Rattle.packet.proofs.Order.{or_first, or_both, header_in, record_refuses, body_fine, header_left, not_blank, inside_refuses, frame_first}

-- what is promised of either
abbrev written : Bool → Record → List ℕ → List ℕ → List ℕ → Wrote
written framed r text identifier out =
    cond framed (wrote (frame_refusal r text identifier) (frame_bytes r text identifier) out) (wrote (text_refusal r text identifier) (text_bytes r text identifier) out)

module _ (r : Record) (text identifier : List ℕ) (b : BodyWritten) (q : b ≡ write_body r.body r.header.to text identifier) where
  pub body_within : b.len ≤ length b.bytes
  body_within = rw q (fixed_within r.body r.header.to text identifier)

  pub body_short : length b.bytes ≡ 27 → length (take b.len b.bytes) ≤ 27
  body_short e = omega (arith, length-take b.len b.bytes)

  pub tail_within : b.tail_len ≤ length b.tail
  tail_within = rw q (behind_within r.body r.header.to text identifier)

-- a refusal of the record is what both writers answer
record_unwritten : (framed : Bool) (r : Record) (text identifier : List ℕ) (n : ℕ) → record_refusal r text identifier ≡ n → (n ≡ 0 → ⊥) → (out : List ℕ) (a : Answer) → a ≡ refused_by n
    → ends a out ≡ written framed r text identifier out
unfolding frame_refusal text_refusal
record_unwritten true r text identifier n e some out a w =
    passed_on a n _ (frame_bytes r text identifier) out w some (rw e (or_first n _ some))
record_unwritten false r text identifier n e some out a w =
    passed_on a n _ (text_bytes r text identifier) out w some (rw e (or_first n _ some))

-- ---- a packet inside, and what should be blank without one

module _ (r : Record) (text identifier : List ℕ) (framed : Bool) (out : List ℕ) (a : Answer) where
  pub inside_unwritten : (r.inner ≡ 0 → ⊥) → a ≡ refused_by (or_else (range_refusal r) 14) → ends a out ≡ written framed r text identifier out
  inside_unwritten z = record_unwritten framed r text identifier (or_else (range_refusal r) 14) (inside_refuses r z text identifier) (λ e. omega (arith, (or_both (range_refusal r) 14 e).1)) out a

  pub inner_not_blank : (u : Bool) → r.inner ≡ 0 → u ≡ is_blank_header r.innermost → not u ≡ true → a ≡ refused_by 15 → ends a out ≡ written framed r text identifier out
  inner_not_blank u z q e = record_unwritten framed r text identifier 15 (not_blank r z text identifier (sym q ∙ not-true u e)) (λ n. omega arith) out a

-- ---- a packet with none inside

module _ (r : Record) (text identifier : List ℕ) (b : BodyWritten) (h : Header) (q : b ≡ write_body r.body r.header.to text identifier) (f : h ≡ header_to r.header b.to) (u : Bool) (z : r.inner ≡ 0) (v : u ≡ is_blank_header r.innermost) (x : not u ≡ false) where
  alone : is_blank_header r.innermost ≡ true
  alone = sym v ∙ not-false u x

  record_says : record_refusal r text identifier ≡ or_else (header_text_refusal h) b.refusal
  record_says = record_refuses r z text identifier alone ∙ rw (f, q)

  -- a body that is refused
  pub body_unwritten : (b.refusal ≡ 0 → ⊥) → (framed : Bool) (out : List ℕ) (a : Answer) → a ≡ refused_by (or_else (header_text_refusal h) b.refusal) → ends a out ≡ written framed r text identifier out
  body_unwritten n framed = record_unwritten framed r text identifier (or_else (header_text_refusal h) b.refusal) record_says (λ e. n (or_both (header_text_refusal h) b.refusal e).1)

  -- a body that is written
  module _ (n : b.refusal ≡ 0) where
    accepted : (write_body r.body r.header.to text identifier).refusal ≡ 0
    accepted = rw q at n

    header_is : h ≡ written_header r
    header_is = f ∙ rw q (header_in r z text identifier (body_fine r z text identifier alone accepted))

    left : record_refusal r text identifier ≡ header_text_refusal (written_header r)
    left = header_left r z text identifier alone accepted

    bytes_are : take b.len b.bytes ≡ body_bytes r.body
    bytes_are = rw q (fixed_bytes_lem r.body r.header.to text identifier accepted)

    tail_is : take b.tail_len b.tail ≡ tail_bytes r.body identifier
    tail_is = rw q (tail_bytes_lem r.body r.header.to text identifier accepted)

    pub body_written : (framed : Bool) (out : List ℕ) (w : Wrote) → w ≡ wrote_behind framed h (take b.len b.bytes) text (take b.tail_len b.tail) out → w ≡ written framed r text identifier out
    unfolding wrote_behind head_refusal head_bytes frame_refusal text_refusal frame_bytes text_bytes bytes_of
    body_written true out w e =
        let n = over_by most_bytes ((header_frame (written_header r) ++ body_bytes r.body) ++ (text ++ tail_bytes r.body identifier)) in
        e ∙ rw (header_is, bytes_are, tail_is, left, frame_first (written_header r) n)
    body_written false out w e = e ∙ rw (header_is, bytes_are, tail_is, left)
