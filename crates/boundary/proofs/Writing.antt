-- What the two writers answer: 15 where a number is unknown, else what packet's writer gives for the record.
-- Assumes nothing.
use mathlib.Core.Path.{◌≡◌, sym, ap, ◌∙◌}
use mathlib.Core.Bool.{Bool, true, false, not}
use mathlib.Core.List.{List}
use Prim.Native.Nat.{ℕ}
use native.Mathlib.Omega.{arith}
use borrow.Author.Tests.{not-true, not-false}
use Rattle.buffer.specs.declared.Answer.{Answer}
use Rattle.buffer.specs.Wrote.{Wrote, ends, refused_by, wrote}
use Rattle.buffer.proofs.Wrote.{passed_on}
use Rattle.packet.specs.declared.Record.{Record}
use Rattle.packet.specs.Written.{text_refusal, frame_refusal, text_bytes, frame_bytes}
use Rattle.boundary.specs.declared.CRecord.{CRecord}
use Rattle.boundary.specs.Record.{is_known, record_meant, refused_or, text_refusal_in_c, frame_refusal_in_c}

refused_or_lem : (r : CRecord) (u : Bool) (n : ℕ) → u ≡ is_known r.body → not u ≡ true → refused_or r n ≡ 15
unfolding refused_or
refused_or_lem r u n e f = rw (← e, not-true u f)

passed_or : (r : CRecord) (u : Bool) (n : ℕ) → u ≡ is_known r.body → not u ≡ false → refused_or r n ≡ n
unfolding refused_or
passed_or r u n e f = rw (← e, not-false u f)

refused_with : (r : CRecord) (u : Bool) (a : Answer) (n : ℕ) (bytes out : List ℕ) → u ≡ is_known r.body → not u ≡ true → a ≡ refused_by 15 → ends a out ≡ wrote (refused_or r n) bytes out
refused_with r u a n bytes out e f h = passed_on a 15 (refused_or r n) bytes out h (λ z. omega arith) (refused_or_lem r u n e f)

-- either writer, of what is handed over with the record: its refusal and its bytes
module _ (refusal : Record → ℕ) (bytes : Record → List ℕ) where
  written_with : (r : CRecord) (u : Bool) (s : Record) (w : Wrote) (out : List ℕ) → u ≡ is_known r.body → not u ≡ false → s ≡ record_meant r
      → w ≡ wrote (refusal s) (bytes s) out
      → w ≡ wrote (refused_or r (refusal (record_meant r))) (bytes (record_meant r)) out
  written_with r u s w out e f h q =
      q ∙ ap (λ (x : Record). wrote (refusal x) (bytes x) out) h
      ∙ ap (λ (n : ℕ). wrote n (bytes (record_meant r)) out) (sym (passed_or r u (refusal (record_meant r)) e f))

module _ (r : CRecord) (u : Bool) (comment identifier out : List ℕ) (e : u ≡ is_known r.body) where
  pub text_unknown : (a : Answer) → not u ≡ true → a ≡ refused_by 15
      → ends a out ≡ wrote (text_refusal_in_c r comment identifier) (text_bytes (record_meant r) comment identifier) out
  unfolding text_refusal_in_c
  text_unknown a f h = refused_with r u a (text_refusal (record_meant r) comment identifier) (text_bytes (record_meant r) comment identifier) out e f h

  pub frame_unknown : (a : Answer) → not u ≡ true → a ≡ refused_by 15
      → ends a out ≡ wrote (frame_refusal_in_c r comment identifier) (frame_bytes (record_meant r) comment identifier) out
  unfolding frame_refusal_in_c
  frame_unknown a f h = refused_with r u a (frame_refusal (record_meant r) comment identifier) (frame_bytes (record_meant r) comment identifier) out e f h

  pub text_known : (s : Record) (w : Wrote) → not u ≡ false → s ≡ record_meant r
      → w ≡ wrote (text_refusal s comment identifier) (text_bytes s comment identifier) out
      → w ≡ wrote (text_refusal_in_c r comment identifier) (text_bytes (record_meant r) comment identifier) out
  unfolding text_refusal_in_c
  text_known s w f h q =
      written_with (λ (x : Record). text_refusal x comment identifier) (λ (x : Record). text_bytes x comment identifier) r u s w out e f h q

  pub frame_known : (s : Record) (w : Wrote) → not u ≡ false → s ≡ record_meant r
      → w ≡ wrote (frame_refusal s comment identifier) (frame_bytes s comment identifier) out
      → w ≡ wrote (frame_refusal_in_c r comment identifier) (frame_bytes (record_meant r) comment identifier) out
  unfolding frame_refusal_in_c
  frame_known s w f h q =
      written_with (λ (x : Record). frame_refusal x comment identifier) (λ (x : Record). frame_bytes x comment identifier) r u s w out e f h q
