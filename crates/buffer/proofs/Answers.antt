-- What a caller learns from a writer's promise, where the buffer has room for the bytes.
-- Assumes nothing.
use mathlib.Core.Path.{◌≡◌, refl, sym, ap, ◌∙◌}
use mathlib.Core.List.{List, ◌++◌, append-nil}
use Prim.Native.Nat.{ℕ, zero, suc, ◌≤◌}
use native.Mathlib.Omega.{arith}
use lib.ListN.{length, take, drop, drop_of_length-le}
use lib.Seq.{take_at}
use borrow.Author.Tests.{le-ltb}
use Rattle.buffer.specs.Wrote.{Wrote, ends, wrote, wrote_as}
use Rattle.buffer.specs.declared.Answer.{Answer}

module _ (r : Answer) (o bytes out : List ℕ) where
  pub refusal_is : (k : ℕ) → ends r o ≡ wrote k bytes out → (k ≡ 0 → length bytes ≤ length out) → r.refusal ≡ k
  unfolding wrote wrote_as
  refusal_is zero e h = ap (λ (w : Wrote). w.answer.refusal) e ∙ rw (le-ltb (length out) (length bytes) (h refl))
  refusal_is (suc k) e h = ap (λ (w : Wrote). w.answer.refusal) e

  pub bytes_are : (k : ℕ) → ends r o ≡ wrote k bytes out → k ≡ 0 → length bytes ≤ length out → o ≡ bytes ++ drop (length bytes) out
  unfolding wrote wrote_as
  bytes_are zero e z h = ap (λ (w : Wrote). w.buffer) e ∙ rw (le-ltb (length out) (length bytes) h)
  bytes_are (suc k) e z h = absurd (omega arith)

  pub reported_is : (k : ℕ) → ends r o ≡ wrote k bytes out → k ≡ 0 → length bytes ≤ length out → r.reported ≡ length bytes
  unfolding wrote wrote_as
  reported_is zero e z h = ap (λ (w : Wrote). w.answer.reported) e ∙ rw (le-ltb (length out) (length bytes) h)
  reported_is (suc k) e z h = absurd (omega arith)

  -- the bytes, by how many were reported
  pub front_is : (k : ℕ) → ends r o ≡ wrote k bytes out → k ≡ 0 → length bytes ≤ length out → take r.reported o ≡ bytes
  front_is k e z h = rw (bytes_are k e z h) (take_at bytes (drop (length bytes) out) r.reported (sym (reported_is k e z h)))

  -- a buffer of just their length holds the bytes alone
  pub filled : (k : ℕ) → ends r o ≡ wrote k bytes out → k ≡ 0 → length bytes ≡ length out → o ≡ bytes
  filled k e z f =
      let h : length bytes ≤ length out = omega arith in
      let d : length out ≤ length bytes = omega arith in
      bytes_are k e z h ∙ rw (drop_of_length-le out d, append-nil)
