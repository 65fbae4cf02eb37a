-- A lister's answers, from what the writer of its bytes answered; and the answers that need no search.
-- Assumes nothing.
use Rattle.std.proofs.Common.{◌≡◌, ℕ, ◌*◌, ◌/◌, ◌≤◌, Bool, true, false, cond, ltb, List, [], ◌++◌, length, take, drop, replicate, ap, ◌∙◌, arith, le-ltb}
use Rattle.buffer.specs.Wrote.{Wrote, ends, refused_by, no_room, done_by, wrote, wrote_as}
use Rattle.buffer.specs.declared.Answer.{Answer}
use Rattle.buffer.specs.Filled.{Filled, filled, front_of, added}
use Rattle.buffer.proofs.Wrote.{refused_as}
use Rattle.buffer.proofs.Filled.{added_len, first_front}
use Rattle.fields.specs.Each.{Field, flat}
use Rattle.fields.specs.Lists.{listed}
use Rattle.fields.proofs.Stored.{length_flat}

-- the bytes found, three for each field, stand at the front of the buffer that they were found in
module _ (fields : List Field) (n : ℕ) (found : List ℕ) (few : length fields ≤ 36) (e : filled found n ≡ added (filled (replicate 108 0) 0) (flat fields)) where
  pub found_count : n ≡ 3 * length fields
  found_count =
      let l = added_len (filled (replicate 108 0) 0) (flat fields) (omega (arith, length_flat fields)) in
      omega (arith, ap (λ (x : Filled). x.len) e, length_flat fields)

  pub found_bytes : take n found ≡ flat fields
  unfolding front_of
  found_bytes = ap front_of e ∙ first_front (replicate 108 0) (flat fields) (omega (arith, length_flat fields))

-- what the writer answered, with the fields counted
module _ (fields : List Field) (n : ℕ) (bytes out o : List ℕ) (r : Answer) (count : n ≡ 3 * length fields) (same : bytes ≡ flat fields)
    (e : ends r o ≡ wrote 0 bytes out) where
  whole : ends r o ≡ cond (ltb (length out) (length (flat fields))) (ends (no_room (length (flat fields))) out) (ends (done_by (length (flat fields))) (flat fields ++ drop (length (flat fields)) out))
  unfolding wrote wrote_as
  whole = e ∙ rw same

  pub counted : r.refusal ≡ 0 → (q : Answer) → q ≡ done_by (n / 3) → ends q o ≡ listed 0 fields out
  unfolding listed wrote_as
  counted z q d =
      let k : n / 3 ≡ length fields = omega arith in
      rw (d, k) (go (ltb (length out) (length (flat fields))) whole)
    where
      go : (t : Bool) → ends r o ≡ cond t (ends (no_room (length (flat fields))) out) (ends (done_by (length (flat fields))) (flat fields ++ drop (length (flat fields)) out))
          → ends (done_by (length fields)) o ≡ cond t (ends (no_room (length (flat fields))) out) (ends (done_by (length fields)) (flat fields ++ drop (length (flat fields)) out))
      go true w = absurd (omega (arith, ap (λ (x : Wrote). x.answer.refusal) w))
      go false w = ap (λ (x : List ℕ). ends (done_by (length fields)) x) (ap (λ (x : Wrote). x.buffer) w)

  pub short : (r.refusal ≡ 0 → ⊥) → ends r o ≡ listed 0 fields out
  unfolding listed wrote_as
  short z = go (ltb (length out) (length (flat fields))) whole
    where
      go : (t : Bool) → ends r o ≡ cond t (ends (no_room (length (flat fields))) out) (ends (done_by (length (flat fields))) (flat fields ++ drop (length (flat fields)) out))
          → ends r o ≡ cond t (ends (no_room (length (flat fields))) out) (ends (done_by (length fields)) (flat fields ++ drop (length (flat fields)) out))
      go true w = w
      go false w = absurd (z (ap (λ (x : Wrote). x.answer.refusal) w))

-- a target out of range
pub out_of_range : (refusal : ℕ) (fields : List Field) (out : List ℕ) (q : Answer) → refusal ≡ 15 → q ≡ refused_by 15 → ends q out ≡ listed refusal fields out
unfolding listed
out_of_range refusal fields out q e d = rw d (refused_as 15 refusal (length fields) (flat fields) out e (λ z. omega arith))

-- no field: an empty list fits any buffer
pub empty_list : (refusal : ℕ) (fields : List Field) (out : List ℕ) (q : Answer) → refusal ≡ 0 → fields ≡ [] → q ≡ done_by 0 → ends q out ≡ listed refusal fields out
unfolding listed wrote_as flat
empty_list refusal fields out q e f d = rw (e, f, d, le-ltb (length out) 0 (omega arith))
