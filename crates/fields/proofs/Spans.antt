-- The second bytes that a first byte leaves, for either kind of target.
-- Assumes nothing.
use Rattle.std.proofs.Common.{◌≡◌, ℕ, ◌+◌, ◌-◌, ◌*◌, ◌/◌, ◌<◌, ◌≤◌, Bool, true, false, cond, eqb, ltb, refl, ⊎_elim, arith, ltb-false, ltb-true, eqb-true}
use borrow.Author.Tests.{eqb-false}
use Rattle.mic_e.specs.Turn.{less_if}
use Rattle.mic_e.specs.Longitude.{offset_of, size_of}
use Rattle.mic_e.proofs.LongitudeFacts.{Lies}
use Rattle.mic_e.proofs.Turn.{less_if_le, less_if_split}
use Rattle.fields.specs.Search.{span_from, ten_from, no_span, Spans}
use Rattle.fields.proofs.Each.{cell_none}
use Rattle.fields.proofs.Hits.{Based}

-- no passing second byte outside a span
pub spans_by : (test : ℕ → ℕ → ℕ → Bool) (a from to : ℕ) → from ≤ to → to ≤ 256
    → ((b c : ℕ) → b < 256 → c < 256 → test a b c ≡ true → (from ≤ b) × (b < to)) → Spans test a (span_from from to)
spans_by test a from to o m h =
    record {
      order = o;
      most = m;
      below = λ b l. cell_none test a b (λ c k e. let p : (from ≤ b) × (b < to) = h b c (omega arith) k e in omega arith);
      above = λ b l u. cell_none test a b (λ c k e. let p : (from ≤ b) × (b < to) = h b c u k e in omega arith);
    }

-- a byte's tens
pub ten_spans : (test : ℕ → ℕ → ℕ → Bool) (a gap : ℕ)
    → ((b c : ℕ) → b < 256 → c < 256 → test a b c ≡ true → (28 ≤ b) × ((b - 28) / 10 ≡ gap)) → Spans test a (ten_from gap)
unfolding ten_from
ten_spans test a gap h = go (ltb 22 gap) refl (eqb gap 22) refl
  where
    go : (t : Bool) → ltb 22 gap ≡ t → (u : Bool) → eqb gap 22 ≡ u
        → Spans test a (cond t (span_from 0 0) (cond u (span_from 248 256) (span_from (28 + 10 * gap) (38 + 10 * gap))))
    go true p u q =
        let k : 22 < gap = ltb-true 22 gap p in
        spans_by test a 0 0 (omega arith) (omega arith) (λ b c l m e. absurd (let r : (28 ≤ b) × ((b - 28) / 10 ≡ gap) = h b c l m e in omega arith))
    go false p true q =
        let k : gap ≡ 22 = eqb-true gap 22 q in
        spans_by test a 248 256 (omega arith) (omega arith) (λ b c l m e. let r : (28 ≤ b) × ((b - 28) / 10 ≡ gap) = h b c l m e in (omega arith, omega arith))
    go false p false q =
        let k : gap ≤ 22 = ltb-false 22 gap p in
        let n : gap ≡ 22 → ⊥ = eqb-false gap 22 q in
        spans_by test a (28 + 10 * gap) (38 + 10 * gap) (omega arith) (omega arith) (λ b c l m e. let r : (28 ≤ b) × ((b - 28) / 10 ≡ gap) = h b c l m e in (omega arith, omega arith))

-- nothing passes at all
pub no_span_lem : (test : ℕ → ℕ → ℕ → Bool) (a : ℕ) → ((b c : ℕ) → b < 256 → c < 256 → test a b c ≡ true → ⊥) → Spans test a no_span
no_span_lem test a h = spans_by test a 0 0 (omega arith) (omega arith) (λ b c l m e. absurd (h b c l m e))

-- a longitude's minutes are at most two short of what is left, and the second byte may stand for 60 more
pub record Band (m low b : ℕ) : Type 0 where
  pub short : low ≤ m
  pub close : m - low ≤ 16927
  pub from : (m - low) / 100 + 26 ≤ b
  pub to : b < (m - low) / 100 + 89

pub in_band_lem : (m : ℕ) (hundred : Bool) (a b c low : ℕ) → b < 256 → c < 256 → Based hundred a 28 low → Lies m (offset_of hundred) a b c → Band m low b
unfolding size_of
in_band_lem m hundred a b c low k l base h =
    let z : less_if 60 (28 - 28) ≤ 28 - 28 = less_if_le 60 (28 - 28) in
    ⊎_elim
    (λ e. record { short = omega arith; close = omega arith; from = omega arith; to = omega arith })
    (λ e. record { short = omega arith; close = omega arith; from = omega arith; to = omega arith })
    (less_if_split 60 (b - 28))
