-- `seconds` of a longitude: where the first byte leaves a size that minutes and hundredths can make up, the minutes are
-- within two of it. Assumes nothing.
use Rattle.std.proofs.Common.{◌≡◌, ℕ, ◌+◌, ◌-◌, ◌/◌, ◌<◌, ◌≤◌, min, Bool, true, Some, None, sym, arith}
use Rattle.fields.specs.Search.{size_hits, no_span, Spans, base_of, span_from}
use Rattle.fields.proofs.Hits.{based_by, base_first, longitude_hit}
use Rattle.fields.proofs.Spans.{spans_by, no_span_lem, Band, in_band_lem}
use Rattle.fields.proofs.LyingTarget.seconds.Goals as goal

module _ (m : ℕ) (hundred : Bool) (a : ℕ) where
  nothing : None ≡ base_of hundred a 28 → Spans (size_hits m hundred) a no_span
  nothing e = no_span_lem _ a (λ b c k l t. let f : base_of hundred a 28 ≡ Some _ = base_first m hundred a b c (longitude_hit m hundred a b c t) in cc)

  module _ (low : ℕ) (e : Some low ≡ base_of hundred a 28) where
    band : (b c : ℕ) → b < 256 → c < 256 → size_hits m hundred a b c ≡ true → Band m low b
    band b c k l t = in_band_lem m hundred a b c low k l (based_by hundred a 28 low (sym e)) (longitude_hit m hundred a b c t)

    past : (low ≤ m → ⊥) → Spans (size_hits m hundred) a no_span
    past h = no_span_lem _ a (λ b c k l t. h (band b c k l t).short)

    far : 16927 < m - low → Spans (size_hits m hundred) a no_span
    far h = no_span_lem _ a (λ b c k l t. let n : m - low ≤ 16927 = (band b c k l t).close in omega arith)

    near : (n : ℕ) → n ≡ min ((m - low) / 100 + 89) 256 → m - low ≤ 16927 → Spans (size_hits m hundred) a (span_from ((m - low) / 100 + 26) n)
    near n q h =
        spans_by _ a _ n (omega arith) (omega arith)
        (λ b c u v t. ((band b c u v t).from, let k : b < (m - low) / 100 + 89 = (band b c u v t).to in omega arith))

pub returns-in_err-low : goal.returns-in_err-low
returns-in_err-low c = rw c.from_residual.ensures (nothing _ _ _ c.in_err-low.ensures)

pub returns-in_err-rest : goal.returns-in_err-rest
returns-in_err-rest c = rw c.from_residual-in_err-rest.ensures (past _ _ _ _ c.in_ok-low.ensures c.in_err-rest.ensures)

pub returns-then-rest-gt16927 : goal.returns-then-rest-gt16927
returns-then-rest-gt16927 c = far _ _ _ _ c.in_ok-low.ensures (omega (arith, c.in_ok-rest.ensures.1))

pub returns : goal.returns
returns c = rw c.in_ok-rest.ensures.1 (near _ _ _ _ c.in_ok-low.ensures c.min.result (rw (← c.in_ok-rest.ensures.1) c.min.ensures) (omega (arith, c.in_ok-rest.ensures.1)))
