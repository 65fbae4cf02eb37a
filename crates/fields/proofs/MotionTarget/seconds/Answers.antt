-- `seconds` of a motion: the tens that the first byte leaves to the speed, or none. Assumes nothing.
use Rattle.std.proofs.Common.{◌≡◌, ℕ, ◌+◌, ◌-◌, ◌*◌, ◌/◌, ◌<◌, ◌≤◌, ⊎_elim, arith}
use Rattle.mic_e.specs.Motion.{knots}
use Rattle.mic_e.proofs.MotionFacts.{Moves}
use Rattle.mic_e.proofs.Turn.{less_if_split}
use Rattle.fields.proofs.Hits.{motion_hit}
use Rattle.fields.proofs.Spans.{ten_spans, no_span_lem}
use Rattle.fields.proofs.MotionTarget.seconds.Goals as goal

-- what is left to the tens of the second byte, from the first byte up to the speed, or to the speed and 800
module _ (s t a b c x : ℕ) (l : b < 256) (off : x ≡ a - 28) (h : Moves s t a b c) where
  low_gap : 10 * x ≤ s → (28 ≤ b) × ((b - 28) / 10 ≡ s - 10 * x)
  unfolding knots
  low_gap k = (h.b_from, ⊎_elim (λ q. omega arith) (λ q. omega arith) (less_if_split 800 (10 * (a - 28) + (b - 28) / 10)))

  high_gap : s < 10 * x → (28 ≤ b) × ((b - 28) / 10 ≡ s + 800 - 10 * x)
  unfolding knots
  high_gap k = (h.b_from, ⊎_elim (λ q. omega arith) (λ q. omega arith) (less_if_split 800 (10 * (a - 28) + (b - 28) / 10)))

  far_gap : s + 800 < 10 * x → ⊥
  unfolding knots
  far_gap k = ⊎_elim (λ q. omega arith) (λ q. omega arith) (less_if_split 800 (10 * (a - 28) + (b - 28) / 10))

pub returns-in_err-first : goal.returns-in_err-first
returns-in_err-first c =
    rw c.from_residual.ensures (no_span_lem _ _ (λ b d k l e. c.in_err-first.ensures (let h = motion_hit _ _ _ b d e in omega (arith, c.from.ensures, h.a_from))))

pub returns-then-s-gt799 : goal.returns-then-s-gt799
returns-then-s-gt799 c = no_span_lem _ _ (λ b d k l e. let h = motion_hit _ _ _ b d e in omega (arith, h.speed_to))

pub returns-then-low-s : goal.returns-then-low-s
returns-then-low-s c =
    let off : c.in_ok-first.first ≡ c.args.a - 28 = omega (arith, c.from.ensures, c.in_ok-first.ensures.1) in
    rw c.ten_from.ensures (ten_spans _ _ _ (λ b d k l e. low_gap _ _ _ b d _ k off (motion_hit _ _ _ b d e) c.if-low-s.true))

pub returns-then-s-low : goal.returns-then-s-low
returns-then-s-low c =
    let off : c.in_ok-first.first ≡ c.args.a - 28 = omega (arith, c.from.ensures, c.in_ok-first.ensures.1) in
    no_span_lem _ _ (λ b d k l e. far_gap _ _ _ b d _ k off (motion_hit _ _ _ b d e) c.if-s-low.true)

pub returns : goal.returns
returns c =
    let off : c.in_ok-first.first ≡ c.args.a - 28 = omega (arith, c.from.ensures, c.in_ok-first.ensures.1) in
    rw c.ten_from-2.ensures (ten_spans _ _ _ (λ b d k l e. high_gap _ _ _ b d _ k off (motion_hit _ _ _ b d e) c.if-low-s.false))
