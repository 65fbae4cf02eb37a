-- `third` of a motion: the course leaves one third byte, with or without 400. Assumes nothing.
use Rattle.std.proofs.Common.{◌≡◌, ℕ, ◌+◌, ◌-◌, ◌*◌, ◌%◌, ◌<◌, ◌≤◌, Option, None, sym, ap, ◌∙◌, ⊎_elim, arith}
use Rattle.mic_e.specs.Motion.{degrees}
use Rattle.mic_e.proofs.MotionFacts.{Moves}
use Rattle.mic_e.proofs.Turn.{less_if_split}
use Rattle.fields.specs.Each.{cell}
use Rattle.fields.specs.Search.{motion_hits, fields_of, third_at}
use Rattle.fields.proofs.Each.{cell_none}
use Rattle.fields.proofs.Hits.{motion_hit, course_plain, course_round, third_at_lem}
use Rattle.fields.proofs.MotionTarget.third.Goals as goal

module _ (s t a b : ℕ) where
  nowhere : ((c : ℕ) → c < 256 → Moves s t a b c → ⊥) → fields_of a b None ≡ cell (motion_hits s t) a b
  unfolding fields_of
  nowhere h = sym (cell_none _ a b (λ c l e. h c l (motion_hit s t a b c e)))

-- x is what the second byte stands for
module _ (s t a b x : ℕ) (off : x ≡ b - 28) where
  plain : (r : Option ℕ) → 100 * (x % 10) ≤ t → r ≡ third_at (motion_hits s t) a b (t - 100 * (x % 10)) → fields_of a b r ≡ cell (motion_hits s t) a b
  plain r k e =
      ap (fields_of a b) e
      ∙ third_at_lem _ a b _ (λ c l q. rw off (course_plain s t a b c l (motion_hit s t a b c q) (rw (← off) k)))

  far : t < 100 * (x % 10) → t + 400 < 100 * (x % 10) → fields_of a b None ≡ cell (motion_hits s t) a b
  unfolding degrees
  far k n = nowhere s t a b (λ c l h. ⊎_elim (λ u. omega arith) (λ u. omega arith) (less_if_split 400 (100 * ((b - 28) % 10) + (c - 28))))

  round : (r : Option ℕ) → t < 100 * (x % 10) → r ≡ third_at (motion_hits s t) a b (t + 400 - 100 * (x % 10)) → fields_of a b r ≡ cell (motion_hits s t) a b
  round r k e =
      ap (fields_of a b) e
      ∙ third_at_lem _ a b _ (λ c l q. rw off (course_round s t a b c l (motion_hit s t a b c q) (rw (← off) k)))

pub returns-in_err-second : goal.returns-in_err-second
returns-in_err-second c = rw c.from_residual.ensures (nowhere _ _ _ _ (λ d l h. c.in_err-second.ensures (omega (arith, c.from.ensures, h.b_from))))

pub returns-then-c-gt360 : goal.returns-then-c-gt360
returns-then-c-gt360 c = nowhere _ _ _ _ (λ d l h. omega (arith, h.course_to))

pub returns-then-e-c : goal.returns-then-e-c
returns-then-e-c c =
    let off : c.in_ok-second.second ≡ c.args.b - 28 = omega (arith, c.from.ensures, c.in_ok-second.ensures.1) in
    plain _ _ _ _ _ off _ c.if-e-c.true c.motion_at.ensures

pub returns-then-c-e : goal.returns-then-c-e
returns-then-c-e c =
    let off : c.in_ok-second.second ≡ c.args.b - 28 = omega (arith, c.from.ensures, c.in_ok-second.ensures.1) in
    far _ _ _ _ _ off c.if-e-c.false c.if-c-e.true

pub returns : goal.returns
returns c =
    let off : c.in_ok-second.second ≡ c.args.b - 28 = omega (arith, c.from.ensures, c.in_ok-second.ensures.1) in
    round _ _ _ _ _ off _ c.if-e-c.false c.motion_at-2.ensures
