-- `motion_at`: the motion that was read is the target's, or it is not. Assumes nothing.
use Rattle.std.proofs.Common.{◌≡◌, ℕ, ◌+◌, ◌≤◌, Option, Some, None, ◌∙◌, rules, le-ltb, eq-eqb, ne_eqb}
use Rattle.laws.proofs.Picks.{picks}
use Rattle.mic_e.specs.Motion.{read_motion}
use Rattle.mic_e.specs.declared.Motion.{Motion}
use Rattle.fields.specs.Lists.{is_motion}
use Rattle.fields.specs.Search.{motion_hits, third_at}
use Rattle.fields.proofs.motion_at.Goals as goal
use Rattle.fields.proofs.motion_at.Goals.{else-speed-s-via-then-speed-s+else-course-c, else-speed-s-via-else-speed-s}

module _ (s t a b z : ℕ) (h : z ≤ 227) where
  refused : (r : Option ℕ) → r ≡ None → None ≡ read_motion a b (z + 28) → r ≡ third_at (motion_hits s t) a b z
  unfolding third_at motion_hits is_motion
  refused r n e = n ∙ rw (le-ltb 227 z h, ← e)

  module _ (m : Motion) (e : Some m ≡ read_motion a b (z + 28)) where
    slow : (m.speed.0 ≡ s → ⊥) → None ≡ third_at (motion_hits s t) a b z
    unfolding third_at motion_hits is_motion
    slow n = rw (le-ltb 227 z h, ← e, ne_eqb m.speed.0 s n)

    module _ (q : m.speed.0 ≡ s) where
      other : (m.course.0 ≡ t → ⊥) → None ≡ third_at (motion_hits s t) a b z
      unfolding third_at motion_hits is_motion
      other n = rw (le-ltb 227 z h, ← e, eq-eqb m.speed.0 s q, ne_eqb m.course.0 t n)

      there : m.course.0 ≡ t → Some (z + 28) ≡ third_at (motion_hits s t) a b z
      unfolding third_at motion_hits is_motion
      there u = rw (le-ltb 227 z h, ← e, eq-eqb m.speed.0 s q, eq-eqb m.course.0 t u)

pub returns-then-z-gt227 : goal.returns-then-z-gt227
unfolding third_at
returns-then-z-gt227 c = search (rules, picks)

pub returns-in_err-speed : goal.returns-in_err-speed
returns-in_err-speed c = search (rules, refused)

pub returns-then-course-c : goal.returns-then-course-c
returns-then-course-c c = there _ _ _ _ _ c.if-z-gt227.false _ c.in_ok-speed.ensures c.if-speed-s.true c.if-course-c.true

pub returns-else-speed-s : goal.returns-else-speed-s
returns-else-speed-s c =
    elim c.else-speed-s.branch [
      | else-speed-s-via-then-speed-s+else-course-c w ↦ other _ _ _ _ _ c.if-z-gt227.false _ c.in_ok-speed.ensures w.if-speed-s.true w.if-course-c.false
      | else-speed-s-via-else-speed-s w ↦ slow _ _ _ _ _ c.if-z-gt227.false _ c.in_ok-speed.ensures w.if-speed-s.false
    ]
