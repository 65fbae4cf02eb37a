-- `read_motion`: what the bytes stand for, and the tests that lead to each `return`, pick that case of `read_motion`. Assumes nothing.
-- x, y and z are what the bytes stand for, s and d the speed and the course that the code makes of them
use Rattle.std.proofs.Common.{◌≡◌, ℕ, ◌+◌, ◌*◌, ◌/◌, ◌%◌, ◌<◌, ◌≤◌, Option, Some, None, ◌∙◌, arith, rules, le-ltb, lt-ltb}
use Rattle.mic_e.specs.Turn.{less_if}
use Rattle.mic_e.specs.Motion.{read_motion, knots, degrees}
use Rattle.mic_e.specs.Private.{reading}
use Rattle.mic_e.specs.declared.Motion.{Motion}
use Rattle.mic_e.proofs.MotionFacts.{motion}
use Rattle.mic_e.proofs.Offset.{taken, stood_for, most, stands_for_nothing}
use Rattle.mic_e.proofs.read_motion.Goals as goal

module _ (a b c : ℕ) (r : Option Motion) (none : r ≡ None) where
  no_fourth : None ≡ reading a → r ≡ read_motion a b c
  unfolding read_motion
  no_fourth e = none ∙ rw (stands_for_nothing a e)

  no_fifth : (x : ℕ) → Some x ≡ reading a → None ≡ reading b → r ≡ read_motion a b c
  unfolding read_motion
  no_fifth x ex e = none ∙ rw (taken a x ex, stands_for_nothing b e)

  no_sixth : (x y : ℕ) → Some x ≡ reading a → Some y ≡ reading b → None ≡ reading c → r ≡ read_motion a b c
  unfolding read_motion
  no_sixth x y ex ey e = none ∙ rw (taken a x ex, taken b y ey, stands_for_nothing c e)

module _ (a b c x y z s : ℕ) (ex : Some x ≡ reading a) (ey : Some y ≡ reading b) (ez : Some z ≡ reading c) (es : s ≡ less_if 800 (10 * x + y / 10)) where
  is_speed : s ≡ knots a b
  unfolding knots
  is_speed = es ∙ rw (stood_for a x ex, stood_for b y ey)

  fast : 799 < s → None ≡ read_motion a b c
  unfolding read_motion
  fast h = simp (← is_speed, taken a x ex, taken b y ey, taken c z ez, lt-ltb 799 s h)

  module _ (d : ℕ) (hs : s ≤ 799) (ed : d ≡ less_if 400 (100 * (y % 10) + z)) where
    is_course : d ≡ degrees b c
    unfolding degrees
    is_course = ed ∙ rw (stood_for b y ey, stood_for c z ez)

    turned : 360 < d → None ≡ read_motion a b c
    unfolding read_motion
    turned h = simp (← is_speed, ← is_course, taken a x ex, taken b y ey, taken c z ez, le-ltb 799 s hs, lt-ltb 360 d h)

    moves : d ≤ 360 → Some (motion s d) ≡ read_motion a b c
    unfolding read_motion
    moves h = simp (← is_speed, ← is_course, taken a x ex, taken b y ey, taken c z ez, le-ltb 799 s hs, le-ltb 360 d h)

pub returns-in_err-fourth : goal.returns-in_err-fourth
returns-in_err-fourth c = search (rules, no_fourth)

pub returns-in_err-fifth : goal.returns-in_err-fifth
returns-in_err-fifth c = search (rules, no_fifth)

pub returns-in_err-sixth : goal.returns-in_err-sixth
returns-in_err-sixth c = search (rules, no_sixth)

pub overflow_mul-fourth : goal.overflow_mul-fourth
overflow_mul-fourth c = let x : c.in_ok-fourth.fourth ≤ 227 = search (rules, most) in record { fits = omega arith }

pub overflow_add-fourth : goal.overflow_add-fourth
overflow_add-fourth c =
    let x : c.in_ok-fourth.fourth ≤ 227 = search (rules, most) in
    let y : c.in_ok-fifth.fifth ≤ 227 = search (rules, most) in
    record { fits = omega arith }

pub returns-then-speed-gt799 : goal.returns-then-speed-gt799
returns-then-speed-gt799 c = fast _ _ _ _ _ _ _ c.in_ok-fourth.ensures c.in_ok-fifth.ensures c.in_ok-sixth.ensures c.less_if-speed.ensures c.if-speed-gt799.true

pub overflow_add-fifth : goal.overflow_add-fifth
overflow_add-fifth c = let z : c.in_ok-sixth.sixth ≤ 227 = search (rules, most) in record { fits = omega arith }

pub returns-then-course-gt360 : goal.returns-then-course-gt360
returns-then-course-gt360 c = turned _ _ _ _ _ _ _ c.in_ok-fourth.ensures c.in_ok-fifth.ensures c.in_ok-sixth.ensures c.less_if-speed.ensures _ c.if-speed-gt799.false c.less_if-course.ensures c.if-course-gt360.true

pub returns : goal.returns
returns c = moves _ _ _ _ _ _ _ c.in_ok-fourth.ensures c.in_ok-fifth.ensures c.in_ok-sixth.ensures c.less_if-speed.ensures _ c.if-speed-gt799.false c.less_if-course.ensures c.if-course-gt360.false
