-- `list_motion`: 15 for a speed or course out of range, and else the list. Assumes nothing.
use Rattle.std.proofs.Common.{◌≡◌, ℕ, ◌<◌, ◌≤◌, le-ltb, lt-ltb}
use Rattle.mic_e.specs.Motion.{most_speed, most_course, motion_out}
use Rattle.fields.specs.Lists.{motion_fields, motion_refusal}
use Rattle.fields.specs.Search.{motion_hits}
use Rattle.fields.proofs.Answers.{out_of_range}
use Rattle.fields.proofs.MotionMost.{motion_few}
use Rattle.fields.proofs.list_motion.Goals as goal
use Rattle.fields.proofs.list_motion.Goals.{then-speed-gt799-via-then-speed-gt799, then-speed-gt799-via-else-speed-gt799+then-course-gt360}

fast : (s t : ℕ) → most_speed < s → motion_refusal s t ≡ 15
unfolding motion_refusal motion_out
fast s t h = rw (lt-ltb most_speed s h)

turned : (s t : ℕ) → s ≤ most_speed → most_course < t → motion_refusal s t ≡ 15
unfolding motion_refusal motion_out
turned s t h k = rw (le-ltb most_speed s h, lt-ltb most_course t k)

inside : (s t : ℕ) → s ≤ most_speed → t ≤ most_course → motion_refusal s t ≡ 0
unfolding motion_refusal motion_out
inside s t h k = rw (le-ltb most_speed s h, le-ltb most_course t k)

pub returns-then-speed-gt799 : goal.returns-then-speed-gt799
returns-then-speed-gt799 c =
    elim c.then-speed-gt799.branch [
      | then-speed-gt799-via-then-speed-gt799 w ↦ out_of_range _ _ _ _ (fast _ _ w.if-speed-gt799.true) c.refused.ensures
      | then-speed-gt799-via-else-speed-gt799+then-course-gt360 w ↦ out_of_range _ _ _ _ (turned _ _ w.if-speed-gt799.false w.if-course-gt360.true) c.refused.ensures
    ]

pub list-requires : goal.list-requires
list-requires c = motion_few c.args.speed.0 c.args.course.0

pub returns : goal.returns
unfolding motion_fields motion_hits
returns c = rw (inside _ _ c.if-speed-gt799.false c.if-course-gt360.false) c.list.ensures
