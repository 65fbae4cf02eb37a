-- What it is for information to be in range: each of its parts is. And what a latitude that is not refused has.
-- Assumes nothing.
use Rattle.std.proofs.Common.{◌≡◌, ℕ, ◌<◌, ◌≤◌, Bool, true, false, cond, ltb, leb, ℤ, nat_abs, refl, arith, ltb-false, le-ltb, leb-false}
use borrow.Author.Tests.{lt-leb}
use Rattle.laws.proofs.Tests.{or_neither}
use Rattle.lonlat.specs.Angle.{most_latitude, most_longitude}
use Rattle.lonlat.specs.Latitude.{latitude_refusal}
use Rattle.mic_e.specs.Motion.{most_speed, most_course, motion_out}
use Rattle.mic_e.specs.Longitude.{longitude_out}
use Rattle.mic_e.specs.Information.{information_out}
use Rattle.mic_e.specs.declared.Information.{Information}

module _ (i : Information) (h : information_out i ≡ false) where
  pub in_longitude : nat_abs i.longitude.0 < most_longitude
  unfolding information_out longitude_out
  in_longitude = leb-false _ _ (or_neither (leb most_longitude (nat_abs i.longitude.0)) (motion_out i.speed.0 i.course.0) h).0

  in_motion : motion_out i.speed.0 i.course.0 ≡ false
  unfolding information_out
  in_motion = (or_neither (longitude_out i.longitude.0) (motion_out i.speed.0 i.course.0) h).1

  pub in_speed : i.speed.0 ≤ most_speed
  unfolding motion_out
  in_speed = ltb-false _ _ (or_neither (ltb most_speed i.speed.0) (ltb most_course i.course.0) in_motion).0

  pub in_course : i.course.0 ≤ most_course
  unfolding motion_out
  in_course = ltb-false _ _ (or_neither (ltb most_speed i.speed.0) (ltb most_course i.course.0) in_motion).1

-- and the other way
pub in_all : (i : Information) → nat_abs i.longitude.0 < most_longitude → i.speed.0 ≤ most_speed → i.course.0 ≤ most_course → information_out i ≡ false
unfolding information_out longitude_out motion_out
in_all i l s c = rw (lt-leb _ _ l, le-ltb _ _ s, le-ltb _ _ c)

pub few_blanks : (angle : ℤ) (blanks : ℕ) → latitude_refusal angle blanks ≡ 0 → blanks ≤ 5
unfolding latitude_refusal
few_blanks angle blanks e = ltb-false _ _ (or_neither (ltb most_latitude (nat_abs angle)) (ltb 5 blanks) (fine _ e)).1
  where
    fine : (t : Bool) → ◌≡◌ {A = ℕ} (cond t 15 0) 0 → t ≡ false
    fine true z = absurd (omega arith)
    fine false z = refl
