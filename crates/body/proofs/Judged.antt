-- Each angle of a Mic-E report is judged once, by what writes it: the writers of its destination and of its information
-- refuse exactly what is out of range. And what a Mic-E body in range has, fact by fact.
-- Assumes nothing.
use mathlib.Core.Path.{◌≡◌, refl}
use mathlib.Core.Bool.{Bool, true, false, false≢true, not, cond, ◌&&◌, ◌||◌}
use Prim.Native.Nat.{◌<◌, ◌≤◌}
use native.Mathlib.Omega.{arith}
use lib.Dec.{eqb, leb, ltb}
use lib.IntN.{nat_abs}
use borrow.Author.Tests.{not-true, leb-true, leb-false, ltb-true, le-leb, lt-leb}
use Rattle.laws.proofs.Tests.{and_first, and_second}
use Rattle.callsign.specs.declared.Callsign.{Callsign}
use Rattle.callsign.specs.Range.{is_blank_call}
use Rattle.lonlat.specs.Angle.{most_latitude, most_longitude}
use Rattle.lonlat.specs.Latitude.{latitude_refusal}
use Rattle.time.specs.Time.{no_time, is_no_time}
use Rattle.time.proofs.Theorems.{no_time_is}
use Rattle.position.specs.declared.Place.{Place}
use Rattle.position.specs.Reach.{in_reach}
use Rattle.position.specs.Position.{place_in_range, letters_agree}
use Rattle.position.proofs.Reach.{over_under}
use Rattle.mic_e.specs.Longitude.{longitude_out}
use Rattle.mic_e.specs.Motion.{most_speed, most_course, motion_out}
use Rattle.mic_e.specs.Destination.{destination_refusal}
use Rattle.mic_e.specs.Information.{information_out}
use Rattle.body.specs.declared.Report.{Report}
use Rattle.body.specs.declared.Body.{Body}
use Rattle.body.specs.Range.{is_short, motion_in_range, is_no_addressee, is_report_alone, mic_e_in_range}
use Rattle.body.specs.Written.{information_of}

-- ---- what the writers refuse

-- the destination's: latitude, blanks, and 180 degrees
pub destination_judges : (place : Place) → eqb (destination_refusal place.latitude.0 place.blanks place.longitude.0) 0 ≡ (place_in_range place && is_short place)
unfolding destination_refusal longitude_out latitude_refusal place_in_range in_reach is_short
destination_judges place =
    rw (over_under most_latitude (nat_abs place.latitude.0), over_under 5 place.blanks, over_under (nat_abs place.longitude.0) most_longitude)
    (go (leb (nat_abs place.latitude.0) most_latitude) (leb place.blanks 5) (leb most_longitude (nat_abs place.longitude.0))
    (leb (nat_abs place.longitude.0) most_longitude)
    (λ e. le-leb (nat_abs place.longitude.0) most_longitude (omega (arith, leb-false most_longitude (nat_abs place.longitude.0) e))))
  where
    go : (a b c d : Bool) → (c ≡ false → d ≡ true) → eqb (cond c 15 (cond (not a || not b) 15 0)) 0 ≡ (((a && b) && (d && b)) && not c)
    go true true true true h = refl
    go true true true false h = refl
    go true true false true h = refl
    go true true false false h = absurd (false≢true (h refl))
    go true false true d h = refl
    go true false false d h = refl
    go false b true d h = refl
    go false b false d h = refl

-- the information's, short of 180 degrees: speed and course
pub information_judges : (place : Place) (report : Report) → is_short place ≡ true → information_out (information_of place report) ≡ not (motion_in_range report)
unfolding information_out information_of longitude_out motion_out is_short motion_in_range
information_judges place report e =
    rw (
      lt-leb most_longitude (nat_abs place.longitude.0) (ltb-true (nat_abs place.longitude.0) most_longitude e),
      over_under most_speed report.speed.0,
      over_under most_course report.course.0,
    )
    (go (leb report.speed.0 most_speed) (leb report.course.0 most_course))
  where
    go : (a b : Bool) → (not a || not b) ≡ not (a && b)
    go true b = refl
    go false b = refl

-- ---- a Mic-E body in range

pub record Reported (b : Body) (to : Callsign) : Type 0 where
  pub no_call : is_blank_call to ≡ true
  pub no_messaging : b.messaging ≡ false
  pub no_time_case : b.time ≡ no_time
  pub agree : letters_agree b.place ≡ true
  pub near : place_in_range b.place ≡ true
  pub short : nat_abs b.place.longitude.0 < most_longitude
  pub slow : b.report.speed.0 ≤ most_speed
  pub turned : b.report.course.0 ≤ most_course

pub mic_e_held : (b : Body) (to : Callsign) → mic_e_in_range b to ≡ true → Reported b to
unfolding mic_e_in_range is_report_alone is_short motion_in_range
mic_e_held b to e =
    let e₂ = and_second (is_blank_call to) _ e in
    let e₃ = and_second (is_report_alone b) _ e₂ in
    let e₄ = and_second (letters_agree b.place) _ e₃ in
    let e₅ = and_second (place_in_range b.place) _ e₄ in
    let e₆ = and_second (ltb (nat_abs b.place.longitude.0) most_longitude) _ e₅ in
    let alone = and_first (is_report_alone b) _ e₂ in
    record {
      no_call = and_first (is_blank_call to) _ e;
      no_messaging = not-true b.messaging (and_first (not b.messaging) (is_no_time b.time && is_no_addressee b) alone);
      no_time_case = no_time_is b.time (and_first (is_no_time b.time) (is_no_addressee b) (and_second (not b.messaging) (is_no_time b.time && is_no_addressee b) alone));
      agree = and_first (letters_agree b.place) _ e₃;
      near = and_first (place_in_range b.place) _ e₄;
      short = ltb-true (nat_abs b.place.longitude.0) most_longitude (and_first (ltb (nat_abs b.place.longitude.0) most_longitude) _ e₅);
      slow = leb-true b.report.speed.0 most_speed (and_first (leb b.report.speed.0 most_speed) _ e₆);
      turned = leb-true b.report.course.0 most_course (and_second (leb b.report.speed.0 most_speed) _ e₆);
    }
