-- What is in range: the tests, and what they tell.
-- Assumes nothing.
use Rattle.std.proofs.Common.{◌≡◌, ℕ, ◌≤◌, Bool, true, false, not, ltb, leb, ℤ, nat_abs, refl, ltb-false, ltb-true, le-leb, leb-true}
use borrow.Author.Tests.{lt-leb}
use Rattle.laws.proofs.Tests.{and_first, and_second}
use Rattle.lonlat.specs.Angle.{most_latitude, most_longitude}
use Rattle.numbers.specs.Sign.{is_on}
use Rattle.numbers.proofs.Sign.{back}
use Rattle.position.specs.declared.Place.{Place}
use Rattle.position.specs.Reach.{in_reach}
use Rattle.position.specs.Position.{place_in_range, letters_agree}

-- below, or not up to it
pub over_under : (a b : ℕ) → ltb a b ≡ not (leb b a)
over_under a b = go (ltb a b) refl
  where
    go : (t : Bool) → ltb a b ≡ t → t ≡ not (leb b a)
    go true e = rw (lt-leb b a (ltb-true a b e))
    go false e = rw (le-leb b a (ltb-false a b e))

-- u is the test, and it held
pub reached : (most blanks : ℕ) (angle z : ℤ) → z ≡ angle → (u : Bool) → u ≡ in_reach most (nat_abs z) blanks → u ≡ true → in_reach most (nat_abs angle) blanks ≡ true
reached most blanks angle z back u e h = rw (← back, ← e) h

-- what the test tells
module _ (most size blanks : ℕ) (e : in_reach most size blanks ≡ true) where
  pub reach_near : size ≤ most
  unfolding in_reach
  reach_near = leb-true size most (and_first (leb size most) (leb blanks 5) e)

  pub reach_few : blanks ≤ 5
  unfolding in_reach
  reach_few = leb-true blanks 5 (and_second (leb size most) (leb blanks 5) e)

module _ (p : Place) (e : place_in_range p ≡ true) where
  pub latitude_near : in_reach most_latitude (nat_abs p.latitude.0) p.blanks ≡ true
  unfolding place_in_range
  latitude_near = and_first (in_reach most_latitude (nat_abs p.latitude.0) p.blanks) (in_reach most_longitude (nat_abs p.longitude.0) p.blanks) e

  pub longitude_near : in_reach most_longitude (nat_abs p.longitude.0) p.blanks ≡ true
  unfolding place_in_range
  longitude_near = and_second (in_reach most_latitude (nat_abs p.latitude.0) p.blanks) (in_reach most_longitude (nat_abs p.longitude.0) p.blanks) e

module _ (p : Place) (e : letters_agree p ≡ true) where
  pub latitude_agrees : is_on p.south p.latitude.0 ≡ true
  unfolding letters_agree
  latitude_agrees = and_first (is_on p.south p.latitude.0) (is_on p.west p.longitude.0) e

  pub longitude_agrees : is_on p.west p.longitude.0 ≡ true
  unfolding letters_agree
  longitude_agrees = and_second (is_on p.south p.latitude.0) (is_on p.west p.longitude.0) e
