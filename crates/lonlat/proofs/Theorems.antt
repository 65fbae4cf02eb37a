-- What is read is in range and on the side that was read, what is written reads back, and document 01's P12.
-- Assumes nothing.
use Rattle.std.proofs.Common.{◌≡◌, ℕ, ◌-◌, ◌%◌, ◌≤◌, Bool, true, false, cond, Option, Some, None, Result, Ok, Err, ok_or, ◌&&◌, eqb, ltb, leb, List, [], ◌∷◌, length, get_or, ℤ, pos, nat_abs, sym, refl, ap, ◌∙◌, subst, arith, ltb-false, le-ltb, le-leb, leb-true}
use Rattle.laws.specs.Bytes.{digit0, digit9, point, is_digit, within, capital_n, capital_s, capital_e, capital_w}
use Rattle.laws.specs.Lists.{index_of, every}
use Rattle.std.proofs.lemmas.Option.{none-some, same_Some, cond_some}
use Rattle.laws.proofs.Tests.{and_second, picked, guard, passed}
use Rattle.lonlat.specs.Angle.{most_latitude, most_longitude, width_of, cut_to, cut_angle}
use Rattle.numbers.specs.Sign.{signed_of, is_minus, is_on}
use Rattle.lonlat.specs.declared.AngleRead.{AngleRead}
use Rattle.lonlat.specs.declared.LatitudeRead.{LatitudeRead}
use Rattle.lonlat.specs.declared.LongitudeRead.{LongitudeRead}
use Rattle.lonlat.specs.declared.LongitudeError.{LongitudeError}
use Rattle.lonlat.specs.declared.LongitudeError.TheVariants.{Malformed, OutOfRange}
use Rattle.lonlat.specs.Digits.{last_as, degrees_of, minutes_of, hundredths_of, value_of, is_sixty, fits, angle_in, places_of}
use Rattle.numbers.specs.Numbers.{number_after, number_of}
use Rattle.lonlat.specs.Latitude.{blanks_in, rest_blank, counted_digits, is_north_or_south, latitude_read, latitude_with, latitude_in, latitude_places, read_latitude, blanked_places, north_or_south, latitude_text}
use Rattle.lonlat.specs.Longitude.{is_east_or_west, longitude_read, longitude_with, longitude_in, longitude_places, read_longitude, east_or_west, longitude_text}
use Rattle.numbers.proofs.Sign.{rejoined, size_signed, on_signed, on_one}
use Rattle.lonlat.proofs.Texts.{every_last, places_are, six_places, seven_places, blanked_six, blanked_latitude, latitude_of_text, longitude_of_text}
use Rattle.lonlat.proofs.Cut.{whole_width, latitude_cut, longitude_cut, places_minutes}

-- ---- P12

pub ninety_degrees : read_latitude (digit9 ∷ digit0 ∷ digit0 ∷ digit0 ∷ point ∷ digit0 ∷ digit0 ∷ capital_n ∷ []) ≡ Some (latitude_read (pos 540000) 0 false false)
unfolding read_latitude latitude_in rest_blank blanks_in counted_digits index_of every last_as latitude_with angle_in fits within value_of is_sixty degrees_of minutes_of hundredths_of number_of number_after signed_of
ninety_degrees = refl

pub sixty_minutes : read_latitude (0x38 ∷ digit9 ∷ 0x36 ∷ digit0 ∷ point ∷ digit0 ∷ digit0 ∷ capital_n ∷ []) ≡ Some (latitude_read (pos 540000) 0 false true)
unfolding read_latitude latitude_in rest_blank blanks_in counted_digits index_of every last_as latitude_with angle_in fits within value_of is_sixty degrees_of minutes_of hundredths_of number_of number_after signed_of
sixty_minutes = refl

pub past_ninety : read_latitude (digit9 ∷ digit0 ∷ digit0 ∷ digit0 ∷ point ∷ digit0 ∷ 0x31 ∷ capital_n ∷ []) ≡ None
unfolding read_latitude latitude_in rest_blank blanks_in counted_digits index_of every last_as latitude_with angle_in fits within value_of degrees_of minutes_of hundredths_of number_of number_after signed_of
past_ninety = refl

-- "Zero south or west is plain 0"
pub zero_plain : (minus : Bool) → signed_of minus 0 ≡ pos 0
unfolding signed_of
zero_plain false = refl
zero_plain true = refl

-- ---- what is read is in range

fits_most : (most : ℕ) (t : List ℕ) → fits most t ≡ true → value_of t ≤ most
unfolding fits
fits_most most t p = leb-true (value_of t) most (and_second (every is_digit t) (leb (value_of t) most) p)

-- an angle that was read with a side: near enough, on that side, and a multiple of a width that the digits' value is one of
pub record AngleFound (most : ℕ) (minus : Bool) (width : ℕ) (angle : ℤ) : Type 0 where
  pub near : nat_abs angle ≤ most
  pub side : is_on minus angle ≡ true
  pub whole : nat_abs angle % width ≡ 0

angle_found : (most : ℕ) (minus : Bool) (width : ℕ) (t : List ℕ) (a : AngleRead) → value_of t % width ≡ 0 → angle_in most minus t ≡ Some a → AngleFound most minus width a.angle
unfolding angle_in
angle_found most minus width t a w e =
    let g = cond_some (fits most t) _ a e in
    let size = size_signed minus (value_of t) in
    rw (← g.1) (record { near = rw size (fits_most most t g.0); side = on_signed minus (value_of t); whole = rw size w })

-- what is told of the minutes is what its digits say
angle_told : (most : ℕ) (minus : Bool) (t : List ℕ) (a : AngleRead) → angle_in most minus t ≡ Some a → a.sixty ≡ leb 60 (minutes_of t)
unfolding angle_in is_sixty
angle_told most minus t a e = sym (ap (λ (q : AngleRead). q.sixty) (cond_some (fits most t) _ a e).1)

pub record LatitudeFound (r : LatitudeRead) : Type 0 where
  pub angle : AngleFound most_latitude r.south (width_of r.blanks) r.latitude.0
  pub few : r.blanks ≤ 5

-- a latitude that was read: its letter, and the angle of its digits
record LatitudeIs (s : List ℕ) (r : LatitudeRead) : Type 0 where
  few : blanks_in (latitude_places s) ≤ 5
  digits : AngleRead
  angle : angle_in most_latitude (eqb (get_or s 7 0) capital_s) (counted_digits (latitude_places s)) ≡ Some digits
  said : latitude_read digits.angle (blanks_in (latitude_places s)) (eqb (get_or s 7 0) capital_s) digits.sixty ≡ r

module _ (r : LatitudeRead) where
  latitude_is : (s : List ℕ) → read_latitude s ≡ Some r → LatitudeIs s r
  unfolding read_latitude latitude_in latitude_with
  latitude_is s e =
      let t = latitude_places s in
      let minus = eqb (get_or s 7 0) capital_s in
      let g = passed (eqb (length s) 8 && eqb (get_or s 4 0) point) _ None _ (none-some r) e in
      let k = passed (is_north_or_south (get_or s 7 0) && rest_blank t && leb (blanks_in t) 5) _ None _ (none-some r) g.1 in
      let few = leb-true (blanks_in t) 5 (and_second (is_north_or_south (get_or s 7 0) && rest_blank t) (leb (blanks_in t) 5) k.0) in
      go few (angle_in most_latitude minus (counted_digits t)) refl k.1
    where
      go : blanks_in (latitude_places s) ≤ 5 → (a : Option AngleRead) → angle_in most_latitude (eqb (get_or s 7 0) capital_s) (counted_digits (latitude_places s)) ≡ a
          → latitude_with (blanks_in (latitude_places s)) (eqb (get_or s 7 0) capital_s) a ≡ Some r → LatitudeIs s r
      go few (Some a) f q = record { few = few; digits = a; angle = f; said = same_Some _ r q }
      go few None f q = absurd (none-some r q)

  pub read_latitude_found : (s : List ℕ) → read_latitude s ≡ Some r → LatitudeFound r
  unfolding counted_digits
  read_latitude_found s e =
      let i = latitude_is s e in
      let t = latitude_places s in
      let minus = eqb (get_or s 7 0) capital_s in
      let whole = whole_width (get_or s 0 0 ∷ []) (get_or s 1 0) (get_or s 2 0) (get_or s 3 0) (get_or s 5 0) (get_or s 6 0) (blanks_in t) i.few in
      subst LatitudeFound i.said (record { angle = angle_found most_latitude minus (width_of (blanks_in t)) (counted_digits t) i.digits whole i.angle; few = i.few })

  -- the side that was read is the letter's
  pub latitude_side_is_the_letter's : (s : List ℕ) → read_latitude s ≡ Some r → r.south ≡ eqb (get_or s 7 0) capital_s
  latitude_side_is_the_letter's s e = sym (ap (λ (q : LatitudeRead). q.south) (latitude_is s e).said)

  -- and it is the latitude's own, where that is not 0
  pub latitude_side_is_the_angle's : (s : List ℕ) → read_latitude s ≡ Some r → (r.latitude.0 ≡ pos 0 → ⊥) → r.south ≡ is_minus r.latitude.0
  latitude_side_is_the_angle's s e = on_one r.south r.latitude.0 (read_latitude_found s e).angle.side

  -- minutes of 60 or more are told, blanks as 0 (document 02, R-8: "the two digits with blanks and discarded places as 0")
  pub latitude_minutes_are_the_digits' : (s : List ℕ) → read_latitude s ≡ Some r → r.sixty ≡ leb 60 (minutes_of (counted_digits (latitude_places s)))
  latitude_minutes_are_the_digits' s e =
      let i = latitude_is s e in
      sym (ap (λ (q : LatitudeRead). q.sixty) i.said) ∙ angle_told most_latitude (eqb (get_or s 7 0) capital_s) (counted_digits (latitude_places s)) i.digits i.angle

-- a longitude that was read: its letter, and the angle of its digits
record LongitudeIs (s : List ℕ) (blanks : ℕ) (r : LongitudeRead) : Type 0 where
  few : blanks ≤ 5
  digits : AngleRead
  angle : angle_in most_longitude (eqb (get_or s 8 0) capital_w) (last_as digit0 blanks (longitude_places s)) ≡ Some digits
  said : longitude_read digits.angle (eqb (get_or s 8 0) capital_w) digits.sixty ≡ r

module _ (r : LongitudeRead) where
  not_read : (e : LongitudeError) → ◌≡◌ {A = Result LongitudeRead LongitudeError} (Err e) (Ok r) → ⊥
  not_read e q = grind arith

  longitude_is : (s : List ℕ) (blanks : ℕ) → read_longitude s blanks ≡ Ok r → LongitudeIs s blanks r
  unfolding read_longitude longitude_in longitude_with
  longitude_is s blanks e =
      let g = guard (ltb 5 blanks) (Err OutOfRange) _ _ (not_read OutOfRange) e in
      let k = passed (eqb (length s) 9 && eqb (get_or s 5 0) point) _ (Err Malformed) _ (not_read Malformed) g.1 in
      lettered (ltb-false 5 blanks g.0) (is_east_or_west (get_or s 8 0)) k.1
    where
      go : blanks ≤ 5 → (a : Option AngleRead) → angle_in most_longitude (eqb (get_or s 8 0) capital_w) (last_as digit0 blanks (longitude_places s)) ≡ a
          → ok_or (longitude_with (eqb (get_or s 8 0) capital_w) a) Malformed ≡ Ok r → LongitudeIs s blanks r
      go few (Some a) f q = record { few = few; digits = a; angle = f; said = grind arith }
      go few None f q = absurd (not_read Malformed q)

      lettered : blanks ≤ 5 → (b : Bool)
          → ok_or (cond b (longitude_with (eqb (get_or s 8 0) capital_w) (angle_in most_longitude (eqb (get_or s 8 0) capital_w) (last_as digit0 blanks (longitude_places s)))) None) Malformed ≡ Ok r
          → LongitudeIs s blanks r
      lettered few true q = go few _ refl q
      lettered few false q = absurd (not_read Malformed q)

  pub read_longitude_found : (s : List ℕ) (blanks : ℕ) → read_longitude s blanks ≡ Ok r → AngleFound most_longitude r.west (width_of blanks) r.longitude.0
  read_longitude_found s blanks e =
      let i = longitude_is s blanks e in
      let t = last_as digit0 blanks (longitude_places s) in
      let minus = eqb (get_or s 8 0) capital_w in
      let whole = whole_width (get_or s 0 0 ∷ get_or s 1 0 ∷ []) (get_or s 2 0) (get_or s 3 0) (get_or s 4 0) (get_or s 6 0) (get_or s 7 0) blanks i.few in
      subst (λ (q : LongitudeRead). AngleFound most_longitude q.west (width_of blanks) q.longitude.0) i.said (angle_found most_longitude minus (width_of blanks) t i.digits whole i.angle)

  pub longitude_side_is_the_letter's : (s : List ℕ) (blanks : ℕ) → read_longitude s blanks ≡ Ok r → r.west ≡ eqb (get_or s 8 0) capital_w
  longitude_side_is_the_letter's s blanks e = sym (ap (λ (q : LongitudeRead). q.west) (longitude_is s blanks e).said)

  pub longitude_side_is_the_angle's : (s : List ℕ) (blanks : ℕ) → read_longitude s blanks ≡ Ok r → (r.longitude.0 ≡ pos 0 → ⊥) → r.west ≡ is_minus r.longitude.0
  longitude_side_is_the_angle's s blanks e = on_one r.west r.longitude.0 (read_longitude_found s blanks e).side

  -- the same of a longitude, its last digits as 0
  pub longitude_minutes_are_the_digits' : (s : List ℕ) (blanks : ℕ) → read_longitude s blanks ≡ Ok r → r.sixty ≡ leb 60 (minutes_of (last_as digit0 blanks (longitude_places s)))
  longitude_minutes_are_the_digits' s blanks e =
      let i = longitude_is s blanks e in
      sym (ap (λ (q : LongitudeRead). q.sixty) i.said) ∙ angle_told most_longitude (eqb (get_or s 8 0) capital_w) (last_as digit0 blanks (longitude_places s)) i.digits i.angle

-- ---- document 02, R-8: "minutes give 8, 9 or 11 after the digits and before the size test"

-- an angle that was read, and then its minutes judged
abbrev judged : Option AngleRead → Option AngleRead
judged (Some a) = cond a.sixty None (Some a)
judged None = None

-- is an angle judged in that order
pub minutes_before_size : (most : ℕ) (minus : Bool) (t : List ℕ)
    → judged (angle_in most minus t)
    ≡ cond (every is_digit t) (cond (is_sixty t) None (cond (leb (value_of t) most) (Some (record { angle = signed_of minus (value_of t); sixty = false })) None)) None
unfolding angle_in fits
minutes_before_size most minus t = go (every is_digit t) (leb (value_of t) most) (is_sixty t)
  where
    go : (digits small sixty : Bool)
        → judged (cond (digits && small) (Some (record { angle = signed_of minus (value_of t); sixty = sixty })) None)
        ≡ cond digits (cond sixty None (cond small (Some (record { angle = signed_of minus (value_of t); sixty = false })) None)) None
    go true true true = refl
    go true true false = refl
    go true false true = refl
    go true false false = refl
    go false small sixty = refl

-- up to five blanks are never out of range
pub longitude_few : (s : List ℕ) (blanks : ℕ) → blanks ≤ 5 → read_longitude s blanks ≡ Err OutOfRange → ⊥
unfolding read_longitude
longitude_few s blanks few e = with_digits (eqb (length s) 9 && eqb (get_or s 5 0) point) (longitude_in (last_as digit0 blanks (longitude_places s)) (get_or s 8 0)) (rw (le-ltb 5 blanks few) at e)
  where
    with_digits : (b : Bool) (r : Option LongitudeRead) → cond b (ok_or r Malformed) (Err Malformed) ≡ Err OutOfRange → ⊥
    with_digits true (Some r) e = grind arith
    with_digits true None e = grind arith
    with_digits false r e = grind arith

-- ---- what is written reads back: cut to the width that the blanks leave, and with minutes below 60

places_angle : (most k n size : ℕ) (minus : Bool) → size ≤ most → value_of (last_as digit0 n (places_of k size)) ≡ cut_to n size
    → is_sixty (last_as digit0 n (places_of k size)) ≡ false
    → angle_in most minus (last_as digit0 n (places_of k size)) ≡ Some (record { angle = signed_of minus (cut_to n size); sixty = false })
unfolding angle_in fits cut_to within
places_angle most k n size minus h e m =
    let l : size - size % width_of n ≤ most = omega arith in
    rw (every_last is_digit digit0 n (places_of k size) refl (places_are k size), e, m, le-leb (size - size % width_of n) most l)

cut_multiple : (n size : ℕ) → size % width_of n ≡ 0 → cut_to n size ≡ size
unfolding cut_to
cut_multiple n size h = omega arith

-- the six places of a size and a letter: what Mic-E writes and reads
latitude_back : (size blanks letter : ℕ) → size ≤ most_latitude → blanks ≤ 5 → is_north_or_south letter ≡ true
    → latitude_in (blanked_places blanks size) letter ≡ Some (latitude_read (signed_of (eqb letter capital_s) (cut_to blanks size)) blanks (eqb letter capital_s) false)
unfolding blanked_places latitude_with
latitude_back size blanks letter h few e =
    blanked_latitude (places_of 2 size) (places_are 2 size) blanks (rw (six_places size) (omega arith)) few letter e
    ∙ ap (latitude_with blanks (eqb letter capital_s)) (places_angle most_latitude 2 blanks size (eqb letter capital_s) h (latitude_cut size h blanks few) (places_minutes 1 size blanks few))

module _ (angle : ℤ) where
  north_or_south_lem : is_north_or_south (north_or_south angle) ≡ true
  unfolding north_or_south
  north_or_south_lem = picked (λ letter b. is_north_or_south letter ≡ true) capital_s capital_n refl refl (is_minus angle)

  south_minus : eqb (north_or_south angle) capital_s ≡ is_minus angle
  unfolding north_or_south
  south_minus = picked (λ letter b. eqb letter capital_s ≡ b) capital_s capital_n refl refl (is_minus angle)

  east_or_west_lem : is_east_or_west (east_or_west angle) ≡ true
  unfolding east_or_west
  east_or_west_lem = picked (λ letter b. is_east_or_west letter ≡ true) capital_w capital_e refl refl (is_minus angle)

  west_minus : eqb (east_or_west angle) capital_w ≡ is_minus angle
  unfolding east_or_west
  west_minus = picked (λ letter b. eqb letter capital_w ≡ b) capital_w capital_e refl refl (is_minus angle)

  pub cut_whole : (blanks : ℕ) → nat_abs angle % width_of blanks ≡ 0 → cut_angle blanks angle ≡ angle
  unfolding cut_angle
  cut_whole blanks h = ap (signed_of (is_minus angle)) (cut_multiple blanks (nat_abs angle) h) ∙ rejoined angle

  module _ (blanks : ℕ) (few : blanks ≤ 5) where
    pub latitude_reads_cut : nat_abs angle ≤ most_latitude → read_latitude (latitude_text angle blanks) ≡ Some (latitude_read (cut_angle blanks angle) blanks (is_minus angle) false)
    unfolding latitude_text cut_angle
    latitude_reads_cut h =
        latitude_of_text (blanked_places blanks (nat_abs angle)) (north_or_south angle) (blanked_six blanks (nat_abs angle) (omega arith))
        ∙ latitude_back (nat_abs angle) blanks (north_or_south angle) h few north_or_south_lem
        ∙ rw south_minus

    pub latitude_reads_back : nat_abs angle ≤ most_latitude → nat_abs angle % width_of blanks ≡ 0 → read_latitude (latitude_text angle blanks) ≡ Some (latitude_read angle blanks (is_minus angle) false)
    latitude_reads_back h w = latitude_reads_cut h ∙ ap (λ (z : ℤ). Some (latitude_read z blanks (is_minus angle) false)) (cut_whole blanks w)

    pub longitude_reads_cut : nat_abs angle ≤ most_longitude → read_longitude (longitude_text angle) blanks ≡ Ok (longitude_read (cut_angle blanks angle) (is_minus angle) false)
    unfolding longitude_text cut_angle longitude_in longitude_with
    longitude_reads_cut h =
        longitude_of_text (places_of 3 (nat_abs angle)) (east_or_west angle) (seven_places (nat_abs angle)) blanks few
        ∙ rw (east_or_west_lem, west_minus, places_angle most_longitude 3 blanks (nat_abs angle) (is_minus angle) h (longitude_cut (nat_abs angle) h blanks few) (places_minutes 2 (nat_abs angle) blanks few))

  pub longitude_reads_back : nat_abs angle ≤ most_longitude → read_longitude (longitude_text angle) 0 ≡ Ok (longitude_read angle (is_minus angle) false)
  unfolding width_of
  longitude_reads_back h = longitude_reads_cut 0 (omega arith) h ∙ ap (λ (z : ℤ). Ok (longitude_read z (is_minus angle) false)) (cut_whole 0 (omega arith))
