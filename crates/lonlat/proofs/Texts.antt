-- Laws of written texts that callers cite: their places, and what digits and then blanks say.
-- Assumes nothing.
use Rattle.std.proofs.Common.{◌≡◌, ℕ, zero, suc, ◌+◌, ◌-◌, ◌/◌, ◌%◌, ◌<◌, ◌≤◌, Bool, true, false, eqb, ok_or, List, [], ◌∷◌, ◌++◌, length, get_or, take, replicate, ℤ, nat_abs, refl, ap, ◌∙◌, subst, arith, length-take-le, le-ltb, ne_eqb, le-leb}
use lib.Seq.{drop-append_seam}
use Rattle.laws.specs.Bytes.{space, digit0, digit9, point, is_digit, within, capital_s}
use Rattle.laws.specs.Lists.{index_of, every}
use Rattle.laws.proofs.Lists.{elements_all}
use Rattle.laws.proofs.Tests.{within_yes}
use Rattle.laws.proofs.Each.{every_first, every_rest, every_append, every_snoc, every_take, every_replicate, every_at, every_weaker}
use Rattle.lonlat.specs.Angle.{most_latitude}
use Rattle.lonlat.specs.Digits.{last_as, angle_in, places_of, text_of}
use Rattle.numbers.specs.Numbers.{digit_of, digits_of}
use Rattle.numbers.proofs.Counts.{a_digit}
use Rattle.lonlat.specs.Latitude.{is_blank, is_digit_or_blank, blanks_in, rest_blank, counted_digits, is_north_or_south, latitude_with, latitude_in, latitude_places, read_latitude, blanked_places, north_or_south, latitude_text}
use Rattle.lonlat.specs.declared.LongitudeError.TheVariants.{Malformed}
use Rattle.lonlat.specs.Longitude.{longitude_in, read_longitude, east_or_west, longitude_text}
use Rattle.lonlat.proofs.Cut.{up_to_five}
use Rattle.lonlat.proofs.Digits.{last_length, last_start}

-- ---- digits

-- every byte, the last n of them as b
pub every_last : (test : ℕ → Bool) (b n : ℕ) (t : List ℕ) → test b ≡ true → every test t ≡ true → every test (last_as b n t) ≡ true
unfolding last_as
every_last test b n t e f = every_append test (take (length t - n) t) (replicate n b) (every_take test (length t - n) t f) (every_replicate test b e n)

digit_is : (v : ℕ) → is_digit (digit_of v) ≡ true
unfolding digit_of
digit_is v = within_yes digit0 digit9 (digit0 + v % 10) (omega arith) (omega arith)

digits_are : (k v : ℕ) → every is_digit (digits_of k v) ≡ true
unfolding digits_of every
digits_are zero v = refl
digits_are (suc k) v = every_snoc is_digit (digits_of k (v / 10)) (digit_of v) (digits_are k (v / 10)) (digit_is v)

pub places_are : (k size : ℕ) → every is_digit (places_of k size) ≡ true
unfolding places_of
places_are k size =
    every_append is_digit (digits_of k (size / 6000) ++ digits_of 2 (size / 100 % 60)) (digits_of 2 (size % 100))
    (every_append is_digit (digits_of k (size / 6000)) (digits_of 2 (size / 100 % 60)) (digits_are k (size / 6000)) (digits_are 2 (size / 100 % 60)))
    (digits_are 2 (size % 100))

pub six_places : (size : ℕ) → length (places_of 2 size) ≡ 6
unfolding places_of digits_of
six_places size = refl

pub seven_places : (size : ℕ) → length (places_of 3 size) ≡ 7
unfolding places_of digits_of
seven_places size = refl

-- ---- digits, and then blanks

no_blank : (b : ℕ) → is_digit b ≡ true → eqb b space ≡ false
no_blank b e = let d = a_digit b e in ne_eqb b space (λ q. omega arith)

first_blank : (t : List ℕ) (n : ℕ) → every is_digit t ≡ true → index_of space (t ++ replicate n space) ≡ length t
unfolding index_of
first_blank [] zero e = refl
first_blank [] (suc n) e = refl
first_blank (b ∷ t) n e = rw (no_blank b (every_first is_digit b t e)) (ap suc (first_blank t n (every_rest is_digit b t e)))

module _ (t : List ℕ) (digits : every is_digit t ≡ true) (n : ℕ) (some : n ≤ length t) where
  kept : List ℕ
  kept = take (length t - n) t

  kept_length : length kept ≡ length t - n
  unfolding kept
  kept_length = length-take-le (length t - n) t (omega arith)

  starts : index_of space (last_as space n t) ≡ length kept
  unfolding last_as kept
  starts = first_blank kept n (every_take is_digit (length t - n) t digits)

  blanked_count : blanks_in (last_as space n t) ≡ n
  unfolding blanks_in
  blanked_count = rw (starts, last_length space n t some, kept_length) (omega arith)

  blanked_rest : rest_blank (last_as space n t) ≡ true
  unfolding rest_blank last_as kept
  blanked_rest = rw (starts, drop-append_seam kept (replicate n space)) (every_replicate is_blank space refl n)

  blanked_counted : counted_digits (last_as space n t) ≡ last_as digit0 n t
  unfolding counted_digits last_as
  blanked_counted = rw (blanked_count, last_length space n t some) (ap (λ (u : List ℕ). u ++ replicate n digit0) (last_start space n t some))

  -- what six such places and a letter say
  pub blanked_latitude : n ≤ 5 → (letter : ℕ) → is_north_or_south letter ≡ true
      → latitude_in (last_as space n t) letter ≡ latitude_with n (eqb letter capital_s) (angle_in most_latitude (eqb letter capital_s) (last_as digit0 n t))
  unfolding latitude_in
  blanked_latitude few letter e = rw (e, blanked_rest, blanked_count, le-leb n 5 few, blanked_counted)

-- ---- texts: the places and the letter again, and what the whole reads as

module _ (t : List ℕ) (letter : ℕ) where
  module _ (six : length t ≡ 6) where
    six_length : length (text_of t letter) ≡ 8
    unfolding text_of
    six_length = subst (λ (u : List ℕ). length (text_of u letter) ≡ 8) (elements_all 0 t 6 six) refl

    six_again : latitude_places (text_of t letter) ≡ t
    unfolding text_of
    six_again = subst (λ (u : List ℕ). latitude_places (text_of u letter) ≡ u) (elements_all 0 t 6 six) refl

    six_letter : get_or (text_of t letter) 7 0 ≡ letter
    unfolding text_of
    six_letter = subst (λ (u : List ℕ). get_or (text_of u letter) 7 0 ≡ letter) (elements_all 0 t 6 six) refl

    pub latitude_of_text : read_latitude (text_of t letter) ≡ latitude_in t letter
    unfolding read_latitude text_of
    latitude_of_text = subst (λ (u : List ℕ). read_latitude (text_of u letter) ≡ latitude_in u letter) (elements_all 0 t 6 six) refl

  module _ (seven : length t ≡ 7) where
    seven_length : length (text_of t letter) ≡ 9
    unfolding text_of
    seven_length = subst (λ (u : List ℕ). length (text_of u letter) ≡ 9) (elements_all 0 t 7 seven) refl

    pub longitude_of_text : (blanks : ℕ) → blanks ≤ 5 → read_longitude (text_of t letter) blanks ≡ ok_or (longitude_in (last_as digit0 blanks t) letter) Malformed
    unfolding read_longitude text_of
    longitude_of_text blanks few =
        subst (λ (u : List ℕ). read_longitude (text_of u letter) blanks ≡ ok_or (longitude_in (last_as digit0 blanks u) letter) Malformed) (elements_all 0 t 7 seven) (rw (le-ltb 5 blanks few))

-- the eight bytes that Mic-E makes
pub latitude_of_eight : (a b c d e f letter : ℕ) → read_latitude (a ∷ b ∷ c ∷ d ∷ point ∷ e ∷ f ∷ letter ∷ []) ≡ latitude_in (a ∷ b ∷ c ∷ d ∷ e ∷ f ∷ []) letter
unfolding read_latitude
latitude_of_eight a b c d e f letter = refl

module _ (blanks size : ℕ) where
  -- each of the six places written is a digit or a blank
  blanked_each : every is_digit_or_blank (blanked_places blanks size) ≡ true
  unfolding blanked_places within
  blanked_each = every_last is_digit_or_blank space blanks (places_of 2 size) refl (every_weaker is_digit is_digit_or_blank (λ b e. rw e) (places_of 2 size) (places_are 2 size))

  module _ (few : blanks ≤ 6) where
    pub blanked_six : length (blanked_places blanks size) ≡ 6
    unfolding blanked_places
    blanked_six = last_length space blanks (places_of 2 size) (rw (six_places size) few) ∙ six_places size

    pub blanked_at : (i : ℕ) → i < 6 → is_digit_or_blank (get_or (blanked_places blanks size) i 0) ≡ true
    blanked_at i h = every_at is_digit_or_blank (blanked_places blanks size) i 0 blanked_each (rw blanked_six h)

module _ (angle : ℤ) (blanks : ℕ) (few : blanks ≤ 6) where
  pub latitude_text_length : length (latitude_text angle blanks) ≡ 8
  unfolding latitude_text
  latitude_text_length = six_length (blanked_places blanks (nat_abs angle)) (north_or_south angle) (blanked_six blanks (nat_abs angle) few)

  pub latitude_text_places : latitude_places (latitude_text angle blanks) ≡ blanked_places blanks (nat_abs angle)
  unfolding latitude_text
  latitude_text_places = six_again (blanked_places blanks (nat_abs angle)) (north_or_south angle) (blanked_six blanks (nat_abs angle) few)

  pub latitude_text_letter : get_or (latitude_text angle blanks) 7 0 ≡ north_or_south angle
  unfolding latitude_text
  latitude_text_letter = six_letter (blanked_places blanks (nat_abs angle)) (north_or_south angle) (blanked_six blanks (nat_abs angle) few)

-- up to five blanks leave the first byte a digit
pub latitude_text_first : (angle : ℤ) (blanks : ℕ) → blanks ≤ 5 → is_digit (get_or (latitude_text angle blanks) 0 0) ≡ true
unfolding latitude_text text_of blanked_places last_as places_of digits_of
latitude_text_first angle =
    let d = digit_is (nat_abs angle / 6000 / 10) in
    up_to_five (λ n. is_digit (get_or (latitude_text angle n) 0 0) ≡ true) d d d d d d

pub longitude_text_length : (angle : ℤ) → length (longitude_text angle) ≡ 9
unfolding longitude_text
longitude_text_length angle = seven_length (places_of 3 (nat_abs angle)) (east_or_west angle) (seven_places (nat_abs angle))
