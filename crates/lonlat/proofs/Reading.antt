-- What each answer of the readers must show, one law an answer.
-- Assumes nothing.
use Rattle.std.proofs.Common.{◌≡◌, ℕ, ◌-◌, ◌<◌, ◌≤◌, Bool, true, false, cond, Option, Some, None, Err, ok_or, ◌||◌, eqb, leb, List, length, get_or, take, drop, ℤ, sym, refl, ap, ◌∙◌, arith, le-ltb, lt-ltb, eq-eqb, ne_eqb, le-leb}
use borrow.Author.Tests.{lt-leb}
use borrow.Author.Rules.{part_to_end}
use Rattle.laws.specs.Bytes.{space, digit0, point, capital_n, capital_s, capital_e, capital_w, is_digit}
use Rattle.laws.specs.Lists.{index_of, every}
use Rattle.laws.proofs.Places.{index_le}
use Rattle.std.proofs.lemmas.Option.{none-some, cond_some}
use Rattle.lonlat.specs.Angle.{most_latitude, most_longitude}
use Rattle.numbers.specs.Sign.{number_on}
use Rattle.numbers.proofs.Sign.{number_told, number_never}
use Rattle.lonlat.specs.declared.Size.{Size}
use Rattle.lonlat.specs.declared.AngleRead.{AngleRead}
use Rattle.lonlat.specs.declared.LatitudeRead.{LatitudeRead}
use Rattle.lonlat.specs.declared.LongitudeRead.{LongitudeRead}
use Rattle.lonlat.specs.declared.LongitudeError.TheVariants.{Malformed, OutOfRange}
use Rattle.lonlat.specs.Digits.{last_as, value_of, is_sixty, size_of, fits, angle_in, side_of}
use Rattle.lonlat.specs.Latitude.{is_blank, blanks_in, rest_blank, kept_of, counted_digits, latitude_read, latitude_with, latitude_in, latitude_places, read_latitude}
use Rattle.lonlat.specs.Longitude.{longitude_read, longitude_with, longitude_in, longitude_places, read_longitude}

-- ---- digits and then blanks

pub kept_yes : (t : List ℕ) (k : ℕ) (b : Bool) → k ≡ index_of space t → b ≡ every is_blank (take (length t - k) (drop k t)) → b ≡ true → Some k ≡ kept_of t
unfolding kept_of rest_blank
kept_yes t k b e f g = rw (← e, ← part_to_end t k, ← f, g)

pub kept_no : (t : List ℕ) (k : ℕ) (b : Bool) → k ≡ index_of space t → b ≡ every is_blank (take (length t - k) (drop k t)) → b ≡ false → None ≡ kept_of t
unfolding kept_of rest_blank
kept_no t k b e f g = rw (← e, ← part_to_end t k, ← f, g)

pub place_within : (t : List ℕ) (k : ℕ) → k ≡ index_of space t → k ≤ length t
place_within t k e = rw e (index_le space t)

-- what was kept tells both: the rest is blank, and where it starts
pub record Blanked (t : List ℕ) (k : ℕ) : Type 0 where
  pub rest : rest_blank t ≡ true
  pub starts : index_of space t ≡ k

kept_some : (t : List ℕ) (k : ℕ) → kept_of t ≡ Some k → Blanked t k
unfolding kept_of
kept_some t k e = let g = cond_some (rest_blank t) (index_of space t) k e in record { rest = g.0; starts = g.1 }

kept_none : (t : List ℕ) → kept_of t ≡ None → rest_blank t ≡ false
unfolding kept_of
kept_none t e = go (rest_blank t) e
  where
    go : (b : Bool) → cond b (Some (index_of space t)) None ≡ None → b ≡ false
    go true f = absurd (none-some (index_of space t) (sym f))
    go false f = refl

pub kept_within : (t : List ℕ) (k : ℕ) (o : Option ℕ) → o ≡ kept_of t → o ≡ Some k → k ≤ length t
kept_within t k o e f = place_within t k (sym (kept_some t k (sym e ∙ f)).starts)

-- ---- the angle of digits

pub record Valued (t : List ℕ) (z : Size) : Type 0 where
  pub digits : every is_digit t ≡ true
  pub value : value_of t ≡ z.hundredths
  pub sixties : is_sixty t ≡ z.sixty

valued : (t : List ℕ) (z : Size) → size_of t ≡ Some z → Valued t z
unfolding size_of
valued t z e =
    let g = cond_some (every is_digit t) (record { hundredths = value_of t; sixty = is_sixty t }) z e in
    record { digits = g.0; value = ap (λ (q : Size). q.hundredths) g.1; sixties = ap (λ (q : Size). q.sixty) g.1 }

not_digits : (t : List ℕ) → size_of t ≡ None → every is_digit t ≡ false
unfolding size_of
not_digits t e = go (every is_digit t) (record { hundredths = value_of t; sixty = is_sixty t }) e
  where
    go : (b : Bool) (z : Size) → cond b (Some z) None ≡ None → b ≡ false
    go true z f = absurd (none-some z (sym f))
    go false z f = refl

module _ (most : ℕ) (minus : Bool) (t : List ℕ) (q : Option Size) (e : q ≡ size_of t) where
  pub angle_none : q ≡ None → None ≡ angle_in most minus t
  unfolding angle_in fits
  angle_none f = rw (not_digits t (sym e ∙ f))

  module _ (z : Size) (f : q ≡ Some z) where
    known : Valued t z
    known = valued t z (sym e ∙ f)

    pub angle_big : most < z.hundredths → None ≡ angle_in most minus t
    unfolding angle_in fits
    angle_big h = rw (known.digits, known.value, lt-leb z.hundredths most h)

    module _ (h : z.hundredths ≤ most) (k : most ≤ most_longitude) (r : Option ℤ) (g : r ≡ number_on minus z.hundredths) where
      pub angle_of : (a a' : ℤ) (sixty : Bool) → r ≡ Some a → a' ≡ a → sixty ≡ z.sixty → Some (record { angle = a'; sixty = sixty }) ≡ angle_in most minus t
      unfolding angle_in fits
      angle_of a a' sixty i j l = rw (known.digits, known.value, known.sixties, le-leb z.hundredths most h, ← number_told minus z.hundredths (omega arith) r g a i, j, l)

      pub angle_never : r ≡ None → None ≡ angle_in most minus t
      angle_never i = absurd (number_never minus z.hundredths (omega arith) r g i)

-- ---- the letter of a side

module _ (plus minus letter : ℕ) where
  -- o is what the code was told
  module _ (o : Option Bool) (told : o ≡ side_of plus minus letter) where
    pub side_none : o ≡ None → (eqb letter plus || eqb letter minus) ≡ false
    unfolding side_of
    side_none e = go (eqb letter plus || eqb letter minus) (sym told ∙ e)
      where
        go : (b : Bool) → cond b (Some (eqb letter minus)) None ≡ None → b ≡ false
        go true f = absurd (none-some (eqb letter minus) (sym f))
        go false f = refl

    pub side_some : (x : Bool) → o ≡ Some x → ((eqb letter plus || eqb letter minus) ≡ true) × (eqb letter minus ≡ x)
    unfolding side_of
    side_some x e = cond_some (eqb letter plus || eqb letter minus) (eqb letter minus) x (sym told ∙ e)

-- ---- with a letter: o is the side that it says, a the angle

module _ (t : List ℕ) (letter : ℕ) where
  module _ (o : Option Bool) (told : o ≡ side_of capital_e capital_w letter) where
    pub longitude_letter : o ≡ None → None ≡ longitude_in t letter
    unfolding longitude_in
    longitude_letter e = rw (side_none capital_e capital_w letter o told e)

    module _ (west : Bool) (e : o ≡ Some west) (a : Option AngleRead) (f : a ≡ angle_in most_longitude west t) where
      said_west : longitude_with west a ≡ longitude_in t letter
      unfolding longitude_in
      said_west = let g = side_some capital_e capital_w letter o told west e in rw (g.0, g.1, f)

      pub longitude_bad : a ≡ None → None ≡ longitude_in t letter
      unfolding longitude_with
      longitude_bad g = sym (ap (longitude_with west) g) ∙ said_west

      pub longitude_found : (z : AngleRead) (angle : ℤ) (sixty : Bool) → a ≡ Some z → angle ≡ z.angle → sixty ≡ z.sixty → Some (longitude_read angle west sixty) ≡ longitude_in t letter
      unfolding longitude_with
      longitude_found z angle sixty g q l =
          ap (λ (y : ℤ). Some (longitude_read y west sixty)) q
          ∙ ap (λ (x : Bool). Some (longitude_read z.angle west x)) l
          ∙ sym (ap (longitude_with west) g) ∙ said_west

  module _ (o : Option Bool) (told : o ≡ side_of capital_n capital_s letter) where
    pub latitude_letter : o ≡ None → None ≡ latitude_in t letter
    unfolding latitude_in
    latitude_letter e = rw (side_none capital_n capital_s letter o told e)

    module _ (south : Bool) (e : o ≡ Some south) (six : length t ≡ 6) (p : Option ℕ) (kept : p ≡ kept_of t) where
      lettered : (eqb letter capital_n || eqb letter capital_s) ≡ true
      lettered = (side_some capital_n capital_s letter o told south e).0

      pub latitude_mixed : p ≡ None → None ≡ latitude_in t letter
      unfolding latitude_in
      latitude_mixed z = rw (lettered, kept_none t (sym kept ∙ z))

      module _ (k : ℕ) (found : p ≡ Some k) where
        blanked : Blanked t k
        blanked = kept_some t k (sym kept ∙ found)

        pub latitude_no_digit : k ≡ 0 → None ≡ latitude_in t letter
        unfolding latitude_in blanks_in
        latitude_no_digit z = rw (lettered, blanked.rest, blanked.starts, six, z)

        module _ (some : k ≡ 0 → ⊥) (s : List ℕ) (last : s ≡ last_as digit0 (6 - k) t) (a : Option AngleRead) (f : a ≡ angle_in most_latitude south s) where
          blanks : blanks_in t ≡ 6 - k
          unfolding blanks_in
          blanks = rw (blanked.starts, six)

          few : leb (blanks_in t) 5 ≡ true
          few = rw blanks (le-leb (6 - k) 5 (omega arith))

          said_south : latitude_with (6 - k) south a ≡ latitude_in t letter
          unfolding latitude_in counted_digits
          said_south = rw (lettered, (side_some capital_n capital_s letter o told south e).1, blanked.rest, few, blanks, f, last)

          pub latitude_bad : a ≡ None → None ≡ latitude_in t letter
          unfolding latitude_with
          latitude_bad g = sym (ap (latitude_with (6 - k) south) g) ∙ said_south

          pub latitude_found : (z : AngleRead) (angle : ℤ) (sixty : Bool) → a ≡ Some z → angle ≡ z.angle → sixty ≡ z.sixty → Some (latitude_read angle (6 - k) south sixty) ≡ latitude_in t letter
          unfolding latitude_with
          latitude_found z angle sixty g q l =
              ap (λ (y : ℤ). Some (latitude_read y (6 - k) south sixty)) q
              ∙ ap (λ (x : Bool). Some (latitude_read z.angle (6 - k) south x)) l
              ∙ sym (ap (latitude_with (6 - k) south) g) ∙ said_south

-- ---- the text: its length, its point, and then its places

pub latitude_length : (s : List ℕ) → (length s ≡ 8 → ⊥) → None ≡ read_latitude s
unfolding read_latitude
latitude_length s h = rw (ne_eqb (length s) 8 h)

module _ (s : List ℕ) (eight : length s ≡ 8) where
  pub latitude_point : (get_or s 4 0 ≡ point → ⊥) → None ≡ read_latitude s
  unfolding read_latitude
  latitude_point h = rw (eq-eqb (length s) 8 eight, ne_eqb (get_or s 4 0) point h)

  pub latitude_whole : get_or s 4 0 ≡ point → (r : Option LatitudeRead) → r ≡ latitude_in (latitude_places s) (get_or s 7 0) → r ≡ read_latitude s
  unfolding read_latitude
  latitude_whole h r e = rw (eq-eqb (length s) 8 eight, eq-eqb (get_or s 4 0) point h) e

module _ (s : List ℕ) (blanks : ℕ) where
  pub longitude_many : 5 < blanks → Err OutOfRange ≡ read_longitude s blanks
  unfolding read_longitude
  longitude_many h = rw (lt-ltb 5 blanks h)

  module _ (few : blanks ≤ 5) where
    pub longitude_length : (length s ≡ 9 → ⊥) → Err Malformed ≡ read_longitude s blanks
    unfolding read_longitude
    longitude_length h = rw (le-ltb 5 blanks few, ne_eqb (length s) 9 h)

    module _ (nine : length s ≡ 9) where
      pub longitude_point : (get_or s 5 0 ≡ point → ⊥) → Err Malformed ≡ read_longitude s blanks
      unfolding read_longitude
      longitude_point h = rw (le-ltb 5 blanks few, eq-eqb (length s) 9 nine, ne_eqb (get_or s 5 0) point h)

      pub longitude_whole : get_or s 5 0 ≡ point → (t : List ℕ) → t ≡ last_as digit0 blanks (longitude_places s)
          → (r : Option LongitudeRead) → r ≡ longitude_in t (get_or s 8 0) → ok_or r Malformed ≡ read_longitude s blanks
      unfolding read_longitude
      longitude_whole h t f r e = rw (le-ltb 5 blanks few, eq-eqb (length s) 9 nine, eq-eqb (get_or s 5 0) point h, ← f, ← e)
