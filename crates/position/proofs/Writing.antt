-- What each answer of the writer must show: the leaves' refusals are the test of the place, and their texts with the symbol's
-- bytes between and behind them are the 19 bytes.
-- Assumes nothing.
use Rattle.std.proofs.Common.{◌≡◌, ℕ, ◌≤◌, Bool, true, false, cond, not, ◌&&◌, ◌||◌, leb, List, [], ◌∷◌, ◌++◌, length, drop, set, replicate, ℤ, nat_abs, sym, refl, ap, ◌∙◌, subst, arith, length-append, length-drop, length-set, length-take-le, le-leb}
use borrow.Rule.Slice.PartMut.{mid_of, put_mid, same_len_mid}
use Rattle.buffer.specs.Wrote.{ends, refused_by, wrote}
use Rattle.buffer.specs.declared.Answer.{Answer}
use Rattle.laws.proofs.Lists.{elements, elements_all}
use Rattle.buffer.proofs.Wrote.{refuses}
use Rattle.buffer.proofs.Answers.{refusal_is, bytes_are}
use Rattle.lonlat.specs.Angle.{most_latitude, most_longitude}
use Rattle.lonlat.specs.Latitude.{latitude_text, latitude_refusal}
use Rattle.lonlat.specs.Longitude.{longitude_text, longitude_refusal}
use Rattle.lonlat.proofs.Texts.{latitude_text_length, longitude_text_length}
use Rattle.position.specs.declared.Place.{Place}
use Rattle.position.specs.Reach.{in_reach}
use Rattle.position.specs.Position.{place_in_range, letters_agree, symbols_in_range, position_fits, position_refusal, position_text}
use Rattle.position.proofs.Reach.{over_under, reach_few}

-- ---- a leaf's refusal is its part of the test

one_out : (x : Bool) → ◌≡◌ {A = ℕ} (cond (not x) 15 0) (cond (x && true) 0 15)
one_out true = refl
one_out false = refl

either_out : (x y : Bool) → ◌≡◌ {A = ℕ} (cond (not x || not y) 15 0) (cond (x && y) 0 15)
either_out true true = refl
either_out true false = refl
either_out false y = refl

pub latitude_judged : (angle : ℤ) (blanks : ℕ) → latitude_refusal angle blanks ≡ cond (in_reach most_latitude (nat_abs angle) blanks) 0 15
unfolding latitude_refusal in_reach
latitude_judged angle blanks = rw (over_under most_latitude (nat_abs angle), over_under 5 blanks) (either_out (leb (nat_abs angle) most_latitude) (leb blanks 5))

pub longitude_judged : (angle : ℤ) (blanks : ℕ) → blanks ≤ 5 → longitude_refusal angle ≡ cond (in_reach most_longitude (nat_abs angle) blanks) 0 15
unfolding longitude_refusal in_reach
longitude_judged angle blanks few =
    rw (over_under most_longitude (nat_abs angle), le-leb blanks 5 few) (one_out (leb (nat_abs angle) most_longitude))

judged_out : (t : Bool) (n : ℕ) → n ≡ cond t 0 15 → (n ≡ 0 → ⊥) → t ≡ false
judged_out true n e h = absurd (h e)
judged_out false n e h = refl

judged_in : (t : Bool) (n : ℕ) → n ≡ cond t 0 15 → n ≡ 0 → t ≡ true
judged_in true n e h = refl
judged_in false n e h = absurd (omega arith)

-- ---- the 19 bytes: a latitude's text in front of 19 zeros, a longitude's from the tenth on, and the symbol's bytes

abbrev zeros : List ℕ
zeros = replicate 19 0

abbrev behind : List ℕ → List ℕ → List ℕ
behind n e = e ++ drop 9 (mid_of 9 10 n)

nineteen : (l m : List ℕ) (table code : ℕ) → length l ≡ 8 → length m ≡ 9
    → set (set (put_mid 9 10 (l ++ drop 8 zeros) (behind (l ++ drop 8 zeros) m)) 8 table) 18 code ≡ l ++ (table ∷ m ++ (code ∷ []))
nineteen l m table code h k =
    subst
    (λ (x : List ℕ). set (set (put_mid 9 10 (x ++ drop 8 zeros) (behind (x ++ drop 8 zeros) m)) 8 table) 18 code ≡ x ++ (table ∷ m ++ (code ∷ [])))
    (elements_all 0 l 8 h)
    (subst
    (λ (y : List ℕ). set (set (put_mid 9 10 (elements 0 l 0 8 ++ drop 8 zeros) (behind (elements 0 l 0 8 ++ drop 8 zeros) y)) 8 table) 18 code ≡ elements 0 l 0 8 ++ (table ∷ y ++ (code ∷ [])))
    (elements_all 0 m 9 k)
    refl)

-- they stay 19, whatever the leaves left
pub still_nineteen : (n e : List ℕ) (table code : ℕ) → length n ≡ 19 → length e ≡ length (mid_of 9 10 n) → 19 ≡ length (set (set (put_mid 9 10 n e) 8 table) 18 code)
still_nineteen n e table code h k = sym (simp length-set (same_len_mid 9 10 n e k ∙ h))

-- ---- answers: a and b are what the leaves answer, n and e what they leave, v the test of the symbol

module _ (p : Place) (r : Answer) (out : List ℕ) (a : Answer) (n : List ℕ)
    (north : ends a n ≡ wrote (latitude_refusal p.latitude.0 p.blanks) (latitude_text p.latitude.0 p.blanks) zeros) where
  north_in : Bool
  north_in = in_reach most_latitude (nat_abs p.latitude.0) p.blanks

  east_in : Bool
  east_in = in_reach most_longitude (nat_abs p.longitude.0) p.blanks

  eight : north_in ≡ true → length (latitude_text p.latitude.0 p.blanks) ≡ 8
  unfolding north_in
  eight t = latitude_text_length p.latitude.0 p.blanks (omega (arith, reach_few most_latitude (nat_abs p.latitude.0) p.blanks t))

  judged : a.refusal ≡ cond north_in 0 15
  unfolding north_in
  judged =
      let j = latitude_judged p.latitude.0 p.blanks in
      refusal_is a n (latitude_text p.latitude.0 p.blanks) zeros (latitude_refusal p.latitude.0 p.blanks) north
      (λ z. omega (arith, eight (judged_in north_in _ j z)))
      ∙ j

  pub latitude_out : (a.refusal ≡ 0 → ⊥) → r ≡ refused_by 15 → ends r out ≡ wrote (position_refusal p) (position_text p) out
  unfolding position_refusal position_fits place_in_range north_in
  latitude_out h f = rw f (refuses 15 _ (position_text p) out (rw (judged_out north_in a.refusal judged h)) (λ q. omega arith))

  module _ (fine : a.refusal ≡ 0) (b : Answer) (e : List ℕ)
      (east : ends b e ≡ wrote (longitude_refusal p.longitude.0) (longitude_text p.longitude.0) (mid_of 9 10 n)) where
    north_fine : north_in ≡ true
    north_fine = judged_in north_in a.refusal judged fine

    n_is : n ≡ latitude_text p.latitude.0 p.blanks ++ drop 8 zeros
    unfolding north_in
    n_is =
        bytes_are a n (latitude_text p.latitude.0 p.blanks) zeros (latitude_refusal p.latitude.0 p.blanks) north
        (latitude_judged p.latitude.0 p.blanks ∙ rw north_fine)
        (omega (arith, eight north_fine))
        ∙ rw (eight north_fine)

    n_long : length n ≡ 19
    n_long = ap length n_is ∙ length-append (latitude_text p.latitude.0 p.blanks) (drop 8 zeros) ∙ rw (eight north_fine)

    rest_long : length (mid_of 9 10 n) ≡ 10
    rest_long = length-take-le 10 (drop 9 n) (omega (arith, length-drop 9 n, n_long))

    nine : length (longitude_text p.longitude.0) ≡ 9
    nine = longitude_text_length p.longitude.0

    longitude_is : longitude_refusal p.longitude.0 ≡ cond east_in 0 15
    unfolding north_in east_in
    longitude_is = longitude_judged p.longitude.0 p.blanks (reach_few most_latitude (nat_abs p.latitude.0) p.blanks north_fine)

    judged_too : b.refusal ≡ cond east_in 0 15
    judged_too =
        refusal_is b e (longitude_text p.longitude.0) (mid_of 9 10 n) (longitude_refusal p.longitude.0) east (λ z. omega (arith, nine, rest_long))
        ∙ longitude_is

    pub longitude_out_lem : (b.refusal ≡ 0 → ⊥) → r ≡ refused_by 15 → ends r out ≡ wrote (position_refusal p) (position_text p) out
    unfolding position_refusal position_fits place_in_range north_in east_in
    longitude_out_lem h f = rw f (refuses 15 _ (position_text p) out (rw (north_fine, judged_out east_in b.refusal judged_too h)) (λ q. omega arith))

    module _ (good : b.refusal ≡ 0) (u : Bool) (g : u ≡ letters_agree p) where
      east_fine : east_in ≡ true
      east_fine = judged_in east_in b.refusal judged_too good

      pub letters_out : u ≡ false → r ≡ refused_by 15 → ends r out ≡ wrote (position_refusal p) (position_text p) out
      unfolding position_refusal position_fits place_in_range north_in east_in
      letters_out h f = rw f (refuses 15 _ (position_text p) out (rw (north_fine, east_fine, ← g, h)) (λ q. omega arith))

      text_is : set (set (put_mid 9 10 n e) 8 p.table) 18 p.code ≡ position_text p
      unfolding position_text east_in
      text_is =
          let k : e ≡ behind n (longitude_text p.longitude.0) =
          bytes_are b e (longitude_text p.longitude.0) (mid_of 9 10 n) (longitude_refusal p.longitude.0) east (longitude_is ∙ rw east_fine) (omega (arith, nine, rest_long)) ∙ rw nine
          in
          rw (k, n_is) (nineteen (latitude_text p.latitude.0 p.blanks) (longitude_text p.longitude.0) p.table p.code (eight north_fine) nine)

      module _ (same : u ≡ true) (v : Bool) (s : v ≡ symbols_in_range p) where
        pub symbols_out : v ≡ false → r ≡ refused_by 15 → ends r out ≡ wrote (position_refusal p) (position_text p) out
        unfolding position_refusal position_fits place_in_range north_in east_in
        symbols_out h f = rw f (refuses 15 _ (position_text p) out (rw (north_fine, east_fine, ← g, same, ← s, h)) (λ q. omega arith))

        pub position_wrote : v ≡ true → (out' : List ℕ) → ends r out' ≡ wrote 0 (set (set (put_mid 9 10 n e) 8 p.table) 18 p.code) out
            → ends r out' ≡ wrote (position_refusal p) (position_text p) out
        unfolding position_refusal position_fits place_in_range north_in east_in
        position_wrote h out' w = rw (north_fine, east_fine, ← g, same, ← s, h) (w ∙ ap (λ (l : List ℕ). wrote 0 l out) text_is)
