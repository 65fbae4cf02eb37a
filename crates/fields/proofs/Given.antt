-- The lists that document 01 gives: the sixteen fields of 0 knots and course 0, the two of longitude 0 with offset 100
-- east, and none of 45 degrees east with offset 100. And a list of 36 and one of 24, so that no smaller bound holds.
-- Assumes nothing.
use Rattle.std.proofs.Common.{◌≡◌, ℕ, ◌+◌, ◌-◌, ◌*◌, ◌/◌, ◌<◌, ◌≤◌, Bool, true, false, ◌&&◌, ◌||◌, ltb, leb, List, [], ◌∷◌, length, pos, refl, ap, ◌∙◌, ⊎_elim, arith, lt-ltb, le-leb}
use mathlib.Core.Bool.{or-true}
use Rattle.numbers.specs.Sign.{signed_of, is_minus}
use Rattle.numbers.proofs.Sign.{on_own}
use Rattle.mic_e.specs.Turn.{less_if}
use Rattle.mic_e.specs.Motion.{knots, degrees, read_motion}
use Rattle.mic_e.specs.Longitude.{offset_of, wrapped, size_of, read_longitude}
use Rattle.mic_e.proofs.MotionFacts.{Moves}
use Rattle.mic_e.proofs.LongitudeFacts.{Lies}
use Rattle.mic_e.proofs.Turn.{less_if_split}
use Rattle.fields.specs.Each.{Field, each, field}
use Rattle.fields.specs.Lists.{is_motion, is_longitude, same_angle, motion_fields, longitude_fields}
use Rattle.fields.specs.Search.{motion_hits, size_hits, fields_of, third_at}
use Rattle.fields.proofs.Hits.{motion_hit, course_left, course_left_lem, longitude_hit, size_left}
use Rattle.fields.proofs.Sides.{on_side_lem}
use Rattle.fields.proofs.Skip.{skip_row, skipped}

-- ---- motion: first bytes that no speed of s knots has, left out

in_band : ℕ → ℕ → Bool
in_band low v = leb low v && ltb v (low + 23)

may_row : ℕ → ℕ → Bool
may_row s a = in_band (10 * (a - 28)) s || in_band (10 * (a - 28)) (s + 800)

in_band_lem : (low v : ℕ) → low ≤ v → v < low + 23 → in_band low v ≡ true
unfolding in_band
in_band_lem low v h k = rw (le-leb low v h, lt-ltb v (low + 23) k)

may_row_lem : (s t a b c : ℕ) → b < 256 → Moves s t a b c → may_row s a ≡ true
unfolding may_row knots
may_row_lem s t a b c l h =
    ⊎_elim
    (λ q. rw (in_band_lem (10 * (a - 28)) (s + 800) (omega arith) (omega arith), or-true))
    (λ q. rw (in_band_lem (10 * (a - 28)) s (omega arith) (omega arith)))
    (less_if_split 800 (10 * (a - 28) + (b - 28) / 10))

quick : (s t : ℕ) → motion_fields s t ≡ each 256 (skip_row (motion_hits s t) (may_row s) (λ a b. course_left t b))
unfolding motion_fields motion_hits
quick s t =
    skipped (motion_hits s t) (may_row s) (λ a b. course_left t b)
    (λ a b c k l q. may_row_lem s t a b c k (motion_hit s t a b c q))
    (λ a b c l q. course_left_lem s t a b c l (motion_hit s t a b c q))

-- "All fields for 0 knots, course 0, sixteen"
pub sixteen : List Field
sixteen =
    field 28 28 28 ∷ field 28 30 228 ∷ field 28 31 128 ∷ field 28 32 28
    ∷ field 106 228 28 ∷ field 106 230 228 ∷ field 106 231 128 ∷ field 106 232 28
    ∷ field 107 128 28 ∷ field 107 130 228 ∷ field 107 131 128 ∷ field 107 132 28
    ∷ field 108 28 28 ∷ field 108 30 228 ∷ field 108 31 128 ∷ field 108 32 28 ∷ []

pub sixteen_listed : motion_fields 0 0 ≡ sixteen
unfolding sixteen each skip_row fields_of third_at course_left may_row in_band motion_hits is_motion read_motion knots degrees less_if
sixteen_listed = quick 0 0 ∙ refl

-- the bound of 36 is met
pub thirty_six_listed : length (motion_fields 20 200) ≡ 36
unfolding each skip_row fields_of third_at course_left may_row in_band motion_hits is_motion read_motion knots degrees less_if
thirty_six_listed = ap length (quick 20 200) ∙ refl

-- ---- longitude

-- first bytes too far from a size of m, left out
near_row : ℕ → Bool → ℕ → Bool
near_row m hundred a = leb (6000 * wrapped (a - 28 + offset_of hundred)) m && leb m (6000 * wrapped (a - 28 + offset_of hundred) + 16927)

near_row_lem : (m : ℕ) (hundred : Bool) (a b c : ℕ) → b < 256 → c < 256 → Lies m (offset_of hundred) a b c → near_row m hundred a ≡ true
unfolding near_row size_of
near_row_lem m hundred a b c k l h =
    let low : 6000 * wrapped (a - 28 + offset_of hundred) ≤ m = omega arith in
    let high : m ≤ 6000 * wrapped (a - 28 + offset_of hundred) + 16927 = ⊎_elim (λ q. omega arith) (λ q. omega arith) (less_if_split 60 (b - 28)) in
    rw (le-leb _ _ low, le-leb _ _ high)

-- a longitude that lies east
quick_east : (m : ℕ) (hundred : Bool)
    → longitude_fields hundred false (pos m) ≡ each 256 (skip_row (size_hits m hundred) (near_row m hundred) (λ a b. m - size_of (offset_of hundred) a b 28))
unfolding is_minus
quick_east m hundred =
    on_side_lem hundred false (pos m) (on_own (pos m))
    ∙ skipped (size_hits m hundred) (near_row m hundred) (λ a b. m - size_of (offset_of hundred) a b 28)
    (λ a b c k l q. near_row_lem m hundred a b c k l (longitude_hit m hundred a b c q))
    (λ a b c l q. size_left m (offset_of hundred) a b c (longitude_hit m hundred a b c q))

-- "45 degrees east with offset 100: none, count 0"
pub none_listed : longitude_fields true false (pos 270000) ≡ []
unfolding each skip_row fields_of third_at near_row size_hits is_longitude same_angle read_longitude size_of wrapped less_if offset_of signed_of
none_listed = quick_east 270000 true ∙ refl

-- "Longitude 0, offset 100, east: 118,28,28 and 118,88,28."
pub two : List Field
two = field 118 28 28 ∷ field 118 88 28 ∷ []

pub two_listed : longitude_fields true false (pos 0) ≡ two
unfolding two each skip_row fields_of third_at near_row size_hits is_longitude same_angle read_longitude size_of wrapped less_if offset_of signed_of
two_listed = quick_east 0 true ∙ refl

-- the bound of 24 is met
pub twenty_four_listed : length (longitude_fields true false (pos 612200)) ≡ 24
unfolding each skip_row fields_of third_at near_row size_hits is_longitude same_angle read_longitude size_of wrapped less_if offset_of signed_of
twenty_four_listed = ap length (quick_east 612200 true) ∙ refl
