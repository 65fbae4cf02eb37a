-- What it takes for a field to be on a list, in plain arithmetic, both ways; and the third bytes that go with two others.
-- Assumes nothing.
use Rattle.std.proofs.Common.{◌≡◌, ℕ, Option, Some, None, ◌+◌, ◌-◌, ◌*◌, ◌%◌, ◌<◌, ◌≤◌, Bool, true, false, cond, eqb, ltb, leb, ℤ, pos, negsuc, nat_abs, sym, refl, ap, ◌∙◌, subst, ⊎_elim, arith, ltb-false, ltb-true, eq-eqb, eqb-true, leb-false, leb-true}
use mathlib.Core.Bool.{false≢true}
use Rattle.laws.proofs.Tests.{bool_cases, and_both}
use Rattle.numbers.specs.Sign.{signed_of}
use Rattle.mic_e.specs.Motion.{degrees, read_motion}
use Rattle.mic_e.specs.Longitude.{offset_of, size_of, read_longitude}
use Rattle.mic_e.specs.declared.Motion.{Motion}
use Rattle.lonlat.specs.declared.Longitude.{Longitude}
use Rattle.mic_e.proofs.MotionFacts.{motion, Moves, reads_moves}
use Rattle.mic_e.proofs.LongitudeFacts.{Lies, reads_lies, lies_reads}
use Rattle.mic_e.proofs.Turn.{less_if_le, less_if_split}
use Rattle.fields.specs.Each.{cell}
use Rattle.fields.specs.Lists.{is_motion, same_angle, is_longitude}
use Rattle.fields.specs.Search.{motion_hits, size_hits, fields_of, third_at, base_in, base_of}
use Rattle.fields.proofs.Each.{cell_none, cell_one}

-- ---- motion

is_motion_lem : (s t : ℕ) (m : Option Motion) → is_motion s t m ≡ true → m ≡ Some (motion s t)
unfolding is_motion
is_motion_lem s t (Some m) e =
    let q = and_both (eqb m.speed.0 s) (eqb m.course.0 t) e in
    rw (← eqb-true m.speed.0 s q.0, ← eqb-true m.course.0 t q.1)
is_motion_lem s t None e = absurd (false≢true e)

module _ (s t a b c : ℕ) where
  -- the test holds of just the fields that read so
  pub motion_reads : motion_hits s t a b c ≡ true → read_motion a b c ≡ Some (motion s t)
  unfolding motion_hits
  motion_reads e = is_motion_lem s t (read_motion a b c) e

  pub reads_motion : read_motion a b c ≡ Some (motion s t) → motion_hits s t a b c ≡ true
  unfolding motion_hits is_motion
  reads_motion e = rw (e, eq-eqb s s refl, eq-eqb t t refl)

  pub motion_hit : motion_hits s t a b c ≡ true → Moves s t a b c
  motion_hit e = reads_moves a b c _ (motion_reads e)

-- the third byte is what the second leaves to the course, or to the course and 400
unfoldable pub course_left : ℕ → ℕ → ℕ
course_left t b = cond (leb (100 * ((b - 28) % 10)) t) (t - 100 * ((b - 28) % 10)) (t + 400 - 100 * ((b - 28) % 10))

module _ (s t a b c : ℕ) (byte : c < 256) (h : Moves s t a b c) where
  pub course_plain : 100 * ((b - 28) % 10) ≤ t → c ≡ t - 100 * ((b - 28) % 10) + 28
  unfolding degrees
  course_plain k = ⊎_elim (λ u. omega arith) (λ u. omega arith) (less_if_split 400 (100 * ((b - 28) % 10) + (c - 28)))

  pub course_round : t < 100 * ((b - 28) % 10) → c ≡ t + 400 - 100 * ((b - 28) % 10) + 28
  unfolding degrees
  course_round k = ⊎_elim (λ u. omega arith) (λ u. omega arith) (less_if_split 400 (100 * ((b - 28) % 10) + (c - 28)))

  pub course_left_lem : c ≡ course_left t b + 28
  unfolding course_left
  course_left_lem =
      ⊎_elim
      (λ e. rw e (course_plain (leb-true _ _ e)))
      (λ e. rw e (course_round (leb-false _ _ e)))
      (bool_cases (leb (100 * ((b - 28) % 10)) t))

-- ---- longitude

same_angle_lem : (y z : ℤ) → same_angle y z ≡ true → y ≡ z
unfolding same_angle
same_angle_lem (pos a) (pos b) e = ap pos (eqb-true a b e)
same_angle_lem (pos a) (negsuc b) e = absurd (false≢true e)
same_angle_lem (negsuc a) (pos b) e = absurd (false≢true e)
same_angle_lem (negsuc a) (negsuc b) e = ap negsuc (eqb-true a b e)

angle_same : (z : ℤ) → same_angle z z ≡ true
unfolding same_angle
angle_same (pos a) = eq-eqb a a refl
angle_same (negsuc a) = eq-eqb a a refl

pub is_longitude_lem : (z : ℤ) (f : Option Longitude) → is_longitude z f ≡ true → f ≡ Some (record { 0 = z })
unfolding is_longitude
is_longitude_lem z (Some l) e = rw (← same_angle_lem l.0 z e)
is_longitude_lem z None e = absurd (false≢true e)

pub longitude_is : (z : ℤ) (f : Option Longitude) → f ≡ Some (record { 0 = z }) → is_longitude z f ≡ true
unfolding is_longitude
longitude_is z f e = rw e (angle_same z)

module _ (m : ℕ) (hundred : Bool) (a b c : ℕ) where
  pub longitude_hit : size_hits m hundred a b c ≡ true → Lies m (offset_of hundred) a b c
  unfolding size_hits signed_of
  longitude_hit e =
      let h = reads_lies hundred false a b c (record { 0 = pos m }) (is_longitude_lem (pos m) (read_longitude hundred false a b c) e) in
      subst (λ (n : ℕ). Lies n (offset_of hundred) a b c) (sym (ap nat_abs h.1)) h.0

  pub hit_longitude : Lies m (offset_of hundred) a b c → size_hits m hundred a b c ≡ true
  unfolding size_hits signed_of
  hit_longitude h = longitude_is (pos m) (read_longitude hundred false a b c) (lies_reads hundred false a b c m h)

-- the third byte is what the first two leave to the size
pub size_left : (m offset a b c : ℕ) → Lies m offset a b c → c ≡ m - size_of offset a b 28 + 28
unfolding size_of
size_left m offset a b c h = omega arith

-- ---- the size under two bytes

-- a field that lies so has a base under its two bytes, and one under its first alone
module _ (m : ℕ) (hundred : Bool) (a b c : ℕ) (h : Lies m (offset_of hundred) a b c) where
  pub base_two : base_of hundred a b ≡ Some (size_of (offset_of hundred) a b 28)
  unfolding base_of base_in signed_of size_of
  base_two =
      rw (lies_reads hundred false a b 28 (size_of (offset_of hundred) a b 28)
      (record { a_from = h.a_from; b_from = h.b_from; c_from = omega arith; degrees_to = h.degrees_to; size_is = refl; size_to = omega (arith, h.size_is, h.size_to) }))

  pub base_first : base_of hundred a 28 ≡ Some (size_of (offset_of hundred) a 28 28)
  unfolding base_of base_in signed_of size_of
  base_first =
      rw (lies_reads hundred false a 28 28 (size_of (offset_of hundred) a 28 28)
      (record { a_from = h.a_from; b_from = omega arith; c_from = omega arith; degrees_to = h.degrees_to; size_is = refl; size_to = omega (arith, h.size_is, h.size_to, less_if_le 60 (28 - 28)) }))

-- a base, and what two bytes that have it are
pub record Based (hundred : Bool) (a b n : ℕ) : Type 0 where
  pub a_from : 28 ≤ a
  pub b_from : 28 ≤ b
  pub degrees_to : a - 28 + offset_of hundred ≤ 255
  pub base_is : size_of (offset_of hundred) a b 28 ≡ n

based : (hundred : Bool) (a b n : ℕ) (f : Option Longitude) → read_longitude hundred false a b 28 ≡ f → base_in f ≡ Some n → Based hundred a b n
unfolding base_in signed_of
based hundred a b n (Some l) e p =
    let h = reads_lies hundred false a b 28 l e in
    let q : nat_abs l.0 ≡ n = cc in
    record { a_from = h.0.a_from; b_from = h.0.b_from; degrees_to = h.0.degrees_to; base_is = sym (ap nat_abs h.1) ∙ q }
based hundred a b n None e p = cc

pub based_by : (hundred : Bool) (a b n : ℕ) → base_of hundred a b ≡ Some n → Based hundred a b n
unfolding base_of
based_by hundred a b n e = based hundred a b n (read_longitude hundred false a b 28) refl e

-- ---- the third byte

-- where the third byte can only be z more than 28
pub third_at_lem : (test : ℕ → ℕ → ℕ → Bool) (a b z : ℕ) → ((c : ℕ) → c < 256 → test a b c ≡ true → c ≡ z + 28) → fields_of a b (third_at test a b z) ≡ cell test a b
unfolding third_at fields_of
third_at_lem test a b z h = go (ltb 227 z) refl (test a b (z + 28)) refl
  where
    go : (t : Bool) → ltb 227 z ≡ t → (u : Bool) → test a b (z + 28) ≡ u → fields_of a b (cond t None (cond u (Some (z + 28)) None)) ≡ cell test a b
    go true p u q = sym (cell_none test a b (λ c l e. let k : 227 < z = ltb-true 227 z p in omega (arith, h c l e)))
    go false p true q = sym (cell_one test a b (z + 28) (let k : z ≤ 227 = ltb-false 227 z p in omega arith) q h)
    go false p false q = sym (cell_none test a b (λ c l e. false≢true (sym q ∙ ap (test a b) (sym (h c l e)) ∙ e)))
