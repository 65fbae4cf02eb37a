-- What it takes for three bytes to read as a speed and course, in plain arithmetic, both ways; and that the bytes as
-- written do.
-- Assumes nothing.
use Rattle.std.proofs.Common.{◌≡◌, ℕ, ◌+◌, ◌-◌, ◌*◌, ◌/◌, ◌%◌, ◌<◌, ◌≤◌, ltb, ◌⊎◌, List, get_or, Some, None, ap, inl, inr, ⊎_elim, arith, ltb-false, ltb-true, le-ltb}
use Rattle.laws.proofs.Tests.{bool_cases, guard}
use Rattle.mic_e.specs.Motion.{most_speed, most_course, knots, degrees, read_motion, tens_of, motion_field}
use Rattle.mic_e.specs.declared.Motion.{Motion}
use Rattle.mic_e.proofs.Turn.{less_if_split}

abbrev pub motion : ℕ → ℕ → Motion
motion speed course = record { speed = record { 0 = speed }; course = record { 0 = course } }

pub record Moves (speed course a b c : ℕ) : Type 0 where
  pub a_from : 28 ≤ a
  pub b_from : 28 ≤ b
  pub c_from : 28 ≤ c
  pub speed_is : knots a b ≡ speed
  pub speed_to : speed ≤ most_speed
  pub course_is : degrees b c ≡ course
  pub course_to : course ≤ most_course

apart : (m : Motion) → None ≡ Some m → ⊥
apart m e = cc

pub reads_moves : (a b c : ℕ) (m : Motion) → read_motion a b c ≡ Some m → Moves m.speed.0 m.course.0 a b c
unfolding read_motion
reads_moves a b c m e =
    let n = apart m in
    let g₁ = guard (ltb a 28) None _ (Some m) n e in
    let g₂ = guard (ltb b 28) None _ (Some m) n g₁.1 in
    let g₃ = guard (ltb c 28) None _ (Some m) n g₂.1 in
    let g₄ = guard (ltb most_speed (knots a b)) None _ (Some m) n g₃.1 in
    let g₅ = guard (ltb most_course (degrees b c)) None _ (Some m) n g₄.1 in
    let s : knots a b ≡ m.speed.0 = same_speed g₅.1 in
    let t : degrees b c ≡ m.course.0 = same_course g₅.1 in
    let hs : knots a b ≤ most_speed = ltb-false _ _ g₄.0 in
    let ht : degrees b c ≤ most_course = ltb-false _ _ g₅.0 in
    record {
      a_from = ltb-false _ _ g₁.0;
      b_from = ltb-false _ _ g₂.0;
      c_from = ltb-false _ _ g₃.0;
      speed_is = s;
      speed_to = omega arith;
      course_is = t;
      course_to = omega arith;
    }
  where
    same : Some (motion (knots a b) (degrees b c)) ≡ Some m → motion (knots a b) (degrees b c) ≡ m
    same q = cc

    same_speed : Some (motion (knots a b) (degrees b c)) ≡ Some m → knots a b ≡ m.speed.0
    same_speed q = ap (λ (x : Motion). x.speed.0) (same q)

    same_course : Some (motion (knots a b) (degrees b c)) ≡ Some m → degrees b c ≡ m.course.0
    same_course q = ap (λ (x : Motion). x.course.0) (same q)

pub moves_reads : (s t a b c : ℕ) → Moves s t a b c → read_motion a b c ≡ Some (motion s t)
unfolding read_motion
moves_reads s t a b c h =
    rw (le-ltb a 28 h.a_from, le-ltb b 28 h.b_from, le-ltb c 28 h.c_from, h.speed_is, h.course_is, le-ltb most_speed s h.speed_to, le-ltb most_course t h.course_to)

-- ---- as written

tens_cases : (s : ℕ) → ((tens_of s ≡ s / 10 + 80) × (s / 10 < 20)) ⊎ ((tens_of s ≡ s / 10) × (20 ≤ s / 10))
unfolding tens_of
tens_cases s =
    ⊎_elim (λ e. inl (rw e, ltb-true _ _ e)) (λ e. inr (rw e, ltb-false _ _ e)) (bool_cases (ltb (s / 10) 20))

pub written_moves : (s t : ℕ) → s ≤ most_speed → t ≤ most_course → Moves s t (get_or (motion_field s t) 0 0) (get_or (motion_field s t) 1 0) (get_or (motion_field s t) 2 0)
unfolding motion_field knots degrees
written_moves s t hs ht =
    let tens : ((tens_of s ≡ s / 10 + 80) × (s / 10 < 20)) ⊎ ((tens_of s ≡ s / 10) × (20 ≤ s / 10)) = tens_cases s in
    let fifth : ℕ = 10 * (s % 10) + t / 100 + 4 + 28 in
    record {
      a_from = omega arith;
      b_from = omega arith;
      c_from = omega arith;
      speed_is =
          ⊎_elim
          (λ e. ⊎_elim (λ q. omega arith) (λ q. omega arith) (less_if_split 800 (10 * (tens_of s + 28 - 28) + (fifth - 28) / 10)))
          (λ e. ⊎_elim (λ q. omega arith) (λ q. omega arith) (less_if_split 800 (10 * (tens_of s + 28 - 28) + (fifth - 28) / 10)))
          tens;
      speed_to = hs;
      course_is = ⊎_elim (λ q. omega arith) (λ q. omega arith) (less_if_split 400 (100 * ((fifth - 28) % 10) + (t % 100 + 28 - 28)));
      course_to = ht;
    }

-- the three are bytes
pub record Bytes (f : List ℕ) : Type 0 where
  pub first_byte : get_or f 0 0 < 256
  pub second_byte : get_or f 1 0 < 256
  pub third_byte : get_or f 2 0 < 256

pub motion_bytes : (s t : ℕ) → s ≤ most_speed → t ≤ most_course → Bytes (motion_field s t)
unfolding motion_field
motion_bytes s t hs ht =
    record {
      first_byte = ⊎_elim (λ e. omega arith) (λ e. omega arith) (tens_cases s);
      second_byte = omega arith;
      third_byte = omega arith;
    }
