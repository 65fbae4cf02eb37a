-- No list of motions holds more than 36 fields: the first byte is one of six, and each leaves six second bytes.
-- Assumes nothing.
use Rattle.std.proofs.Common.{◌≡◌, ℕ, ◌+◌, ◌-◌, ◌*◌, ◌/◌, ◌%◌, ◌<◌, ◌≤◌, Bool, cond, leb, List, ◌++◌, length, ⊎_elim, arith, leb-false, leb-true}
use mathlib.Core.List.Memᴰ
use mathlib.Core.List.{Memᴰ}
use Rattle.laws.proofs.Tests.{bool_cases}
use Rattle.mic_e.specs.Motion.{knots, degrees}
use Rattle.mic_e.proofs.MotionFacts.{Moves}
use Rattle.mic_e.proofs.Turn.{less_if_split}
use Rattle.fields.specs.Each.{cell, row, all_fields}
use Rattle.fields.specs.Search.{motion_hits}
use Rattle.fields.proofs.Count.{near, near_mem, cell_few, row_few, fields_few}
use Rattle.fields.proofs.Hits.{motion_hit, course_left, course_left_lem}

module _ (s t : ℕ) where
  hit : ℕ → ℕ → ℕ → Bool
  hit = motion_hits s t

  motion_cell : (a b : ℕ) → length (cell hit a b) ≤ 1
  unfolding hit
  motion_cell a b = cell_few (motion_hits s t) a b (course_left t b) (λ c l q. course_left_lem s t a b c l (motion_hit s t a b c q))

  turns : ℕ → List ℕ
  turns base = near base (t / 100) ++ near base ((t + 400) / 100)

  -- past a base the second byte has six values
  turn : (base a b c : ℕ) → c < 256 → Moves s t a b c → b ≡ base + (b - 28) % 10 → Memᴰ b (turns base)
  unfolding turns degrees
  turn base a b c l h e =
      ⊎_elim
      (λ q. Memᴰ.append_right (near base (t / 100)) (near_mem base b ((b - 28) % 10) ((t + 400) / 100) e (omega arith) (omega arith)))
      (λ q. Memᴰ.append_left (near base ((t + 400) / 100)) (near_mem base b ((b - 28) % 10) (t / 100) e (omega arith) (omega arith)))
      (less_if_split 400 (100 * ((b - 28) % 10) + (c - 28)))

  base_of_lem : ℕ → ℕ
  base_of_lem a = cond (leb (10 * (a - 28)) s) (28 + 10 * (s - 10 * (a - 28))) (28 + 10 * (s + 800 - 10 * (a - 28)))

  -- the first byte leaves one base
  based : (a b c : ℕ) → b < 256 → Moves s t a b c → b ≡ base_of_lem a + (b - 28) % 10
  unfolding base_of_lem knots
  based a b c k h =
      ⊎_elim
      (λ p. let l : 10 * (a - 28) ≤ s = leb-true _ _ p in rw p (⊎_elim (λ q. omega arith) (λ q. omega arith) (less_if_split 800 (10 * (a - 28) + (b - 28) / 10))))
      (λ p. let l : s < 10 * (a - 28) = leb-false _ _ p in rw p (⊎_elim (λ q. omega arith) (λ q. omega arith) (less_if_split 800 (10 * (a - 28) + (b - 28) / 10))))
      (bool_cases (leb (10 * (a - 28)) s))

  motion_row : (a : ℕ) → length (row hit a) ≤ 6
  unfolding hit turns near
  motion_row a =
      row_few (motion_hits s t) a (turns (base_of_lem a)) (motion_cell a)
      (λ b c k l q. let h = motion_hit s t a b c q in turn (base_of_lem a) a b c l h (based a b c k h))

  firsts : List ℕ
  firsts = near 28 (s / 10) ++ near 28 ((s + 800) / 10)

  first : (a b c : ℕ) → b < 256 → Moves s t a b c → Memᴰ a firsts
  unfolding firsts knots
  first a b c l h =
      ⊎_elim
      (λ q. Memᴰ.append_right (near 28 (s / 10)) (near_mem 28 a (a - 28) ((s + 800) / 10) (omega arith) (omega arith) (omega arith)))
      (λ q. Memᴰ.append_left (near 28 ((s + 800) / 10)) (near_mem 28 a (a - 28) (s / 10) (omega arith) (omega arith) (omega arith)))
      (less_if_split 800 (10 * (a - 28) + (b - 28) / 10))

  pub motion_few : length (all_fields (motion_hits s t)) ≤ 36
  unfolding hit firsts near
  motion_few =
      fields_few (motion_hits s t) firsts 6 motion_row (λ a b c k l q. first a b c k (motion_hit s t a b c q))
