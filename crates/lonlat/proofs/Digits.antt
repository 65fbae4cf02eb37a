-- Laws of digit places: the last places as one byte, and the value that digits write.
-- Assumes nothing.
use Rattle.std.proofs.Common.{◌≡◌, ℕ, ◌+◌, ◌-◌, ◌*◌, ◌/◌, ◌%◌, ◌^◌, ◌<◌, ◌≤◌, Bool, true, false, leb, List, [], ◌∷◌, length, take, drop, replicate, sym, refl, ap, ◌∙◌, add-one, arith, length-append, length-drop, take-append-drop, length-take-le, take_at, append-nil, drop_of_length-le, le-leb, leb-false, leb-true}
use native.Mathlib.Nat.{pow-succ', pow-le-pow_right}
use borrow.Author.Tests.{lt-leb}
use borrow.Rule.Slice.PartMut.{put_mid}
use lib.ListN.{length-replicate}
use Rattle.laws.specs.Bytes.{is_digit}
use Rattle.laws.specs.Lists.{every}
use Rattle.laws.proofs.Each.{every_first, every_rest, every_drop}
use Rattle.lonlat.specs.Digits.{last_as, degrees_of, minutes_of, hundredths_of, value_of, is_sixty}
use Rattle.numbers.specs.Numbers.{number_after, number_of}
use Rattle.numbers.proofs.Counts.{a_digit, number_append}

-- ---- the last n as b

module _ (b n : ℕ) (t : List ℕ) (few : n ≤ length t) where
  kept : length (take (length t - n) t) ≡ length t - n
  kept = length-take-le (length t - n) t (omega arith)

  pub last_length : length (last_as b n t) ≡ length t
  unfolding last_as
  last_length = length-append (take (length t - n) t) (replicate n b) ∙ rw (kept, length-replicate n b) (omega arith)

  -- the bytes behind what stays are filled: u is what they are then, m how many
  pub last_filled : (u : List ℕ) (m : ℕ) → u ≡ replicate m b → m ≡ n → put_mid (length t - n) (length t - (length t - n)) t u ≡ last_as b n t
  unfolding last_as
  last_filled u m e f =
      let past : drop (length t - (length t - n)) (drop (length t - n) t) ≡ [] = drop_of_length-le (drop (length t - n) t) (rw (length-drop (length t - n) t) (omega arith)) in
      rw (e, f, past, append-nil (replicate n b))

  pub last_start : take (length t - n) (last_as b n t) ≡ take (length t - n) t
  unfolding last_as
  last_start = take_at (take (length t - n) t) (replicate n b) (length t - n) kept

-- ---- numbers

pub grows : (v i x : ℕ) → v < 10 ^ i → x ≤ 9 → 10 * v + x < 10 ^ (i + 1)
grows v i x h k = rw (add-one i, pow-succ' 10 i) (omega arith)

pub seven : (v i : ℕ) → v < 10 ^ i → i ≤ 7 → v < 10000000
seven v i h k = let l : 10 ^ i ≤ 10 ^ 7 = pow-le-pow_right (omega arith) k in omega arith

-- degrees d, and four digits behind them: what the one number of them all says
record Four (d : ℕ) (t : List ℕ) : Type 0 where
  value : 6000 * d + 100 * number_of (take 2 t) + number_of (drop 2 t) ≡ 6000 * (number_after d t / 10000) + number_after d t % 10000
  minutes : number_of (take 2 t) ≡ number_after d t % 10000 / 100

four : (d : ℕ) (t : List ℕ) → length t ≡ 4 → every is_digit t ≡ true → Four d t
unfolding number_of number_after
four d [] h e = absurd (omega arith)
four d (w ∷ []) h e = absurd (omega arith)
four d (w ∷ x ∷ []) h e = absurd (omega arith)
four d (w ∷ x ∷ y ∷ []) h e = absurd (omega arith)
four d (w ∷ x ∷ y ∷ z ∷ []) h e =
    let e₁ = every_rest is_digit w (x ∷ y ∷ z ∷ []) e in
    let e₂ = every_rest is_digit x (y ∷ z ∷ []) e₁ in
    let e₃ = every_rest is_digit y (z ∷ []) e₂ in
    let dw = a_digit w (every_first is_digit w (x ∷ y ∷ z ∷ []) e) in
    let dx = a_digit x (every_first is_digit x (y ∷ z ∷ []) e₁) in
    let dy = a_digit y (every_first is_digit y (z ∷ []) e₂) in
    let dz = a_digit z (every_first is_digit z [] e₃) in
    record { value = omega arith; minutes = omega arith }
four d (w ∷ x ∷ y ∷ z ∷ q ∷ t) h e = absurd (omega arith)

hundreds : (r : ℕ) → leb 6000 r ≡ leb 60 (r / 100)
hundreds r = go (leb 6000 r) refl
  where
    go : (b : Bool) → leb 6000 r ≡ b → b ≡ leb 60 (r / 100)
    go true e = let h = leb-true 6000 r e in sym (le-leb 60 (r / 100) (omega arith))
    go false e = let h = leb-false 6000 r e in sym (lt-leb 60 (r / 100) (omega arith))

-- value and minutes by way of the one number that all digits write
module _ (t : List ℕ) (four-up : 4 ≤ length t) (digits : every is_digit t ≡ true) where
  behind : Four (degrees_of t) (drop (length t - 4) t)
  behind = four (degrees_of t) (drop (length t - 4) t) (rw (length-drop (length t - 4) t) (omega arith)) (every_drop is_digit (length t - 4) t digits)

  one : number_after (degrees_of t) (drop (length t - 4) t) ≡ number_of t
  unfolding degrees_of number_of
  one = sym (number_append 0 (take (length t - 4) t) (drop (length t - 4) t)) ∙ ap (number_after 0) (take-append-drop (length t - 4) t)

  pub value_number : value_of t ≡ 6000 * (number_of t / 10000) + number_of t % 10000
  unfolding value_of minutes_of hundredths_of
  value_number = behind.value ∙ ap (λ (v : ℕ). 6000 * (v / 10000) + v % 10000) one

  pub sixty_number : is_sixty t ≡ leb 6000 (number_of t % 10000)
  unfolding is_sixty minutes_of
  sixty_number = ap (leb 60) (behind.minutes ∙ ap (λ (v : ℕ). v % 10000 / 100) one) ∙ sym (hundreds (number_of t % 10000))
