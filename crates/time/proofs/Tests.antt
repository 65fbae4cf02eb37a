-- What the letter and the ranges say, for the tests of the code and for the proofs behind them.
-- Assumes nothing.
use Rattle.std.proofs.Common.{◌≡◌, ℕ, ◌≤◌, Bool, true, false, cond, ◌&&◌, eqb, leb, ◌⊎◌, refl, inl, inr, ⊎_elim, arith, ne_eqb, eqb-true, leb-true}
use Rattle.laws.specs.Bytes.{slash, small_h, small_z, within}
use Rattle.laws.proofs.Tests.{and_first, and_second, or_either, within_high}
use Rattle.time.specs.declared.Time.{Time}
use Rattle.time.specs.Time.{is_day, is_clock, in_day, is_day_time, is_clock_time, is_time, is_no_time, is_present, time_of}

-- ---- the letter

pub day_no_clock : (form : ℕ) → is_day form ≡ true → is_clock form ≡ false
unfolding is_day
day_no_clock form e =
    ⊎_elim
    (λ z. let q = eqb-true form small_z z in ne_eqb form small_h (λ h. omega arith))
    (λ l. let q = eqb-true form slash l in ne_eqb form small_h (λ h. omega arith))
    (or_either (eqb form small_z) (eqb form slash) e)

day_present : (form : ℕ) → is_day form ≡ true → form ≡ 0 → ⊥
unfolding is_day
day_present form e n =
    ⊎_elim
    (λ z. let q = eqb-true form small_z z in omega arith)
    (λ l. let q = eqb-true form slash l in omega arith)
    (or_either (eqb form small_z) (eqb form slash) e)

-- ---- a time, by its letter: each number in its range, and none that the letter lacks

pub record Day (t : Time) : Type 0 where
  pub letter : is_day t.form ≡ true
  pub no_clock : is_clock t.form ≡ false
  pub days : t.day ≤ 31
  pub hours : t.hour ≤ 23
  pub minutes : t.minute ≤ 59
  pub no_second : t.second ≡ 0

pub record Clock (t : Time) : Type 0 where
  pub letter : is_clock t.form ≡ true
  pub no_day : t.day ≡ 0
  pub hours : t.hour ≤ 23
  pub minutes : t.minute ≤ 59
  pub seconds : t.second ≤ 59

day_time : (t : Time) → is_day t.form ≡ true → is_day_time t ≡ true → Day t
unfolding is_day_time in_day
day_time t l e =
    let f = and_second (within 1 31 t.day) (in_day t && eqb t.second 0) e in
    let g = and_first (in_day t) (eqb t.second 0) f in
    record {
      letter = l;
      no_clock = day_no_clock t.form l;
      days = within_high 1 31 t.day (and_first (within 1 31 t.day) _ e);
      hours = leb-true t.hour 23 (and_first (leb t.hour 23) _ g);
      minutes = leb-true t.minute 59 (and_second (leb t.hour 23) _ g);
      no_second = eqb-true t.second 0 (and_second (in_day t) _ f);
    }

clock_time : (t : Time) → is_clock t.form ≡ true → is_clock_time t ≡ true → Clock t
unfolding is_clock_time in_day
clock_time t l e =
    let f = and_second (eqb t.day 0) (in_day t && leb t.second 59) e in
    let g = and_first (in_day t) (leb t.second 59) f in
    record {
      letter = l;
      no_day = eqb-true t.day 0 (and_first (eqb t.day 0) _ e);
      hours = leb-true t.hour 23 (and_first (leb t.hour 23) _ g);
      minutes = leb-true t.minute 59 (and_second (leb t.hour 23) _ g);
      seconds = leb-true t.second 59 (and_second (in_day t) _ f);
    }

pub of_two_forms : (t : Time) → is_time t ≡ true → Day t ⊎ Clock t
unfolding is_time
of_two_forms t e = go (is_day t.form) refl e
  where
    go : (b : Bool) → is_day t.form ≡ b → cond b (is_day_time t) (is_clock t.form && is_clock_time t) ≡ true → Day t ⊎ Clock t
    go true l f = inl (day_time t l f)
    go false l f = inr (clock_time t (and_first (is_clock t.form) (is_clock_time t) f) (and_second (is_clock t.form) (is_clock_time t) f))

pub no_letter : (t : Time) → is_no_time t ≡ true → is_present t ≡ false
unfolding is_no_time is_present
no_letter t e = rw (and_first (eqb t.form 0) _ e)

pub time_present : (t : Time) → is_time t ≡ true → is_present t ≡ true
unfolding is_present
time_present t e =
    ⊎_elim
    (λ d. rw (ne_eqb t.form 0 (day_present t.form d.letter)))
    (λ c. let q = eqb-true t.form small_h c.letter in rw (ne_eqb t.form 0 (λ n. omega arith)))
    (of_two_forms t e)

-- ---- three numbers in the places that the letter gives them

abbrev on_day : ℕ → ℕ → ℕ → ℕ → Time
on_day first second third form = record { day = first; hour = second; minute = third; second = 0; form = form }

abbrev by_clock : ℕ → ℕ → ℕ → ℕ → Time
by_clock first second third form = record { day = 0; hour = first; minute = second; second = third; form = form }

module _ (first second third form : ℕ) where
  pub placed_on_day : is_clock form ≡ false → time_of first second third form ≡ on_day first second third form
  unfolding time_of
  placed_on_day e = rw e

  pub placed_by_clock : is_clock form ≡ true → time_of first second third form ≡ by_clock first second third form
  unfolding time_of
  placed_by_clock e = rw e
