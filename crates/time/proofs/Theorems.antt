-- What the definitions amount to: a time as written reads back, the seven bytes of a time that was read are those written of it, so
-- zeros are kept, and what was read is in range.
-- Assumes nothing.
use Rattle.std.proofs.Common.{◌≡◌, ℕ, ◌<◌, Bool, true, false, ◌&&◌, eqb, List, [], ◌∷◌, length, get_or, take, sym, refl, ap, ◌∙◌, subst, ⊎_elim, arith, eq-eqb, eqb-true, Some, None}
use mathlib.Core.Bool.{or-true}
use Rattle.laws.specs.Bytes.{is_digit}
use Rattle.laws.specs.Lists.{every}
use Rattle.laws.proofs.Lists.{elements_all}
use Rattle.laws.proofs.Each.{every_at}
use Rattle.laws.proofs.Tests.{and_first, and_second, passed, picked}
use Rattle.numbers.specs.Numbers.{number_of}
use Rattle.time.specs.declared.Time.{Time}
use Rattle.time.specs.Time.{is_clock, no_time, is_no_time, is_time, is_present, time_bytes, time_of, time_in, read_time, seven_bytes, present_text, time_text, time_in_range}
use Rattle.time.proofs.Tests.{Day, Clock, of_two_forms, no_letter, time_present, placed_on_day, placed_by_clock}
use Rattle.time.proofs.Digits.{digits_back, seven_long, seven_digits, seven_say}

-- ---- as written, read back

-- seven bytes that are written read as the time that their numbers make, where that is one
seven_back : (first second third form : ℕ) → first < 100 → second < 100 → third < 100 → (t : Time) → time_of first second third form ≡ t → is_time t ≡ true
    → read_time (seven_bytes first second third form) ≡ Some t
unfolding read_time
seven_back first second third form h k l t e p =
    rw (eq-eqb (length (seven_bytes first second third form)) time_bytes (seven_long first second third form), seven_digits first second third form, seven_say first second third form h k l, e, p)

module _ (t : Time) (is : is_time t ≡ true) where
  day_back : Day t → read_time (present_text t) ≡ Some t
  unfolding present_text
  day_back d =
      rw d.no_clock
      (seven_back t.day t.hour t.minute t.form (omega (arith, d.days)) (omega (arith, d.hours)) (omega (arith, d.minutes)) t
      (placed_on_day t.day t.hour t.minute t.form d.no_clock
      ∙ ap (λ (v : ℕ). record { day = t.day; hour = t.hour; minute = t.minute; second = v; form = t.form }) (sym d.no_second)) is)

  clock_back : Clock t → read_time (present_text t) ≡ Some t
  unfolding present_text
  clock_back c =
      rw c.letter
      (seven_back t.hour t.minute t.second t.form (omega (arith, c.hours)) (omega (arith, c.minutes)) (omega (arith, c.seconds)) t
      (placed_by_clock t.hour t.minute t.second t.form c.letter
      ∙ ap (λ (v : ℕ). record { day = v; hour = t.hour; minute = t.minute; second = t.second; form = t.form }) (sym c.no_day)) is)

  pub time_reads_back : read_time (time_text t) ≡ Some t
  unfolding time_text
  time_reads_back = rw (time_present t is) (⊎_elim day_back clock_back (of_two_forms t is))

-- ---- as read, written again

-- three numbers are written as they stand, in whichever places the letter puts them
module _ (first second third form : ℕ) where
  placed_text : (x : Bool) → is_clock form ≡ x → present_text (time_of first second third form) ≡ seven_bytes first second third form
  unfolding present_text
  placed_text true e = ap present_text (placed_by_clock first second third form e) ∙ rw e
  placed_text false e = ap present_text (placed_on_day first second third form e) ∙ rw e

-- what seven bytes say is written with those bytes
module _ (a b c d e f g : ℕ) (digits : every is_digit (a ∷ b ∷ c ∷ d ∷ e ∷ f ∷ []) ≡ true) where
  digit_of_lem : (i : ℕ) → i < 6 → is_digit (get_or (a ∷ b ∷ c ∷ d ∷ e ∷ f ∷ []) i 0) ≡ true
  digit_of_lem i h = every_at is_digit (a ∷ b ∷ c ∷ d ∷ e ∷ f ∷ []) i 0 digits h

  text_again : present_text (time_in (a ∷ b ∷ c ∷ d ∷ e ∷ f ∷ g ∷ [])) ≡ a ∷ b ∷ c ∷ d ∷ e ∷ f ∷ g ∷ []
  unfolding time_in seven_bytes
  text_again =
      placed_text (number_of (a ∷ b ∷ [])) (number_of (c ∷ d ∷ [])) (number_of (e ∷ f ∷ [])) g (is_clock g) refl
      ∙ rw (digits_back a b (digit_of_lem 0 (omega arith)) (digit_of_lem 1 (omega arith)), digits_back c d (digit_of_lem 2 (omega arith)) (digit_of_lem 3 (omega arith)), digits_back e f (digit_of_lem 4 (omega arith)) (digit_of_lem 5 (omega arith)))

-- the same of any seven bytes
seven_again : (s : List ℕ) → length s ≡ 7 → every is_digit (take 6 s) ≡ true → present_text (time_in s) ≡ s
seven_again s h =
    subst (λ (u : List ℕ). every is_digit (take 6 u) ≡ true → present_text (time_in u) ≡ u) (elements_all 0 s 7 h)
    (text_again (get_or s 0 0) (get_or s 1 0) (get_or s 2 0) (get_or s 3 0) (get_or s 4 0) (get_or s 5 0) (get_or s 6 0))

-- what a time that was read tells of its bytes
record Said (s : List ℕ) (t : Time) : Type 0 where
  long : length s ≡ 7
  digits : every is_digit (take 6 s) ≡ true
  is : is_time (time_in s) ≡ true
  same : time_in s ≡ t

said : (s : List ℕ) (t : Time) → read_time s ≡ Some t → Said s t
unfolding read_time
said s t e =
    let g = passed (eqb (length s) time_bytes && (every is_digit (take 6 s) && is_time (time_in s))) (Some (time_in s)) None (Some t) none e in
    let k = and_second (eqb (length s) time_bytes) _ g.0 in
    record {
      long = eqb-true (length s) time_bytes (and_first (eqb (length s) time_bytes) _ g.0);
      digits = and_first (every is_digit (take 6 s)) _ k;
      is = and_second (every is_digit (take 6 s)) _ k;
      same = inside g.1;
    }
  where
    none : None ≡ Some t → ⊥
    none q = let z : ◌≡◌ {A = ℕ} 0 1 = cc in omega arith

    inside : Some (time_in s) ≡ Some t → time_in s ≡ t
    inside q = cc

module _ (s : List ℕ) (t : Time) (e : read_time s ≡ Some t) where
  -- what was read is a time, and so in range
  pub read_is_time : is_time t ≡ true
  read_is_time = sym (ap is_time (said s t e).same) ∙ (said s t e).is

  pub read_in_range : time_in_range t ≡ true
  unfolding time_in_range
  read_in_range = rw read_is_time (or-true (is_no_time t))

  -- the seven bytes that were read are those that are written: zeros are kept
  pub time_is_kept : time_text t ≡ s
  unfolding time_text
  time_is_kept =
      rw (time_present t read_is_time)
      (sym (ap present_text (said s t e).same) ∙ seven_again s (said s t e).long (said s t e).digits)

-- ---- no time

-- five zeros
pub no_time_is : (t : Time) → is_no_time t ≡ true → t ≡ no_time
unfolding is_no_time no_time
no_time_is t e =
    let f = and_second (eqb t.form 0) _ e in
    let g = and_second (eqb t.day 0) _ f in
    let h = and_second (eqb t.hour 0) _ g in
    let form = eqb-true t.form 0 (and_first (eqb t.form 0) _ e) in
    let day = eqb-true t.day 0 (and_first (eqb t.day 0) _ f) in
    let hour = eqb-true t.hour 0 (and_first (eqb t.hour 0) _ g) in
    let minute = eqb-true t.minute 0 (and_first (eqb t.minute 0) _ h) in
    let second = eqb-true t.second 0 (and_second (eqb t.minute 0) _ h) in
    ap (λ (v : ℕ). record { day = v; hour = t.hour; minute = t.minute; second = t.second; form = t.form }) day
    ∙ ap (λ (v : ℕ). record { day = 0; hour = v; minute = t.minute; second = t.second; form = t.form }) hour
    ∙ ap (λ (v : ℕ). record { day = 0; hour = 0; minute = v; second = t.second; form = t.form }) minute
    ∙ ap (λ (v : ℕ). record { day = 0; hour = 0; minute = 0; second = v; form = t.form }) second
    ∙ ap (λ (v : ℕ). record { day = 0; hour = 0; minute = 0; second = 0; form = v }) form

pub no_time_in_range : time_in_range no_time ≡ true
unfolding time_in_range is_no_time no_time
no_time_in_range = refl

-- ---- how many bytes

pub no_time_no_bytes : (t : Time) → is_no_time t ≡ true → time_text t ≡ []
unfolding time_text
no_time_no_bytes t e = rw (no_letter t e)

-- with a letter there are seven, whatever the numbers are
pub present_seven_bytes : (t : Time) → is_present t ≡ true → length (time_text t) ≡ time_bytes
unfolding time_text present_text
present_seven_bytes t e =
    rw e
    (picked (λ (u : List ℕ) b. length u ≡ time_bytes) (seven_bytes t.hour t.minute t.second t.form) (seven_bytes t.day t.hour t.minute t.form)
    (seven_long t.hour t.minute t.second t.form)
    (seven_long t.day t.hour t.minute t.form)
    (is_clock t.form))

pub a_time_seven_bytes : (t : Time) → is_time t ≡ true → length (time_text t) ≡ time_bytes
a_time_seven_bytes t e = present_seven_bytes t (time_present t e)
