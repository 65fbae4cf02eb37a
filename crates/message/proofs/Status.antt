-- The time that a status starts with, or none: what it says of the bytes, and what each answer of the readers must show.
-- Assumes nothing.
use mathlib.Core.Path.{◌≡◌, refl, sym, ap, ◌∙◌}
use mathlib.Core.Logic.{◌⊎◌, inl, inr, ⊎_elim}
use mathlib.Core.Bool.{Bool, true, false, cond, and-true, not-not}
use mathlib.Core.List.{List}
use Prim.Native.Nat.{ℕ, ◌-◌, ◌<◌, ◌≤◌, min}
use native.Mathlib.Omega.{arith}
use lib.Dec.{eqb, leb}
use lib.ListN.{length, take, length-drop}
use lib.Seq.{take_all}
use borrow.Author.Tests.{eq-eqb, ne_eqb, le-leb, lt-leb, leb-true, leb-false}
use Rattle.laws.specs.Bytes.{small_z}
use Rattle.laws.proofs.Tests.{bool_cases}
use Rattle.time.specs.declared.Time.{Time}
use Rattle.time.specs.Time.{no_time, is_time, is_present, time_bytes, read_time, time_text}
use Rattle.time.proofs.Tests.{time_present}
use Rattle.time.proofs.Theorems.{read_is_time, time_is_kept, a_time_seven_bytes}
use Rattle.std.specs.Prelude.{Option, Some, None}
use Rattle.message.specs.Status.{zulu_of, time_before, most_text, text_behind, status_of, read_status, is_status_text}

-- ---- a `z` time in front

pub record Zulu (s : List ℕ) (t : Time) : Type 0 where
  pub is : is_time t ≡ true
  pub letter : eqb t.form small_z ≡ true
  pub kept : time_text t ≡ take time_bytes s
  pub long : time_bytes ≤ length s

-- fewer bytes than are taken are all there are
took : (n : ℕ) (s : List ℕ) → length (take n s) ≡ n → n ≤ length s
took n s e = ⊎_elim (λ q. leb-true n (length s) q) (λ q. let h = leb-false n (length s) q in omega (arith, ap length (take_all n s (omega arith)))) (bool_cases (leb n (length s)))

zulu_read : (s : List ℕ) (q : Option Time) → read_time (take time_bytes s) ≡ q → (zulu_of q ≡ no_time) ⊎ Zulu s (zulu_of q)
unfolding zulu_of
zulu_read s (Some t) e = go (eqb t.form small_z) refl
  where
    is : is_time t ≡ true
    is = read_is_time (take time_bytes s) t e

    kept : time_text t ≡ take time_bytes s
    kept = time_is_kept (take time_bytes s) t e

    go : (b : Bool) → eqb t.form small_z ≡ b → (cond b t no_time ≡ no_time) ⊎ Zulu s (cond b t no_time)
    go true f = inr (record { is = is; letter = f; kept = kept; long = took time_bytes s (sym (ap length kept) ∙ a_time_seven_bytes t is) })
    go false f = inl refl
zulu_read s None e = inl refl

pub none_or_zulu : (s : List ℕ) → (time_before s ≡ no_time) ⊎ Zulu s (time_before s)
unfolding time_before
none_or_zulu s = zulu_read s (read_time (take time_bytes s)) refl

-- ---- the time that the code finds: q is what the first seven bytes read as, or all there are

first_seven : (s : List ℕ) → take (min (length s) 7) s ≡ take 7 s
first_seven s =
    ⊎_elim
    (λ e. let h : 7 ≤ length s = leb-true 7 (length s) e in let q : min (length s) 7 ≡ 7 = omega arith in rw q)
    (λ e. let h : length s < 7 = leb-false 7 (length s) e in take_all (min (length s) 7) s (omega arith) ∙ sym (take_all 7 s (omega arith)))
    (bool_cases (leb 7 (length s)))

module _ (s : List ℕ) (m : ℕ) (few : m ≡ min (length s) 7) (r : Time) where
  at_front : read_time (take m s) ≡ read_time (take 7 s)
  at_front = ap read_time (ap (λ n. take n s) few ∙ first_seven s)

  pub before_refused : None ≡ read_time (take m s) → r ≡ no_time → r ≡ time_before s
  unfolding time_before zulu_of
  before_refused e w = rw (← at_front, ← e) w

  module _ (t : Time) (e : Some t ≡ read_time (take m s)) where
    pub before_other : (t.form ≡ small_z → ⊥) → r ≡ no_time → r ≡ time_before s
    unfolding time_before zulu_of
    before_other n w = rw (← at_front, ← e, ne_eqb t.form small_z n) w

    pub before_zulu : t.form ≡ small_z → r ≡ t → r ≡ time_before s
    unfolding time_before zulu_of
    before_zulu z w = rw (← at_front, ← e, eq-eqb t.form small_z z) w

-- ---- a status read: time and text have 62 bytes at most, with a time as without one

seven_less : (n : ℕ) → 7 ≤ n → leb (n - 7) 55 ≡ leb n 62
seven_less n h = ⊎_elim (λ e. e ∙ sym (le-leb n 62 (let k = leb-true (n - 7) 55 e in omega arith))) (λ e. e ∙ sym (lt-leb n 62 (let k = leb-false (n - 7) 55 e in omega arith))) (bool_cases (leb (n - 7) 55))

module _ (s : List ℕ) (t : Time) where
  none_fits : t ≡ no_time → leb (length (text_behind t s)) (most_text t) ≡ leb (length s) 62
  unfolding text_behind most_text time_text is_present no_time
  none_fits e = rw e

  zulu_fits : Zulu s t → leb (length (text_behind t s)) (most_text t) ≡ leb (length s) 62
  unfolding text_behind most_text
  zulu_fits z = rw (time_present t z.is, a_time_seven_bytes t z.is, length-drop 7 s) (seven_less (length s) z.long)

all_fits : (s : List ℕ) → leb (length (text_behind (time_before s) s)) (most_text (time_before s)) ≡ leb (length s) 62
all_fits s = ⊎_elim (none_fits s (time_before s)) (zulu_fits s (time_before s)) (none_or_zulu s)

pub status_long : (s : List ℕ) → 62 < length s → None ≡ read_status s
unfolding read_status status_of
status_long s h = rw (all_fits s, lt-leb (length s) 62 h)

pub status_read : (s : List ℕ) (t : Time) → length s ≤ 62 → t ≡ time_before s → Some t ≡ read_status s
unfolding read_status status_of
status_read s t h e = rw (all_fits s, le-leb (length s) 62 h, e)

-- ---- the text of a status: u is the time that it starts with

module _ (t : Time) (text : List ℕ) where
  pub timed_text : (t.form ≡ 0 → ⊥) → leb (length text) 55 ≡ is_status_text t text
  unfolding is_status_text most_text is_present
  timed_text n = rw (ne_eqb t.form 0 n) (sym (and-true (leb (length text) 55)))

  module _ (none : t.form ≡ 0) where
    pub text_over : 62 < length text → false ≡ is_status_text t text
    unfolding is_status_text most_text is_present
    text_over h = rw (eq-eqb t.form 0 none, lt-leb (length text) 62 h)

    pub timeless_text : length text ≤ 62 → (u : Time) → u ≡ time_before text → eqb u.form 0 ≡ is_status_text t text
    unfolding is_status_text most_text is_present
    timeless_text h u e = rw (eq-eqb t.form 0 none, le-leb (length text) 62 h, ← e) (sym (not-not (eqb u.form 0)))
