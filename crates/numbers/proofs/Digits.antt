-- Laws of digits: one more at a time, and how many there are.
-- Assumes nothing.
use Rattle.std.proofs.Common.{◌≡◌, ℕ, zero, suc, ◌+◌, ◌-◌, ◌/◌, ◌%◌, ◌^◌, ◌<◌, ◌≤◌, Bool, true, false, cond, ltb, List, [], ◌∷◌, ◌++◌, length, take, drop, set, ℤ, pos, negsuc, nat_abs, sym, refl, ap, ◌∙◌, ap₂, append-nil, div-lt_iff_lt-mul, pow-suc, arith, length-append, length-drop, length-set, drop_of_length-le, take_all, drop-cons, get_or-set_same, drop-set-lt, w32, SFits, ltb-false, ltb-true, le-ltb, lt-ltb}
use mathlib.Core.Bool.{false≢true}
use lib.Seq.{append_snoc}
use Rattle.laws.specs.Bytes.{dash, digit0}
use Rattle.numbers.specs.declared.Sides.{Sides}
use Rattle.numbers.specs.Sign.{is_minus, sides_of}
use Rattle.numbers.specs.Numbers.{digits_by, digits, decimal}
use Rattle.buffer.specs.Filled.{filled, added}
use Rattle.buffer.proofs.Filled.{same_piece}

-- as many as there are, or more: the same digits
by_enough : (a b n : ℕ) → n < a → n < b → digits_by a n ≡ digits_by b n
unfolding digits_by
by_enough zero b n h k = absurd (omega arith)
by_enough (suc a) zero n h k = absurd (omega arith)
by_enough (suc a) (suc b) n h k = go (ltb n 10) refl (λ p q. by_enough a b (n / 10) p q)
  where
    go : (t : Bool) → ltb n 10 ≡ t → (n / 10 < a → n / 10 < b → digits_by a (n / 10) ≡ digits_by b (n / 10))
        → cond t ((digit0 + n) ∷ []) (digits_by a (n / 10) ++ (digit0 + n % 10) ∷ [])
        ≡ cond t ((digit0 + n) ∷ []) (digits_by b (n / 10) ++ (digit0 + n % 10) ∷ [])
    go true e r = refl
    go false e r =
        let g : 10 ≤ n = ltb-false n 10 e in
        ap (λ (l : List ℕ). l ++ (digit0 + n % 10) ∷ []) (r (omega arith) (omega arith))

-- the one digit of a number below ten
pub digits_one : (n : ℕ) → n < 10 → digits n ≡ (digit0 + n) ∷ []
unfolding digits digits_by
digits_one n h = rw (lt-ltb n 10 h)

-- the digits of the tenth, and the last one
pub digits_more : (n : ℕ) → 10 ≤ n → digits n ≡ digits (n / 10) ++ (digit0 + n % 10) ∷ []
unfolding digits digits_by
digits_more n h = rw (le-ltb n 10 h) (ap (λ (l : List ℕ). l ++ (digit0 + n % 10) ∷ []) (by_enough n (suc (n / 10)) (n / 10) (omega arith) (omega arith)))

-- ---- a buffer filled from its end: the digits of `rest` are still to come

stored : (text : List ℕ) (i d : ℕ) → i < length text → drop i (set text i d) ≡ d ∷ drop (suc i) text
stored text i d h =
    drop-cons (set text i d) i 0 (rw length-set h)
    ∙ ap₂ (λ (x : ℕ) (l : List ℕ). x ∷ l) (get_or-set_same text i d 0 h) (drop-set-lt (suc i) text i d (omega arith))

pub record Spelt (n : ℕ) (text : List ℕ) (at rest : ℕ) : Type 0 where
  pub room : 0 < at
  pub whole : length text ≡ 20
  pub short : at ≤ 20
  pub below : rest < 10 ^ at
  pub so : digits n ≡ digits rest ++ drop at text

pub spelt_none : (n : ℕ) (text : List ℕ) → n < 2 ^ 64 → length text ≡ 20 → Spelt n text 20 n
spelt_none n text h e = record { room = omega arith; whole = e; short = omega arith; below = omega arith; so = sym (rw (drop_of_length-le text {i = 20} (omega arith)) (append-nil (digits n))) }

-- two digits or more want two places or more
tens : (rest at : ℕ) → 10 ≤ rest → rest < 10 ^ at → 1 < at
tens rest zero h k = absurd (omega arith)
tens rest (suc zero) h k = absurd (omega arith)
tens rest (suc (suc at)) h k = omega arith

tenth_below : (rest at : ℕ) → rest < 10 ^ suc at → rest / 10 < 10 ^ at
tenth_below rest at h = (div-lt_iff_lt-mul {k = 10} {x = rest} {y = 10 ^ at} (omega arith)).1 (rw (← pow-suc) h)

pub spelt_more : (n : ℕ) (text : List ℕ) (at rest : ℕ) → 10 ≤ rest → Spelt n text at rest → Spelt n (set text (at - 1) (digit0 + rest % 10)) (at - 1) (rest / 10)
spelt_more n text zero rest h q = absurd (let r = q.room in omega arith)
spelt_more n text (suc at) rest h q =
    let e : suc at - 1 ≡ at = omega arith in
    let d : ℕ = digit0 + rest % 10 in
    rw e
    (record {
      room = omega (arith, tens rest (suc at) h q.below);
      whole = length-set text at d ∙ q.whole;
      short = omega arith;
      below = tenth_below rest at q.below;
      so = q.so ∙ ap (λ (l : List ℕ). l ++ drop (suc at) text) (digits_more rest h) ∙ append_snoc (digits (rest / 10)) d (drop (suc at) text)
          ∙ ap (λ (l : List ℕ). digits (rest / 10) ++ l) (sym (stored text at d (omega arith)));
    })

pub spelt_all : (n : ℕ) (text : List ℕ) (at rest : ℕ) → rest < 10 → Spelt n text at rest → drop (at - 1) (set text (at - 1) (digit0 + rest)) ≡ digits n
spelt_all n text zero rest h q = absurd (let r = q.room in omega arith)
spelt_all n text (suc at) rest h q =
    let e : suc at - 1 ≡ at = omega arith in
    rw e (stored text at (digit0 + rest) (omega arith) ∙ sym (q.so ∙ ap (λ (l : List ℕ). l ++ drop (suc at) text) (digits_one rest h)))

-- ---- what is put of the buffer

-- the part from the place on is the digits
part_spelt : (text : List ℕ) (at n : ℕ) → length text ≡ 20 → drop at text ≡ digits n → take (20 - at) (drop at text) ≡ digits n
part_spelt text at n e d = take_all (20 - at) (drop at text) (omega (arith, length-drop at text)) ∙ d

pub count_put : (text out out' : List ℕ) (from at n r : ℕ) → length text ≡ 20 → drop from text ≡ digits n
    → filled out' r ≡ added (filled out at) (take (20 - from) (drop from text))
    → filled out' r ≡ added (filled out at) (digits n)
count_put text out out' from at n r e d w = same_piece (filled out at) (filled out' r) (take (20 - from) (drop from text)) (digits n) (part_spelt text from n e d) w

decimal_plus : (z : ℤ) → is_minus z ≡ false → decimal z ≡ digits (nat_abs z)
unfolding decimal is_minus
decimal_plus (pos n) e = refl
decimal_plus (negsuc n) e = absurd (false≢true (sym e))

decimal_minus : (z : ℤ) → is_minus z ≡ true → decimal z ≡ dash ∷ digits (nat_abs z)
unfolding decimal is_minus
decimal_minus (pos n) e = absurd (false≢true e)
decimal_minus (negsuc n) e = refl

-- y is z as the machine hands it on
module _ (text out out' : List ℕ) (from at r : ℕ) (y z : ℤ) (sides : Sides) (are : sides ≡ sides_of y) (same : y ≡ z) (e : length text ≡ 20) (d : drop from text ≡ digits sides.size) where
  sized : digits sides.size ≡ digits (nat_abs z)
  unfolding sides_of
  sized = ap (λ (x : Sides). digits x.size) are ∙ ap (λ (x : ℤ). digits (nat_abs x)) same

  sided : sides.minus ≡ is_minus z
  unfolding sides_of
  sided = ap (λ (x : Sides). x.minus) are ∙ ap is_minus same

  pub plus_put : sides.minus ≡ false → filled out' r ≡ added (filled out at) (take (20 - from) (drop from text)) → filled out' r ≡ added (filled out at) (decimal z)
  plus_put m w = same_piece (filled out at) (filled out' r) (digits sides.size) (decimal z) (sized ∙ sym (decimal_plus z (sym sided ∙ m))) (count_put text out out' from at sides.size r e d w)

  -- the dash goes before the digits, which leave room for it
  pub minus_put : 9 < from → from < 20 → sides.minus ≡ true
      → filled out' r ≡ added (filled out at) (take (20 - (from - 1)) (drop (from - 1) (set text (from - 1) dash)))
      → filled out' r ≡ added (filled out at) (decimal z)
  minus_put h k m w =
      let s : suc (from - 1) ≡ from = omega arith in
      let t : List ℕ = set text (from - 1) dash in
      let p : drop (from - 1) t ≡ decimal z = stored text (from - 1) dash (omega arith) ∙ ap (λ (j : ℕ). dash ∷ drop j text) s ∙ ap (λ (l : List ℕ). dash ∷ l) (d ∙ sized) ∙ sym (decimal_minus z (sym sided ∙ m)) in
      same_piece (filled out at) (filled out' r) (take (20 - (from - 1)) (drop (from - 1) t)) (decimal z)
      (take_all (20 - (from - 1)) (drop (from - 1) t) (omega (arith, length-drop (from - 1) t, length-set text (from - 1) dash)) ∙ p) w

-- ---- how many there are

pub digits_width : (k n : ℕ) → n < 10 ^ suc k → length (digits n) ≤ suc k
digits_width zero n h = omega (arith, ap length (digits_one n h))
digits_width (suc k) n h = go (ltb n 10) refl (digits_width k (n / 10) (tenth_below n (suc k) h))
  where
    go : (t : Bool) → ltb n 10 ≡ t → length (digits (n / 10)) ≤ suc k → length (digits n) ≤ suc (suc k)
    go true e i = omega (arith, ap length (digits_one n (ltb-true n 10 e)))
    go false e i =
        let m = ap length (digits_more n (ltb-false n 10 e)) in
        let l = length-append (digits (n / 10)) ((digit0 + n % 10) ∷ []) in
        omega arith

pub count_width : (n : ℕ) → n < 2 ^ 64 → length (digits n) ≤ 20
count_width n h = digits_width 19 n (omega arith)

pub number_width : (z : ℤ) → SFits w32 z → length (decimal z) ≤ 11
unfolding decimal
number_width (pos n) f =
    let d : length (digits n) ≤ 10 = digits_width 9 n (omega (arith, f.sfits)) in
    omega arith
number_width (negsuc n) f =
    let d : length (digits (suc n)) ≤ 10 = digits_width 9 (suc n) (omega (arith, f.sfits)) in
    omega arith

-- the digits of a size leave room before them
pub size_short : (text : List ℕ) (from n : ℕ) → length text ≡ 20 → n < 2 ^ 32 → drop from text ≡ digits n → 9 < from
size_short text from n e h d = omega (arith, length-drop from text, ap length d, digits_width 9 n (omega arith))
