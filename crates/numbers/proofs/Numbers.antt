-- Numbers as text: they read back as the number, no zero stands in front, and two numbers have two texts.
-- Assumes nothing.
use Rattle.std.specs.Prelude.{Some, Ok}
use Rattle.std.proofs.Common.{◌≡◌, ℕ, zero, suc, ◌+◌, ◌/◌, ◌%◌, ◌<◌, ◌≤◌, Bool, true, false, cond, eqb, ltb, List, [], ◌∷◌, ◌++◌, length, get_or, ℤ, pos, negsuc, neg_ℤ, sym, refl, ap, ◌∙◌, arith, length-append, w32, SFits, ltb-false, ltb-true, ne_eqb, le-leb}
use lib.ListN.{get_or-append}
use Rattle.laws.specs.Bytes.{dash, digit0, digit9, is_digit}
use Rattle.laws.specs.Lists.{every}
use Rattle.laws.proofs.Each.{every_snoc}
use Rattle.laws.proofs.Tests.{within_yes}
use Rattle.numbers.specs.Sign.{signed_of, most_on, number_on}
use Rattle.numbers.specs.Numbers.{number_after, number_of}
use Rattle.numbers.specs.Numbers.{digits_by, digits, decimal, count_of, read_count, on_side, read_number}
use Rattle.numbers.proofs.Counts.{number_append}

-- ---- read back

by_read : (left n : ℕ) → n < left → number_after 0 (digits_by left n) ≡ n
unfolding digits_by number_after
by_read zero n h = absurd (omega arith)
by_read (suc left) n h = go (ltb n 10) refl (λ k. by_read left (n / 10) k)
  where
    go : (t : Bool) → ltb n 10 ≡ t → (n / 10 < left → number_after 0 (digits_by left (n / 10)) ≡ n / 10)
        → number_after 0 (cond t ((digit0 + n) ∷ []) (digits_by left (n / 10) ++ (digit0 + n % 10) ∷ [])) ≡ n
    go true e r = omega arith
    go false e r =
        let g : 10 ≤ n = ltb-false n 10 e in
        let i : number_after 0 (digits_by left (n / 10)) ≡ n / 10 = r (omega arith) in
        number_append 0 (digits_by left (n / 10)) ((digit0 + n % 10) ∷ []) ∙ omega arith

pub digits_read : (n : ℕ) → number_after 0 (digits n) ≡ n
unfolding digits
digits_read n = by_read (suc n) n (omega arith)

-- ---- the first digit

by_first : (left n : ℕ) → n < left → (0 < length (digits_by left n)) × (digit0 ≤ get_or (digits_by left n) 0 0) × (0 < n → digit0 < get_or (digits_by left n) 0 0)
unfolding digits_by
by_first zero n h = absurd (omega arith)
by_first (suc left) n h = go (ltb n 10) refl (λ k. by_first left (n / 10) k)
  where
    go : (t : Bool) → ltb n 10 ≡ t
        → (n / 10 < left → (0 < length (digits_by left (n / 10))) × (digit0 ≤ get_or (digits_by left (n / 10)) 0 0) × (0 < n / 10 → digit0 < get_or (digits_by left (n / 10)) 0 0))
        → (0 < length (cond t ((digit0 + n) ∷ []) (digits_by left (n / 10) ++ (digit0 + n % 10) ∷ [])))
        × (digit0 ≤ get_or (cond t ((digit0 + n) ∷ []) (digits_by left (n / 10) ++ (digit0 + n % 10) ∷ [])) 0 0)
        × (0 < n → digit0 < get_or (cond t ((digit0 + n) ∷ []) (digits_by left (n / 10) ++ (digit0 + n % 10) ∷ [])) 0 0)
    go true e r = (omega arith, omega arith, λ k. omega arith)
    go false e r =
        let g : 10 ≤ n = ltb-false n 10 e in
        let i = r (omega arith) in
        let f : get_or (digits_by left (n / 10) ++ (digit0 + n % 10) ∷ []) 0 0 ≡ get_or (digits_by left (n / 10)) 0 0 = get_or-append (digits_by left (n / 10)) ((digit0 + n % 10) ∷ []) 0 0 i.0 in
        let l = length-append (digits_by left (n / 10)) ((digit0 + n % 10) ∷ []) in
        (omega arith, omega arith, λ k. let p : digit0 < get_or (digits_by left (n / 10)) 0 0 = i.2 (omega arith) in omega arith)

-- no zero in front, but for the number 0 itself
pub no_zero_in_front : (n : ℕ) → 0 < n → digit0 < get_or (digits n) 0 0
unfolding digits
no_zero_in_front n h = (by_first (suc n) n (omega arith)).2 h

-- ---- signed

-- a dash, and the rest of it below zero; else all of it
unfoldable pub number_in : List ℕ → ℤ
number_in [] = pos 0
number_in (d ∷ l) = cond (eqb d dash) (neg_ℤ (pos (number_after 0 l))) (pos (number_after 0 (d ∷ l)))

plain_number : (l : List ℕ) → 0 < length l → digit0 ≤ get_or l 0 0 → number_in l ≡ pos (number_after 0 l)
unfolding number_in
plain_number [] h k = absurd (omega arith)
plain_number (d ∷ l) h k = rw (ne_eqb d dash (λ e. omega arith))

pub decimal_read : (z : ℤ) → number_in (decimal z) ≡ z
unfolding decimal digits number_in
decimal_read (pos n) =
    let f = by_first (suc n) n (omega arith) in
    plain_number (digits n) f.0 f.1 ∙ ap pos (digits_read n)
decimal_read (negsuc n) = ap (λ (k : ℕ). neg_ℤ (pos k)) (digits_read (suc n))

-- two numbers with one text are one
pub decimal_one : (y z : ℤ) → decimal y ≡ decimal z → y ≡ z
decimal_one y z e = sym (decimal_read y) ∙ ap number_in e ∙ decimal_read z

-- ---- read by the library's readers

by_digits : (left n : ℕ) → every is_digit (digits_by left n) ≡ true
unfolding digits_by every
by_digits zero n = refl
by_digits (suc left) n = go (ltb n 10) refl (by_digits left (n / 10))
  where
    go : (t : Bool) → ltb n 10 ≡ t → every is_digit (digits_by left (n / 10)) ≡ true
        → every is_digit (cond t ((digit0 + n) ∷ []) (digits_by left (n / 10) ++ (digit0 + n % 10) ∷ [])) ≡ true
    go true e r = let l : n < 10 = ltb-true n 10 e in rw (within_yes digit0 digit9 (digit0 + n) (omega arith) (omega arith))
    go false e r = every_snoc is_digit (digits_by left (n / 10)) (digit0 + n % 10) r (within_yes digit0 digit9 (digit0 + n % 10) (omega arith) (omega arith))

pub count_back : (n most : ℕ) → n ≤ most → read_count (digits n) most ≡ Ok n
unfolding read_count count_of digits number_of
count_back n most h =
    let f = by_first (suc n) n (omega arith) in
    rw (ne_eqb (length (digits n)) 0 (λ e. omega arith), by_digits (suc n) n, digits_read n, le-leb n most h)

pub number_back : (z : ℤ) → SFits w32 z → read_number (decimal z) ≡ Some z
unfolding read_number on_side decimal digits number_on most_on signed_of
number_back (pos n) f =
    let k = by_first (suc n) n (omega arith) in
    let h : n ≤ 2147483647 = omega (arith, f.sfits) in
    rw (ne_eqb (get_or (digits n) 0 0) dash (λ e. omega arith), count_back n 2147483648 (omega arith), le-leb n 2147483647 h)
number_back (negsuc n) f =
    let h : suc n ≤ 2147483648 = omega (arith, f.sfits) in
    rw (count_back (suc n) 2147483648 h, le-leb (suc n) 2147483648 h)
