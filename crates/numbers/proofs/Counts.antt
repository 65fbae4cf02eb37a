-- Laws of numbers read: one digit more at a time, a number that grows past the most, and a dash before it.
-- Assumes nothing.
use Rattle.std.specs.Prelude.{Ok, Err}
use Rattle.std.proofs.Common.{◌≡◌, ℕ, ◌+◌, ◌-◌, ◌*◌, ◌%◌, ◌^◌, ◌<◌, ◌≤◌, Bool, true, false, cond, eqb, leb, List, [], ◌∷◌, ◌++◌, length, get_or, drop, sym, refl, ◌∙◌, arith, drop_of_length-le, le-leb, leb-true}
use borrow.Author.Tests.{lt-leb}
use Rattle.laws.specs.Bytes.{digit0, digit9, is_digit}
use Rattle.laws.specs.Lists.{every}
use Rattle.laws.proofs.Lists.{next}
use Rattle.laws.proofs.Each.{every_more, every_end, every_at}
use Rattle.laws.proofs.Tests.{within_low, within_high}
use Rattle.laws.proofs.Classes.{in_class, not_in_class, class_place}
use Rattle.numbers.specs.Numbers.{number_after, number_of}
use Rattle.numbers.specs.declared.CountError.TheVariants.{Over, Malformed}
use Rattle.numbers.specs.Numbers.{count_of, read_count}

-- ---- digits alone

-- d is the wrapped difference of a byte b from the digit 0
module _ (b d : ℕ) (wraps : (d + digit0) % 2 ^ 8 ≡ b) where
  pub digit_yes : d ≤ 9 → is_digit b ≡ true
  digit_yes h = in_class digit0 digit9 10 b d wraps (omega arith) (omega arith) (omega arith)

  pub digit_no : 9 < d → d < 2 ^ 8 → is_digit b ≡ false
  digit_no h byte = not_in_class digit0 digit9 10 b d wraps (omega arith) (omega arith) (omega arith) byte

  pub digit_value : d ≤ 9 → d ≡ b - digit0
  digit_value h = class_place digit0 digit9 10 b d wraps (omega arith) (omega arith) (omega arith)

pub a_digit : (b : ℕ) → is_digit b ≡ true → (digit0 ≤ b) × (b ≤ digit9)
a_digit b e = (within_low digit0 digit9 b e, within_high digit0 digit9 b e)

module _ (s : List ℕ) (i : ℕ) (e : every is_digit s ≡ every is_digit (drop i s)) where
  pub digit_more : (d : ℕ) → (d + digit0) % 2 ^ 8 ≡ get_or s i 0 → d ≤ 9 → i < length s → every is_digit s ≡ every is_digit (drop (i + 1) s)
  digit_more d wraps k h = every_more is_digit 0 s i h (digit_yes (get_or s i 0) d wraps k) e

  pub digits_all : length s ≤ i → true ≡ every is_digit s
  digits_all h = sym (every_end is_digit s i h e)

pub digit_at : (s : List ℕ) (i : ℕ) → every is_digit s ≡ true → i < length s → (digit0 ≤ get_or s i 0) × (get_or s i 0 ≤ digit9)
digit_at s i e h = a_digit (get_or s i 0) (every_at is_digit s i 0 e h)

-- ---- their number

pub number_append : (v : ℕ) (s t : List ℕ) → number_after v (s ++ t) ≡ number_after (number_after v s) t
unfolding number_after
number_append v [] t = refl
number_append v (b ∷ s) t = number_append (10 * v + (b - digit0)) s t

-- it only grows
no_less : (v : ℕ) (s : List ℕ) → v ≤ number_after v s
unfolding number_after
no_less v [] = omega arith
no_less v (d ∷ s) = omega (arith, no_less (10 * v + (d - digit0)) s)

-- so far v was read, of i digits
module _ (s : List ℕ) (i v : ℕ) (e : number_of s ≡ number_after v (drop i s)) where
  pub grown_more : i < length s → number_of s ≡ number_after (10 * v + (get_or s i 0 - digit0)) (drop (i + 1) s)
  unfolding number_after
  grown_more h = e ∙ rw (next 0 s i h)

  pub grown_over : (most : ℕ) → i < length s → most < 10 * v + (get_or s i 0 - digit0) → Err Over ≡ count_of s most
  unfolding count_of
  grown_over most h k =
      let m : number_of s ≡ number_after (10 * v + (get_or s i 0 - digit0)) (drop (i + 1) s) = grown_more h in
      rw (lt-leb (number_of s) most (omega (arith, no_less (10 * v + (get_or s i 0 - digit0)) (drop (i + 1) s))))

  pub grown_whole : length s ≤ i → number_of s ≡ v
  unfolding number_after
  grown_whole h = e ∙ rw (drop_of_length-le s h)

  pub grown_all : (most : ℕ) → length s ≤ i → v ≤ most → Ok v ≡ count_of s most
  unfolding count_of
  grown_all most h k = rw (grown_whole h, le-leb v most k)

-- what is read is at most the most
pub count_small : (s : List ℕ) (most n : ℕ) → Ok n ≡ read_count s most → n ≤ most
unfolding read_count count_of
count_small s most n e = go (eqb (length s) 0) (every is_digit s) (leb (number_of s) most) refl e
  where
    go : (p q t : Bool) → leb (number_of s) most ≡ t → Ok n ≡ cond p (Err Malformed) (cond q (cond t (Ok (number_of s)) (Err Over)) (Err Malformed)) → n ≤ most
    go true q t f e = absurd (let z : ◌≡◌ {A = ℕ} 0 1 = cc in omega arith)
    go false true true f e = let m : n ≡ number_of s = cc in omega (arith, leb-true (number_of s) most f)
    go false true false f e = absurd (let z : ◌≡◌ {A = ℕ} 0 1 = cc in omega arith)
    go false false t f e = absurd (let z : ◌≡◌ {A = ℕ} 0 1 = cc in omega arith)
