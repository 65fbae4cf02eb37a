-- A character is ASCII; and as written it says the digit or blank and the bit or flag that it was written for.
-- Assumes nothing.
use Rattle.std.proofs.Common.{◌≡◌, ℕ, ◌<◌, ◌≤◌, Bool, true, false, cond, not, ◌&&◌, ◌||◌, T, eqb, ltb, refl, ◌∙◌, ⊎_elim, arith, eqb→eq, lt-ltb, eqb-true}
use mathlib.Core.Bool.{beq, false≢true}
use Rattle.laws.specs.Bytes.{space, digit0, digit9, capital_a, capital_k, capital_l, capital_p, capital_z, within, is_digit}
use Rattle.laws.proofs.Every.{all, all_at, and_left, and_right, beq_eq}
use Rattle.laws.proofs.Tests.{and_first, or_either, within_high}
use Rattle.lonlat.specs.Latitude.{is_digit_or_blank}
use Rattle.mic_e.specs.Character.{is_character, is_last, is_flagged, digit_of, bit_of, character_of, flag_bit}
use Rattle.mic_e.specs.Message.{is_custom, is_standard}
use Rattle.mic_e.specs.declared.Bit.{Bit}
use Rattle.mic_e.specs.declared.Bit.TheVariants.{Zero, Custom, Standard}

-- ---- ASCII

character_low : (c : ℕ) → is_character c ≡ true → c < 0x80
unfolding is_character
character_low c e = go (is_digit c) (within capital_a capital_l c) (within capital_p capital_z c) refl refl refl e
  where
    go : (p q r : Bool) → is_digit c ≡ p → within capital_a capital_l c ≡ q → within capital_p capital_z c ≡ r → (p || (q || r)) ≡ true → c < 0x80
    go true q r f g h t = omega (arith, within_high digit0 digit9 c f)
    go false true r f g h t = omega (arith, within_high capital_a capital_l c g)
    go false false true f g h t = omega (arith, within_high capital_p capital_z c h)
    go false false false f g h t = absurd (false≢true t)

pub character_ascii : (c : ℕ) → is_character c ≡ true → ltb c 0x80 ≡ true
character_ascii c e = lt-ltb c 0x80 (character_low c e)

pub last_ascii : (c : ℕ) → is_last c ≡ true → ltb c 0x80 ≡ true
unfolding is_last
last_ascii c e = character_ascii c (and_first (is_character c) (not (within capital_a capital_k c)) e)

-- ---- as written

-- a test of a bit and a byte that holds of each bit with each digit and with the blank, as antt computes it at each
by_computing : (p : Bit → ℕ → Bool) → T (all 58 (λ d. not (is_digit_or_blank d) || (p Zero d && p Custom d && p Standard d)))
    → (x : Bit) (d : ℕ) → is_digit_or_blank d ≡ true → T (p x d)
by_computing p t x d h = at x (rw h at (all_at 58 (λ (k : ℕ). not (is_digit_or_blank k) || (p Zero k && p Custom k && p Standard k)) t d below))
  where
    below : d < 58
    below =
        ⊎_elim
        (λ e. let k : d ≤ digit9 = within_high digit0 digit9 d e in omega arith)
        (λ e. let k : d ≡ space = eqb-true d space e in omega arith)
        (or_either (is_digit d) (eqb d space) h)

    at : (x : Bit) → T (p Zero d && p Custom d && p Standard d) → T (p x d)
    at Zero t = and_left (p Zero d) (p Custom d) (and_left (p Zero d && p Custom d) (p Standard d) t)
    at Custom t = and_right (p Zero d) (p Custom d) (and_left (p Zero d && p Custom d) (p Standard d) t)
    at Standard t = and_right (p Zero d && p Custom d) (p Standard d) t

pub record Carries (x : Bit) (d : ℕ) : Type 0 where
  pub stands : is_character (character_of x d) ≡ true
  pub shown : digit_of (character_of x d) ≡ d
  pub custom : within capital_a capital_k (character_of x d) ≡ is_custom x
  pub standard : is_flagged (character_of x d) ≡ is_standard x

pub carries : (x : Bit) (d : ℕ) → is_digit_or_blank d ≡ true → Carries x d
unfolding is_character digit_of character_of is_custom is_standard within
carries x d h =
    record {
      stands = beq_eq _ true (by_computing (λ y k. beq (is_character (character_of y k)) true) tt x d h);
      shown = eqb→eq _ d (by_computing (λ y k. eqb (digit_of (character_of y k)) k) tt x d h);
      custom = beq_eq _ (is_custom x) (by_computing (λ y k. beq (within capital_a capital_k (character_of y k)) (is_custom y)) tt x d h);
      standard = beq_eq _ (is_standard x) (by_computing (λ y k. beq (is_flagged (character_of y k)) (is_standard y)) tt x d h);
    }

-- the bit, from the two classes that tell it
pub bit_back : (x : Bit) (d : ℕ) → Carries x d → bit_of (character_of x d) ≡ x
unfolding bit_of is_custom is_standard
bit_back x d h = rw (h.custom, h.standard) (go x)
  where
    go : (x : Bit) → cond (is_custom x) Custom (cond (is_standard x) Standard Zero) ≡ x
    go Zero = refl
    go Custom = refl
    go Standard = refl

module _ (flag : Bool) (d : ℕ) (h : Carries (flag_bit flag) d) where
  pub flag_last : is_last (character_of (flag_bit flag) d) ≡ true
  unfolding is_last is_custom flag_bit
  flag_last = rw (h.stands, h.custom) (go flag)
    where
      go : (f : Bool) → not (is_custom (flag_bit f)) ≡ true
      go true = refl
      go false = refl

  pub flag_back : is_flagged (character_of (flag_bit flag) d) ≡ flag
  unfolding is_standard flag_bit
  flag_back = h.standard ∙ go flag
    where
      go : (f : Bool) → is_standard (flag_bit f) ≡ f
      go true = refl
      go false = refl
