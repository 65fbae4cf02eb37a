-- Messages by number and by bits: the code's arithmetic gives what the tables of the definition give.
-- Assumes nothing.
use Rattle.std.proofs.Common.{◌≡◌, ℕ, ◌+◌, ◌-◌, ◌*◌, ◌<◌, ◌≤◌, Bool, true, false, cond, eqb, ltb, List, refl, ◌∙◌, arith, le-ltb, lt-ltb, eq-eqb, ne_eqb}
use mir.Val.{bool_byte}
use Rattle.mic_e.specs.declared.Bit.{Bit}
use Rattle.mic_e.specs.declared.Bit.TheVariants.{Zero, Custom, Standard}
use Rattle.mic_e.specs.declared.Message.{Message}
use Rattle.mic_e.specs.declared.Message.TheVariants.{M0, M1, M2, M3, M4, M5, M6, C0, C1, C2, C3, C4, C5, C6, Emergency, Unknown}
use Rattle.mic_e.specs.Message.{is_custom, is_standard, is_one, message_by, message_of, bits, bits_of, message_number, message_at}
use Rattle.mic_e.specs.Private.{three_bits, bit_if_odd, bits_in}

-- ---- by number

pub number_back : (m : Message) → message_at (message_number m) ≡ m
unfolding message_at message_number
number_back M0 = refl
number_back M1 = refl
number_back M2 = refl
number_back M3 = refl
number_back M4 = refl
number_back M5 = refl
number_back M6 = refl
number_back C0 = refl
number_back C1 = refl
number_back C2 = refl
number_back C3 = refl
number_back C4 = refl
number_back C5 = refl
number_back C6 = refl
number_back Emergency = refl
number_back Unknown = refl

-- ---- read

flag_bit_lem : (b : Bool) → bool_byte b ≡ cond b 1 0
flag_bit_lem true = refl
flag_bit_lem false = refl

flag_most : (b : Bool) → bool_byte b ≤ 1
flag_most true = omega arith
flag_most false = omega arith

module _ (x y z : Bool) where
  pub sum_is : 4 * bool_byte x + 2 * bool_byte y + bool_byte z ≡ three_bits x y z
  unfolding three_bits
  sum_is = rw (flag_bit_lem x, flag_bit_lem y, flag_bit_lem z)

pub three_most : (n : ℕ) (x y z : Bool) → n ≡ three_bits x y z → n ≤ 7
three_most n x y z e = omega (arith, flag_most x, flag_most y, flag_most z, sum_is x y z)

pub three_below : (n : ℕ) (x y z : Bool) → n ≡ three_bits x y z → n ≤ 14
three_below n x y z e = let h = three_most n x y z e in omega arith

-- the two numbers of three bits: where the standard ones are, and the custom ones
abbrev by_numbers : ℕ → ℕ → Message
by_numbers s c = cond (eqb s 0) (message_at (14 - c)) (cond (eqb c 0) (message_at (7 - s)) Unknown)

read_by : (x y z : Bit) → by_numbers (three_bits (is_standard x) (is_standard y) (is_standard z)) (three_bits (is_custom x) (is_custom y) (is_custom z)) ≡ message_of x y z
unfolding three_bits is_standard is_custom is_one message_by message_of message_at
read_by Zero Zero Zero = refl
read_by Zero Zero Custom = refl
read_by Zero Zero Standard = refl
read_by Zero Custom Zero = refl
read_by Zero Custom Custom = refl
read_by Zero Custom Standard = refl
read_by Zero Standard Zero = refl
read_by Zero Standard Custom = refl
read_by Zero Standard Standard = refl
read_by Custom Zero Zero = refl
read_by Custom Zero Custom = refl
read_by Custom Zero Standard = refl
read_by Custom Custom Zero = refl
read_by Custom Custom Custom = refl
read_by Custom Custom Standard = refl
read_by Custom Standard Zero = refl
read_by Custom Standard Custom = refl
read_by Custom Standard Standard = refl
read_by Standard Zero Zero = refl
read_by Standard Zero Custom = refl
read_by Standard Zero Standard = refl
read_by Standard Custom Zero = refl
read_by Standard Custom Custom = refl
read_by Standard Custom Standard = refl
read_by Standard Standard Zero = refl
read_by Standard Standard Custom = refl
read_by Standard Standard Standard = refl

module _ (x y z : Bit) (s c : ℕ) (es : s ≡ three_bits (is_standard x) (is_standard y) (is_standard z)) (ec : c ≡ three_bits (is_custom x) (is_custom y) (is_custom z)) where
  read_is : by_numbers s c ≡ message_of x y z
  read_is = rw (es, ec) (read_by x y z)

  pub none_standard : s ≡ 0 → (m : Message) → m ≡ message_at (14 - c) → m ≡ message_of x y z
  none_standard h m e = e ∙ (rw (eq-eqb s 0 h) at read_is)

  pub none_custom : (s ≡ 0 → ⊥) → c ≡ 0 → (m : Message) → m ≡ message_at (7 - s) → m ≡ message_of x y z
  none_custom n h m e = e ∙ (rw (ne_eqb s 0 n, eq-eqb c 0 h) at read_is)

  pub some_of_both : (s ≡ 0 → ⊥) → (c ≡ 0 → ⊥) → Unknown ≡ message_of x y z
  some_of_both n k = rw (ne_eqb s 0 n, ne_eqb c 0 k) at read_is

-- ---- written

written_by : (m : Message)
    → cond (ltb (message_number m) 7) (bits_in Standard (7 - message_number m)) (cond (ltb (message_number m) 15) (bits_in Custom (14 - message_number m)) (bits Standard Custom Standard))
    ≡ bits_of m
unfolding message_number bits_in bit_if_odd bits_of
written_by M0 = refl
written_by M1 = refl
written_by M2 = refl
written_by M3 = refl
written_by M4 = refl
written_by M5 = refl
written_by M6 = refl
written_by C0 = refl
written_by C1 = refl
written_by C2 = refl
written_by C3 = refl
written_by C4 = refl
written_by C5 = refl
written_by C6 = refl
written_by Emergency = refl
written_by Unknown = refl

module _ (m : Message) (n : ℕ) (e : n ≡ message_number m) (r : List Bit) where
  written_is : cond (ltb n 7) (bits_in Standard (7 - n)) (cond (ltb n 15) (bits_in Custom (14 - n)) (bits Standard Custom Standard)) ≡ bits_of m
  written_is = rw e (written_by m)

  pub standard_bits : n < 7 → r ≡ bits_in Standard (7 - n) → r ≡ bits_of m
  standard_bits h q = q ∙ (rw (lt-ltb n 7 h) at written_is)

  pub custom_bits : 7 ≤ n → n < 15 → r ≡ bits_in Custom (14 - n) → r ≡ bits_of m
  custom_bits h k q = q ∙ (rw (le-ltb n 7 h, lt-ltb n 15 k) at written_is)

pub unknown_bits : (m : Message) (n : ℕ) → n ≡ message_number m → 15 ≤ n → bits Standard Custom Standard ≡ bits_of m
unknown_bits m n e h = let k : 7 ≤ n = omega arith in rw (le-ltb n 7 k, le-ltb n 15 h) at (written_is m n e (bits Standard Custom Standard))
