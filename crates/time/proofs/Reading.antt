-- What each answer of the reader must show.
-- Assumes nothing.
use Rattle.std.proofs.Common.{◌≡◌, ℕ, Bool, true, false, cond, Option, ◌&&◌, List, [], ◌∷◌, length, get_or, take, sym, refl, ◌∙◌, subst, eq-eqb, ne_eqb, Some, None}
use Rattle.laws.specs.Bytes.{is_digit}
use Rattle.laws.specs.Lists.{every}
use Rattle.laws.proofs.Lists.{elements_all}
use Rattle.numbers.specs.Numbers.{number_of}
use Rattle.time.specs.declared.Time.{Time}
use Rattle.time.specs.Time.{is_time, time_of, time_in, read_time}
use Rattle.time.specs.Private.{pair_of}
use Rattle.std.proofs.lemmas.Option.{none-some, cond_some}

-- ---- two digits

module _ (tens ones : ℕ) (o : Option ℕ) (e : o ≡ pair_of tens ones) where
  pair_some : (v : ℕ) → o ≡ Some v → ((is_digit tens && is_digit ones) ≡ true) × (number_of (tens ∷ ones ∷ []) ≡ v)
  unfolding pair_of
  pair_some v f = cond_some (is_digit tens && is_digit ones) _ v (sym e ∙ f)

  pair_none : o ≡ None → (is_digit tens && is_digit ones) ≡ false
  unfolding pair_of
  pair_none f = go (is_digit tens && is_digit ones) (sym e ∙ f)
    where
      go : (b : Bool) → cond b (Some (number_of (tens ∷ ones ∷ []))) None ≡ None → b ≡ false
      go true g = absurd (none-some _ (sym g))
      go false g = refl

-- ---- three of them

two_by_two : (a b c d e f : Bool) → (a && (b && (c && (d && (e && (f && true)))))) ≡ ((a && b) && ((c && d) && (e && f)))
two_by_two true true true true true true = refl
two_by_two true true true true true false = refl
two_by_two true true true true false f = refl
two_by_two true true true false e f = refl
two_by_two true true false d e f = refl
two_by_two true false c d e f = refl
two_by_two false b c d e f = refl

-- whether all six are digits, two by two
pairs : List ℕ → Bool
pairs s = (is_digit (get_or s 0 0) && is_digit (get_or s 1 0)) && ((is_digit (get_or s 2 0) && is_digit (get_or s 3 0)) && (is_digit (get_or s 4 0) && is_digit (get_or s 5 0)))

-- what seven bytes are, byte by byte
record Seven (s : List ℕ) : Type 0 where
  digits : every is_digit (take 6 s) ≡ pairs s
  time : time_in s
      ≡ time_of (number_of (get_or s 0 0 ∷ get_or s 1 0 ∷ [])) (number_of (get_or s 2 0 ∷ get_or s 3 0 ∷ [])) (number_of (get_or s 4 0 ∷ get_or s 5 0 ∷ [])) (get_or s 6 0)

seven : (a b c d e f g : ℕ) → Seven (a ∷ b ∷ c ∷ d ∷ e ∷ f ∷ g ∷ [])
unfolding time_in every pairs
seven a b c d e f g = record { digits = two_by_two (is_digit a) (is_digit b) (is_digit c) (is_digit d) (is_digit e) (is_digit f); time = refl }

-- ---- the answers

pub time_length : (s : List ℕ) → (length s ≡ 7 → ⊥) → None ≡ read_time s
unfolding read_time
time_length s h = rw (ne_eqb (length s) 7 h)

-- o, p and q are what the code is told of two bytes each
module _ (s : List ℕ) (long : length s ≡ 7) where
  so : Seven s
  so = subst Seven (elements_all 0 s 7 long) (seven (get_or s 0 0) (get_or s 1 0) (get_or s 2 0) (get_or s 3 0) (get_or s 4 0) (get_or s 5 0) (get_or s 6 0))

  no_digits : pairs s ≡ false → None ≡ read_time s
  unfolding read_time
  no_digits e = rw (eq-eqb (length s) 7 long, so.digits, e)

  module _ (o : Option ℕ) (first : o ≡ pair_of (get_or s 0 0) (get_or s 1 0)) where
    pub first_none : o ≡ None → None ≡ read_time s
    unfolding pairs
    first_none e = no_digits (rw (pair_none _ _ o first e))

    module _ (x : ℕ) (f : o ≡ Some x) (p : Option ℕ) (second : p ≡ pair_of (get_or s 2 0) (get_or s 3 0)) where
      pub second_none : p ≡ None → None ≡ read_time s
      unfolding pairs
      second_none e = no_digits (rw ((pair_some _ _ o first x f).0, pair_none _ _ p second e))

      module _ (y : ℕ) (g : p ≡ Some y) (q : Option ℕ) (third : q ≡ pair_of (get_or s 4 0) (get_or s 5 0)) where
        pub third_none : q ≡ None → None ≡ read_time s
        unfolding pairs
        third_none e = no_digits (rw ((pair_some _ _ o first x f).0, (pair_some _ _ p second y g).0, pair_none _ _ q third e))

        -- t is the time of their numbers, and u whether it is one
        module _ (z : ℕ) (h : q ≡ Some z) (t : Time) (made : t ≡ time_of x y z (get_or s 6 0)) (u : Bool) (told : u ≡ is_time t) where
          digits : every is_digit (take 6 s) ≡ true
          unfolding pairs
          digits = so.digits ∙ rw ((pair_some _ _ o first x f).0, (pair_some _ _ p second y g).0, (pair_some _ _ q third z h).0)

          said : time_in s ≡ t
          said = so.time ∙ rw ((pair_some _ _ o first x f).1, (pair_some _ _ p second y g).1, (pair_some _ _ q third z h).1) (sym made)

          pub time_read : u ≡ true → Some t ≡ read_time s
          unfolding read_time
          time_read e = rw (eq-eqb (length s) 7 long, digits, said, ← told, e)

          pub time_none : u ≡ false → None ≡ read_time s
          unfolding read_time
          time_none e = rw (eq-eqb (length s) 7 long, digits, said, ← told, e)
