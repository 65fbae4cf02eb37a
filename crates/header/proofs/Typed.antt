-- The stars as typed, as a number: bit j is the star of hop j, and a callsign is heard exactly where a bit from its own on is set.
-- Assumes nothing.
use mathlib.Core.Path.{◌≡◌, refl, sym, ap, ◌∙◌}
use mathlib.Core.Bool.{Bool, true, false, ◌&&◌, ◌||◌, false≢true}
use mathlib.Core.List.{List, [], ◌∷◌}
use Prim.Native.Nat.{ℕ, zero, suc, ◌+◌, ◌*◌, ◌/◌, ◌%◌, ◌^◌, ◌<◌, ◌≤◌}
use native.Mathlib.Nat.{not-suc-le-zero, le_of_suc-le-suc, two-pow-succ, pow-succ', zero-div, div-one, div-div-eq-div-mul}
use native.Mathlib.Omega.{arith}
use lib.Dec.{eqb}
use borrow.Author.Tests.{eq-eqb, ne_eqb}
use lib.ListN.{length, drop, get_or}
use Rattle.laws.specs.Lists.{any_of}
use Rattle.laws.proofs.Tests.{and_second}
use Rattle.callsign.specs.Packed.{bit}
use Rattle.header.specs.declared.Hop.{Hop}
use Rattle.header.specs.Hop.{heard_as, call_hop, is_heard, is_q_element, is_call, any_heard}
use Rattle.header.specs.Header.{blank_hop}
use Rattle.header.specs.Text.{stars_of, carried}
use Rattle.header.proofs.Hops.{if_q, if_heard}

-- ---- the number

pub stars_below : (l : List Hop) → stars_of l < 2 ^ length l
unfolding stars_of bit
stars_below [] = omega arith
stars_below (h ∷ l) = go (is_heard h) (stars_below l) (two-pow-succ (length l))
  where
    go : (b : Bool) → stars_of l < 2 ^ length l → 2 ^ suc (length l) ≡ 2 ^ length l + 2 ^ length l → bit b + 2 * stars_of l < 2 ^ suc (length l)
    go true e p = omega arith
    go false e p = omega arith

-- ---- its bits

-- bit j of a number
abbrev pub is_set : ℕ → ℕ → Bool
is_set n j = eqb (n / 2 ^ j % 2) 1

-- the lowest bit, and the number of the others
pub lowest : (b : Bool) (n : ℕ) → eqb ((bit b + 2 * n) % 2) 1 ≡ b
unfolding bit
lowest true n = eq-eqb ((1 + 2 * n) % 2) 1 (omega arith)
lowest false n = ne_eqb ((0 + 2 * n) % 2) 1 (λ z. omega arith)

pub others : (b : Bool) (n : ℕ) → (bit b + 2 * n) / 2 ≡ n
unfolding bit
others true n = omega arith
others false n = omega arith

-- bit j is set exactly where hop j is starred
pub star_bit : (l : List Hop) (j : ℕ) → is_set (stars_of l) j ≡ is_heard (get_or l j blank_hop)
unfolding stars_of blank_hop is_heard call_hop heard_as
star_bit [] j = rw (zero-div (2 ^ j))
star_bit (h ∷ l) zero = rw (div-one (bit (is_heard h) + 2 * stars_of l)) (lowest (is_heard h) (stars_of l))
star_bit (h ∷ l) (suc j) =
    ap (λ (m : ℕ). eqb ((bit (is_heard h) + 2 * stars_of l) / m % 2) 1) (pow-succ' 2 j)
    ∙ ap (λ (m : ℕ). eqb (m % 2) 1) (sym (div-div-eq-div-mul (bit (is_heard h) + 2 * stars_of l) 2 (2 ^ j)))
    ∙ ap (λ (m : ℕ). eqb (m / 2 ^ j % 2) 1) (others (is_heard h) (stars_of l))
    ∙ star_bit l j

-- ---- who is heard

pub carried_at : (l : List Hop) (i : ℕ) (d : Hop) → i < length l → is_heard (get_or (carried l) i d) ≡ (is_call (get_or l i d) && any_heard (drop i l))
unfolding carried any_of
carried_at [] i d h = absurd (not-suc-le-zero h)
carried_at (x ∷ l) zero d h = if_heard (is_heard x || any_heard l) x
carried_at (x ∷ l) (suc i) d h = carried_at l i d (le_of_suc-le-suc h)

-- Q elements stay where they are
pub carried_q : (l : List Hop) (i : ℕ) (d : Hop) → i < length l → is_q_element (get_or (carried l) i d) ≡ is_q_element (get_or l i d)
unfolding carried
carried_q [] i d h = absurd (not-suc-le-zero h)
carried_q (x ∷ l) zero d h = if_q (is_heard x || any_heard l) x
carried_q (x ∷ l) (suc i) d h = carried_q l i d (le_of_suc-le-suc h)

first_star : (l : List Hop) → any_heard l ≡ true → (j : ℕ) × (is_heard (get_or l j blank_hop) ≡ true)
unfolding any_of
first_star [] e = absurd (false≢true e)
first_star (x ∷ l) e = go (is_heard x) refl e (λ q. first_star l q)
  where
    go : (b : Bool) → is_heard x ≡ b → (b || any_heard l) ≡ true → (any_heard l ≡ true → (j : ℕ) × (is_heard (get_or l j blank_hop) ≡ true)) → (j : ℕ) × (is_heard (get_or (x ∷ l) j blank_hop) ≡ true)
    go true p q f = (0, p)
    go false p q f = let r = f q in (suc r.0, r.1)

star_from : (l : List Hop) (i : ℕ) → any_heard (drop i l) ≡ true → (j : ℕ) × ((i ≤ j) × (is_heard (get_or l j blank_hop) ≡ true))
unfolding any_of
star_from l zero e = let r = first_star l e in (r.0, (omega arith, r.1))
star_from [] (suc i) e = absurd (false≢true e)
star_from (x ∷ l) (suc i) e = let r = star_from l i e in (suc r.0, (omega (arith, r.1.0), r.1.1))

heard_from : (l : List Hop) (i j : ℕ) → i ≤ j → is_heard (get_or l j blank_hop) ≡ true → any_heard (drop i l) ≡ true
unfolding any_of blank_hop is_heard call_hop heard_as
heard_from [] i j h e = absurd (false≢true e)
heard_from (x ∷ l) zero zero h e = rw e
heard_from (x ∷ l) zero (suc j) h e = go (is_heard x) (heard_from l 0 j (omega arith) e)
  where
    go : (b : Bool) → any_heard l ≡ true → (b || any_heard l) ≡ true
    go true p = refl
    go false p = p
heard_from (x ∷ l) (suc i) zero h e = absurd (not-suc-le-zero h)
heard_from (x ∷ l) (suc i) (suc j) h e = heard_from l i j (le_of_suc-le-suc h) e

module _ (l : List Hop) (i : ℕ) (d : Hop) (h : i < length l) where
  pub heard_then_set : is_heard (get_or (carried l) i d) ≡ true → (j : ℕ) × ((i ≤ j) × (is_set (stars_of l) j ≡ true))
  heard_then_set e = let r = star_from l i (and_second (is_call (get_or l i d)) (any_heard (drop i l)) (sym (carried_at l i d h) ∙ e)) in (r.0, (r.1.0, star_bit l r.0 ∙ r.1.1))

  pub set_then_heard : is_q_element (get_or (carried l) i d) ≡ false → (j : ℕ) → i ≤ j → is_set (stars_of l) j ≡ true → is_heard (get_or (carried l) i d) ≡ true
  set_then_heard q j k e =
      let c : is_q_element (get_or l i d) ≡ false = sym (carried_q l i d h) ∙ q in
      carried_at l i d h ∙ rw c (heard_from l i j k (sym (star_bit l j) ∙ e))
