-- Laws of `every`: of parts of a list, of a list that is mapped, and of a loop over what is left of it.
-- Assumes nothing.
use Rattle.std.proofs.Common.{◌≡◌, ℕ, zero, suc, ◌+◌, ◌<◌, ◌≤◌, Bool, true, false, ◌&&◌, List, [], ◌∷◌, ◌++◌, map, length, get_or, take, drop, replicate, refl, ap, ◌∙◌, le_of_suc-le-suc, not-suc-le-zero, drop_of_length-le}
use mathlib.Core.Bool.{and-false}
use Rattle.laws.specs.Lists.{every}
use Rattle.laws.proofs.Lists.{next}
use Rattle.laws.proofs.Tests.{and_first, and_second}

module _ {A : Type 0} (p : A → Bool) where
  -- ---- parts

  pub every_first : (x : A) (l : List A) → every p (x ∷ l) ≡ true → p x ≡ true
  unfolding every
  every_first x l e = and_first (p x) (every p l) e

  pub every_rest : (x : A) (l : List A) → every p (x ∷ l) ≡ true → every p l ≡ true
  unfolding every
  every_rest x l e = and_second (p x) (every p l) e

  pub every_append : (k l : List A) → every p k ≡ true → every p l ≡ true → every p (k ++ l) ≡ true
  unfolding every
  every_append [] l e f = f
  every_append (x ∷ k) l e f = rw (every_first x k e) (every_append k l (every_rest x k e) f)

  pub every_snoc : (l : List A) (x : A) → every p l ≡ true → p x ≡ true → every p (l ++ x ∷ []) ≡ true
  unfolding every
  every_snoc l x e f = every_append l (x ∷ []) e (rw f)

  pub every_fails : (k : List A) (x : A) (l : List A) → p x ≡ false → every p (k ++ x ∷ l) ≡ false
  unfolding every
  every_fails [] x l e = rw e
  every_fails (y ∷ k) x l e = ap (λ (t : Bool). p y && t) (every_fails k x l e) ∙ and-false (p y)

  pub every_take : (n : ℕ) (l : List A) → every p l ≡ true → every p (take n l) ≡ true
  unfolding every
  every_take zero l e = refl
  every_take (suc n) [] e = refl
  every_take (suc n) (x ∷ l) e = rw (every_first x l e) (every_take n l (every_rest x l e))

  pub every_drop : (n : ℕ) (l : List A) → every p l ≡ true → every p (drop n l) ≡ true
  every_drop zero l e = e
  every_drop (suc n) [] e = e
  every_drop (suc n) (x ∷ l) e = every_drop n l (every_rest x l e)

  pub every_replicate : (x : A) → p x ≡ true → (n : ℕ) → every p (replicate n x) ≡ true
  unfolding every
  every_replicate x e zero = refl
  every_replicate x e (suc n) = rw e (every_replicate x e n)

  -- an element made into another that is tested alike
  pub every_map : (f : A → A) → ((x : A) → p (f x) ≡ p x) → (l : List A) → every p (map f l) ≡ every p l
  unfolding every
  every_map f e [] = refl
  every_map f e (x ∷ l) = rw (e x, every_map f e l)

  pub every_at : (l : List A) (i : ℕ) (z : A) → every p l ≡ true → i < length l → p (get_or l i z) ≡ true
  every_at [] i z e h = absurd (not-suc-le-zero h)
  every_at (x ∷ l) zero z e h = every_first x l e
  every_at (x ∷ l) (suc i) z e h = every_at l i z (every_rest x l e) (le_of_suc-le-suc h)

  -- ---- a loop that tests each element of a list

  module _ (z : A) (l : List A) (i : ℕ) where
    pub every_more : i < length l → p (get_or l i z) ≡ true → every p l ≡ every p (drop i l) → every p l ≡ every p (drop (i + 1) l)
    unfolding every
    every_more h t e = e ∙ rw (next z l i h, t)

    pub every_not : i < length l → p (get_or l i z) ≡ false → every p l ≡ every p (drop i l) → every p l ≡ false
    unfolding every
    every_not h t e = e ∙ rw (next z l i h, t)

  pub every_end : (l : List A) (i : ℕ) → length l ≤ i → every p l ≡ every p (drop i l) → every p l ≡ true
  unfolding every
  every_end l i h e = e ∙ rw (drop_of_length-le l h)

pub every_weaker : {A : Type 0} (p q : A → Bool) → ((x : A) → p x ≡ true → q x ≡ true) → (l : List A) → every p l ≡ true → every q l ≡ true
unfolding every
every_weaker p q w [] e = refl
every_weaker p q w (x ∷ l) e = rw (w x (every_first p x l e)) (every_weaker p q w l (every_rest p x l e))
