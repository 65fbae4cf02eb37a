-- A list that is among others: it is the same as one of them, so that what holds of each holds of it.
-- Assumes nothing.
use Rattle.std.proofs.Common.{◌≡◌, ℕ, Bool, true, false, ◌||◌, eqb, List, [], ◌∷◌, refl, ap, ◌∙◌, eqb-true}
use mathlib.Core.Bool.{false≢true}
use Rattle.laws.specs.Lists.{every, any_of, same_bytes}
use Rattle.laws.proofs.Tests.{and_first, and_second}
use Rattle.laws.proofs.Each.{every_first, every_rest}

pub same_is : (k l : List ℕ) → same_bytes k l ≡ true → k ≡ l
unfolding same_bytes
same_is [] [] e = refl
same_is [] (y ∷ l) e = absurd (false≢true e)
same_is (x ∷ k) [] e = absurd (false≢true e)
same_is (x ∷ k) (y ∷ l) e = rw (eqb-true x y (and_first (eqb x y) (same_bytes k l) e), same_is k l (and_second (eqb x y) (same_bytes k l) e))

pub among_holds : (p : List ℕ → Bool) (t : List ℕ) (ls : List (List ℕ)) → any_of (same_bytes t) ls ≡ true → every p ls ≡ true → p t ≡ true
unfolding any_of
among_holds p t [] e h = absurd (false≢true e)
among_holds p t (l ∷ ls) e h = go (same_bytes t l) refl e (λ q. among_holds p t ls q (every_rest p l ls h))
  where
    go : (k : Bool) → same_bytes t l ≡ k → (k || any_of (same_bytes t) ls) ≡ true → (any_of (same_bytes t) ls ≡ true → p t ≡ true) → p t ≡ true
    go true s q r = ap p (same_is t l s) ∙ every_first p l ls h
    go false s q r = r q
