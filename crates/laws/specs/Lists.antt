-- Lists: the first place of a byte, a test of every element or of any, zeros, lists that are the same, and a list padded to a length.
-- Assumes nothing.
use Rattle.std.specs.Prelude.{ℕ, zero, suc, ◌-◌, Bool, true, false, cond, ◌&&◌, List, [], ◌∷◌, ◌++◌, length, replicate, ◌==◌}
use Rattle.std.specs.List.{list_all, list_any}

-- the place of the first b, or the length where there is none
unfoldable pub index_of : ℕ → List ℕ → ℕ
index_of b [] = zero
index_of b (x ∷ l) = cond (x == b) zero (suc (index_of b l))

-- a test that holds of every element
unfoldable pub every : {A : Type 0} → (A → Bool) → List A → Bool
every p l = list_all p l

-- a test that holds of one element at least
unfoldable pub any_of : {A : Type 0} → (A → Bool) → List A → Bool
any_of p l = list_any p l

-- the same bytes in the same order
unfoldable pub same_bytes : List ℕ → List ℕ → Bool
same_bytes [] [] = true
same_bytes [] (y ∷ l) = false
same_bytes (x ∷ k) [] = false
same_bytes (x ∷ k) (y ∷ l) = x == y && same_bytes k l

-- l, and copies of z up to n elements
unfoldable pub pad_to : {A : Type 0} → ℕ → A → List A → List A
pad_to n z l = l ++ replicate (n - length l) z

-- nothing but zeros
unfoldable pub zeros : List ℕ → Bool
zeros l = list_all (λ x. x == 0) l

-- lists one behind the other
unfoldable pub together : {A : Type 0} → List (List A) → List A
together [] = []
together (l ∷ ls) = l ++ together ls
