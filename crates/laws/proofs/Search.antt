-- Laws of the search for a byte: there is none among the first i, and the first place is in what is left.
-- Assumes nothing.
use Rattle.std.proofs.Common.{◌≡◌, ℕ, ◌+◌, ◌<◌, ◌≤◌, List, length, get_or, drop, sym, ◌∙◌, subst, add-zero, arith, drop_of_length-le, eq-eqb, ne_eqb}
use Rattle.laws.specs.Lists.{index_of}
use Rattle.laws.proofs.Lists.{next}

abbrev pub NoneBefore : ℕ → List ℕ → ℕ → Type 0
NoneBefore b t i = (i ≤ length t) × (index_of b t ≡ i + index_of b (drop i t))

module _ (b : ℕ) (t : List ℕ) (i : ℕ) (so_far : NoneBefore b t i) where
  pub hit : i < length t → get_or t i 0 ≡ b → i ≡ index_of b t
  unfolding index_of
  hit h e = sym (so_far.1 ∙ rw (next 0 t i h, eq-eqb (get_or t i 0) b e) (add-zero i))

  -- k is the next place
  pub miss : (k : ℕ) → k ≡ i + 1 → i < length t → (get_or t i 0 ≡ b → ⊥) → NoneBefore b t k
  unfolding index_of
  miss k e h n = subst (NoneBefore b t) (sym e) (omega arith, so_far.1 ∙ rw (next 0 t i h, ne_eqb (get_or t i 0) b n) (omega arith))

  pub none : length t ≤ i → i ≡ index_of b t
  unfolding index_of
  none h = sym (so_far.1 ∙ rw (drop_of_length-le t h) (add-zero i))

-- four at a time
module _ (b : ℕ) (t : List ℕ) (i : ℕ) (so_far : NoneBefore b t i) (h : i + 3 < length t) (n₀ : get_or t i 0 ≡ b → ⊥) where
  pub miss_one : NoneBefore b t (i + 1)
  miss_one = miss b t i so_far (i + 1) (omega arith) (omega arith) n₀

  module _ (n₁ : get_or t (i + 1) 0 ≡ b → ⊥) where
    pub miss_two : NoneBefore b t (i + 2)
    miss_two = miss b t (i + 1) miss_one (i + 2) (omega arith) (omega arith) n₁

    module _ (n₂ : get_or t (i + 2) 0 ≡ b → ⊥) where
      pub miss_three : NoneBefore b t (i + 3)
      miss_three = miss b t (i + 2) miss_two (i + 3) (omega arith) (omega arith) n₂

      pub miss_four : (get_or t (i + 3) 0 ≡ b → ⊥) → NoneBefore b t (i + 4)
      miss_four n₃ = miss b t (i + 3) miss_three (i + 4) (omega arith) (omega arith) n₃
