-- Laws of `each`, `cell` and `row`: nothing anywhere, something at one place only, and places that may be left out.
-- Assumes nothing.
use Rattle.std.proofs.Common.{◌≡◌, ℕ, zero, suc, ◌<◌, ◌≤◌, Bool, true, ◌≢◌, List, [], ◌∷◌, length, refl, ◌∙◌, ⊎_elim, append-nil, le_of_suc-le-suc, not-suc-le-zero, eq-or-lt_of_le, arith, length-append}
use Rattle.laws.proofs.Tests.{not_so}
use Rattle.fields.specs.Each.{each, field, cell, row, all_fields}

le_zero : (m : ℕ) → m ≤ 0 → m ≡ 0
le_zero m h = omega arith

module _ {A : Type 0} where
  pub each_same : (n : ℕ) (f g : ℕ → List A) → ((k : ℕ) → k < n → f k ≡ g k) → each n f ≡ each n g
  unfolding each
  each_same zero f g h = refl
  each_same (suc n) f g h = rw (each_same n f g (λ k l. h k (omega arith)), h n (omega arith))

  -- nothing at any place: nothing
  pub each_none : (n : ℕ) (f : ℕ → List A) → ((k : ℕ) → k < n → f k ≡ []) → each n f ≡ []
  unfolding each
  each_none zero f h = refl
  each_none (suc n) f h = rw (each_none n f (λ k l. h k (omega arith)), h n (omega arith))

  -- nothing but at one place: what stands there
  each_one : (n m : ℕ) (f : ℕ → List A) → m < n → ((k : ℕ) → k < n → k ≢ m → f k ≡ []) → each n f ≡ f m
  unfolding each
  each_one zero m f l h = absurd (not-suc-le-zero l)
  each_one (suc n) m f l h =
      ⊎_elim
      (λ e. rw (each_none n f (λ k s. h k (omega arith) (omega arith)), ← e))
      (λ s. rw (h n (omega arith) (omega arith), append-nil) (each_one n m f s (λ k q. h k (omega arith))))
      (eq-or-lt_of_le (le_of_suc-le-suc l))

  -- nothing from m on: what stands before
  pub each_top : (m n : ℕ) (f : ℕ → List A) → m ≤ n → ((k : ℕ) → m ≤ k → k < n → f k ≡ []) → each n f ≡ each m f
  unfolding each
  each_top m zero f l h = rw (le_zero m l)
  each_top m (suc n) f l h =
      ⊎_elim
      (λ e. rw e)
      (λ s. rw (h n (omega arith) (omega arith), append-nil) (each_top m n f (omega arith) (λ k p q. h k p (omega arith))))
      (eq-or-lt_of_le l)

  -- more places: no less
  pub each_mono : (m n : ℕ) (f : ℕ → List A) → m ≤ n → length (each m f) ≤ length (each n f)
  unfolding each
  each_mono m zero f h = rw (le_zero m h) (omega arith)
  each_mono m (suc n) f h =
      ⊎_elim
      (λ e. rw e (omega arith))
      (λ s. rw length-append (omega (arith, each_mono m n f (omega arith))))
      (eq-or-lt_of_le h)

module _ (test : ℕ → ℕ → ℕ → Bool) (a b : ℕ) where
  -- no third byte passes; one does
  pub cell_none : ((c : ℕ) → c < 256 → test a b c ≡ true → ⊥) → cell test a b ≡ []
  unfolding cell
  cell_none h = each_none 256 _ (λ c l. rw (not_so (test a b c) (h c l)))

  pub cell_one : (m : ℕ) → m < 256 → test a b m ≡ true → ((c : ℕ) → c < 256 → test a b c ≡ true → c ≡ m) → cell test a b ≡ field a b m ∷ []
  unfolding cell
  cell_one m l t h = each_one 256 m _ l (λ c q n. rw (not_so (test a b c) (λ e. n (h c q e)))) ∙ rw t

-- no second and third byte pass
pub row_none : (test : ℕ → ℕ → ℕ → Bool) (a : ℕ) → ((b c : ℕ) → b < 256 → c < 256 → test a b c ≡ true → ⊥) → row test a ≡ []
unfolding row
row_none test a h = each_none 256 _ (λ b l. cell_none test a b (λ c m e. h b c l m e))

pub fields_none : (test : ℕ → ℕ → ℕ → Bool) → ((a b c : ℕ) → test a b c ≡ true → ⊥) → all_fields test ≡ []
unfolding all_fields
fields_none test h = each_none 256 _ (λ a k. row_none test a (λ b c l m e. h a b c e))
