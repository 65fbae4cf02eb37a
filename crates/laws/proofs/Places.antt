-- Laws of `index_of`, as loops over a slice and parts of a text cite them.
-- Assumes nothing.
use Rattle.std.proofs.Common.{◌≡◌, ℕ, suc, ◌+◌, ◌^◌, ◌<◌, ◌≤◌, Bool, true, false, cond, eqb, List, [], ◌∷◌, ◌++◌, length, take, drop, refl, ap, le_of_suc-le-suc, not-suc-le-zero, arith, w64, Fits, eq-eqb, eqb-true}
use Rattle.laws.specs.Lists.{index_of}
use Rattle.laws.proofs.Lists.{part_length}

-- ---- the first place of a byte

-- the text around the first b
pub index_split : (b : ℕ) (t : List ℕ) → index_of b t < length t → t ≡ take (index_of b t) t ++ b ∷ drop (suc (index_of b t)) t
unfolding index_of
index_split b [] h = absurd (not-suc-le-zero h)
index_split b (x ∷ l) h = go (eqb x b) refl (λ k. index_split b l k) h
  where
    go : (k : Bool) → eqb x b ≡ k
        → (index_of b l < length l → l ≡ take (index_of b l) l ++ b ∷ drop (suc (index_of b l)) l)
        → cond k 0 (suc (index_of b l)) < suc (length l)
        → x ∷ l ≡ take (cond k 0 (suc (index_of b l))) (x ∷ l) ++ b ∷ drop (suc (cond k 0 (suc (index_of b l)))) (x ∷ l)
    go true e r h = ap {B = List ℕ} (λ v. v ∷ l) (eqb-true x b e)
    go false e r h = ap {B = List ℕ} (λ v. x ∷ v) (r (le_of_suc-le-suc h))

pub index_le : (b : ℕ) (t : List ℕ) → index_of b t ≤ length t
unfolding index_of
index_le b [] = omega arith
index_le b (x ∷ l) = go (eqb x b) (index_le b l)
  where
    go : (k : Bool) → index_of b l ≤ length l → cond k 0 (suc (index_of b l)) ≤ suc (length l)
    go true r = omega arith
    go false r = omega arith

-- ---- a text without a byte

-- in front of its first place there is none
pub none_before : (b : ℕ) (t : List ℕ) → index_of b (take (index_of b t) t) ≡ length (take (index_of b t) t)
unfolding index_of
none_before b [] = refl
none_before b (x ∷ l) = go (eqb x b) refl (none_before b l)
  where
    go : (k : Bool) → eqb x b ≡ k → index_of b (take (index_of b l) l) ≡ length (take (index_of b l) l)
        → index_of b (take (cond k 0 (suc (index_of b l))) (x ∷ l)) ≡ length (take (cond k 0 (suc (index_of b l))) (x ∷ l))
    go true e r = refl
    go false e r = rw (e, r)

-- nor in the front of a text that has none
pub none_in_front : (b : ℕ) (k l : List ℕ) → index_of b (k ++ l) ≡ length (k ++ l) → index_of b k ≡ length k
unfolding index_of
none_in_front b [] l h = refl
none_in_front b (x ∷ k) l h = go (eqb x b) (λ r. none_in_front b k l r) h
  where
    go : (t : Bool) → (index_of b (k ++ l) ≡ length (k ++ l) → index_of b k ≡ length k) → cond t 0 (suc (index_of b (k ++ l))) ≡ suc (length (k ++ l))
        → cond t 0 (suc (index_of b k)) ≡ suc (length k)
    go true r e = absurd (omega arith)
    go false r e = ap suc (r (omega arith))

-- behind such a text it is found
pub first_behind : (b : ℕ) (k l : List ℕ) → index_of b k ≡ length k → index_of b (k ++ b ∷ l) ≡ length k
unfolding index_of
first_behind b [] l h = rw (eq-eqb b b refl)
first_behind b (x ∷ k) l h = go (eqb x b) (λ r. first_behind b k l r) h
  where
    go : (t : Bool) → (index_of b k ≡ length k → index_of b (k ++ b ∷ l) ≡ length k) → cond t 0 (suc (index_of b k)) ≡ suc (length k)
        → cond t 0 (suc (index_of b (k ++ b ∷ l))) ≡ suc (length k)
    go true r e = absurd (omega arith)
    go false r e = ap suc (r (omega arith))

-- ---- a place that a search gave

-- a place d that the search for b gave; short of the length, there is a byte at it

module _ (b : ℕ) (t : List ℕ) (d : ℕ) (f : d ≡ index_of b t) where
  pub found_le : d ≤ length t
  found_le = omega (arith, index_le b t)

  pub found_part : d ≡ length (take d t)
  found_part = part_length t d found_le

  module _ (h : d ≡ length t → ⊥) where
    pub found_next : d + 1 ≤ length t
    found_next = omega (arith, index_le b t)

    pub found_fits : length t < 2 ^ 64 → Fits w64 (d + 1)
    found_fits m = record { fits = omega (arith, index_le b t) }
