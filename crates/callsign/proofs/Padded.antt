-- A text copied over sixteen zeros; and sixteen bytes held against the first n of them so padded.
-- Assumes nothing.
use Rattle.std.proofs.Common.{◌≡◌, ℕ, zero, suc, ◌-◌, Bool, ◌&&◌, eqb, List, [], ◌∷◌, ◌++◌, length, take, drop, replicate, sym, refl, ap, ◌∙◌, arith, eq-eqb}
use lib.Pointwise.{pointwise}
use lib.Seq.{take-append_seam}
use native.Mathlib.Nat.{sub-zero, suc-sub-suc}
use Rattle.laws.specs.Lists.{zeros, pad_to}
use Rattle.laws.proofs.Lists.{drop_replicate}

-- ---- a copy

pub copied : (t k : List ℕ) → k ≡ t → k ++ drop (length t) (replicate 16 0) ≡ pad_to 16 0 t
unfolding pad_to
copied t k e = rw e (ap (λ (l : List ℕ). t ++ l) (drop_replicate 16 (length t) 0))

-- what is padded begins it
pub front_padded : (t k : List ℕ) → k ≡ pad_to 16 0 t → t ≡ take (length t) k
unfolding pad_to
front_padded t k e = rw e (sym (take-append_seam t (replicate (16 - length t) 0)))

-- ---- held against it

zeros_same : (l : List ℕ) (m : ℕ) → length l ≡ m → pointwise eqb l (replicate m 0) ≡ zeros l
unfolding zeros
zeros_same [] zero e = refl
zeros_same [] (suc m) e = absurd (omega arith)
zeros_same (x ∷ l) zero e = absurd (omega arith)
zeros_same (x ∷ l) (suc m) e = ap (λ (b : Bool). eqb x 0 && b) (zeros_same l m (omega arith))

spare_same : (n : ℕ) (l : List ℕ) (m : ℕ) → length l ≡ m → pointwise eqb l (pad_to m 0 (take n l)) ≡ zeros (drop n l)
unfolding pad_to
spare_same zero l m e = rw sub-zero (zeros_same l m e)
spare_same (suc n) [] zero e = unfold zeros in refl
spare_same (suc n) [] (suc m) e = absurd (omega arith)
spare_same (suc n) (x ∷ l) zero e = absurd (omega arith)
spare_same (suc n) (x ∷ l) (suc m) e = rw (suc-sub-suc, eq-eqb x x refl) (spare_same n l m (omega arith))

-- nothing but zeros
pub all_zeros : (r : Bool) (l : List ℕ) → length l ≡ 16 → r ≡ pointwise eqb l (replicate 16 0) → r ≡ zeros l
all_zeros r l e q = q ∙ zeros_same l 16 e

-- nothing but zeros from n on
pub spare_zeros : (r : Bool) (n : ℕ) (l k : List ℕ) → length l ≡ 16 → k ≡ pad_to 16 0 (take n l) → r ≡ pointwise eqb l k → r ≡ zeros (drop n l)
spare_zeros r n l k e p q = q ∙ ap (pointwise eqb l) p ∙ spare_same n l 16 e
