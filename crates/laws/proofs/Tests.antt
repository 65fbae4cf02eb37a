-- Tests taken apart: what a conjunction, a disjunction, a refusal in front or a class of bytes says once its value is known.
-- Assumes nothing.
use Rattle.std.proofs.Common.{◌≡◌, ℕ, ◌≤◌, Bool, true, false, cond, ◌&&◌, ◌||◌, leb, ◌⊎◌, refl, inl, inr, true≢false, le-leb, leb-true}
use mathlib.Core.Bool.{false≢true}
use Rattle.laws.specs.Bytes.{within}

pub bool_cases : (b : Bool) → (b ≡ true) ⊎ (b ≡ false)
bool_cases true = inl refl
bool_cases false = inr refl

pub not_so : (b : Bool) → (b ≡ true → ⊥) → b ≡ false
not_so true h = absurd (h refl)
not_so false h = refl

pub and_first : (a b : Bool) → (a && b) ≡ true → a ≡ true
and_first true b e = refl
and_first false b e = e

pub and_second : (a b : Bool) → (a && b) ≡ true → b ≡ true
and_second true b e = e
and_second false b e = absurd (false≢true e)

pub and_both : (a b : Bool) → (a && b) ≡ true → (a ≡ true) × (b ≡ true)
and_both a b e = (and_first a b e, and_second a b e)

pub or_either : (a b : Bool) → (a || b) ≡ true → (a ≡ true) ⊎ (b ≡ true)
or_either true b e = inl refl
or_either false b e = inr e

pub or_neither : (a b : Bool) → (a || b) ≡ false → (a ≡ false) × (b ≡ false)
or_neither true b e = absurd (true≢false e)
or_neither false b e = (refl, e)

-- what holds of both that a test picks from holds of the one picked
pub picked : {A : Type 0} (P : A → Bool → Type 0) (x y : A) → P x true → P y false → (t : Bool) → P (cond t x y) t
picked P x y p q true = p
picked P x y p q false = q

-- past a refusal in front: where the whole is another answer, the test failed
pub guard : {A : Type 0} (t : Bool) (r x y : A) → (r ≡ y → ⊥) → cond t r x ≡ y → (t ≡ false) × (x ≡ y)
guard true r x y n e = absurd (n e)
guard false r x y n e = (refl, e)

-- with the refusal behind, the test held
pub passed : {A : Type 0} (t : Bool) (x r y : A) → (r ≡ y → ⊥) → cond t x r ≡ y → (t ≡ true) × (x ≡ y)
passed true x r y n e = (refl, e)
passed false x r y n e = absurd (n e)

-- ---- classes of bytes

pub within_low : (lo hi b : ℕ) → within lo hi b ≡ true → lo ≤ b
unfolding within
within_low lo hi b e = leb-true lo b (and_first (leb lo b) (leb b hi) e)

pub within_high : (lo hi b : ℕ) → within lo hi b ≡ true → b ≤ hi
unfolding within
within_high lo hi b e = leb-true b hi (and_second (leb lo b) (leb b hi) e)

pub within_yes : (lo hi b : ℕ) → lo ≤ b → b ≤ hi → within lo hi b ≡ true
unfolding within
within_yes lo hi b h k = rw (le-leb lo b h, le-leb b hi k)
