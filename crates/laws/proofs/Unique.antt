-- What a promise fixes: two results that meet one promise are equal. And what does not look at a part of a value is alike without it.
-- Assumes nothing.
use Rattle.std.proofs.Common.{◌≡◌, ℕ, List, sym, ap, ◌∙◌}
use Rattle.laws.specs.Lists.{index_of}

-- two values that meet one equation
pub one_value : {A : Type 0} (r r' d : A) → r ≡ d → r' ≡ d → r ≡ r'
one_value r r' d e e' = e ∙ sym e'

pub unique_find : (b : ℕ) (t : List ℕ) (r r' : ℕ) → r ≡ index_of b t → r' ≡ index_of b t → r ≡ r'
unique_find b t r r' = one_value r r' (index_of b t)

-- what does not look at a part is alike for values that differ in it alone: `off` takes the part off
pub alike_without : {A B : Type 0} (off : A → A) (f : A → B) → ((x : A) → f (off x) ≡ f x) → (x y : A) → off x ≡ off y → f x ≡ f y
alike_without off f e x y q = sym (e x) ∙ ap f q ∙ e y
