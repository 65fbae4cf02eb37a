-- What `all` and `any` of a chain give, by `every` and `any_of`.
-- Assumes nothing.
use mathlib.Core.Path.{◌≡◌, refl, ap}
use mathlib.Core.Bool.{Bool, ◌&&◌, ◌||◌}
use mathlib.Core.List.{List, [], ◌∷◌}
use Rattle.std.specs.List.{list_all, list_any}
use Rattle.laws.specs.Lists.{every, any_of}

module _ {A : Type 0} (p : A → Bool) where
  pub all_every : (l : List A) → list_all p l ≡ every p l
  unfolding every
  all_every [] = refl
  all_every (x ∷ l) = ap (λ (t : Bool). p x && t) (all_every l)

  pub any_any_of : (l : List A) → list_any p l ≡ any_of p l
  unfolding any_of
  any_any_of [] = refl
  any_any_of (x ∷ l) = ap (λ (t : Bool). p x || t) (any_any_of l)
