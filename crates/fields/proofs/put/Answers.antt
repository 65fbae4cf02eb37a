-- `put`: three bytes are the one field; nothing put is no field. Assumes nothing.
use Rattle.std.proofs.Common.{◌≡◌, ℕ, [], ◌∷◌, Option, Some, None}
use Rattle.buffer.specs.Filled.{Filled, added}
use Rattle.buffer.proofs.Filled.{added_none}
use Rattle.fields.specs.Each.{flat}
use Rattle.fields.specs.Search.{fields_of}
use Rattle.fields.proofs.put.Goals as goal

module _ (x : Option ℕ) (a b : ℕ) (old : Filled) where
  one : (d : ℕ) (new : Filled) → x ≡ Some d → new ≡ added old (a ∷ b ∷ d ∷ []) → new ≡ added old (flat (fields_of a b x))
  unfolding fields_of flat
  one d new e w = rw e w

  none : x ≡ None → old ≡ added old (flat (fields_of a b x))
  unfolding fields_of flat
  none e = rw e (added_none old)

pub returns-in-Some-clause-value : goal.returns-in-Some-clause-value
returns-in-Some-clause-value c = one _ _ _ _ _ _ c.in-Some.is c.put.ensures.value

pub returns-in_default-clause-value : goal.returns-in_default-clause-value
returns-in_default-clause-value c = none _ _ _ _ c.in_default.is
