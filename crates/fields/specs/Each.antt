-- Every field of three bytes that passes a test, each once, in ascending byte order.
-- Assumes nothing.
use Rattle.std.specs.Prelude.{ℕ, zero, suc, Bool, cond, List, [], ◌∷◌, ◌++◌, slice_index}

-- three bytes of information: a longitude or a motion
pub record Field : Type 0 where
  pub first : ℕ
  pub second : ℕ
  pub third : ℕ

-- f 0, f 1 and so on up to f (n - 1), one after the other
unfoldable pub each : {A : Type 0} → ℕ → (ℕ → List A) → List A
each zero f = []
each (suc n) f = each n f ++ f n

-- a field by its three bytes
abbrev pub field : ℕ → ℕ → ℕ → Field
field a b c = record { first = a; second = b; third = c }

-- a field of three bytes of a list, and its bytes as a list
abbrev pub field_at : List ℕ → Field
field_at l = field (slice_index l 0) (slice_index l 1) (slice_index l 2)

abbrev pub bytes_of : Field → List ℕ
bytes_of f = f.first ∷ f.second ∷ f.third ∷ []

-- the fields that begin with the bytes a and b; with the byte a; all
unfoldable pub cell : (ℕ → ℕ → ℕ → Bool) → ℕ → ℕ → List Field
cell test a b = each 256 (λ c. cond (test a b c) (field a b c ∷ []) [])

unfoldable pub row : (ℕ → ℕ → ℕ → Bool) → ℕ → List Field
row test a = each 256 (λ b. cell test a b)

unfoldable pub all_fields : (ℕ → ℕ → ℕ → Bool) → List Field
all_fields test = each 256 (λ a. row test a)

-- the bytes of a list of fields
unfoldable pub flat : List Field → List ℕ
flat [] = []
flat (f ∷ fs) = f.first ∷ f.second ∷ f.third ∷ flat fs
