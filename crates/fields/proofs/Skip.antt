-- A list without the first bytes that a test in front rules out, and with the one third byte that each pair leaves: the
-- same list, and quick to compute.
-- Assumes nothing.
use Rattle.std.proofs.Common.{◌≡◌, ℕ, ◌+◌, ◌<◌, Bool, true, false, List, [], sym, refl, ◌∙◌}
use mathlib.Core.Bool.{false≢true}
use Rattle.fields.specs.Each.{Field, each, cell, row, all_fields}
use Rattle.fields.specs.Search.{fields_of, third_at}
use Rattle.fields.proofs.Hits.{third_at_lem}
use Rattle.fields.proofs.Each.{each_same, each_none, cell_none}

unfoldable pub skip_row : (ℕ → ℕ → ℕ → Bool) → (ℕ → Bool) → (ℕ → ℕ → ℕ) → ℕ → List Field
skip_row test may third a = elim (may a) [ true ↦ each 256 (λ b. fields_of a b (third_at test a b (third a b))) | false ↦ [] ]

module _ (test : ℕ → ℕ → ℕ → Bool) (may : ℕ → Bool) (third : ℕ → ℕ → ℕ)
    (rows : (a b c : ℕ) → b < 256 → c < 256 → test a b c ≡ true → may a ≡ true)
    (thirds : (a b c : ℕ) → c < 256 → test a b c ≡ true → c ≡ third a b + 28) where
  skip_row_lem : (a : ℕ) → skip_row test may third a ≡ row test a
  unfolding skip_row row
  skip_row_lem a = go (may a) refl
    where
      go : (t : Bool) → may a ≡ t
          → elim t as (λ (x : Bool). List Field) [ true ↦ each 256 (λ b. fields_of a b (third_at test a b (third a b))) | false ↦ [] ] ≡ each 256 (λ b. cell test a b)
      go true e = each_same 256 _ _ (λ b k. third_at_lem test a b (third a b) (λ c l q. thirds a b c l q))
      go false e = sym (each_none 256 _ (λ b k. cell_none test a b (λ c l q. false≢true (sym e ∙ rows a b c k l q))))

  pub skipped : all_fields test ≡ each 256 (skip_row test may third)
  unfolding all_fields
  skipped = each_same 256 _ _ (λ a k. sym (skip_row_lem a))
