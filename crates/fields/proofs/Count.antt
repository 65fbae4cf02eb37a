-- Counting: at most m at each of the places of a list, and nothing elsewhere; so with the first, the second and the third
-- byte of fields.
-- Assumes nothing.
use Rattle.std.proofs.Common.{◌≡◌, ℕ, Option, Some, None, zero, suc, ◌+◌, ◌-◌, ◌*◌, ◌<◌, ◌≤◌, Bool, true, false, cond, eqb, ◌⊎◌, List, [], ◌∷◌, ◌++◌, length, sym, refl, ap, ◌∙◌, inl, inr, ⊎_elim, suc-mul, arith, length-append, eq-eqb, ne_eqb, eqb-true}
use mathlib.Core.List.Memᴰ
use mathlib.Core.List.{Memᴰ}
use borrow.Author.Tests.{eqb-false}
use Rattle.laws.proofs.Tests.{bool_cases}
use Rattle.fields.specs.Each.{each, cell, row, all_fields}
use Rattle.fields.proofs.Each.{each_same, each_none, cell_none, row_none}
use Rattle.fields.specs.Search.{fields_of, third_at}
use Rattle.fields.proofs.Hits.{third_at_lem}

module _ {A : Type 0} where
  -- f with nothing at j
  without : ℕ → (ℕ → List A) → ℕ → List A
  without j f k = cond (eqb k j) [] (f k)

  without_same : (j : ℕ) (f : ℕ → List A) → without j f j ≡ []
  unfolding without
  without_same j f = rw (eq-eqb j j refl)

  without_other : (j : ℕ) (f : ℕ → List A) (k : ℕ) → (k ≡ j → ⊥) → without j f k ≡ f k
  unfolding without
  without_other j f k h = rw (ne_eqb k j h)

  part : (j : ℕ) (f : ℕ → List A) (n : ℕ) → length (each n f) ≤ length (f j) + length (each n (without j f))
  unfolding each
  part j f zero = omega arith
  part j f (suc n) = ⊎_elim here (other (part j f n)) (bool_cases (eqb n j))
    where
      here : eqb n j ≡ true → length (each n f ++ f n) ≤ length (f j) + length (each n (without j f) ++ without j f n)
      here e =
          let q : n ≡ j = eqb-true n j e in
          let same = each_same n f (without j f) (λ k l. sym (without_other j f k (λ (z : k ≡ j). omega arith))) in
          omega (arith, length-append (each n f) (f n), length-append (each n (without j f)) (without j f n), ap length same, ap (λ (k : ℕ). length (f k)) q)

      other : length (each n f) ≤ length (f j) + length (each n (without j f)) → eqb n j ≡ false → length (each n f ++ f n) ≤ length (f j) + length (each n (without j f) ++ without j f n)
      other ih e =
          omega (arith, length-append (each n f) (f n), length-append (each n (without j f)) (without j f n), ap length (without_other j f n (eqb-false n j e)))

  -- something at the places of a list only, and at most m there
  pub few : (js : List ℕ) (n m : ℕ) (f : ℕ → List A) → ((k : ℕ) → length (f k) ≤ m) → ((k : ℕ) → k < n → Memᴰ k js ⊎ (f k ≡ [])) → length (each n f) ≤ length js * m
  few [] n m f h g = omega (arith, ap length (each_none n f (λ k l. ⊎_elim (λ q. absurd (Memᴰ.not-nil q)) (λ e. e) (g k l))))
  few (j ∷ js) n m f h g =
      rw suc-mul
      (omega (
        arith,
        part j f n,
        h j,
        few js n m (without j f)
            (λ k. ⊎_elim (λ e. omega (arith, ap length (gone k e))) (λ e. omega (arith, h k, ap length (without_other j f k (eqb-false k j e)))) (bool_cases (eqb k j)))
            (λ k l. ⊎_elim (λ q. ⊎_elim (λ e. inr (gone k (eq-eqb k j e))) inl (Memᴰ.cases_cons q)) (λ e. inr (nothing k e)) (g k l)),
      ))
    where
      gone : (k : ℕ) → eqb k j ≡ true → without j f k ≡ []
      gone k e = rw (eqb-true k j e) (without_same j f)

      nothing : (k : ℕ) → f k ≡ [] → without j f k ≡ []
      nothing k e = ⊎_elim (λ t. gone k t) (λ t. without_other j f k (eqb-false k j t) ∙ e) (bool_cases (eqb k j))

-- x, x - 1 and x - 2, past a base
unfoldable pub near : ℕ → ℕ → List ℕ
near base x = (base + x) ∷ (base + (x - 1)) ∷ (base + (x - 2)) ∷ []

pub near_mem : (base k r x : ℕ) → k ≡ base + r → r ≤ x → x ≤ r + 2 → Memᴰ k (near base x)
unfolding near
near_mem base k r x e h g =
    ⊎_elim
    (λ t. let q : r ≡ x = eqb-true _ _ t in Memᴰ.head (omega arith))
    (λ t. ⊎_elim
    (λ u. let q : r ≡ x - 1 = eqb-true _ _ u in Memᴰ.tail (Memᴰ.head (omega arith)))
    (λ u. let n : r ≡ x → ⊥ = eqb-false _ _ t in let m : r ≡ x - 1 → ⊥ = eqb-false _ _ u in Memᴰ.tail (Memᴰ.tail (Memᴰ.head (omega arith))))
    (bool_cases (eqb r (x - 1))))
    (bool_cases (eqb r x))

pub member : (k : ℕ) (js : List ℕ) → Memᴰ k js ⊎ (Memᴰ k js → ⊥)
member k [] = inr Memᴰ.not-nil
member k (j ∷ js) =
    ⊎_elim
    (λ t. inl (Memᴰ.head (eqb-true k j t)))
    (λ t. ⊎_elim (λ m. inl (Memᴰ.tail m)) (λ n. inr (λ m. ⊎_elim (eqb-false k j t) n (Memᴰ.cases_cons m))) (member k js))
    (bool_cases (eqb k j))

-- ---- fields

one_third : (a b : ℕ) (x : Option ℕ) → length (fields_of a b x) ≤ 1
unfolding fields_of
one_third a b (Some c) = omega arith
one_third a b None = omega arith

module _ (test : ℕ → ℕ → ℕ → Bool) (a : ℕ) where
  -- where the third byte can only be one
  pub cell_few : (b z : ℕ) → ((c : ℕ) → c < 256 → test a b c ≡ true → c ≡ z + 28) → length (cell test a b) ≤ 1
  cell_few b z h = omega (arith, ap length (third_at_lem test a b z h), one_third a b (third_at test a b z))

  -- where the second byte can only be one of a list
  pub row_few : (seconds : List ℕ) → ((b : ℕ) → length (cell test a b) ≤ 1)
      → ((b c : ℕ) → b < 256 → c < 256 → test a b c ≡ true → Memᴰ b seconds) → length (row test a) ≤ length seconds * 1
  unfolding row
  row_few seconds one h =
      few seconds 256 1 (cell test a) one
      (λ b k. ⊎_elim inl (λ n. inr (cell_none test a b (λ c l t. n (h b c k l t)))) (member b seconds))

-- where the first byte can only be one of a list
pub fields_few : (test : ℕ → ℕ → ℕ → Bool) (firsts : List ℕ) (m : ℕ) → ((a : ℕ) → length (row test a) ≤ m)
    → ((a b c : ℕ) → b < 256 → c < 256 → test a b c ≡ true → Memᴰ a firsts) → length (all_fields test) ≤ length firsts * m
unfolding all_fields
fields_few test firsts m most h =
    few firsts 256 m (row test) most
    (λ a k. ⊎_elim inl (λ n. inr (row_none test a (λ b c l u t. n (h a b c l u t)))) (member a firsts))
