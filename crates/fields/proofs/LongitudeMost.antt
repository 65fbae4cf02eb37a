-- No list of longitudes holds more than 24 fields. The degrees are one of three numbers, each with at most two first bytes;
-- the fewer minutes they leave, the fewer second bytes go with them.
-- Assumes nothing.
use Rattle.std.proofs.Common.{◌≡◌, ℕ, zero, suc, ◌+◌, ◌-◌, ◌*◌, ◌/◌, ◌%◌, ◌<◌, ◌≤◌, Bool, true, false, cond, eqb, ltb, leb, ◌⊎◌, List, [], ◌∷◌, ◌++◌, length, sym, refl, ap, ◌∙◌, subst, inl, inr, ⊎_elim, add-zero, arith, leb→le, length-append, ltb-false, ltb-true, le-ltb, lt-ltb, eqb-true}
use mathlib.Core.List.Memᴰ
use mathlib.Core.List.{Memᴰ}
use borrow.Author.Tests.{eqb-false}
use Rattle.laws.proofs.Every.{all_at}
use Rattle.laws.proofs.Tests.{bool_cases}
use Rattle.mic_e.specs.Turn.{less_if}
use Rattle.mic_e.specs.Longitude.{offset_of, wrapped, size_of}
use Rattle.mic_e.proofs.LongitudeFacts.{Lies}
use Rattle.mic_e.proofs.Turn.{less_if_split, wrapped_plain, wrapped_mid, wrapped_high, wrapped_past}
use Rattle.fields.specs.Each.{Field, each, row, all_fields, cell}
use Rattle.fields.specs.Search.{size_hits}
use Rattle.fields.proofs.Each.{row_none}
use Rattle.fields.proofs.Hits.{longitude_hit, size_left}
use Rattle.fields.proofs.Count.{few, member, near, near_mem, cell_few, row_few}

-- the second bytes that go with q whole minutes
seconds : ℕ → List ℕ
seconds q =
    cond (eqb q 0) (28 ∷ 88 ∷ [])
    (cond (eqb q 1) (28 ∷ 29 ∷ 88 ∷ 89 ∷ [])
    (cond (ltb q 60) (near 28 q ++ near 88 q)
    (cond (eqb q 60) (86 ∷ 87 ∷ near 88 q)
    (cond (eqb q 61) (87 ∷ near 88 q)
    (near 88 q)))))

-- x minutes, up to two short of q, stand for 60 more in the second byte, or for themselves below 60
two_ways : (b x q : ℕ) → x ≤ q → q ≤ x + 2 → (b ≡ 88 + x) ⊎ ((b ≡ 28 + x) × (x < 60)) → Memᴰ b (seconds q)
unfolding seconds
two_ways b x q lo hi w = go (eqb q 0) refl (eqb q 1) refl (ltb q 60) refl (eqb q 60) refl (eqb q 61) refl
  where
    go : (t₀ : Bool) → eqb q 0 ≡ t₀ → (t₁ : Bool) → eqb q 1 ≡ t₁ → (t₂ : Bool) → ltb q 60 ≡ t₂ → (t₃ : Bool) → eqb q 60 ≡ t₃ → (t₄ : Bool) → eqb q 61 ≡ t₄
        → Memᴰ b (cond t₀ (28 ∷ 88 ∷ []) (cond t₁ (28 ∷ 29 ∷ 88 ∷ 89 ∷ []) (cond t₂ (near 28 q ++ near 88 q) (cond t₃ (86 ∷ 87 ∷ near 88 q) (cond t₄ (87 ∷ near 88 q) (near 88 q))))))
    go true p t₁ p₁ t₂ p₂ t₃ p₃ t₄ p₄ =
        let z : q ≡ 0 = eqb-true q 0 p in
        ⊎_elim (λ e. Memᴰ.tail (Memᴰ.head (omega arith))) (λ e. Memᴰ.head (omega arith)) w
    go false p true p₁ t₂ p₂ t₃ p₃ t₄ p₄ =
        let z : q ≡ 1 = eqb-true q 1 p₁ in
        ⊎_elim
        (λ u. let v : x ≡ 0 = eqb-true x 0 u in ⊎_elim (λ e. Memᴰ.tail (Memᴰ.tail (Memᴰ.head (omega arith)))) (λ e. Memᴰ.head (omega arith)) w)
        (λ u. let v : x ≡ 0 → ⊥ = eqb-false x 0 u in ⊎_elim (λ e. Memᴰ.tail (Memᴰ.tail (Memᴰ.tail (Memᴰ.head (omega arith))))) (λ e. Memᴰ.tail (Memᴰ.head (omega arith))) w)
        (bool_cases (eqb x 0))
    go false p false p₁ true p₂ t₃ p₃ t₄ p₄ =
        ⊎_elim
        (λ e. Memᴰ.append_right (near 28 q) (near_mem 88 b x q e lo hi))
        (λ e. Memᴰ.append_left (near 88 q) (near_mem 28 b x q e.0 lo hi))
        w
    go false p false p₁ false p₂ true p₃ t₄ p₄ =
        let z : q ≡ 60 = eqb-true q 60 p₃ in
        ⊎_elim
        (λ e. Memᴰ.tail (Memᴰ.tail (near_mem 88 b x q e lo hi)))
        (λ e. ⊎_elim
        (λ u. let v : x ≡ 58 = eqb-true x 58 u in Memᴰ.head (omega arith))
        (λ u. let v : x ≡ 58 → ⊥ = eqb-false x 58 u in Memᴰ.tail (Memᴰ.head (omega arith)))
        (bool_cases (eqb x 58)))
        w
    go false p false p₁ false p₂ false p₃ true p₄ =
        let z : q ≡ 61 = eqb-true q 61 p₄ in
        ⊎_elim (λ e. Memᴰ.tail (near_mem 88 b x q e lo hi)) (λ e. Memᴰ.head (omega arith)) w
    go false p false p₁ false p₂ false p₃ false p₄ =
        let n₀ : 60 ≤ q = ltb-false q 60 p₂ in
        let n₁ : q ≡ 60 → ⊥ = eqb-false q 60 p₃ in
        let n₂ : q ≡ 61 → ⊥ = eqb-false q 61 p₄ in
        ⊎_elim (λ e. near_mem 88 b x q e lo hi) (λ e. absurd (omega arith)) w

most : ℕ → ℕ
most q = length (seconds q)

-- the minutes of three degrees that follow each other leave twelve second bytes at most
twelve : (q : ℕ) → q < 60 → most q + most (q + 60) + most (q + 120) ≤ 12
unfolding most seconds near
twelve q h = leb→le _ _ (all_at 60 (λ k. leb (most k + most (k + 60) + most (k + 120)) 12) tt q h)

-- a list is no longer than three others that share out what stands at each place
each_three : (n : ℕ) (f g h k : ℕ → List Field) → ((a : ℕ) → a < n → length (f a) ≤ length (g a) + length (h a) + length (k a))
    → length (each n f) ≤ length (each n g) + length (each n h) + length (each n k)
unfolding each
each_three zero f g h k le = omega arith
each_three (suc n) f g h k le =
    omega (
      arith,
      length-append (each n f) (f n),
      length-append (each n g) (g n),
      length-append (each n h) (h n),
      length-append (each n k) (k n),
      each_three n f g h k (λ a l. le a (omega arith)),
      le n (omega arith),
    )

-- degrees that wrapping gives, and the other number that it gives them for
other : ℕ → ℕ
other d = cond (ltb d 10) (d + 190) (d + 80)

wrapped_two : (x : ℕ) → (x ≡ wrapped x) ⊎ (x ≡ other (wrapped x))
unfolding other
wrapped_two x =
    ⊎_elim
    (λ e. inl (sym (wrapped_plain x (ltb-true x 180 e))))
    (λ e. let k : 180 ≤ x = ltb-false x 180 e in ⊎_elim
    (λ f. let l : x < 190 = ltb-true x 190 f in let w : wrapped x ≡ x - 80 = wrapped_mid x k l in let n : 10 ≤ wrapped x = omega arith in inr (rw (le-ltb (wrapped x) 10 n) (omega arith)))
    (λ f. let l : 190 ≤ x = ltb-false x 190 f in ⊎_elim
    (λ g. let u : x < 200 = ltb-true x 200 g in let w : wrapped x ≡ x - 190 = wrapped_high x l u in let n : wrapped x < 10 = omega arith in inr (rw (lt-ltb (wrapped x) 10 n) (omega arith)))
    (λ g. inl (sym (wrapped_past x (ltb-false x 200 g))))
    (bool_cases (ltb x 200)))
    (bool_cases (ltb x 190)))
    (bool_cases (ltb x 180))

module _ (m : ℕ) (hundred : Bool) where
  longitude_cell : (a b : ℕ) → length (cell (size_hits m hundred) a b) ≤ 1
  longitude_cell a b =
      cell_few (size_hits m hundred) a b (m - size_of (offset_of hundred) a b 28) (λ c l q. size_left m (offset_of hundred) a b c (longitude_hit m hundred a b c q))

  both : ℕ → List ℕ
  both d = (28 + d - offset_of hundred) ∷ (28 + other d - offset_of hundred) ∷ []

  both_two : (d : ℕ) → length (both d) ≡ 2
  unfolding both
  both_two d = refl

  in_both : (a d : ℕ) → 28 ≤ a → wrapped (a - 28 + offset_of hundred) ≡ d → Memᴰ a (both d)
  unfolding both
  in_both a d k e =
      ⊎_elim
      (λ q. Memᴰ.head (omega arith))
      (λ q. Memᴰ.tail (Memᴰ.head (let r : a - 28 + offset_of hundred ≡ other d = q ∙ ap other e in omega arith)))
      (wrapped_two (a - 28 + offset_of hundred))

  wide : ℕ → ℕ
  wide a = wrapped (a - 28 + offset_of hundred)

  second : (a b c : ℕ) → c < 256 → Lies m (offset_of hundred) a b c → Memᴰ b (seconds ((m - 6000 * wide a) / 100))
  unfolding wide size_of
  second a b c l h =
      two_ways b (less_if 60 (b - 28)) ((m - 6000 * wide a) / 100) (omega arith) (omega arith)
      (⊎_elim (λ q. inl (omega arith)) (λ q. inr (omega arith, omega arith)) (less_if_split 60 (b - 28)))

  row_most : (a : ℕ) → length (row (size_hits m hundred) a) ≤ most ((m - 6000 * wide a) / 100)
  unfolding most
  row_most a =
      omega (
        arith,
        row_few (size_hits m hundred) a (seconds ((m - 6000 * wide a) / 100)) (longitude_cell a)
            (λ b c k l q. second a b c l (longitude_hit m hundred a b c q)),
      )

  -- the rows whose degrees are i short of the size's
  part : ℕ → ℕ → List Field
  part i a = cond (eqb (wide a + i) (m / 6000)) (row (size_hits m hundred) a) []

  q : ℕ
  q = m % 6000 / 100

  part_most : (i a : ℕ) → length (part i a) ≤ most (q + 60 * i)
  unfolding part q
  part_most i a = go (eqb (wide a + i) (m / 6000)) refl
    where
      go : (t : Bool) → eqb (wide a + i) (m / 6000) ≡ t → length (cond t (row (size_hits m hundred) a) []) ≤ most (m % 6000 / 100 + 60 * i)
      go true e =
          let d : wide a + i ≡ m / 6000 = eqb-true _ _ e in
          let r : (m - 6000 * wide a) / 100 ≡ m % 6000 / 100 + 60 * i = omega arith in
          subst (λ (n : ℕ). length (row (size_hits m hundred) a) ≤ most n) r (row_most a)
      go false e = omega arith

  -- a first byte of those degrees is one of two, or begins nothing
  stands : (i a : ℕ) → Memᴰ a (both (m / 6000 - i)) ⊎ (part i a ≡ [])
  unfolding part wide
  stands i a = go (eqb (wide a + i) (m / 6000)) refl
    where
      go : (t : Bool) → eqb (wide a + i) (m / 6000) ≡ t → Memᴰ a (both (m / 6000 - i)) ⊎ (cond t (row (size_hits m hundred) a) [] ≡ [])
      go true e =
          let d : wide a + i ≡ m / 6000 = eqb-true _ _ e in
          ⊎_elim inl
          (λ n. inr (row_none _ a (λ b c k l t. n (in_both a (m / 6000 - i) (longitude_hit m hundred a b c t).a_from (omega arith)))))
          (member a (both (m / 6000 - i)))
      go false e = inr refl

  part_few : (i : ℕ) → length (each 256 (part i)) ≤ 2 * most (q + 60 * i)
  part_few i = rw (both_two (m / 6000 - i)) at (few (both (m / 6000 - i)) 256 (most (q + 60 * i)) (part i) (part_most i) (λ a l. stands i a))

  -- what begins a field has degrees at most two short
  close : (a b c : ℕ) → b < 256 → c < 256 → Lies m (offset_of hundred) a b c → (wide a ≤ m / 6000) × (m / 6000 ≤ wide a + 2)
  unfolding wide size_of
  close a b c k l h = (omega arith, ⊎_elim (λ q. omega arith) (λ q. omega arith) (less_if_split 60 (b - 28)))

  shared : (a : ℕ) → length (row (size_hits m hundred) a) ≤ length (part 0 a) + length (part 1 a) + length (part 2 a)
  unfolding part
  shared a = go (eqb (wide a + 0) (m / 6000)) refl (eqb (wide a + 1) (m / 6000)) refl (eqb (wide a + 2) (m / 6000)) refl
    where
      go : (t : Bool) → eqb (wide a + 0) (m / 6000) ≡ t → (u : Bool) → eqb (wide a + 1) (m / 6000) ≡ u → (v : Bool) → eqb (wide a + 2) (m / 6000) ≡ v
          → length (row (size_hits m hundred) a) ≤ length (cond t (row (size_hits m hundred) a) []) + length (cond u (row (size_hits m hundred) a) []) + length (cond v (row (size_hits m hundred) a) [])
      go true e u f v g = omega arith
      go false e true f v g = omega arith
      go false e false f true g = omega arith
      go false e false f false g =
          let n₀ : wide a + 0 ≡ m / 6000 → ⊥ = eqb-false _ _ e in
          let n₁ : wide a + 1 ≡ m / 6000 → ⊥ = eqb-false _ _ f in
          let n₂ : wide a + 2 ≡ m / 6000 → ⊥ = eqb-false _ _ g in
          rw (row_none (size_hits m hundred) a (λ b c k l t. let w = close a b c k l (longitude_hit m hundred a b c t) in omega arith)) (omega arith)

  pub longitude_fewest : length (all_fields (size_hits m hundred)) ≤ 24
  unfolding all_fields q
  longitude_fewest =
      omega (
        arith,
        each_three 256 (row (size_hits m hundred)) (part 0) (part 1) (part 2) (λ a l. shared a),
        rw (add-zero q) at (part_few 0),
        part_few 1,
        part_few 2,
        twelve (m % 6000 / 100) (omega arith),
      )
