-- What a list of fields is, in two other ways: of all the fields in ascending order those that pass; and the one strictly
-- ascending list with just those members.
-- Assumes nothing.
use Rattle.std.proofs.Common.{◌≡◌, ℕ, zero, suc, ◌+◌, ◌*◌, ◌<◌, ◌≤◌, Bool, true, false, cond, List, [], ◌∷◌, ◌++◌, sym, refl, ap, ◌∙◌, subst, ap₂, ⊎_elim, le_of_suc-le-suc, not-suc-le-zero, eq-or-lt_of_le, arith}
use mathlib.Core.Path.{fun_ext}
use mathlib.Core.List.Memᴰ
use mathlib.Core.List.{Memᴰ}
use Rattle.fields.specs.Each.{Field, each, field, cell, row, all_fields}

-- ---- kept of all the every_field

-- the elements that pass, in the order in which they stand
unfoldable pub keep : {A : Type 0} → (A → Bool) → List A → List A
keep p [] = []
keep p (x ∷ xs) = cond (p x) (x ∷ keep p xs) (keep p xs)

-- all the every_field of bytes, in ascending order
unfoldable pub every_field : List Field
every_field = each 256 (λ a. each 256 (λ b. each 256 (λ d. field a b d ∷ [])))

module _ {A : Type 0} (p : A → Bool) where
  keep_append : (xs ys : List A) → keep p (xs ++ ys) ≡ keep p xs ++ keep p ys
  unfolding keep
  keep_append [] ys = refl
  keep_append (x ∷ xs) ys = step (p x) (keep_append xs ys)
    where
      step : (t : Bool) → keep p (xs ++ ys) ≡ keep p xs ++ keep p ys → cond t (x ∷ keep p (xs ++ ys)) (keep p (xs ++ ys)) ≡ cond t (x ∷ keep p xs) (keep p xs) ++ keep p ys
      step true e = rw e
      step false e = e

  keep_each : (n : ℕ) (f : ℕ → List A) → keep p (each n f) ≡ each n (λ k. keep p (f k))
  unfolding keep each
  keep_each zero f = refl
  keep_each (suc n) f = keep_append (each n f) (f n) ∙ rw (keep_each n f)

pub kept : (test : ℕ → ℕ → ℕ → Bool) → all_fields test ≡ keep (λ t. test t.first t.second t.third) every_field
unfolding keep every_field all_fields row cell
kept test = sym (keep_each _ 256 _ ∙ ap (each 256) (fun_ext (λ a. keep_each _ 256 _ ∙ ap (each 256) (fun_ext (λ b. keep_each _ 256 _)))))

-- ---- members

module _ {A : Type 0} where
  mem_each : (n : ℕ) (f : ℕ → List A) (x : A) → Memᴰ x (each n f) → (k : ℕ) × (k < n) × Memᴰ x (f k)
  unfolding each
  mem_each zero f x m = absurd (Memᴰ.not-nil m)
  mem_each (suc n) f x m =
      ⊎_elim (λ l. let r = mem_each n f x l in (r.0, omega arith, r.2)) (λ l. (n, omega arith, l)) (Memᴰ.append_cases (each n f) m)

  each_mem : (n : ℕ) (f : ℕ → List A) (k : ℕ) (x : A) → k < n → Memᴰ x (f k) → Memᴰ x (each n f)
  unfolding each
  each_mem zero f k x l m = absurd (not-suc-le-zero l)
  each_mem (suc n) f k x l m =
      ⊎_elim
      (λ e. Memᴰ.append_right (each n f) (subst (λ (j : ℕ). Memᴰ x (f j)) e m))
      (λ s. Memᴰ.append_left (f n) (each_mem n f k x s m))
      (eq-or-lt_of_le (le_of_suc-le-suc l))

-- a member is a field of bytes that passes
pub record Passes (test : ℕ → ℕ → ℕ → Bool) (t : Field) : Type 0 where
  pub first_byte : t.first < 256
  pub second_byte : t.second < 256
  pub third_byte : t.third < 256
  pub passes : test t.first t.second t.third ≡ true

module _ (test : ℕ → ℕ → ℕ → Bool) where
  pub member_passes : (t : Field) → Memᴰ t (all_fields test) → Passes test t
  unfolding all_fields row cell
  member_passes t m =
      let ma = mem_each 256 _ t m in
      let mb = mem_each 256 _ t ma.2 in
      let md = mem_each 256 _ t mb.2 in
      let r = held (test ma.0 mb.0 md.0) (field ma.0 mb.0 md.0) md.2 in
      rw r.0 (record { first_byte = ma.1; second_byte = mb.1; third_byte = md.1; passes = r.1 })
    where
      held : (b : Bool) (x : Field) → Memᴰ t (cond b (x ∷ []) []) → (t ≡ x) × (b ≡ true)
      held true x q = (Memᴰ.eq_of_singleton q, refl)
      held false x q = absurd (Memᴰ.not-nil q)

  pub passes_member : (t : Field) → Passes test t → Memᴰ t (all_fields test)
  unfolding all_fields row cell
  passes_member t h =
      each_mem 256 _ t.first t h.first_byte
      (each_mem 256 _ t.second t h.second_byte
      (each_mem 256 _ t.third t h.third_byte (rw h.passes (Memᴰ.head refl))))

-- ---- strictly ascending

abbrev pub value : Field → ℕ
value t = 65536 * t.first + 256 * t.second + t.third

-- strictly ascending, from n on and below m
unfoldable pub Within : ℕ → ℕ → List Field → Type 0
Within n m [] = n ≤ m
Within n m (x ∷ xs) = (n ≤ value x) × Within (suc (value x)) m xs

within_append : (n k m : ℕ) (xs ys : List Field) → Within n k xs → Within k m ys → Within n m (xs ++ ys)
unfolding Within
within_append n k m [] [] p q = omega arith
within_append n k m [] (y ∷ ys) p q = (omega arith, q.1)
within_append n k m (x ∷ xs) ys p q = (p.0, within_append (suc (value x)) k m xs ys p.1 q)

within_each : (lo : ℕ → ℕ) (n : ℕ) (f : ℕ → List Field) → ((k : ℕ) → k < n → Within (lo k) (lo (suc k)) (f k)) → Within (lo 0) (lo n) (each n f)
unfolding each Within
within_each lo zero f h = omega arith
within_each lo (suc n) f h = within_append (lo 0) (lo n) (lo (suc n)) (each n f) (f n) (within_each lo n f (λ k l. h k (omega arith))) (h n (omega arith))

within_cast : (n n' m m' : ℕ) (xs : List Field) → n ≡ n' → m ≡ m' → Within n m xs → Within n' m' xs
within_cast n n' m m' xs p q h = subst (λ (k : ℕ). Within k m' xs) p (subst (λ (k : ℕ). Within n k xs) q h)

one : (a b d : ℕ) (t : Bool) → Within (65536 * a + 256 * b + d) (65536 * a + 256 * b + suc d) (cond t (field a b d ∷ []) [])
unfolding Within
one a b d true = (omega arith, omega arith)
one a b d false = omega arith

module _ (test : ℕ → ℕ → ℕ → Bool) where
  cell_ascends : (a b : ℕ) → Within (65536 * a + 256 * b) (65536 * a + 256 * suc b) (cell test a b)
  unfolding cell
  cell_ascends a b =
      within_cast (65536 * a + 256 * b + 0) (65536 * a + 256 * b) (65536 * a + 256 * b + 256) (65536 * a + 256 * suc b) _ (omega arith) (omega arith)
      (within_each (λ d. 65536 * a + 256 * b + d) 256 _ (λ d l. one a b d (test a b d)))

  row_ascends : (a : ℕ) → Within (65536 * a) (65536 * suc a) (row test a)
  unfolding row
  row_ascends a =
      within_cast (65536 * a + 256 * 0) (65536 * a) (65536 * a + 256 * 256) (65536 * suc a) _ (omega arith) (omega arith)
      (within_each (λ b. 65536 * a + 256 * b) 256 _ (λ b l. cell_ascends a b))

  pub fields_ascend : Within 0 16777216 (all_fields test)
  unfolding all_fields
  fields_ascend = within_each (λ a. 65536 * a) 256 _ (λ a l. row_ascends a)

-- ---- members and order leave one list

above : (n m : ℕ) (xs : List Field) (t : Field) → Within n m xs → Memᴰ t xs → n ≤ value t
unfolding Within
above n m [] t h q = absurd (Memᴰ.not-nil q)
above n m (x ∷ xs) t h q =
    ⊎_elim (λ e. subst (λ (y : Field). n ≤ value y) (sym e) h.0) (λ r. omega (arith, above (suc (value x)) m xs t h.1 r, h.0)) (Memᴰ.cases_cons q)

abbrev Sub : List Field → List Field → Type 0
Sub xs ys = (t : Field) → Memᴰ t xs → Memᴰ t ys

-- the tails have the same members too, where the heads are one
tail_sub : (x : Field) (xs ys : List Field) (m : ℕ) → Within (suc (value x)) m xs → Sub (x ∷ xs) (x ∷ ys) → Sub xs ys
tail_sub x xs ys m h s t q =
    ⊎_elim
    (λ e. absurd (let l : value x < value x = subst (λ (y : Field). value x < value y) e (above (suc (value x)) m xs t h q) in omega arith))
    (λ r. r)
    (Memᴰ.cases_cons (s t (Memᴰ.tail q)))

heads : (x y : Field) (xs ys : List Field) (m : ℕ) → Within (suc (value x)) m xs → Within (suc (value y)) m ys → Sub (x ∷ xs) (y ∷ ys) → Sub (y ∷ ys) (x ∷ xs) → x ≡ y
heads x y xs ys m h k s r =
    ⊎_elim (λ e. e)
    (λ q. ⊎_elim (λ e. sym e) (λ p. absurd (omega (arith, above (suc (value y)) m ys x k q, above (suc (value x)) m xs y h p))) (Memᴰ.cases_cons (r y (Memᴰ.head refl))))
    (Memᴰ.cases_cons (s x (Memᴰ.head refl)))

pub one_list : (n m : ℕ) (xs ys : List Field) → Within n m xs → Within n m ys → Sub xs ys → Sub ys xs → xs ≡ ys
unfolding Within
one_list n m [] [] h k s r = refl
one_list n m [] (y ∷ ys) h k s r = absurd (Memᴰ.not-nil (r y (Memᴰ.head refl)))
one_list n m (x ∷ xs) [] h k s r = absurd (Memᴰ.not-nil (s x (Memᴰ.head refl)))
one_list n m (x ∷ xs) (y ∷ ys) h k s r =
    let e = heads x y xs ys m h.1 k.1 s r in
    let k' : Within (suc (value x)) m ys = subst (λ (z : Field). Within (suc (value z)) m ys) (sym e) k.1 in
    let s' : Sub (x ∷ xs) (x ∷ ys) = subst (λ (z : Field). Sub (x ∷ xs) (z ∷ ys)) (sym e) s in
    let r' : Sub (x ∷ ys) (x ∷ xs) = subst (λ (z : Field). Sub (z ∷ ys) (x ∷ xs)) (sym e) r in
    ap₂ (λ (z : Field) (zs : List Field). z ∷ zs) e (one_list (suc (value x)) m xs ys h.1 k' (tail_sub x xs ys m h.1 s') (tail_sub x ys xs m k' r'))
