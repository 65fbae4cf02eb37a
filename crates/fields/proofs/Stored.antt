-- Fields put one behind the other: what a loop that goes through the places has put, and that there is room.
-- Assumes nothing.
use Rattle.std.proofs.Common.{◌≡◌, ℕ, suc, ◌+◌, ◌*◌, ◌<◌, ◌≤◌, List, [], ◌∷◌, ◌++◌, length, refl, ap, ◌∙◌, add-one, arith, length-append}
use Rattle.buffer.specs.Filled.{Filled, filled, added}
use Rattle.buffer.proofs.Filled.{added_none, added_len, added_length, then_added}
use Rattle.fields.specs.Each.{Field, each, flat}
use Rattle.fields.proofs.Each.{each_mono}

flat_append : (xs ys : List Field) → flat (xs ++ ys) ≡ flat xs ++ flat ys
unfolding flat
flat_append [] ys = refl
flat_append (x ∷ xs) ys = ap (λ (l : List ℕ). x.first ∷ x.second ∷ x.third ∷ l) (flat_append xs ys)

pub length_flat : (xs : List Field) → length (flat xs) ≡ 3 * length xs
unfolding flat
length_flat [] = refl
length_flat (x ∷ xs) = omega (arith, length_flat xs)

-- what was put fits its buffer, whose length stays
pub put_length : (old out : List ℕ) (start at : ℕ) (piece : List ℕ) → filled out at ≡ added (filled old start) piece → length out ≡ length old
put_length old out start at piece e = ap (λ (x : Filled). length x.bytes) e ∙ added_length (filled old start) piece

-- the fields at the first m places of f have room behind the start, and those of the first k were put there
module _ (f : ℕ → List Field) (old : List ℕ) (start m : ℕ) (room : start + 3 * length (each m f) ≤ length old) where
  pub stored_none : (k : ℕ) → each k f ≡ [] → filled old start ≡ added (filled old start) (flat (each k f))
  unfolding flat
  stored_none k e = rw e (added_none (filled old start))

  module _ (k at : ℕ) (out : List ℕ) (less : k < m) (so_far : filled out at ≡ added (filled old start) (flat (each k f))) where
    next_fits : start + 3 * length (each k f) + 3 * length (f k) ≤ length old
    unfolding each
    next_fits = omega (arith, length-append (each k f) (f k), each_mono (suc k) m f less)

    pub stored_room : at + 3 * length (f k) ≤ length out
    stored_room =
        let place : at ≡ start + length (flat (each k f)) = ap (λ (x : Filled). x.len) so_far ∙ added_len (filled old start) (flat (each k f)) (omega (arith, length_flat (each k f), next_fits)) in
        omega (arith, next_fits, length_flat (each k f), put_length old out start at (flat (each k f)) so_far)

    pub stored_step : (at' : ℕ) (out' : List ℕ) → filled out' at' ≡ added (filled out at) (flat (f k)) → filled out' at' ≡ added (filled old start) (flat (each (k + 1) f))
    unfolding each
    stored_step at' out' e =
        rw (add-one k, flat_append (each k f) (f k))
        (then_added (filled old start) (filled out at) (filled out' at') (flat (each k f)) (flat (f k)) (omega (arith, next_fits, length_flat (each k f), length_flat (f k))) so_far e)
