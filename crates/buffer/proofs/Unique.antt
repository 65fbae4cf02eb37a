-- What each public function promises fixes its result: two results that meet one promise are equal.
-- Assumes nothing.
use mathlib.Core.Path.{◌≡◌, sym, ap, ◌∙◌}
use mathlib.Core.List.{List, [], ◌∷◌, ◌++◌}
use Prim.Native.Nat.{ℕ}
use lib.ListN.{take}
use Rattle.laws.proofs.Unique.{one_value}
use Rattle.buffer.specs.declared.Answer.{Answer}
use Rattle.buffer.specs.Wrote.{ends, refused_by, no_room, done_by, over_by, wrote}
use Rattle.buffer.specs.Filled.{Filled, filled, added, shifted}
use Rattle.buffer.proofs.Wrote.{one_end}

pub unique_refused : (n : ℕ) (r r' : Answer) → r ≡ refused_by n → r' ≡ refused_by n → r ≡ r'
unique_refused n r r' = one_value r r' (refused_by n)

pub unique_no_room : (n : ℕ) (r r' : Answer) → r ≡ no_room n → r' ≡ no_room n → r ≡ r'
unique_no_room n r r' = one_value r r' (no_room n)

pub unique_done : (n : ℕ) (r r' : Answer) → r ≡ done_by n → r' ≡ done_by n → r ≡ r'
unique_done n r r' = one_value r r' (done_by n)

module _ (r r' : Answer) (o o' : List ℕ) where
  pub unique_write : (bytes out : List ℕ) → ends r o ≡ wrote 0 bytes out → ends r' o' ≡ wrote 0 bytes out → (r ≡ r') × (o ≡ o')
  unique_write bytes out e e' = one_end r r' o o' (wrote 0 bytes out) e e'

  pub unique_write_three : (limit : ℕ) (head middle tail out : List ℕ)
      → ends r o ≡ wrote (over_by limit (head ++ (middle ++ tail))) (head ++ (middle ++ tail)) out
      → ends r' o' ≡ wrote (over_by limit (head ++ (middle ++ tail))) (head ++ (middle ++ tail)) out
      → (r ≡ r') × (o ≡ o')
  unique_write_three limit head middle tail out e e' = one_end r r' o o' (wrote (over_by limit (head ++ (middle ++ tail))) (head ++ (middle ++ tail)) out) e e'

  pub unique_write_two : (limit : ℕ) (head tail out : List ℕ)
      → ends r o ≡ wrote (over_by limit (head ++ tail)) (head ++ tail) out
      → ends r' o' ≡ wrote (over_by limit (head ++ tail)) (head ++ tail) out
      → (r ≡ r') × (o ≡ o')
  unique_write_two limit head tail out e e' = one_end r r' o o' (wrote (over_by limit (head ++ tail)) (head ++ tail) out) e e'

module _ (r r' : ℕ) (o o' : List ℕ) where
  -- two answers and two buffers that meet one equation
  pub one_filled : (l : Filled) → filled o r ≡ l → filled o' r' ≡ l → (r ≡ r') × (o ≡ o')
  one_filled l e e' = (ap (λ (x : Filled). x.len) (e ∙ sym e'), ap (λ (x : Filled). x.bytes) (e ∙ sym e'))

  pub unique_new : (out : List ℕ) → filled o r ≡ filled out 0 → filled o' r' ≡ filled out 0 → (r ≡ r') × (o ≡ o')
  unique_new out = one_filled (filled out 0)

  pub unique_behind : (out : List ℕ) (at : ℕ) → filled o r ≡ filled out at → filled o' r' ≡ filled out at → (r ≡ r') × (o ≡ o')
  unique_behind out at = one_filled (filled out at)

  pub unique_put : (s out : List ℕ) (at : ℕ) → filled o r ≡ added (filled out at) s → filled o' r' ≡ added (filled out at) s → (r ≡ r') × (o ≡ o')
  unique_put s out at = one_filled (added (filled out at) s)

  pub unique_put_byte : (b : ℕ) (out : List ℕ) (at : ℕ) → filled o r ≡ added (filled out at) (b ∷ []) → filled o' r' ≡ added (filled out at) (b ∷ []) → (r ≡ r') × (o ≡ o')
  unique_put_byte b out at = one_filled (added (filled out at) (b ∷ []))

  pub unique_shift : (buffer : List ℕ) (from to : ℕ) → filled o r ≡ shifted buffer from to → filled o' r' ≡ shifted buffer from to → (r ≡ r') × (o ≡ o')
  unique_shift buffer from to = one_filled (shifted buffer from to)

pub unique_written : (out : List ℕ) (at : ℕ) (r r' : List ℕ) → r ≡ take at out → r' ≡ take at out → r ≡ r'
unique_written out at r r' = one_value r r' (take at out)
