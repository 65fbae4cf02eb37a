-- The loop over the hops of a text: the parts between commas, one by one.
-- Assumes nothing.
use mathlib.Core.Path.{◌≡◌, refl, sym, ap, ◌∙◌}
use mathlib.Core.Bool.{Bool, true, false, cond}
use mathlib.Core.List.{List, [], ◌∷◌}
use Prim.Native.Nat.{ℕ, zero, suc, ◌+◌, ◌-◌, ◌^◌, ◌<◌, ◌≤◌}
use native.Mathlib.Numerals.{add-one}
use native.Mathlib.Omega.{arith}
use mir.Val.{Fits}
use mir.Syntax.{w64}
use lib.Dec.{eqb}
use borrow.Author.Rules.{part_to_end}
use lib.ListN.{length, length-drop, take, drop, set, replicate}
use lib.Seq.{take-length}
use Rattle.std.specs.Prelude.{Result, Ok, Err}
use Rattle.laws.specs.Bytes.{comma}
use Rattle.laws.specs.Lists.{index_of}
use Rattle.laws.proofs.Places.{index_le, found_next}
use Rattle.header.specs.declared.Hop.{Hop}
use Rattle.header.specs.declared.Path.{Path}
use Rattle.header.specs.declared.StarredPath.{StarredPath}
use Rattle.header.specs.declared.Fault.{Fault}
use Rattle.header.specs.declared.Fault.TheVariants.{NinthHop}
use Rattle.header.specs.Header.{blank_hop}
use Rattle.header.specs.Text.{fields, on_first, read_hop, hop_then, text_hops}
use Rattle.header.specs.Private.{text_read, starred_read}
use Rattle.header.proofs.Going.{Going, going_start, going_more, going_refused, going_carried}

-- ---- the parts of a text, by the place of its first comma

pub fields_one : (t : List ℕ) → index_of comma t ≡ length t → fields t ≡ t ∷ []
unfolding index_of fields on_first
fields_one [] h = refl
fields_one (x ∷ l) h = go (eqb x comma) (λ k. fields_one l k) h
  where
    go : (k : Bool) → (index_of comma l ≡ length l → fields l ≡ l ∷ []) → cond k 0 (suc (index_of comma l)) ≡ suc (length l)
        → cond k ([] ∷ fields l) (on_first x (fields l)) ≡ (x ∷ l) ∷ []
    go true r h = absurd (omega arith)
    go false r h = rw (r (omega arith))

pub fields_two : (t : List ℕ) → index_of comma t < length t → fields t ≡ take (index_of comma t) t ∷ fields (drop (suc (index_of comma t)) t)
unfolding index_of fields on_first
fields_two [] h = absurd (omega arith)
fields_two (x ∷ l) h = go (eqb x comma) (λ k. fields_two l k) h
  where
    go : (k : Bool) → (index_of comma l < length l → fields l ≡ take (index_of comma l) l ∷ fields (drop (suc (index_of comma l)) l)) → cond k 0 (suc (index_of comma l)) < suc (length l)
        → cond k ([] ∷ fields l) (on_first x (fields l)) ≡ take (cond k 0 (suc (index_of comma l))) (x ∷ l) ∷ fields (drop (suc (cond k 0 (suc (index_of comma l)))) (x ∷ l))
    go true r h = refl
    go false r h = rw (r (omega arith))

pub fields_some : (t : List ℕ) → (fs : List (List ℕ)) × (fields t ≡ take (index_of comma t) t ∷ fs)
unfolding index_of fields on_first
fields_some [] = ([], refl)
fields_some (x ∷ l) = go (eqb x comma) (fields_some l)
  where
    go : (k : Bool) → (fs : List (List ℕ)) × (fields l ≡ take (index_of comma l) l ∷ fs)
        → (fs : List (List ℕ)) × (cond k ([] ∷ fields l) (on_first x (fields l)) ≡ take (cond k 0 (suc (index_of comma l))) (x ∷ l) ∷ fs)
    go true r = (fields l, refl)
    go false r = (r.0, rw r.1)

pub no_parts : (k : ℕ) → text_hops k [] ≡ Ok []
unfolding text_hops
no_parts zero = refl
no_parts (suc k) = refl

-- ---- a part whose hop is set at n, of either sort

pub record Taken (part : List ℕ) (hops : List Hop) (n : ℕ) (hops' : List Hop) : Type 0 where
  pub hop : Hop
  pub is : Ok hop ≡ read_hop part
  pub there : hops' ≡ set hops n hop

pub taken_as : (part : List ℕ) (hops : List Hop) (n : ℕ) (hops' : List Hop) (r : Result Hop Fault) (h : Hop) → r ≡ read_hop part → r ≡ Ok h → hops' ≡ set hops n h → Taken part hops n hops'
taken_as part hops n hops' r h q z e = record { hop = h; is = sym z ∙ q; there = e }

-- ---- the loop: n hops are done, and the parts of t are left

pub record Reading (s t : List ℕ) (hops : List Hop) (n : ℕ) : Type 0 where
  pub going : Going (text_hops 8 (fields s)) (text_hops (8 - n) (fields t)) hops n
  pub within : length t ≤ length s

-- the last part is read
pub record Read (s : List ℕ) (hops : List Hop) (n : ℕ) : Type 0 where
  pub going : Going (text_hops 8 (fields s)) (Ok []) hops n

pub reading_start : (s : List ℕ) (b : Hop) → b ≡ blank_hop → Reading s s (replicate 8 b) 0
reading_start s b e = record { going = going_start (text_hops 8 (fields s)) b e; within = omega arith }

module _ (s t : List ℕ) (hops : List Hop) (n : ℕ) (g : Reading s t hops n) where
  pub ninth : n ≡ 8 → ◌≡◌ {A = Result StarredPath Fault} (Err NinthHop) (text_read (text_hops 8 (fields s)))
  unfolding text_hops text_read
  ninth e =
      let p = fields_some t in
      let z : 8 - n ≡ 0 = omega arith in
      let q : text_hops (8 - n) (fields t) ≡ Err NinthHop = rw (p.1, z) in
      sym (rw (going_refused _ _ hops n g.going NinthHop q))

  module _ (e : ℕ) (m : n ≡ 8 → ⊥) (f : e ≡ index_of comma t) where
    room : n < 8
    room = let w = g.going.few in omega arith

    -- the first part is this hop's
    step : (fs : List (List ℕ)) → fields t ≡ take e t ∷ fs → text_hops (8 - n) (fields t) ≡ hop_then (read_hop (take e t)) (text_hops (8 - (n + 1)) fs)
    unfolding text_hops
    step fs p =
        let w = room in
        let z : 8 - n ≡ suc (8 - (n + 1)) = omega arith in
        rw (p, z)

    pub hop_fault : (r : Result Hop Fault) (why : Fault) → r ≡ read_hop (take e t) → r ≡ Err why → ◌≡◌ {A = Result StarredPath Fault} (Err why) (text_read (text_hops 8 (fields s)))
    unfolding hop_then text_read
    hop_fault r why q z =
        let p = fields_some t in
        let x : fields t ≡ take e t ∷ p.0 = rw f p.1 in
        let y : text_hops (8 - n) (fields t) ≡ Err why = step p.0 x ∙ rw (← q, z) in
        sym (rw (going_refused _ _ hops n g.going why y))

    goes : (fs : List (List ℕ)) → fields t ≡ take e t ∷ fs → (h : Hop) → Ok h ≡ read_hop (take e t) → Going (text_hops 8 (fields s)) (text_hops (8 - (n + 1)) fs) (set hops n h) (n + 1)
    unfolding hop_then
    goes fs p h q = going_more _ _ hops n g.going room h (text_hops (8 - (n + 1)) fs) (step fs p ∙ rw (← q))

  -- ---- a part is taken, and the parts behind it are left

  module _ (e : ℕ) (m : n ≡ 8 → ⊥) (f : e ≡ index_of comma t) where
    pub hop_fits : (e ≡ length t → ⊥) → length s < 2 ^ 64 → Fits w64 (e + 1)
    hop_fits l b = let w = g.within in let x = found_next comma t e f l in record { fits = omega arith }

    pub hop_less : (e ≡ length t → ⊥) → length (take (length t - (e + 1)) (drop (e + 1) t)) < length t
    hop_less l = let x = found_next comma t e f l in rw (part_to_end t (e + 1), length-drop) (omega arith)

    module _ (hops' : List Hop) (k : Taken (take e t) hops n hops') where
      taken : (fs : List (List ℕ)) → fields t ≡ take e t ∷ fs → Going (text_hops 8 (fields s)) (text_hops (8 - (n + 1)) fs) hops' (n + 1)
      taken fs p = rw k.there (goes e m f fs p k.hop k.is)

      pub hop_last : e ≡ length t → Read s hops' (n + 1)
      hop_last l =
          let p : fields t ≡ take e t ∷ [] = fields_one t (sym f ∙ l) ∙ rw (l, take-length) in
          record { going = rw (← no_parts (8 - (n + 1))) (taken [] p) }

      pub hop_more : (e ≡ length t → ⊥) → Reading s (take (length t - (e + 1)) (drop (e + 1) t)) hops' (n + 1)
      hop_more l =
          let w = g.within in
          let x = hop_less l in
          let y : index_of comma t < length t = omega (arith, index_le comma t) in
          let p : fields t ≡ take e t ∷ fields (take (length t - (e + 1)) (drop (e + 1) t)) = fields_two t y ∙ rw (part_to_end t (e + 1), ← f, add-one) in
          record { going = taken _ p; within = omega arith }

pub hops_read : (s : List ℕ) (p : Path) (r : StarredPath) → Read s p.hops p.count → r ≡ starred_read p → Ok r ≡ text_read (text_hops 8 (fields s))
hops_read s p r g q = ap {B = Result StarredPath Fault} (λ x. Ok x) q ∙ going_carried _ _ p.hops p.count g.going refl
