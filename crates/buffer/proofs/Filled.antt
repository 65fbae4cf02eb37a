-- Laws of a buffer filled from its front: pieces one behind the other, what a writer lent the rest of it leaves, one byte
-- stored, and bytes moved to the front.
-- Assumes nothing.
use mathlib.Core.Path.{◌≡◌, refl, sym, ap, ap₂, ◌∙◌}
use mathlib.Core.List.{List, [], ◌∷◌, ◌++◌, append_assoc, append-nil}
use mathlib.Core.Bool.{Bool, true, false, cond}
use Prim.Native.Nat.{ℕ, zero, suc, ◌+◌, ◌-◌, ◌<◌, ◌≤◌}
use native.Mathlib.Nat.{add-zero, add_assoc}
use native.Mathlib.Numerals.{add-one}
use native.Mathlib.Omega.{arith}
use lib.Dec.{ltb, leb}
use borrow.Author.Tests.{ltb-true, ltb-false, leb-true, leb-false, le-leb, lt-leb}
use lib.ListN.{length, set, take, drop, take-append-drop, length-append, length-drop, drop_of_length-le}
use lib.Seq.{length-take-le, set_split, drop-drop, take_at, drop-append-add}
use borrow.Author.Rules.{part_to_end}
use borrow.Rule.Slice.PartMut.{put_mid}
use Rattle.laws.specs.Lists.{together}
use Rattle.buffer.specs.declared.Answer.{Answer}
use Rattle.buffer.specs.Wrote.{Wrote, ends, no_room, done_by, wrote_as, wrote}
use Rattle.buffer.specs.Filled.{Filled, filled, front_of, added, added_all}

-- ---- a piece that fits, and one that does not

pub added_fits : (f : Filled) (piece : List ℕ) → f.len + length piece ≤ length f.bytes
    → added f piece ≡ filled (take f.len f.bytes ++ (piece ++ drop (f.len + length piece) f.bytes)) (f.len + length piece)
unfolding added
added_fits f piece h = rw (le-leb (f.len + length piece) (length f.bytes) h)

pub added_not : (f : Filled) (piece : List ℕ) → length f.bytes < f.len + length piece → added f piece ≡ f
unfolding added
added_not f piece h = rw (lt-leb (f.len + length piece) (length f.bytes) h)

-- nothing is in the buffer behind its end
pub no_place_lem : (piece out : List ℕ) (at : ℕ) → length out < at → filled out at ≡ added (filled out at) piece
no_place_lem piece out at h = sym (added_not (filled out at) piece (omega arith))

-- ---- what stays, and how much is in use

module _ (f : Filled) (piece : List ℕ) where
  placed_length : f.len + length piece ≤ length f.bytes → length (take f.len f.bytes ++ (piece ++ drop (f.len + length piece) f.bytes)) ≡ length f.bytes
  placed_length h =
      length-append (take f.len f.bytes) (piece ++ drop (f.len + length piece) f.bytes)
      ∙ rw (length-append piece (drop (f.len + length piece) f.bytes), length-drop (f.len + length piece) f.bytes, length-take-le f.len f.bytes (omega arith)) (omega arith)

  pub added_length : length (added f piece).bytes ≡ length f.bytes
  unfolding added
  added_length = go (leb (f.len + length piece) (length f.bytes)) refl
    where
      go : (t : Bool) → leb (f.len + length piece) (length f.bytes) ≡ t
          → length (cond t (filled (take f.len f.bytes ++ (piece ++ drop (f.len + length piece) f.bytes)) (f.len + length piece)) f).bytes ≡ length f.bytes
      go true e = placed_length (leb-true (f.len + length piece) (length f.bytes) e)
      go false e = refl

  module _ (room : f.len + length piece ≤ length f.bytes) where
    pub added_len : (added f piece).len ≡ f.len + length piece
    added_len = ap (λ (g : Filled). g.len) (added_fits f piece room)

    -- what is in use then
    pub added_front : front_of (added f piece) ≡ front_of f ++ piece
    unfolding front_of
    added_front =
        ap (λ (g : Filled). take g.len g.bytes) (added_fits f piece room)
        ∙ rw (← append_assoc (take f.len f.bytes) piece (drop (f.len + length piece) f.bytes))
        (take_at (take f.len f.bytes ++ piece) (drop (f.len + length piece) f.bytes) (f.len + length piece)
        (length-append (take f.len f.bytes) piece ∙ rw (length-take-le f.len f.bytes (omega arith))))

-- no bytes, with room or without
pub added_none : (f : Filled) → f ≡ added f []
added_none f = go (leb f.len (length f.bytes)) refl
  where
    go : (t : Bool) → leb f.len (length f.bytes) ≡ t → f ≡ added f []
    go true e =
        let room = leb-true f.len (length f.bytes) e in
        sym (added_fits f [] (omega arith) ∙ rw (add-zero f.len, take-append-drop f.len f.bytes))
    go false e = let past = leb-false f.len (length f.bytes) e in sym (added_not f [] (omega arith))

-- the bytes in use of a buffer that was filled from its start
pub first_front : (v piece : List ℕ) → length piece ≤ length v → front_of (added (filled v 0) piece) ≡ piece
unfolding front_of
first_front v piece h = added_front (filled v 0) piece (omega arith)

-- ---- one piece after another

splice : (p r m : List ℕ) (n : ℕ) → length p ≡ n → take n (p ++ r) ++ (m ++ drop (n + length m) (p ++ r)) ≡ p ++ (m ++ drop (length m) r)
splice p r m n e = rw (take_at p r n e, ← e, drop-append-add p r (length m))

regroup : (a l m x : List ℕ) → (a ++ l) ++ (m ++ x) ≡ a ++ ((l ++ m) ++ x)
regroup a l m x = append_assoc a l (m ++ x) ∙ ap {B = List ℕ} (λ y. a ++ y) (sym (append_assoc l m x))

both_bytes : (v l m : List ℕ) (n : ℕ) → n + length l ≤ length v
    → take (n + length l) (take n v ++ (l ++ drop (n + length l) v)) ++ (m ++ drop (n + length l + length m) (take n v ++ (l ++ drop (n + length l) v)))
    ≡ take n v ++ ((l ++ m) ++ drop (n + length (l ++ m)) v)
both_bytes v l m n h =
    let e : length (take n v ++ l) ≡ n + length l = length-append (take n v) l ∙ rw (length-take-le n v (omega arith)) in
    let g : take n v ++ (l ++ drop (n + length l) v) ≡ (take n v ++ l) ++ drop (n + length l) v = sym (append_assoc (take n v) l (drop (n + length l) v)) in
    let s : n + length l + length m ≡ n + length (l ++ m) = rw (length-append l m) (add_assoc n (length l) (length m)) in
    rw g (splice (take n v ++ l) (drop (n + length l) v) m (n + length l) e)
    ∙ regroup (take n v) l m (drop (length m) (drop (n + length l) v))
    ∙ rw (drop-drop (length m) (n + length l) v, s)

pub added_added : (f : Filled) (l m : List ℕ) → f.len + length l + length m ≤ length f.bytes → added (added f l) m ≡ added f (l ++ m)
added_added f l m h =
    let g = filled (take f.len f.bytes ++ (l ++ drop (f.len + length l) f.bytes)) (f.len + length l) in
    let n : length g.bytes ≡ length f.bytes = placed_length f l (omega arith) in
    let p = both_bytes f.bytes l m f.len (omega arith) in
    let q : f.len + length l + length m ≡ f.len + length (l ++ m) = rw (length-append l m) (add_assoc f.len (length l) (length m)) in
    ap (λ (x : Filled). added x m) (added_fits f l (omega arith))
    ∙ added_fits g m (omega arith)
    ∙ (λ i. filled (p i) (q i))
    ∙ sym (added_fits f (l ++ m) (omega arith))

-- two pieces that were put one behind the other are one
pub then_added : (f g h : Filled) (l m : List ℕ) → f.len + length l + length m ≤ length f.bytes → g ≡ added f l → h ≡ added g m → h ≡ added f (l ++ m)
then_added f g h l m room e k = k ∙ ap (λ (x : Filled). added x m) e ∙ added_added f l m room

-- the same piece by another name
pub same_piece : (f g : Filled) (piece other : List ℕ) → piece ≡ other → g ≡ added f piece → g ≡ added f other
same_piece f g piece other e p = p ∙ ap (λ (l : List ℕ). added f l) e

-- ---- many pieces

-- those behind those
pub all_append : (f : Filled) (ps qs : List (List ℕ)) → added_all (added_all f ps) qs ≡ added_all f (ps ++ qs)
unfolding added_all
all_append f [] qs = refl
all_append f (p ∷ ps) qs = all_append (added f p) ps qs

-- two pieces that were put one behind the other
pub two_added : (f g h : Filled) (p q : List ℕ) → g ≡ added f p → h ≡ added g q → h ≡ added_all f (p ∷ q ∷ [])
unfolding added_all
two_added f g h p q e k = k ∙ ap (λ (x : Filled). added x q) e

-- pieces that were put behind pieces
pub all_then : (f g h : Filled) (ps qs rs : List (List ℕ)) → ps ++ qs ≡ rs → g ≡ added_all f ps → h ≡ added_all g qs → h ≡ added_all f rs
all_then f g h ps qs rs s e k = k ∙ ap (λ (x : Filled). added_all x qs) e ∙ all_append f ps qs ∙ ap (λ (x : List (List ℕ)). added_all f x) s

pub all_length : (f : Filled) (ps : List (List ℕ)) → length (added_all f ps).bytes ≡ length f.bytes
unfolding added_all
all_length f [] = refl
all_length f (p ∷ ps) = all_length (added f p) ps ∙ added_length f p

-- where there is room for all of them they are one piece
pub all_fits : (f : Filled) (ps : List (List ℕ)) → f.len + length (together ps) ≤ length f.bytes → added_all f ps ≡ added f (together ps)
unfolding added_all together
all_fits f [] h = added_none f
all_fits f (p ∷ ps) h =
    let l = length-append p (together ps) in
    let room : f.len + length p + length (together ps) ≤ length f.bytes = omega arith in
    let n = added_len f p (omega arith) in
    let m = added_length f p in
    all_fits (added f p) ps (omega arith) ∙ added_added f p (together ps) room

-- the bytes in use of a buffer that was filled with them from its start
pub all_front : (v : List ℕ) (ps : List (List ℕ)) → length (together ps) ≤ length v → front_of (added_all (filled v 0) ps) ≡ together ps
all_front v ps h = ap front_of (all_fits (filled v 0) ps (omega arith)) ∙ first_front v (together ps) h

-- ---- a writer lent what stands from the place on

-- what any writer reports fits its buffer
pub within_buffer : (w : Answer) (refusal : ℕ) (bytes out left : List ℕ) → ends w left ≡ wrote refusal bytes out → w.reported ≤ length out
unfolding wrote wrote_as
within_buffer w zero bytes out left e = go (ltb (length out) (length bytes)) refl e
  where
    go : (t : Bool) → ltb (length out) (length bytes) ≡ t
        → ends w left ≡ cond t (ends (no_room (length bytes)) out) (ends (done_by (length bytes)) (bytes ++ drop (length bytes) out))
        → w.reported ≤ length out
    go true h e = let r : w.reported ≡ 0 = ap (λ (x : Wrote). x.answer.reported) e in omega arith
    go false h e =
        let r : w.reported ≡ length bytes = ap (λ (x : Wrote). x.answer.reported) e in
        omega (arith, ltb-false (length out) (length bytes) h)
within_buffer w (suc n) bytes out left e = let r : w.reported ≡ 0 = ap (λ (x : Wrote). x.answer.reported) e in omega arith

module _ (piece out left : List ℕ) (at k : ℕ) (w : Answer) (h : at ≤ length out) (sent : ends w left ≡ wrote k piece (take (length out - at) (drop at out))) where
  rest_length : length (take (length out - at) (drop at out)) ≡ length out - at
  rest_length = ap length (part_to_end out at) ∙ length-drop at out

  pub place_within : at + w.reported ≤ length out
  place_within = omega (arith, within_buffer w k piece (take (length out - at) (drop at out)) left sent, rest_length)

  -- nothing stands behind the rest
  whole : put_mid at (length out - at) out left ≡ take at out ++ left
  whole = ap (λ (l : List ℕ). take at out ++ l) (ap (λ (l : List ℕ). left ++ l) (drop_of_length-le (drop at out) {i = length out - at} (omega (arith, length-drop at out))) ∙ append-nil left)

  left_as : (r : ℕ) (l : List ℕ) → w.reported ≡ r → left ≡ l → filled (put_mid at (length out - at) out left) (at + w.reported) ≡ filled (take at out ++ l) (at + r)
  left_as r l p q = ap₂ filled (whole ∙ ap (λ (x : List ℕ). take at out ++ x) q) (ap (λ (n : ℕ). at + n) p)

  -- a writer that refuses leaves the buffer as it was
  pub put_refused : (k ≡ 0 → ⊥) → filled (put_mid at (length out - at) out left) (at + w.reported) ≡ filled out at
  unfolding wrote wrote_as
  put_refused z = go k z (sent ∙ ap (λ (l : List ℕ). wrote k piece l) (part_to_end out at))
    where
      go : (k : ℕ) → (k ≡ 0 → ⊥) → ends w left ≡ wrote k piece (drop at out) → filled (put_mid at (length out - at) out left) (at + w.reported) ≡ filled out at
      go zero z e = absurd (z refl)
      go (suc n) z e =
          left_as 0 (drop at out) (ap (λ (x : Wrote). x.answer.reported) e) (ap (λ (x : Wrote). x.buffer) e)
          ∙ ap₂ filled (take-append-drop at out) (add-zero at)

  -- one that does not: its piece is added
  pub put_as : k ≡ 0 → filled (put_mid at (length out - at) out left) (at + w.reported) ≡ added (filled out at) piece
  unfolding wrote wrote_as
  put_as z = go (ltb (length (drop at out)) (length piece)) refl (sent ∙ ap₂ (λ (n : ℕ) (l : List ℕ). wrote n piece l) z (part_to_end out at))
    where
      go : (t : Bool) → ltb (length (drop at out)) (length piece) ≡ t
          → ends w left ≡ cond t (ends (no_room (length piece)) (drop at out)) (ends (done_by (length piece)) (piece ++ drop (length piece) (drop at out)))
          → filled (put_mid at (length out - at) out left) (at + w.reported) ≡ added (filled out at) piece
      go true t e =
          left_as 0 (drop at out) (ap (λ (x : Wrote). x.answer.reported) e) (ap (λ (x : Wrote). x.buffer) e)
          ∙ ap₂ filled (take-append-drop at out) (add-zero at)
          ∙ sym (added_not (filled out at) piece (omega (arith, ltb-true (length (drop at out)) (length piece) t, length-drop at out)))
      go false t e =
          left_as (length piece) (piece ++ drop (length piece) (drop at out)) (ap (λ (x : Wrote). x.answer.reported) e) (ap (λ (x : Wrote). x.buffer) e)
          ∙ ap (λ (l : List ℕ). filled (take at out ++ (piece ++ l)) (at + length piece)) (drop-drop (length piece) at out)
          ∙ sym (added_fits (filled out at) piece (omega (arith, ltb-false (length (drop at out)) (length piece) t, length-drop at out)))

-- ---- one byte

pub byte_stored : (b at : ℕ) (out : List ℕ) → at < length out → filled (set out at b) (at + 1) ≡ added (filled out at) (b ∷ [])
byte_stored b at out h = rw (set_split out at b h, add-one) (sym (added_fits (filled out at) (b ∷ []) (omega arith) ∙ rw add-one))

pub byte_not : (b at : ℕ) (out : List ℕ) → length out ≤ at → filled out at ≡ added (filled out at) (b ∷ [])
byte_not b at out h = sym (added_not (filled out at) (b ∷ []) (omega arith))
