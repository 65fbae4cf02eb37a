-- Pieces put one behind the other into a scratch array: what one of them changes, and, where there is room for those that are not
-- refused, what all of them come to.
-- Assumes nothing.
use mathlib.Core.Path.{◌≡◌, refl, sym, ap, ◌∙◌}
use mathlib.Core.Bool.{Bool, true, false, cond}
use mathlib.Core.List.{List, [], ◌∷◌, ◌++◌, append_assoc}
use Prim.Native.Nat.{ℕ, zero, suc, ◌+◌, ◌-◌, ◌^◌, ◌<◌, ◌≤◌, max}
use native.Mathlib.Omega.{arith}
use mir.Val.{Fits}
use mir.Syntax.{w64}
use lib.Dec.{eqb, ltb, leb}
use borrow.Author.Tests.{eq-eqb, ne_eqb, eqb-true, eqb-false, le-leb, lt-leb, leb-true, leb-false, ltb-true, ltb-false}
use lib.ListN.{length, take, drop, length-append, length-drop}
use borrow.Author.Rules.{part_to_end}
use borrow.Rule.Slice.PartMut.{put_mid}
use Rattle.buffer.specs.declared.Answer.{Answer}
use Rattle.buffer.specs.Wrote.{Wrote, ends, no_room, done_by, wrote_as, wrote}
use Rattle.buffer.specs.Filled.{Filled, filled, front_of, added}
use Rattle.callsign.specs.declared.AddressWritten.{AddressWritten}
use Rattle.buffer.proofs.Filled.{added_not, added_length, added_len, added_none, first_front, added_added, place_within, put_as, put_refused}
use Rattle.header.specs.Pieces.{Piece, Building, building, plain, address_piece, answer_to, with_refusal, with_piece, with_pieces}

-- ---- what pieces come to

-- the bytes of all
unfoldable pub bytes_of : List Piece → List ℕ
bytes_of [] = []
bytes_of (p ∷ l) = p.bytes ++ bytes_of l

-- the greatest refusal
unfoldable pub greatest : List Piece → ℕ
greatest [] = 0
greatest (p ∷ l) = max p.refusal (greatest l)

-- how many bytes are put: none of a piece that is refused
unfoldable pub size_of : Piece → ℕ
size_of p = cond (eqb p.refusal 0) (length p.bytes) 0

unfoldable pub sizes : List Piece → ℕ
sizes [] = 0
sizes (p ∷ l) = size_of p + sizes l

pub bytes_append : (k l : List Piece) → bytes_of (k ++ l) ≡ bytes_of k ++ bytes_of l
unfolding bytes_of
bytes_append [] l = refl
bytes_append (p ∷ k) l = ap (λ (x : List ℕ). p.bytes ++ x) (bytes_append k l) ∙ sym (append_assoc p.bytes (bytes_of k) (bytes_of l))

pub greatest_append : (k l : List Piece) → greatest (k ++ l) ≡ max (greatest k) (greatest l)
unfolding greatest
greatest_append [] l = omega arith
greatest_append (p ∷ k) l = let r = greatest_append k l in omega arith

pub sizes_append : (k l : List Piece) → sizes (k ++ l) ≡ sizes k + sizes l
unfolding sizes
sizes_append [] l = omega arith
sizes_append (p ∷ k) l = let r = sizes_append k l in omega arith

-- pieces in two rows are one row
pub pieces_append : (b : Building) (k l : List Piece) → with_pieces (with_pieces b k) l ≡ with_pieces b (k ++ l)
unfolding with_pieces
pieces_append b [] l = refl
pieces_append b (p ∷ k) l = pieces_append (with_piece b p) k l

-- ---- one piece

size_accepted : (p : Piece) → p.refusal ≡ 0 → size_of p ≡ length p.bytes
unfolding size_of
size_accepted p z = rw (eq-eqb p.refusal 0 z)

module _ (b : Building) (p : Piece) where
  accepted : p.refusal ≡ 0 → (with_piece b p).array ≡ added b.array p.bytes
  unfolding with_piece
  accepted z = rw (eq-eqb p.refusal 0 z)

  refused : (p.refusal ≡ 0 → ⊥) → (with_piece b p).array ≡ b.array
  unfolding with_piece
  refused z = rw (ne_eqb p.refusal 0 z)

  pub piece_length : length (with_piece b p).array.bytes ≡ length b.array.bytes
  unfolding with_piece
  piece_length = go (eqb p.refusal 0)
    where
      go : (t : Bool) → length (cond t (added b.array p.bytes) b.array).bytes ≡ length b.array.bytes
      go true = added_length b.array p.bytes
      go false = refl

  pub piece_within : b.array.len ≤ length b.array.bytes → (with_piece b p).array.len ≤ length (with_piece b p).array.bytes
  unfolding with_piece
  piece_within h = go (eqb p.refusal 0) (leb (b.array.len + length p.bytes) (length b.array.bytes)) refl
    where
      go : (t u : Bool) → leb (b.array.len + length p.bytes) (length b.array.bytes) ≡ u
          → (cond t (added b.array p.bytes) b.array).len ≤ length (cond t (added b.array p.bytes) b.array).bytes
      go true true e = let r = leb-true _ _ e in omega (arith, added_length b.array p.bytes, added_len b.array p.bytes r)
      go true false e = let r = leb-false _ _ e in rw (added_not b.array p.bytes r) h
      go false u e = h

  module _ (room : b.array.len + size_of p ≤ length b.array.bytes) where
    piece_refusal : (with_piece b p).refusal ≡ max b.refusal p.refusal
    unfolding with_piece answer_to size_of
    piece_refusal = go (eqb p.refusal 0) refl room
      where
        go : (t : Bool) → eqb p.refusal 0 ≡ t → b.array.len + cond t (length p.bytes) 0 ≤ length b.array.bytes
            → max b.refusal (cond t (cond (leb (b.array.len + length p.bytes) (length b.array.bytes)) 0 16) p.refusal) ≡ max b.refusal p.refusal
        go true e h = rw (le-leb (b.array.len + length p.bytes) (length b.array.bytes) h, eqb-true p.refusal 0 e)
        go false e h = refl

    piece_len : (with_piece b p).array.len ≡ b.array.len + size_of p
    unfolding with_piece size_of
    piece_len = go (eqb p.refusal 0) room
      where
        go : (t : Bool) → b.array.len + cond t (length p.bytes) 0 ≤ length b.array.bytes
            → (cond t (added b.array p.bytes) b.array).len ≡ b.array.len + cond t (length p.bytes) 0
        go true h = added_len b.array p.bytes h
        go false h = omega arith

-- ---- all pieces

pub pieces_length : (b : Building) (l : List Piece) → length (with_pieces b l).array.bytes ≡ length b.array.bytes
unfolding with_pieces
pieces_length b [] = refl
pieces_length b (p ∷ l) = pieces_length (with_piece b p) l ∙ piece_length b p

pub pieces_within : (b : Building) (l : List Piece) → b.array.len ≤ length b.array.bytes → (with_pieces b l).array.len ≤ length (with_pieces b l).array.bytes
unfolding with_pieces
pieces_within b [] h = h
pieces_within b (p ∷ l) h = pieces_within (with_piece b p) l (piece_within b p h)

room_behind : (b : Building) (p : Piece) (l : List Piece) → b.array.len + sizes (p ∷ l) ≤ length b.array.bytes
    → (with_piece b p).array.len + sizes l ≤ length (with_piece b p).array.bytes
unfolding sizes
room_behind b p l h = omega (arith, piece_len b p (omega arith), piece_length b p)

pieces_refusal : (b : Building) (l : List Piece) → b.array.len + sizes l ≤ length b.array.bytes → (with_pieces b l).refusal ≡ max b.refusal (greatest l)
unfolding with_pieces greatest sizes
pieces_refusal b [] h = omega arith
pieces_refusal b (p ∷ l) h =
    let r = piece_refusal b p (omega arith) in
    let q = pieces_refusal (with_piece b p) l (room_behind b p l h) in
    omega arith

pub sizes_accepted : (l : List Piece) → greatest l ≡ 0 → sizes l ≡ length (bytes_of l)
unfolding greatest sizes bytes_of
sizes_accepted [] z = refl
sizes_accepted (p ∷ l) z = omega (arith, size_accepted p (omega arith), sizes_accepted l (omega arith), length-append p.bytes (bytes_of l))

pieces_there : (b : Building) (l : List Piece) → b.array.len + sizes l ≤ length b.array.bytes → greatest l ≡ 0 → (with_pieces b l).array ≡ added b.array (bytes_of l)
unfolding with_pieces greatest sizes bytes_of
pieces_there b [] h z = added_none b.array
pieces_there b (p ∷ l) h z =
    let f : p.refusal ≡ 0 = omega arith in
    let g : greatest l ≡ 0 = omega arith in
    pieces_there (with_piece b p) l (room_behind b p l h) g
    ∙ ap (λ (f : Filled). added f (bytes_of l)) (accepted b p f)
    ∙ added_added b.array p.bytes (bytes_of l) (omega (arith, size_accepted p f, sizes_accepted l g))

-- ---- what is put from the array's start goes out

module _ (v : List ℕ) (b : Building) (l : List Piece) (q : b ≡ with_pieces (building 0 v 0) l) (room : sizes l ≤ length v) where
  put_refusal : b.refusal ≡ greatest l
  put_refusal = omega (arith, ap (λ (b : Building). b.refusal) q, pieces_refusal (building 0 v 0) l (omega arith))

  put_front : greatest l ≡ 0 → front_of b.array ≡ bytes_of l
  put_front z =
      ap (λ (b : Building). front_of b.array) q
      ∙ ap front_of (pieces_there (building 0 v 0) l (omega arith) z)
      ∙ first_front v (bytes_of l) (omega (arith, sizes_accepted l z))

  -- refused as the worst of them is, or with the bytes of all
  pub put_out : (w : Wrote) (out : List ℕ) → w ≡ wrote b.refusal (front_of b.array) out → w ≡ wrote (greatest l) (bytes_of l) out
  unfolding wrote wrote_as
  put_out w out e = e ∙ rw put_refusal (go (greatest l) refl)
    where
      go : (k : ℕ) → greatest l ≡ k → wrote k (front_of b.array) out ≡ wrote k (bytes_of l) out
      go zero z = ap (λ (x : List ℕ). wrote 0 x out) (put_front z)
      go (suc k) z = refl

-- with no refusal it is a writer's plain answer
pub accepted_out : (w : Wrote) (k : ℕ) (bytes out : List ℕ) → k ≡ 0 → w ≡ wrote 0 bytes out → w ≡ wrote k bytes out
accepted_out w k bytes out z e = e ∙ ap (λ (n : ℕ). wrote n bytes out) (sym z)

-- ---- a writer lent what stands from the place on

answers : (k : ℕ) (bytes out : List ℕ) → (wrote k bytes out).answer.refusal ≡ cond (eqb k 0) (cond (leb (length bytes) (length out)) 0 16) k
unfolding wrote wrote_as
answers zero bytes out = go (ltb (length out) (length bytes)) refl
  where
    go : (t : Bool) → ltb (length out) (length bytes) ≡ t
        → (cond t (ends (no_room (length bytes)) out) (ends (done_by (length bytes)) (bytes ++ drop (length bytes) out))).answer.refusal ≡ cond (leb (length bytes) (length out)) 0 16
    go true e = rw (lt-leb (length bytes) (length out) (ltb-true (length out) (length bytes) e))
    go false e = rw (le-leb (length bytes) (length out) (ltb-false (length out) (length bytes) e))
answers (suc k) bytes out = rw (ne_eqb (suc k) 0 (λ z. omega arith))

module _ (v : List ℕ) (at : ℕ) (w : Answer) (left : List ℕ) (p : Piece) (h : at ≤ length v) (sent : ends w left ≡ wrote p.refusal p.bytes (take (length v - at) (drop at v))) where
  its_answer : w.refusal ≡ answer_to (filled v at) p
  unfolding answer_to
  its_answer =
      ap (λ (x : Wrote). x.answer.refusal) sent
      ∙ answers p.refusal p.bytes (take (length v - at) (drop at v))
      ∙ ap (λ (t : Bool). cond (eqb p.refusal 0) (cond t 0 16) p.refusal) (go (leb (at + length p.bytes) (length v)) refl)
    where
      long : length (take (length v - at) (drop at v)) ≡ length v - at
      long = ap length (part_to_end v at) ∙ length-drop at v

      go : (t : Bool) → leb (at + length p.bytes) (length v) ≡ t → leb (length p.bytes) (length (take (length v - at) (drop at v))) ≡ t
      go true e = let k = leb-true (at + length p.bytes) (length v) e in rw long (le-leb (length p.bytes) (length v - at) (omega arith))
      go false e = let k = leb-false (at + length p.bytes) (length v) e in rw long (lt-leb (length p.bytes) (length v - at) (omega arith))

  its_array : filled (put_mid at (length v - at) v left) (at + w.reported) ≡ cond (eqb p.refusal 0) (added (filled v at) p.bytes) (filled v at)
  its_array = go (eqb p.refusal 0) refl
    where
      go : (t : Bool) → eqb p.refusal 0 ≡ t → filled (put_mid at (length v - at) v left) (at + w.reported) ≡ cond t (added (filled v at) p.bytes) (filled v at)
      go true e = put_as p.bytes v left at p.refusal w h sent (eqb-true p.refusal 0 e)
      go false e = put_refused p.bytes v left at p.refusal w h sent (eqb-false p.refusal 0 e)

  pub piece_put : (r k : ℕ) → k ≡ max r w.refusal → building k (put_mid at (length v - at) v left) (at + w.reported) ≡ with_piece (building r v at) p
  unfolding with_piece
  piece_put r k e =
      let x : k ≡ max r (answer_to (filled v at) p) = e ∙ rw its_answer in
      let y = its_array in
      λ i. record { refusal = x i; array = y i }

  -- the place behind it is within the array
  pub piece_room : at + w.reported ≤ length (put_mid at (length v - at) v left)
  piece_room =
      let q = piece_put 0 (max 0 w.refusal) refl in
      rw (ap (λ (b : Building). b.array.len) q, ap (λ (b : Building). b.array.bytes) q) (piece_within (building 0 v at) p h)

-- its number
pub place_fits : (v left bytes : List ℕ) (at k : ℕ) (w : Answer) → at ≤ length v → ends w left ≡ wrote k bytes (take (length v - at) (drop at v)) → length v < 2 ^ 64 → Fits w64 (at + w.reported)
place_fits v left bytes at k w h sent b = let m = place_within bytes v left at k w h sent in record { fits = omega arith }

-- ---- a piece that is refused before any byte

pub piece_refused : (b : Building) (p : Piece) → (p.refusal ≡ 0 → ⊥) → with_refusal b p.refusal ≡ with_piece b p
unfolding with_refusal with_piece answer_to
piece_refused b p z = rw (ne_eqb p.refusal 0 z)

-- ---- an address, which its writer gives whole

module _ (b b' : Building) (a d : AddressWritten) (q : a ≡ d) where
  pub address_refused_lem : (a.refusal ≡ 0 → ⊥) → b' ≡ with_refusal b a.refusal → b' ≡ with_piece b (address_piece d)
  address_refused_lem z e = rw (← q) (e ∙ piece_refused b (address_piece a) z)

  pub address_put : a.refusal ≡ 0 → b' ≡ with_piece b (plain a.bytes) → b' ≡ with_piece b (address_piece d)
  address_put z e = e ∙ ap (λ (n : ℕ). with_piece b (record { refusal = n; bytes = a.bytes })) (sym z) ∙ ap (λ (x : AddressWritten). with_piece b (address_piece x)) q
