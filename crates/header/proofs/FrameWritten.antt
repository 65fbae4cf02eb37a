-- The pieces of a header's frame: their bytes are the frame's, the greatest refusal is the header's, and they take at most 72 bytes.
-- Assumes nothing.
use mathlib.Core.Path.{◌≡◌, refl, sym, ap, ◌∙◌}
use mathlib.Core.Logic.{⊎_elim}
use mathlib.Core.Bool.{Bool, true, false, not, cond, ◌&&◌, false≢true}
use mathlib.Core.List.{List, [], ◌∷◌, ◌++◌}
use Prim.Native.Nat.{ℕ, ◌*◌, ◌≤◌, max}
use native.Mathlib.Omega.{arith}
use lib.Dec.{eqb}
use borrow.Author.Tests.{eq-eqb, eqb-true, eqb-false, not-true}
use lib.ListN.{length, take, length-append, length-take}
use Rattle.laws.specs.Lists.{every}
use Rattle.buffer.specs.declared.Answer.{Answer}
use Rattle.buffer.specs.Wrote.{Wrote, ends, refused_by, wrote}
use Rattle.buffer.specs.Filled.{front_of}
use Rattle.buffer.proofs.Wrote.{passed_on}
use Rattle.callsign.specs.declared.Callsign.{Callsign}
use Rattle.callsign.specs.declared.AddressWritten.{AddressWritten}
use Rattle.callsign.specs.declared.Field.{Field}
use Rattle.callsign.specs.declared.Field.TheVariants.{Destination, Source, Hop as HopField}
use Rattle.callsign.specs.Range.{in_range}
use Rattle.callsign.specs.Packed.{write_address}
use Rattle.callsign.proofs.AddressBack.{address_seven}
use Rattle.callsign.proofs.Theorems.{address_out_of_range, address_within_range}
use Rattle.header.specs.declared.Hop.{Hop}
use Rattle.header.specs.declared.Header.{Header}
use Rattle.header.specs.Hop.{is_heard, is_q_element, is_call, calls_of}
use Rattle.header.specs.Header.{hops_of}
use Rattle.header.specs.Frame.{pair, is_none, hop_addresses, addresses, first_refusal, address_bytes, header_frame}
use Rattle.header.specs.Range.{hop_in_range, header_in_range, frame_refusal}
use Rattle.header.specs.Private.{is_tidy, is_tidy_hop}
use Rattle.header.specs.Pieces.{Piece, Building, building, plain, address_piece, end_address_pieces, hop_address_piece, hop_address_pieces, with_piece, with_pieces, frame_pieces}
use Rattle.std.specs.List.{list_any}
use Rattle.header.proofs.Chains.{any_any_of}
use Rattle.header.proofs.Pieces.{bytes_of, greatest, size_of, sizes, bytes_append, greatest_append, sizes_append, sizes_accepted, put_out}
use Rattle.header.proofs.Putting.{two_put, all_put, none_called}
use Rattle.header.proofs.InRange.{untidy_hop, tidy_hop, tidy_q, tidy_count, judged_tidy, path_tidy, untidy_out, tidy_range}

-- ---- refusals: the greatest is 15 where a callsign or a hop is out of range, and else the first of an address

record Judged (ok : Bool) (ps : List Piece) (l : List AddressWritten) : Type 0 where
  is : greatest ps ≡ cond ok (first_refusal l) 15
  low : ok ≡ true → first_refusal l ≤ 13

none_judged : Judged true [] []
unfolding greatest first_refusal
none_judged = record { is = refl; low = λ e. omega arith }

-- pieces before which one is refused with 15, or not at all
module _ (ok : Bool) (ps : List Piece) (l : List AddressWritten) (p : Piece) where
  out_judged : (k : List AddressWritten) → p.refusal ≡ 15 → Judged ok ps l → Judged false (p ∷ ps) k
  unfolding greatest
  out_judged k e j = record { is = go ok j.is j.low; low = λ f. absurd (false≢true f) }
    where
      go : (b : Bool) → greatest ps ≡ cond b (first_refusal l) 15 → (b ≡ true → first_refusal l ≤ 13) → max p.refusal (greatest ps) ≡ 15
      go true q h = let m = h refl in omega arith
      go false q h = omega arith

  in_judged : p.refusal ≡ 0 → Judged ok ps l → Judged ok (p ∷ ps) l
  unfolding greatest
  in_judged e j = record { is = (let q = j.is in omega arith); low = j.low }

-- an address before others, written or refused with 13
module _ (ok : Bool) (ps : List Piece) (l : List AddressWritten) (a : AddressWritten) where
  first_written : a.refusal ≡ 0 → Judged ok ps l → Judged ok (address_piece a ∷ ps) (a ∷ l)
  unfolding greatest first_refusal
  first_written z j =
      let t = eq-eqb a.refusal 0 z in
      record { is = ap (λ (n : ℕ). max n (greatest ps)) z ∙ rw t (omega (arith, j.is)); low = λ e. rw t (j.low e) }

  first_refused : a.refusal ≡ 13 → Judged ok ps l → Judged ok (address_piece a ∷ ps) (a ∷ l)
  unfolding greatest first_refusal
  first_refused z j = record { is = ap (λ (n : ℕ). max n (greatest ps)) z ∙ rw z (go ok j.is j.low); low = λ e. rw z (omega arith) }
    where
      go : (b : Bool) → greatest ps ≡ cond b (first_refusal l) 15 → (b ≡ true → first_refusal l ≤ 13) → max 13 (greatest ps) ≡ cond b 13 15
      go true q h = let m = h refl in omega arith
      go false q h = omega arith

one_judged : (c : Callsign) (field : Field) (last : Bool) (ok : Bool) (ps : List Piece) (l : List AddressWritten) → Judged ok ps l
    → Judged (in_range c && ok) (address_piece (write_address c field last) ∷ ps) (write_address c field last ∷ l)
one_judged c field last ok ps l j = go (in_range c) refl
  where
    go : (b : Bool) → in_range c ≡ b → Judged (b && ok) (address_piece (write_address c field last) ∷ ps) (write_address c field last ∷ l)
    go true e =
        ⊎_elim (λ z. first_written ok ps l (write_address c field last) z j) (λ z. first_refused ok ps l (write_address c field last) z j) (address_within_range c field last e)
    go false e = out_judged ok ps l (address_piece (write_address c field last)) (write_address c field last ∷ l) (address_out_of_range c field last e) j

-- the address of a hop, before others; none of a Q element
unfoldable with_hop : Hop → Bool → List AddressWritten → List AddressWritten
with_hop h last l = cond (is_q_element h) l (write_address h.call (HopField (is_heard h)) last ∷ l)

hop_judged : (h : Hop) (last : Bool) (ok : Bool) (ps : List Piece) (l : List AddressWritten) → Judged ok ps l → Judged (hop_in_range h && ok) (hop_address_piece h last ∷ ps) (with_hop h last l)
unfolding hop_address_piece with_hop
hop_judged h last ok ps l j = go (is_tidy_hop h) refl (is_q_element h) refl
  where
    a : AddressWritten
    a = write_address h.call (HopField (is_heard h)) last

    go : (t : Bool) → is_tidy_hop h ≡ t → (q : Bool) → is_q_element h ≡ q
        → Judged (hop_in_range h && ok) (record { refusal = cond t (cond q 0 a.refusal) 15; bytes = cond q [] a.bytes } ∷ ps) (cond q l (a ∷ l))
    go false e q k = rw (untidy_hop h e) (out_judged ok ps l _ _ refl j)
    go true e true k = rw (tidy_q h e k) (in_judged ok ps l _ refl j)
    go true e false k = rw (tidy_hop h e) (one_judged h.call (HopField (is_heard h)) last ok ps l j)

with_hop_lem : (h : Hop) (l : List Hop) → with_hop h (is_none (calls_of l)) (hop_addresses (calls_of l)) ≡ hop_addresses (calls_of (h ∷ l))
unfolding with_hop calls_of hop_addresses
with_hop_lem h l = go (is_q_element h)
  where
    go : (q : Bool) → cond q (hop_addresses (calls_of l)) (write_address h.call (HopField (is_heard h)) (is_none (calls_of l)) ∷ hop_addresses (calls_of l)) ≡ hop_addresses (cond q (calls_of l) (h ∷ calls_of l))
    go true = refl
    go false = refl

hops_judged : (l : List Hop) → Judged (every hop_in_range l) (hop_address_pieces l) (hop_addresses (calls_of l))
unfolding every hop_address_pieces
hops_judged [] = unfold calls_of hop_addresses in none_judged
hops_judged (h ∷ l) = rw (with_hop_lem h l) at (hop_judged h (is_none (calls_of l)) (every hop_in_range l) (hop_address_pieces l) (hop_addresses (calls_of l)) (hops_judged l))

addresses_judged : (h : Header) → Judged (in_range h.to && (in_range h.from && every hop_in_range (hops_of h.path)))
    (end_address_pieces h.to h.from (is_none (calls_of (hops_of h.path))) ++ hop_address_pieces (hops_of h.path)) (addresses h)
unfolding addresses
addresses_judged h =
    one_judged h.to Destination false _ _ _ (one_judged h.from Source (is_none (calls_of (hops_of h.path))) _ _ _ (hops_judged (hops_of h.path)))

-- all but the control pair
unfoldable address_pieces : Header → List Piece
address_pieces h = end_address_pieces h.to h.from (is_none (calls_of (hops_of h.path))) ++ hop_address_pieces (hops_of h.path)

with_pair_lem : (h : Header) → frame_pieces h ≡ address_pieces h ++ plain pair ∷ []
unfolding frame_pieces address_pieces
with_pair_lem h = refl

pub frame_judged : (h : Header) → is_tidy h.path ≡ true → greatest (frame_pieces h) ≡ frame_refusal h
unfolding frame_refusal greatest
frame_judged h e =
    rw (with_pair_lem h, tidy_range h e, greatest_append (address_pieces h) (plain pair ∷ []))
    (go (in_range h.from) (in_range h.to) (every hop_in_range (hops_of h.path)) (unfold address_pieces in (addresses_judged h).is))
  where
    go : (a b d : Bool) → greatest (address_pieces h) ≡ cond (b && (a && d)) (first_refusal (addresses h)) 15
        → max (greatest (address_pieces h)) (max 0 0) ≡ cond (a && (b && d)) (first_refusal (addresses h)) 15
    go true true true p = omega arith
    go true true false p = omega arith
    go true false d p = omega arith
    go false true d p = omega arith
    go false false d p = omega arith

-- ---- bytes

hops_spelled : (l : List Hop) → bytes_of (hop_address_pieces l) ≡ address_bytes (hop_addresses (calls_of l))
unfolding hop_address_pieces hop_address_piece bytes_of calls_of
hops_spelled [] = unfold hop_addresses address_bytes in refl
hops_spelled (h ∷ l) = go (is_q_element h) (hops_spelled l)
  where
    go : (q : Bool) → bytes_of (hop_address_pieces l) ≡ address_bytes (hop_addresses (calls_of l))
        → cond q [] (write_address h.call (HopField (is_heard h)) (is_none (calls_of l))).bytes ++ bytes_of (hop_address_pieces l) ≡ address_bytes (hop_addresses (cond q (calls_of l) (h ∷ calls_of l)))
    go true r = r
    go false r = unfold hop_addresses address_bytes in ap (λ (x : List ℕ). (write_address h.call (HopField (is_heard h)) (is_none (calls_of l))).bytes ++ x) r

pub frame_spelled : (h : Header) → bytes_of (frame_pieces h) ≡ header_frame h
unfolding address_pieces bytes_of header_frame addresses address_bytes
frame_spelled h = rw (with_pair_lem h) (bytes_append (address_pieces h) (plain pair ∷ []) ∙ rw (hops_spelled (hops_of h.path)))

-- ---- how many

address_size : (c : Callsign) (field : Field) (last : Bool) → size_of (address_piece (write_address c field last)) ≤ 7
unfolding size_of
address_size c field last = go (eqb (write_address c field last).refusal 0) refl
  where
    go : (b : Bool) → eqb (write_address c field last).refusal 0 ≡ b → cond b (length (write_address c field last).bytes) 0 ≤ 7
    go true e = omega (arith, address_seven c field last (eqb-true _ 0 e))
    go false e = omega arith

hop_size : (h : Hop) (last : Bool) → size_of (hop_address_piece h last) ≤ 7
unfolding hop_address_piece
hop_size h last = go (is_tidy_hop h) (is_q_element h) (address_size h.call (HopField (is_heard h)) last)
  where
    a : AddressWritten
    a = write_address h.call (HopField (is_heard h)) last

    go : (t q : Bool) → size_of (address_piece a) ≤ 7 → size_of (record { refusal = cond t (cond q 0 a.refusal) 15; bytes = cond q [] a.bytes }) ≤ 7
    go true true r = unfold size_of in omega arith
    go true false r = r
    go false q r = unfold size_of in omega arith

hops_size : (l : List Hop) → sizes (hop_address_pieces l) ≤ 7 * length l
unfolding hop_address_pieces sizes
hops_size [] = omega arith
hops_size (h ∷ l) = omega (arith, hop_size h (is_none (calls_of l)), hops_size l)

pub frame_size : (h : Header) → is_tidy h.path ≡ true → sizes (frame_pieces h) ≤ 72
unfolding frame_pieces sizes size_of hops_of
frame_size h e =
    let m = tidy_count h.path e in
    let k = length-take h.path.count h.path.hops in
    let last = is_none (calls_of (hops_of h.path)) in
    let a = address_size h.to Destination false in
    let b = address_size h.from Source last in
    let d = hops_size (hops_of h.path) in
    let f = sizes_append (hop_address_pieces (hops_of h.path)) (plain pair ∷ []) in
    omega arith

-- a header that can be written is at most 72 bytes of a frame
pub frame_bound : (h : Header) → frame_refusal h ≡ 0 → length (header_frame h) ≤ 72
unfolding frame_refusal
frame_bound h z = go (header_in_range h) refl z
  where
    go : (b : Bool) → header_in_range h ≡ b → cond b (first_refusal (addresses h)) 15 ≡ 0 → length (header_frame h) ≤ 72
    go true e q =
        let t = path_tidy h e in
        rw (← frame_spelled h) (omega (arith, sizes_accepted (frame_pieces h) (frame_judged h t ∙ z), frame_size h t))
    go false e q = absurd (omega arith)

-- ---- the addresses of a header that can be written

pub first_none : (a : AddressWritten) (l : List AddressWritten) → first_refusal (a ∷ l) ≡ 0 → (a.refusal ≡ 0) × (first_refusal l ≡ 0)
unfolding first_refusal
first_none a l z = go (eqb a.refusal 0) refl z
  where
    go : (k : Bool) → eqb a.refusal 0 ≡ k → cond k (first_refusal l) a.refusal ≡ 0 → (a.refusal ≡ 0) × (first_refusal l ≡ 0)
    go true k e = (eqb-true a.refusal 0 k, e)
    go false k e = absurd (eqb-false a.refusal 0 k e)

pub hops_length : (l : List Hop) → first_refusal (hop_addresses l) ≡ 0 → length (address_bytes (hop_addresses l)) ≡ 7 * length l
unfolding address_bytes hop_addresses
hops_length [] z = refl
hops_length (h ∷ l) z =
    let a = write_address h.call (HopField (is_heard h)) (is_none l) in
    let p = first_none a (hop_addresses l) z in
    let s = address_seven h.call (HopField (is_heard h)) (is_none l) p.0 in
    let r = hops_length l p.1 in
    rw (length-append a.bytes (address_bytes (hop_addresses l)), s, r) (omega arith)

-- ---- the writer's answers

pub frame_untidy : (u : Bool) (h : Header) (r : Answer) (out : List ℕ) → u ≡ is_tidy h.path → not u ≡ true → r ≡ refused_by 15 → ends r out ≡ wrote (frame_refusal h) (header_frame h) out
unfolding frame_refusal
frame_untidy u h r out e t q = passed_on r 15 (frame_refusal h) (header_frame h) out q (λ z. omega arith) (rw (untidy_out h (sym e ∙ not-true u t)))

pub frame_out : (u : Bool) (h : Header) (v : List ℕ) (any : Bool) (b₀ b₁ b₂ b₃ b₄ : Building) (w : Wrote) (out : List ℕ) → u ≡ is_tidy h.path → not u ≡ false → 72 ≤ length v
    → any ≡ list_any is_call (take h.path.count h.path.hops) → b₀ ≡ building 0 v 0 → b₁ ≡ with_piece b₀ (address_piece (write_address h.to Destination false))
    → b₂ ≡ with_piece b₁ (address_piece (write_address h.from Source (not any))) → b₃ ≡ with_pieces b₂ (hop_address_pieces (take h.path.count h.path.hops)) → b₄ ≡ with_piece b₃ (plain pair)
    → w ≡ wrote b₄.refusal (front_of b₄.array) out → w ≡ wrote (frame_refusal h) (header_frame h) out
unfolding frame_pieces hops_of
frame_out u h v any b₀ b₁ b₂ b₃ b₄ w out e k room a e₀ e₁ e₂ e₃ e₄ p =
    let s = judged_tidy u h.path e k in
    let l = hops_of h.path in
    let last : not any ≡ is_none (calls_of l) = rw (a, any_any_of is_call l) (none_called l) in
    let ends : b₂ ≡ with_pieces b₀ (end_address_pieces h.to h.from (is_none (calls_of l))) = two_put b₀ b₁ b₂ _ _ e₁ (rw last at e₂) in
    let all : b₄ ≡ with_pieces b₀ (frame_pieces h) = all_put b₀ b₂ b₃ b₄ (end_address_pieces h.to h.from (is_none (calls_of l))) (hop_address_pieces l) (plain pair) ends e₃ e₄ in
    put_out v b₄ (frame_pieces h) (all ∙ ap (λ (b : Building). with_pieces b (frame_pieces h)) e₀) (omega (arith, frame_size h s)) w out p ∙ rw (frame_judged h s, frame_spelled h)
