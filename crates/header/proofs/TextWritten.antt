-- The pieces of a header's text: their bytes are the text, the greatest refusal is the header's, and they take at most 178 bytes.
-- Assumes nothing.
use mathlib.Core.Path.{◌≡◌, refl, sym, ap, ◌∙◌}
use mathlib.Core.Bool.{Bool, true, false, not, cond, ◌&&◌}
use mathlib.Core.List.{List, [], ◌∷◌, ◌++◌, append_assoc}
use Prim.Native.Nat.{ℕ, ◌*◌, ◌≤◌, max}
use native.Mathlib.Omega.{arith}
use lib.Dec.{eqb}
use borrow.Author.Tests.{not-true}
use lib.ListN.{length, take, length-take}
use Rattle.laws.specs.Bytes.{comma, colon, greater}
use Rattle.laws.specs.Lists.{every}
use Rattle.buffer.specs.declared.Answer.{Answer}
use Rattle.buffer.specs.Wrote.{Wrote, ends, refused_by, wrote}
use Rattle.buffer.specs.Filled.{front_of}
use Rattle.buffer.proofs.Wrote.{passed_on}
use Rattle.callsign.specs.declared.Callsign.{Callsign}
use Rattle.callsign.specs.Range.{in_range, range_refusal, text_of, with_star}
use Rattle.callsign.proofs.Ranges.{text_short, star_short}
use Rattle.header.specs.declared.Hop.{Hop}
use Rattle.header.specs.declared.Header.{Header}
use Rattle.header.specs.Hop.{is_heard, any_heard}
use Rattle.header.specs.Header.{hops_of}
use Rattle.header.specs.Text.{hops_text, route_text, header_text}
use Rattle.header.specs.Range.{hop_in_range, header_in_range, text_refusal}
use Rattle.header.specs.Private.{is_tidy}
use Rattle.header.specs.Pieces.{Building, building, plain, call_piece, hop_piece, with_piece, with_pieces, end_pieces, hop_pieces, text_pieces}
use Rattle.header.proofs.Pieces.{bytes_of, greatest, size_of, sizes, bytes_append, greatest_append, sizes_append, sizes_accepted, put_out}
use Rattle.header.proofs.Putting.{three_put, all_put}
use Rattle.header.proofs.InRange.{call_fine, tidy_count, judged_tidy, path_tidy, untidy_out, tidy_range}

-- ---- refusals

hops_judged : (l : List Hop) → greatest (hop_pieces l) ≡ cond (every hop_in_range l) 0 15
unfolding hop_pieces greatest every
hops_judged [] = refl
hops_judged (h ∷ l) = go (hop_in_range h) (every hop_in_range l) (hops_judged l)
  where
    go : (a b : Bool) → greatest (hop_pieces l) ≡ cond b 0 15 → max 0 (max (cond a 0 15) (greatest (hop_pieces l))) ≡ cond (a && b) 0 15
    go true true e = omega arith
    go true false e = omega arith
    go false true e = omega arith
    go false false e = omega arith

pub text_judged : (h : Header) → is_tidy h.path ≡ true → greatest (text_pieces h) ≡ text_refusal h
unfolding text_pieces greatest text_refusal range_refusal
text_judged h e =
    rw (tidy_range h e)
    (go (in_range h.from) (in_range h.to) (every hop_in_range (hops_of h.path)) (hops_judged (hops_of h.path)) (greatest_append (hop_pieces (hops_of h.path)) (plain (colon ∷ []) ∷ [])))
  where
    go : (a b d : Bool) → greatest (hop_pieces (hops_of h.path)) ≡ cond d 0 15
        → greatest (hop_pieces (hops_of h.path) ++ plain (colon ∷ []) ∷ []) ≡ max (greatest (hop_pieces (hops_of h.path))) 0
        → max (cond a 0 15) (max 0 (max (cond b 0 15) (greatest (hop_pieces (hops_of h.path) ++ plain (colon ∷ []) ∷ [])))) ≡ cond (a && (b && d)) 0 15
    go true true true p q = omega arith
    go true true false p q = omega arith
    go true false true p q = omega arith
    go true false false p q = omega arith
    go false true true p q = omega arith
    go false true false p q = omega arith
    go false false true p q = omega arith
    go false false false p q = omega arith

-- ---- bytes

hops_spelled : (l : List Hop) → bytes_of (hop_pieces l) ≡ hops_text l
unfolding hop_pieces bytes_of hops_text
hops_spelled [] = refl
hops_spelled (h ∷ l) = ap (λ (x : List ℕ). comma ∷ (with_star (text_of h.call) (is_heard h && not (any_heard l)) ++ x)) (hops_spelled l)

pub text_spelled : (h : Header) → bytes_of (text_pieces h) ≡ header_text h
unfolding text_pieces bytes_of with_star header_text route_text
text_spelled h =
    let hops = hops_text (hops_of h.path) in
    rw (bytes_append (hop_pieces (hops_of h.path)) (plain (colon ∷ []) ∷ []), hops_spelled (hops_of h.path))
    (sym (append_assoc (text_of h.from) (greater ∷ (text_of h.to ++ hops)) (colon ∷ [])
    ∙ ap (λ (x : List ℕ). text_of h.from ++ greater ∷ x) (append_assoc (text_of h.to) hops (colon ∷ []))))

-- ---- how many

plain_size : (l : List ℕ) → size_of (plain l) ≡ length l
unfolding size_of
plain_size l = refl

call_size : (c : Callsign) → size_of (call_piece c false) ≤ 16
unfolding size_of with_star range_refusal
call_size c = go (in_range c) refl
  where
    go : (b : Bool) → in_range c ≡ b → cond (eqb (cond b 0 15) 0) (length (text_of c)) 0 ≤ 16
    go true e = text_short c e
    go false e = omega arith

hop_size : (h : Hop) (starred : Bool) → size_of (hop_piece h starred) ≤ 17
unfolding size_of
hop_size h starred = go (hop_in_range h) refl
  where
    go : (b : Bool) → hop_in_range h ≡ b → cond (eqb (cond b 0 15) 0) (length (with_star (text_of h.call) starred)) 0 ≤ 17
    go true e = star_short h.call starred (call_fine h e)
    go false e = omega arith

hops_size : (l : List Hop) → sizes (hop_pieces l) ≤ 18 * length l
unfolding hop_pieces sizes
hops_size [] = omega arith
hops_size (h ∷ l) =
    let a = hop_size h (is_heard h && not (any_heard l)) in
    let b = hops_size l in
    let d : size_of (plain (comma ∷ [])) ≡ 1 = plain_size (comma ∷ []) in
    omega arith

pub text_size : (h : Header) → is_tidy h.path ≡ true → sizes (text_pieces h) ≤ 178
unfolding text_pieces sizes size_of hops_of
text_size h e =
    let m = tidy_count h.path e in
    let k = length-take h.path.count h.path.hops in
    let a = call_size h.from in
    let b = call_size h.to in
    let d = hops_size (hops_of h.path) in
    let f = sizes_append (hop_pieces (hops_of h.path)) (plain (colon ∷ []) ∷ []) in
    omega arith

-- a header in range is at most 178 bytes of text
pub text_bound : (h : Header) → header_in_range h ≡ true → length (header_text h) ≤ 178
unfolding text_refusal
text_bound h e =
    let t = path_tidy h e in
    let z : greatest (text_pieces h) ≡ 0 = text_judged h t ∙ rw e in
    rw (← text_spelled h) (omega (arith, sizes_accepted (text_pieces h) z, text_size h t))

-- ---- the writer's answers

pub text_untidy : (u : Bool) (h : Header) (r : Answer) (out : List ℕ) → u ≡ is_tidy h.path → not u ≡ true → r ≡ refused_by 15 → ends r out ≡ wrote (text_refusal h) (header_text h) out
unfolding text_refusal
text_untidy u h r out e t q = passed_on r 15 (text_refusal h) (header_text h) out q (λ z. omega arith) (rw (untidy_out h (sym e ∙ not-true u t)))

pub text_out : (u : Bool) (h : Header) (v : List ℕ) (b₀ b₁ b₂ b₃ b₄ b₅ : Building) (w : Wrote) (out : List ℕ) → u ≡ is_tidy h.path → not u ≡ false → 178 ≤ length v
    → b₀ ≡ building 0 v 0 → b₁ ≡ with_piece b₀ (call_piece h.from false) → b₂ ≡ with_piece b₁ (plain (greater ∷ [])) → b₃ ≡ with_piece b₂ (call_piece h.to false)
    → b₄ ≡ with_pieces b₃ (hop_pieces (take h.path.count h.path.hops)) → b₅ ≡ with_piece b₄ (plain (colon ∷ []))
    → w ≡ wrote b₅.refusal (front_of b₅.array) out → w ≡ wrote (text_refusal h) (header_text h) out
unfolding text_pieces hops_of
text_out u h v b₀ b₁ b₂ b₃ b₄ b₅ w out e k room e₀ e₁ e₂ e₃ e₄ e₅ p =
    let s = judged_tidy u h.path e k in
    let ends : b₃ ≡ with_pieces b₀ (end_pieces h.from h.to) = three_put b₀ b₁ b₂ b₃ _ _ _ e₁ e₂ e₃ in
    let all : b₅ ≡ with_pieces b₀ (text_pieces h) = all_put b₀ b₃ b₄ b₅ (end_pieces h.from h.to) (hop_pieces (hops_of h.path)) (plain (colon ∷ [])) ends e₄ e₅ in
    put_out v b₅ (text_pieces h) (all ∙ ap (λ (b : Building). with_pieces b (text_pieces h)) e₀) (omega (arith, text_size h s)) w out p ∙ rw (text_judged h s, text_spelled h)
