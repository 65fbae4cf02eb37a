-- Laws of `wrote`: what each answer of a writer must show, and that two results that meet one promise are equal.
-- Assumes nothing.
use mathlib.Core.Path.{◌≡◌, refl, sym, ap, ◌∙◌}
use mathlib.Core.List.{List, [], ◌++◌, append_assoc}
use Prim.Native.Nat.{ℕ, zero, suc, ◌+◌, ◌<◌, ◌≤◌}
use lib.ListN.{length, drop, length-append}
use lib.Seq.{paste, take_at, take-length, drop-append-add, drop-drop}
use borrow.Author.Tests.{lt-ltb, le-ltb}
use Rattle.buffer.specs.declared.Answer.{Answer}
use Rattle.buffer.specs.Wrote.{Wrote, ends, refused_by, no_room, done_by, wrote_as, wrote, over_by}

-- ---- one answer, one law: r is the refusal that the definition gives

pub refused_as : (n r k : ℕ) (bytes out : List ℕ) → r ≡ n → (n ≡ 0 → ⊥) → ends (refused_by n) out ≡ wrote_as r k bytes out
unfolding wrote_as
refused_as zero r k bytes out e h = absurd (h refl)
refused_as (suc n) r k bytes out e h = rw e

pub no_room_as : (r k m : ℕ) (bytes out : List ℕ) → r ≡ 0 → length bytes ≡ m → length out < m → ends (no_room m) out ≡ wrote_as r k bytes out
unfolding wrote_as
no_room_as r k m bytes out z e h = rw (z, e, lt-ltb (length out) m h)

pub done_as : (r k m : ℕ) (bytes out out' : List ℕ) → r ≡ 0 → length bytes ≡ m → m ≤ length out → out' ≡ bytes ++ drop m out → ends (done_by k) out' ≡ wrote_as r k bytes out
unfolding wrote_as
done_as r k m bytes out out' z e h w = rw (z, e, le-ltb (length out) m h, w)

-- ---- the same for a writer, which reports its bytes

pub refuses : (n r : ℕ) (bytes out : List ℕ) → r ≡ n → (n ≡ 0 → ⊥) → ends (refused_by n) out ≡ wrote r bytes out
unfolding wrote
refuses n r bytes out e h = refused_as n r (length bytes) bytes out e h

-- a refusal that a call answered
pub passed_on : (a : Answer) (n r : ℕ) (bytes out : List ℕ) → a ≡ refused_by n → (n ≡ 0 → ⊥) → r ≡ n → ends a out ≡ wrote r bytes out
passed_on a n r bytes out q h e = rw q (refuses n r bytes out e h)

pub no_room_lem : (r m : ℕ) (bytes out : List ℕ) → r ≡ 0 → length bytes ≡ m → length out < m → ends (no_room m) out ≡ wrote r bytes out
unfolding wrote
no_room_lem r m bytes out z e h = no_room_as r (length bytes) m bytes out z e h

pub writes : (r m : ℕ) (bytes out out' : List ℕ) → r ≡ 0 → length bytes ≡ m → m ≤ length out → out' ≡ bytes ++ drop m out → ends (done_by m) out' ≡ wrote r bytes out
unfolding wrote
writes r m bytes out out' z e h w = ap (λ (k : ℕ). ends (done_by k) out') (sym e) ∙ done_as r (length bytes) m bytes out out' z e h w

-- ---- pieces put one after the other: p stands before the place, and s is put behind it

pub put_after : (p d s : List ℕ) (at : ℕ) → at ≡ length p → paste (p ++ d) at s (length s) ≡ (p ++ s) ++ drop (length s) d
put_after p d s at e = rw (take_at p d at (sym e), take-length s, e, drop-append-add p d (length s))

pub put_first : (d s : List ℕ) → paste d 0 s (length s) ≡ s ++ drop (length s) d
put_first d s = put_after [] d s 0 refl

-- one piece more behind those that stand at the front of out
put_behind : (p s out o o' : List ℕ) (at : ℕ) → at ≡ length p → o ≡ p ++ drop at out → o' ≡ paste o at s (length s) → o' ≡ (p ++ s) ++ drop (at + length s) out
put_behind p s out o o' at k e f =
    f ∙ ap (λ (x : List ℕ). paste x at s (length s)) e ∙ put_after p (drop at out) s at k ∙ ap (λ (r : List ℕ). (p ++ s) ++ r) (drop-drop (length s) at out)

pub put_all : (a b c out o₁ o₂ o₃ : List ℕ)
    → o₁ ≡ paste out 0 a (length a) → o₂ ≡ paste o₁ (length a) b (length b) → o₃ ≡ paste o₂ (length a + length b) c (length c)
    → o₃ ≡ (a ++ (b ++ c)) ++ drop (length a + length b + length c) out
put_all a b c out o₁ o₂ o₃ e f g =
    let both = put_behind a b out o₁ o₂ (length a) refl (e ∙ put_first out a) f in
    put_behind (a ++ b) c out o₂ o₃ (length a + length b) (sym (length-append a b)) both g
    ∙ ap (λ (l : List ℕ). l ++ drop (length a + length b + length c) out) (append_assoc a b c)

-- ---- the limit

pub over : (limit : ℕ) (bytes : List ℕ) → limit < length bytes → over_by limit bytes ≡ 1
unfolding over_by
over limit bytes h = rw (lt-ltb limit (length bytes) h)

pub not_over : (limit : ℕ) (bytes : List ℕ) → length bytes ≤ limit → over_by limit bytes ≡ 0
unfolding over_by
not_over limit bytes h = rw (le-ltb limit (length bytes) h)

-- ---- uniqueness

-- two answers and two buffers that meet one equation
pub one_end : (r r' : Answer) (o o' : List ℕ) (w : Wrote) → ends r o ≡ w → ends r' o' ≡ w → (r ≡ r') × (o ≡ o')
one_end r r' o o' w e e' = (ap (λ (x : Wrote). x.answer) (e ∙ sym e'), ap (λ (x : Wrote). x.buffer) (e ∙ sym e'))
