-- Laws of UTF-8: RFC 3629's table by ranges of first bytes, one byte more of a text, and ASCII within a text.
-- Assumes nothing.
use Rattle.std.proofs.Common.{◌≡◌, ℕ, zero, suc, ◌+◌, ◌-◌, ◌<◌, ◌≤◌, Bool, true, false, cond, not, ◌&&◌, ◌||◌, T, eqb, List, [], ◌∷◌, ◌++◌, length, get_or, drop, replicate, sym, refl, ap, ◌∙◌, arith, eqb→eq, drop_of_length-le, Option, Some, None, ltb-true, ne_eqb, le-leb}
use mathlib.Core.Bool.{and-false, and_assoc, false≢true}
use borrow.Author.Tests.{lt-leb}
use Rattle.laws.specs.Bytes.{within}
use Rattle.laws.specs.Lists.{every}
use Rattle.laws.proofs.Each.{every_first, every_rest}
use Rattle.laws.proofs.Every.{all, all_at, and_left, and_right}
use Rattle.laws.proofs.Lists.{next}
use Rattle.callsign.specs.declared.Tails.{Tails}
use Rattle.callsign.specs.Utf8.{Span, tail, never, after, ascii, owed, asked_by, characters, utf8}

-- ---- the table

abbrev same : List Span → List Span → Bool
same [] [] = true
same [] (r ∷ rs) = false
same (r ∷ rs) [] = false
same (r ∷ rs) (q ∷ qs) = eqb r.0 q.0 && (eqb r.1 q.1 && same rs qs)

same_eq : (a b : List Span) → T (same a b) → a ≡ b
same_eq [] [] t = refl
same_eq [] (r ∷ rs) t = absurd t
same_eq (r ∷ rs) [] t = absurd t
same_eq (r ∷ rs) (q ∷ qs) t =
    let s = eqb r.1 q.1 && same rs qs in
    let x = eqb→eq r.0 q.0 (and_left (eqb r.0 q.0) s t) in
    let u = and_right (eqb r.0 q.0) s t in
    let y = eqb→eq r.1 q.1 (and_left (eqb r.1 q.1) (same rs qs) u) in
    let z = same_eq rs qs (and_right (eqb r.1 q.1) (same rs qs) u) in
    λ i. (x i, y i) ∷ z i

-- every byte from lo to hi is followed by l
abbrev pub table : ℕ → ℕ → List Span → Bool
unfolding after within
table lo hi l = all 256 (λ b. not (within lo hi b) || same (after b) l)

after_at : (lo hi : ℕ) (l : List Span) → T (table lo hi l) → (b : ℕ) → b < 256 → lo ≤ b → b ≤ hi → l ≡ after b
unfolding after within
after_at lo hi l t b f h k = sym (same_eq (after b) l (go (within lo hi b) (rw (le-leb lo b h, le-leb b hi k) refl) (all_at 256 (λ (x : ℕ). not (within lo hi x) || same (after x) l) t b f)))
  where
    go : (p : Bool) → p ≡ true → T (not p || same (after b) l) → T (same (after b) l)
    go true e t = t
    go false e t = absurd (false≢true e)

-- a first byte that asks for n bytes, the next from lowest to highest
pub asks : (lo hi n lowest highest : ℕ) → T (table lo hi (owed n lowest highest)) → (b : ℕ) → b < 256 → lo ≤ b → b ≤ hi
    → (t : Tails) → t ≡ record { count = n; lowest = lowest; highest = highest } → asked_by (Some t) ≡ after b
unfolding asked_by
asks lo hi n lowest highest h b f j k t e = rw e (after_at lo hi (owed n lowest highest) h b f j k)

-- and one that starts no character
pub asks_none : (lo hi : ℕ) → T (table lo hi (never ∷ [])) → (b : ℕ) → b < 256 → lo ≤ b → b ≤ hi → asked_by None ≡ after b
unfolding asked_by
asks_none lo hi h b f j k = after_at lo hi (never ∷ []) h b f j k

-- ---- a turn of the reader: n bytes are owed, the next from lo to hi

owed_tails : (n : ℕ) → owed n 0x80 0xbf ≡ replicate n tail
unfolding owed
owed_tails zero = refl
owed_tails (suc n) = refl

pub ascii_after : (b : ℕ) → b < 0x80 → after b ≡ []
unfolding after within
ascii_after b h = rw (le-leb 0 b (omega arith), le-leb b 0x7f (omega arith))

below_span : (n lo hi b : ℕ) (l : List ℕ) → (n ≡ 0 → ⊥) → b < lo → characters (owed n lo hi) (b ∷ l) ≡ false
unfolding owed characters within
below_span zero lo hi b l h k = absurd (h refl)
below_span (suc n) lo hi b l h k = rw (lt-leb lo b k)

above_span : (n lo hi b : ℕ) (l : List ℕ) → (n ≡ 0 → ⊥) → lo ≤ b → hi < b → characters (owed n lo hi) (b ∷ l) ≡ false
unfolding owed characters within
above_span zero lo hi b l h j k = absurd (h refl)
above_span (suc n) lo hi b l h j k = rw (le-leb lo b j, lt-leb b hi k)

one_passed : (n lo hi b : ℕ) (l : List ℕ) → lo ≤ b → b ≤ hi → characters (owed (suc n) lo hi) (b ∷ l) ≡ characters (replicate n tail) l
unfolding owed characters within
one_passed n lo hi b l j k = rw (le-leb lo b j, le-leb b hi k)

in_span : (n lo hi b : ℕ) (l : List ℕ) → (n ≡ 0 → ⊥) → lo ≤ b → b ≤ hi → characters (owed n lo hi) (b ∷ l) ≡ characters (owed (n - 1) 0x80 0xbf) l
in_span zero lo hi b l h j k = absurd (h refl)
in_span (suc n) lo hi b l h j k =
    one_passed n lo hi b l j k ∙ ap (λ (rs : List Span). characters rs l) (sym (owed_tails n) ∙ ap (λ (m : ℕ). owed m 0x80 0xbf) (omega arith))

none_owed : (n lo hi : ℕ) (l : List ℕ) → n ≡ 0 → characters (owed n lo hi) l ≡ characters [] l
unfolding owed
none_owed n lo hi l e = rw e

within_never : (b : ℕ) → within 1 0 b ≡ false
unfolding within
within_never zero = refl
within_never (suc n) = rw (lt-leb (suc n) 0 (omega arith), and-false)

none_in_never : (l : List ℕ) → characters (never ∷ []) l ≡ false
unfolding characters
none_in_never [] = refl
none_in_never (b ∷ l) = rw (within_never b)

module _ (t : List ℕ) (n lo hi i : ℕ) (h : i < length t) (e : utf8 t ≡ characters (owed n lo hi) (drop i t)) where
  here : utf8 t ≡ characters (owed n lo hi) (get_or t i 0 ∷ drop (i + 1) t)
  here = e ∙ ap (characters (owed n lo hi)) (next 0 t i h)

  module _ (z : n ≡ 0 → ⊥) where
    pub span_below : get_or t i 0 < lo → false ≡ utf8 t
    span_below k = sym (here ∙ below_span n lo hi (get_or t i 0) (drop (i + 1) t) z k)

    module _ (j : lo ≤ get_or t i 0) where
      pub span_above : hi < get_or t i 0 → false ≡ utf8 t
      span_above k = sym (here ∙ above_span n lo hi (get_or t i 0) (drop (i + 1) t) z j k)

      pub span_passed : get_or t i 0 ≤ hi → utf8 t ≡ characters (owed (n - 1) 0x80 0xbf) (drop (i + 1) t)
      span_passed k = here ∙ in_span n lo hi (get_or t i 0) (drop (i + 1) t) z j k

  module _ (z : n ≡ 0) where
    between : utf8 t ≡ characters (after (get_or t i 0)) (drop (i + 1) t)
    unfolding characters
    between = here ∙ none_owed n lo hi (get_or t i 0 ∷ drop (i + 1) t) z

    pub none_begins : (o : Option Tails) → o ≡ None → asked_by o ≡ after (get_or t i 0) → false ≡ utf8 t
    unfolding asked_by
    none_begins o w q = sym (between ∙ ap (λ (rs : List Span). characters rs (drop (i + 1) t)) (sym q ∙ ap asked_by w) ∙ none_in_never (drop (i + 1) t))

    pub ascii_passed : get_or t i 0 < 0x80 → utf8 t ≡ characters (owed n lo hi) (drop (i + 1) t)
    ascii_passed k = between ∙ ap (λ (rs : List Span). characters rs (drop (i + 1) t)) (ascii_after (get_or t i 0) k) ∙ sym (none_owed n lo hi (drop (i + 1) t) z)

    pub first_passed : (o : Option Tails) (a : Tails) → o ≡ Some a → asked_by o ≡ after (get_or t i 0) → utf8 t ≡ characters (owed a.count a.lowest a.highest) (drop (i + 1) t)
    unfolding asked_by
    first_passed o a w q = between ∙ ap (λ (rs : List Span). characters rs (drop (i + 1) t)) (sym q ∙ ap asked_by w)

at_end : (n lo hi : ℕ) → characters (owed n lo hi) [] ≡ eqb n 0
unfolding characters owed
at_end zero lo hi = refl
at_end (suc n) lo hi = sym (ne_eqb (suc n) 0 (λ e. omega arith))

pub all_passed : (t : List ℕ) (n lo hi i : ℕ) → length t ≤ i → utf8 t ≡ characters (owed n lo hi) (drop i t) → eqb n 0 ≡ utf8 t
all_passed t n lo hi i h e = sym (e ∙ ap (characters (owed n lo hi)) (drop_of_length-le t h) ∙ at_end n lo hi)

-- ---- ASCII at the front

pub none_begun : (t : List ℕ) → utf8 t ≡ characters (owed 0 0x80 0xbf) t
unfolding utf8 owed
none_begun t = refl

pub ascii_front : (b : ℕ) (l : List ℕ) → b < 0x80 → utf8 (b ∷ l) ≡ utf8 l
unfolding utf8 characters
ascii_front b l h = ap (λ (rs : List Span). characters rs l) (ascii_after b h)

-- and nothing else
pub ascii_utf8 : (l : List ℕ) → every ascii l ≡ true → utf8 l ≡ true
unfolding utf8 characters
ascii_utf8 [] e = refl
ascii_utf8 (b ∷ l) e = ascii_front b l (ltb-true b 0x80 (every_first ascii b l e)) ∙ ascii_utf8 l (every_rest ascii b l e)

-- ---- ASCII between: a text is UTF-8 where both sides of an ASCII byte are

-- no range holds b
apart : ℕ → List Span → Bool
apart b [] = true
apart b (r ∷ rs) = not (within r.0 r.1 b) && apart b rs

apart_pick : (b : ℕ) (t : Bool) (x y : List Span) → apart b x ≡ true → apart b y ≡ true → apart b (cond t x y) ≡ true
apart_pick b true x y h k = h
apart_pick b false x y h k = k

apart_none : (b : ℕ) → apart b [] ≡ true
unfolding apart
apart_none b = refl

apart_one : (b : ℕ) (r : Span) (rs : List Span) → within r.0 r.1 b ≡ false → apart b rs ≡ true → apart b (r ∷ rs) ≡ true
unfolding apart
apart_one b r rs h k = rw h k

module _ (b : ℕ) (h : b < 0x80) where
  below_all : (lo hi : ℕ) → 0x80 ≤ lo → within lo hi b ≡ false
  unfolding within
  below_all lo hi k = rw (lt-leb lo b (omega arith))

  high : (lo hi : ℕ) (rs : List Span) → 0x80 ≤ lo → apart b rs ≡ true → apart b ((lo, hi) ∷ rs) ≡ true
  high lo hi rs k q = apart_one b (lo, hi) rs (below_all lo hi k) q

  tails : (rs : List Span) → apart b rs ≡ true → apart b (tail ∷ rs) ≡ true
  tails rs q = high 0x80 0xbf rs (omega arith) q

  apart_after : (x : ℕ) → apart b (after x) ≡ true
  unfolding after
  apart_after x =
      let one : apart b (tail ∷ []) ≡ true = tails [] (apart_none b) in
      let two : apart b (tail ∷ tail ∷ []) ≡ true = tails _ one in
      apart_pick b (within 0x00 0x7f x) _ _ (apart_none b)
      (apart_pick b (within 0xc2 0xdf x) _ _ one
      (apart_pick b (within 0xe0 0xe0 x) _ _ (high 0xa0 0xbf _ (omega arith) one)
      (apart_pick b (within 0xe1 0xec x) _ _ two
      (apart_pick b (within 0xed 0xed x) _ _ (high 0x80 0x9f _ (omega arith) one)
      (apart_pick b (within 0xee 0xef x) _ _ two
      (apart_pick b (within 0xf0 0xf0 x) _ _ (high 0x90 0xbf _ (omega arith) two)
      (apart_pick b (within 0xf1 0xf3 x) _ _ (tails _ two)
      (apart_pick b (within 0xf4 0xf4 x) _ _ (high 0x80 0x8f _ (omega arith) two)
      (apart_one b never [] (within_never b) (apart_none b))))))))))

  split : (rs : List Span) (x y : List ℕ) → apart b rs ≡ true → characters rs (x ++ b ∷ y) ≡ (characters rs x && utf8 y)
  unfolding characters utf8 apart
  split [] [] y e = ap (λ (rs : List Span). characters rs y) (ascii_after b h)
  split [] (c ∷ x) y e = split (after c) x y (apart_after c)
  split (r ∷ rs) [] y e = first (within r.0 r.1 b) (characters rs y) (apart b rs) e
    where
      first : (p q a : Bool) → (not p && a) ≡ true → (p && q) ≡ false
      first true q a e = absurd (false≢true e)
      first false q a e = refl
  split (r ∷ rs) (c ∷ x) y e =
      ap (λ (q : Bool). within r.0 r.1 c && q) (split rs x y (rest (within r.0 r.1 b) (apart b rs) e))
      ∙ sym (and_assoc (within r.0 r.1 c) (characters rs x) (utf8 y))
    where
      rest : (p a : Bool) → (not p && a) ≡ true → a ≡ true
      rest true a e = absurd (false≢true e)
      rest false a e = e

  pub utf8_split : (x y : List ℕ) → utf8 (x ++ b ∷ y) ≡ (utf8 x && utf8 y)
  unfolding utf8
  utf8_split x y = split [] x y (apart_none b)
