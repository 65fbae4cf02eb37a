-- What stands behind the colon: a text and an identifier joined, and the two taken apart again.
-- Assumes nothing.
use mathlib.Core.Path.{◌≡◌, refl, sym, ◌∙◌}
use mathlib.Core.Logic.{⊎_elim}
use mathlib.Core.Bool.{true, false, not, ◌||◌, or-true}
use mathlib.Core.List.{List, [], ◌∷◌, ◌++◌, append-nil}
use Prim.Native.Nat.{ℕ, ◌+◌, ◌<◌, ◌≤◌}
use native.Mathlib.Numerals.{add-one}
use native.Mathlib.Omega.{arith}
use lib.Dec.{eqb, leb, ltb}
use lib.ListN.{length, take, drop, get_or, length-append, drop_of_length-le}
use lib.Seq.{take_all, split_at, append_snoc, take-append_seam, drop-append-add}
use borrow.Author.Tests.{ltb-true, ltb-false, le-ltb, not-true}
use Rattle.laws.specs.Bytes.{colon, brace, bar, tilde, within}
use Rattle.laws.specs.Lists.{index_of, every}
use Rattle.laws.proofs.Each.{every_first, every_rest}
use Rattle.laws.proofs.Places.{index_split}
use Rattle.laws.proofs.Tests.{bool_cases, and_first, and_second, or_either, or_neither, within_low, within_high, within_yes}
use Rattle.message.specs.Message.{is_text_byte, is_text, is_identifier, has_identifier, text_in, identifier_in, is_addressed, addressee_text, identifier_text}

-- ---- joined: the first `{` is the one behind the text

no_brace : (x : ℕ) → is_text_byte x ≡ true → eqb x brace ≡ false
unfolding is_text_byte
no_brace x e =
    (or_neither (eqb x tilde) (eqb x brace) (or_neither (eqb x bar) (eqb x tilde || eqb x brace) (not-true (eqb x bar || (eqb x tilde || eqb x brace)) e)).1).1

past_text : (text l : List ℕ) → every is_text_byte text ≡ true → index_of brace (text ++ l) ≡ length text + index_of brace l
unfolding index_of
past_text [] l e = omega arith
past_text (x ∷ text) l e = rw (no_brace x (every_first is_text_byte x text e)) (omega (arith, past_text text l (every_rest is_text_byte x text e)))

at_once : (identifier : List ℕ) → index_of brace (identifier_text identifier) ≡ 0
unfolding index_of identifier_text
at_once [] = refl
at_once (b ∷ l) = refl

behind_brace_lem : (identifier : List ℕ) → drop 1 (identifier_text identifier) ≡ identifier
unfolding identifier_text
behind_brace_lem [] = refl
behind_brace_lem (b ∷ l) = refl

-- none, or 1 to 5 bytes
allowed : (n : ℕ) (identifier : List ℕ) → length identifier ≤ 5 → (not (ltb n (n + length (identifier_text identifier))) || within 1 5 (length identifier)) ≡ true
unfolding identifier_text
allowed n [] h = rw (le-ltb n (n + 0) (omega arith))
allowed n (b ∷ l) h = rw (within_yes 1 5 (length (b ∷ l)) (omega arith) h) (or-true (not (ltb n (n + length (brace ∷ b ∷ l)))))

module _ (text identifier : List ℕ) (is : is_text text ≡ true) where
  text_ends : index_of brace (text ++ identifier_text identifier) ≡ length text
  unfolding is_text
  text_ends = past_text text (identifier_text identifier) (and_second (leb (length text) 67) (every is_text_byte text) is) ∙ omega (arith, at_once identifier)

  pub text_behind_lem : text_in (text ++ identifier_text identifier) ≡ text
  unfolding text_in
  text_behind_lem = rw text_ends (take-append_seam text (identifier_text identifier))

  pub identifier_behind : identifier_in (text ++ identifier_text identifier) ≡ identifier
  unfolding identifier_in
  identifier_behind = rw (text_ends, drop-append-add text (identifier_text identifier) 1) (behind_brace_lem identifier)

  pub joined : length identifier ≤ 5 → is_addressed (text ++ identifier_text identifier) ≡ true
  unfolding is_addressed has_identifier is_identifier
  joined few = rw (text_behind_lem, is, text_ends, identifier_behind, length-append text (identifier_text identifier)) (allowed (length text) identifier few)

-- ---- apart

with_brace : (identifier : List ℕ) → 1 ≤ length identifier → identifier_text identifier ≡ brace ∷ identifier
unfolding identifier_text
with_brace [] h = absurd (omega arith)
with_brace (b ∷ l) h = refl

-- none, or a few bytes behind a `{`
record Split (l : List ℕ) : Type 0 where
  few : length (identifier_in l) ≤ 5
  whole : l ≡ text_in l ++ identifier_text (identifier_in l)

alone : (l : List ℕ) → has_identifier l ≡ false → Split l
unfolding has_identifier text_in identifier_in identifier_text
alone l e =
    let h : length l ≤ index_of brace l = ltb-false (index_of brace l) (length l) e in
    let k : length l ≤ index_of brace l + 1 = omega arith in
    record { few = rw (drop_of_length-le l k) (omega arith); whole = rw (drop_of_length-le l k, take_all (index_of brace l) l h) (sym (append-nil l)) }

followed : (l : List ℕ) → has_identifier l ≡ true → is_identifier (identifier_in l) ≡ true → Split l
unfolding has_identifier is_identifier text_in identifier_in
followed l e f =
    let h : index_of brace l < length l = ltb-true (index_of brace l) (length l) e in
    let n = length (drop (index_of brace l + 1) l) in
    record {
      few = within_high 1 5 n f;
      whole = index_split brace l h ∙ rw (with_brace (drop (index_of brace l + 1) l) (within_low 1 5 n f), add-one (index_of brace l));
    }

module _ (l : List ℕ) (e : is_addressed l ≡ true) where
  pub text_is : is_text (text_in l) ≡ true
  unfolding is_addressed
  text_is = and_first (is_text (text_in l)) _ e

  split : Split l
  unfolding is_addressed
  split =
      ⊎_elim
      (λ h. ⊎_elim (λ n. alone l (not-true (has_identifier l) n)) (λ i. followed l h i) (or_either (not (has_identifier l)) _ (and_second (is_text (text_in l)) _ e)))
      (λ n. alone l n)
      (bool_cases (has_identifier l))

  pub identifier_few : length (identifier_in l) ≤ 5
  identifier_few = split.few

  pub apart : l ≡ text_in l ++ identifier_text (identifier_in l)
  apart = split.whole

-- ---- the addressee and the colon

pub colon_splits : (s : List ℕ) → 9 < length s → get_or s 9 0 ≡ colon → s ≡ addressee_text (take 9 s) ++ drop 10 s
unfolding addressee_text
colon_splits s h e = split_at s 9 0 h ∙ rw e (sym (append_snoc (take 9 s) colon (drop 10 s)))
