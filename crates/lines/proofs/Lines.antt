-- Laws of the line at a place: what each answer of `line_at` must show, by the place of the first LF and the byte
-- before it.
-- Assumes nothing.
use mathlib.Core.Path.{◌≡◌, sym, ap, ◌∙◌}
use mathlib.Core.List.{List}
use Prim.Native.Nat.{ℕ, ◌+◌, ◌-◌, ◌<◌, ◌≤◌}
use native.Mathlib.Omega.{arith}
use borrow.Author.Tests.{lt-ltb, le-ltb}
use lib.ListN.{length, take, drop, length-drop}
use lib.Seq.{length-take-le}
use Rattle.laws.specs.Bytes.{line_feed}
use Rattle.laws.specs.Lists.{index_of}
use Rattle.laws.proofs.Places.{index_le}
use Rattle.std.specs.Prelude.{Some, None}
use Rattle.lines.specs.Lines.{placed, without_return, line_from, line_at}
use Rattle.lines.proofs.Bare.{bare_length}

-- ---- the answers

pub no_line : (s : List ℕ) (from : ℕ) → length s ≤ from → None ≡ line_at s from
unfolding line_at
no_line s from h = sym (rw (le-ltb from (length s) h))

-- t is what stands from the place on, and k the place of its first LF
module _ (s t : List ℕ) (from k : ℕ) (rest : t ≡ drop from s) (within : from < length s) (first : k ≡ index_of line_feed t) where
  here : Some (line_from from t k) ≡ line_at s from
  unfolding line_at
  here = sym (rw (lt-ltb from (length s) within, ← rest) (ap (λ (n : ℕ). Some (line_from from t n)) (sym first)))

  rest_length : length t ≡ length s - from
  rest_length = ap length rest ∙ length-drop from s

  pub first_within : from + k ≤ length s
  first_within = omega (arith, rest_length, index_le line_feed t)

  pub first_inside : k ≤ length t
  first_inside = omega (arith, index_le line_feed t)

  -- b is how many bytes the line has
  module _ (b : ℕ) (bare : b ≡ length (without_return (take k t))) where
    pub bare_within : from + b ≤ length s
    bare_within = omega (arith, bare, bare_length (take k t), length-take-le k t first_inside, first_within)

    pub line_ended : (k ≡ length t → ⊥) → Some (placed from (from + b) (from + k + 1)) ≡ line_at s from
    unfolding line_from
    line_ended e =
        ap (λ (n : ℕ). Some (placed from (from + n) (from + k + 1))) bare
        ∙ ap Some (sym (rw (lt-ltb k (length t) (omega (arith, index_le line_feed t)))))
        ∙ here

  pub last_line_lem : k ≡ length t → Some (placed from (length s) (length s)) ≡ line_at s from
  unfolding line_from
  last_line_lem e =
      let q : length s ≡ from + length t = omega (arith, rest_length) in
      ap (λ (m : ℕ). Some (placed from m m)) q ∙ ap Some (sym (rw (le-ltb k (length t) (omega arith)))) ∙ here
