-- What `buffer::shift` keeps lies in the buffer.
-- Assumes nothing.
use mathlib.Core.Path.{◌≡◌, refl, ap}
use mathlib.Core.Bool.{Bool, true, false, cond, ◌&&◌}
use mathlib.Core.List.{List, ◌++◌}
use Prim.Native.Nat.{ℕ, ◌-◌, ◌≤◌}
use native.Mathlib.Omega.{arith}
use lib.Dec.{leb}
use borrow.Author.Tests.{leb-true}
use lib.ListN.{length, take, drop, length-append, length-take, length-drop}
use Rattle.buffer.specs.Filled.{Filled, filled, shifted}

pub kept_within : (held buffer : List ℕ) (from to kept : ℕ) → filled buffer kept ≡ shifted held from to → kept ≤ length buffer
unfolding shifted
kept_within held buffer from to kept = go (leb from to) (leb to (length held)) refl refl
  where
    front : List ℕ
    front = take (to - from) (drop from held)

    behind : List ℕ
    behind = drop (to - from) held

    none : filled buffer kept ≡ filled held 0 → kept ≤ length buffer
    none e = let n : kept ≡ 0 = ap (λ (f : Filled). f.len) e in omega arith

    go : (a b : Bool) → leb from to ≡ a → leb to (length held) ≡ b
        → filled buffer kept ≡ cond (a && b) (filled (front ++ behind) (to - from)) (filled held 0) → kept ≤ length buffer
    go true true h k e =
        let n : kept ≡ to - from = ap (λ (f : Filled). f.len) e in
        let l : length buffer ≡ length (front ++ behind) = ap (λ (f : Filled). length f.bytes) e in
        omega (arith, leb-true from to h, leb-true to (length held) k, length-append front behind, length-take (to - from) (drop from held), length-drop from held, length-drop (to - from) held)
    go true false h k e = none e
    go false b h k e = none e
