-- How many bytes a line has without the CR that ends it.
-- Assumes nothing.
use Rattle.std.proofs.Common.{◌≡◌, ℕ, ◌-◌, ◌≤◌, Bool, true, false, cond, eqb, List, length, get_or, take, ap, arith, length-take}
use lib.Seq.{take-length}
use Rattle.laws.specs.Bytes.{carriage_return}
use Rattle.lines.specs.Lines.{without_return}

pub bare_prefix : (l : List ℕ) → take (length (without_return l)) l ≡ without_return l
unfolding without_return
bare_prefix l = go (eqb (get_or l (length l - 1) 0) carriage_return)
  where
    go : (t : Bool) → take (length (cond t (take (length l - 1) l) l)) l ≡ cond t (take (length l - 1) l) l
    go true =
        let e : length (take (length l - 1) l) ≡ length l - 1 = omega (arith, length-take (length l - 1) l) in
        ap (λ (n : ℕ). take n l) e
    go false = take-length l

pub bare_length : (l : List ℕ) → length (without_return l) ≤ length l
bare_length l = omega (arith, length-take (length (without_return l)) l, ap length (bare_prefix l))
