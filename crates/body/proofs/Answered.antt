-- What `written_or` answers, by its refusal: nothing but that and the destination, or all of the bytes.
-- Assumes nothing.
use mathlib.Core.Path.{◌≡◌, refl}
use mathlib.Core.Bool.{Bool, true, false, not, cond}
use mathlib.Core.List.{List, []}
use Prim.Native.Nat.{ℕ, zero, suc, ◌-◌, ◌≤◌}
use native.Mathlib.Omega.{arith}
use lib.ListN.{length, replicate, length-append}
use Rattle.laws.specs.Lists.{pad_to}
use Rattle.callsign.specs.declared.Callsign.{Callsign}
use Rattle.callsign.specs.Text.{blank_call}
use Rattle.body.specs.Written.{most_fixed, most_tail, unwritten, written_as, written_or}

-- 15 stands first
pub or_first : (t : Bool) (n : ℕ) (to : Callsign) (bytes tail : List ℕ) → (cond (not t) (written_or n to bytes tail) unwritten).refusal ≡ cond t 15 n
unfolding unwritten written_or written_as
or_first true n to bytes tail = refl
or_first false zero to bytes tail = refl
or_first false (suc n) to bytes tail = refl

-- what is in use lies within the arrays
as_within : (n : ℕ) (to : Callsign) (bytes tail : List ℕ) → (length bytes ≤ length (written_as n to bytes tail).bytes) × (length tail ≤ length (written_as n to bytes tail).tail)
unfolding written_as pad_to
as_within n to bytes tail =
    (omega (arith, length-append bytes (replicate (most_fixed - length bytes) 0)), omega (arith, length-append tail (replicate (most_tail - length tail) 0)))

pub or_within : (n : ℕ) (to : Callsign) (bytes tail : List ℕ)
    → ((written_or n to bytes tail).len ≤ length (written_or n to bytes tail).bytes) × ((written_or n to bytes tail).tail_len ≤ length (written_or n to bytes tail).tail)
unfolding written_or written_as
or_within zero to bytes tail = as_within 0 to bytes tail
or_within (suc n) to bytes tail = as_within (suc n) to [] []

pub nothing_within : (unwritten.len ≤ length unwritten.bytes) × (unwritten.tail_len ≤ length unwritten.tail)
unfolding unwritten written_as
nothing_within = as_within 15 blank_call [] []

pub or_len : (n : ℕ) (to : Callsign) (bytes tail : List ℕ) (most : ℕ) → length bytes ≤ most → (written_or n to bytes tail).len ≤ most
unfolding written_or written_as
or_len zero to bytes tail most h = h
or_len (suc n) to bytes tail most h = omega arith

pub or_tail : (n : ℕ) (to : Callsign) (bytes tail : List ℕ) (most : ℕ) → (n ≡ 0 → length tail ≤ most) → (written_or n to bytes tail).tail_len ≤ most
unfolding written_or written_as
or_tail zero to bytes tail most h = h refl
or_tail (suc n) to bytes tail most h = omega arith

pub or_written : (n : ℕ) (to : Callsign) (bytes tail : List ℕ) → (written_or n to bytes tail).refusal ≡ 0 → written_or n to bytes tail ≡ written_as 0 to bytes tail
unfolding written_or written_as
or_written zero to bytes tail e = refl
or_written (suc n) to bytes tail e = absurd (omega arith)

pub nothing_before : unwritten.len ≤ 27
unfolding unwritten written_as
nothing_before = omega arith

pub nothing_behind : unwritten.tail_len ≤ 6
unfolding unwritten written_as
nothing_behind = omega arith

pub not_unwritten : unwritten.refusal ≡ 0 → ⊥
unfolding unwritten written_as
not_unwritten e = omega arith
