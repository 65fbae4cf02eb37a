-- Laws of the turns that are taken off: what is left, and that it is no more.
-- Assumes nothing.
use Rattle.std.proofs.Common.{◌≡◌, ℕ, ◌+◌, ◌-◌, ◌<◌, ◌≤◌, Bool, true, false, cond, ltb, leb, ◌⊎◌, inl, inr, ⊎_elim, arith, le-ltb, lt-ltb, leb-false, leb-true}
use Rattle.laws.proofs.Tests.{bool_cases}
use Rattle.mic_e.specs.Turn.{less_if}
use Rattle.mic_e.specs.Longitude.{offset_of, wrapped}

-- a turn is off, or there was none
pub less_if_split : (k v : ℕ) → (less_if k v + k ≡ v) ⊎ ((less_if k v ≡ v) × (v < k))
unfolding less_if
less_if_split k v =
    ⊎_elim
    (λ e. inl (let h : k ≤ v = leb-true k v e in rw e (omega arith)))
    (λ e. inr (let h : v < k = leb-false k v e in (rw e, h)))
    (bool_cases (leb k v))

pub less_if_le : (k v : ℕ) → less_if k v ≤ v
less_if_le k v = ⊎_elim (λ e. omega arith) (λ e. omega arith) (less_if_split k v)

-- m is what is left of v
pub less_if_top : (top m k v : ℕ) → m ≡ less_if k v → v ≤ top → m ≤ top
less_if_top top m k v e h = omega (arith, less_if_le k v)

pub wrapped_plain : (v : ℕ) → v < 180 → wrapped v ≡ v
unfolding wrapped
wrapped_plain v h = rw (lt-ltb v 180 h)

pub wrapped_mid : (v : ℕ) → 180 ≤ v → v < 190 → wrapped v ≡ v - 80
unfolding wrapped
wrapped_mid v h k = rw (le-ltb v 180 h, lt-ltb v 190 k)

pub wrapped_high : (v : ℕ) → 190 ≤ v → v < 200 → wrapped v ≡ v - 190
unfolding wrapped
wrapped_high v h k =
    let l : 180 ≤ v = omega arith in
    rw (le-ltb v 180 l, le-ltb v 190 h, lt-ltb v 200 k)

pub wrapped_past : (v : ℕ) → 200 ≤ v → wrapped v ≡ v
unfolding wrapped
wrapped_past v h =
    let l : 180 ≤ v = omega arith in
    let k : 190 ≤ v = omega arith in
    rw (le-ltb v 180 l, le-ltb v 190 k, le-ltb v 200 h)

-- o is an offset
pub offset_top : (o : ℕ) (hundred : Bool) → o ≡ offset_of hundred → o ≤ 100
unfolding offset_of
offset_top o true e = omega arith
offset_top o false e = omega arith

-- one of the four cases, and so never more
wrapped_le : (v : ℕ) → wrapped v ≤ v
unfolding wrapped
wrapped_le v = go (ltb v 180) (ltb v 190) (ltb v 200)
  where
    go : (t u w : Bool) → cond t v (cond u (v - 80) (cond w (v - 190) v)) ≤ v
    go true u w = omega arith
    go false true w = omega arith
    go false false true = omega arith
    go false false false = omega arith

pub wrapped_top : (top d v : ℕ) → d ≡ wrapped v → v ≤ top → d ≤ top
wrapped_top top d v e h = omega (arith, wrapped_le v)
