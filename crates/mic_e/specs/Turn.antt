-- A number with a turn taken off, where it makes one.
-- Assumes nothing.
use Rattle.std.specs.Prelude.{ℕ, ◌-◌, cond, nat_le}

-- v, with k off if it is k or more
unfoldable pub less_if : ℕ → ℕ → ℕ
less_if k v = cond (nat_le k v) (v - k) v
