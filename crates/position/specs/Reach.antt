-- What an angle and its blanks may be (document 01): "15 is given for: an angle .. out of range; precision outside 0 to 5". One
-- definition for both angles: the limit is its argument.
-- Assumes nothing.
use Rattle.std.specs.Prelude.{ℕ, Bool, ◌&&◌, nat_le}

-- a size of at most `most`, with at most five blanks
unfoldable pub in_reach : ℕ → ℕ → ℕ → Bool
in_reach most size blanks = nat_le size most && nat_le blanks 5
