-- The words of a line, which stand between single spaces.
-- Assumes nothing.
use Rattle.std.specs.Prelude.{List, ℕ, take, drop}
use Rattle.laws.specs.Bytes.{space}
use Rattle.laws.specs.Lists.{index_of}

-- what stands before the first space, or all where there is none
unfoldable pub first_word : List ℕ → List ℕ
first_word s = take (index_of space s) s

-- what stands behind the first space, or nothing
unfoldable pub other_words : List ℕ → List ℕ
other_words s = drop 1 (drop (index_of space s) s)
