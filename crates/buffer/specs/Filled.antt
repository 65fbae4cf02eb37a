-- A buffer that is filled from its front: one piece behind those that are there, and the last ones moved to the front.
-- Assumes nothing.
use Rattle.std.specs.Prelude.{ℕ, ◌+◌, ◌-◌, cond, ◌&&◌, List, [], ◌∷◌, ◌++◌, length, take, drop, leb}
use Rattle.buffer.specs.declared.Pieces.{Pieces}

-- a buffer, and how many bytes at its front are in use
pub record Filled : Type 0 where
  pub bytes : List ℕ
  pub len : ℕ

abbrev pub filled : List ℕ → ℕ → Filled
filled bytes len = record { bytes = bytes; len = len }

-- what pieces were put into
abbrev pub in_use : Pieces → Filled
in_use p = filled p.bytes.now p.len

-- the bytes in use
unfoldable pub front_of : Filled → List ℕ
front_of f = take f.len f.bytes

-- a piece behind the bytes in use; where it does not fit, nothing changes
unfoldable pub added : Filled → List ℕ → Filled
added f piece =
    cond (leb (f.len + length piece) (length f.bytes))
    (filled (take f.len f.bytes ++ (piece ++ drop (f.len + length piece) f.bytes)) (f.len + length piece))
    f

-- pieces one behind the other, each as it fits
unfoldable pub added_all : Filled → List (List ℕ) → Filled
added_all f [] = f
added_all f (piece ∷ pieces) = added_all (added f piece) pieces

-- the bytes from a place up to another at the front, and how many they are; where there are none such, nothing is in use
unfoldable pub shifted : List ℕ → ℕ → ℕ → Filled
shifted bytes from to =
    cond (leb from to && leb to (length bytes))
    (filled (take (to - from) (drop from bytes) ++ drop (to - from) bytes) (to - from))
    (filled bytes 0)
