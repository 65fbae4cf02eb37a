-- UTF-8 (RFC 3629, section 4): a character is a first byte, and then bytes that each lie in a range.
-- Assumes nothing.
use Rattle.std.specs.Prelude.{ℕ, zero, suc, Bool, true, false, cond, ◌&&◌, List, [], ◌∷◌, replicate, nat_lt, Option, Some, None}
use Rattle.laws.specs.Bytes.{within}
use Rattle.callsign.specs.declared.Tails.{Tails}

-- the lowest and the highest byte of a range
abbrev pub Span : Type 0
Span = ℕ × ℕ

-- "UTF8-tail = %x80-BF"
abbrev pub tail : Span
tail = (0x80, 0xbf)

-- a range that holds no byte
abbrev pub never : Span
never = (1, 0)

-- the ranges of the bytes that follow a first byte, line by line as "UTF8-1" to "UTF8-4" have them;
-- what starts no character is followed by nothing
unfoldable pub after : ℕ → List Span
after b =
    cond (within 0x00 0x7f b) []
    (cond (within 0xc2 0xdf b) (tail ∷ [])
    (cond (within 0xe0 0xe0 b) ((0xa0, 0xbf) ∷ tail ∷ [])
    (cond (within 0xe1 0xec b) (tail ∷ tail ∷ [])
    (cond (within 0xed 0xed b) ((0x80, 0x9f) ∷ tail ∷ [])
    (cond (within 0xee 0xef b) (tail ∷ tail ∷ [])
    (cond (within 0xf0 0xf0 b) ((0x90, 0xbf) ∷ tail ∷ tail ∷ [])
    (cond (within 0xf1 0xf3 b) (tail ∷ tail ∷ tail ∷ [])
    (cond (within 0xf4 0xf4 b) ((0x80, 0x8f) ∷ tail ∷ tail ∷ [])
    (never ∷ [])))))))))

-- bytes in the given ranges, and then characters
unfoldable pub characters : List Span → List ℕ → Bool
characters [] [] = true
characters [] (b ∷ l) = characters (after b) l
characters (r ∷ rs) [] = false
characters (r ∷ rs) (b ∷ l) = within r.0 r.1 b && characters rs l

-- "UTF8-octets = *( UTF8-char )"
unfoldable pub utf8 : List ℕ → Bool
utf8 l = characters [] l

-- so many bytes, the next from lo to hi and the others tails: for the contract of a private function
unfoldable pub owed : ℕ → ℕ → ℕ → List Span
owed zero lo hi = []
owed (suc n) lo hi = (lo, hi) ∷ replicate n tail

-- what a first byte asks for, where it starts a character: for the contract of a private function
unfoldable pub asked_by : Option Tails → List Span
asked_by None = never ∷ []
asked_by (Some t) = owed t.count t.lowest t.highest

-- a byte of ASCII
abbrev pub ascii : ℕ → Bool
ascii b = nat_lt b 0x80
