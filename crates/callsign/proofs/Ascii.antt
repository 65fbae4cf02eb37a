-- Texts of ASCII, which are UTF-8.
-- Assumes nothing.
use Rattle.std.proofs.Common.{◌≡◌, ℕ, suc, ◌<◌, true, List, [], ◌∷◌, length, get_or, take, sym, refl, lt-ltb}
use Rattle.laws.specs.Lists.{every}
use Rattle.laws.proofs.Each.{every_take}
use Rattle.callsign.specs.Utf8.{ascii, utf8}
use Rattle.callsign.proofs.Unicode.{ascii_utf8}

every_ascii : (l : List ℕ) → ((i : ℕ) → get_or l i 0 < 0x80) → every ascii l ≡ true
unfolding every
every_ascii [] h = refl
every_ascii (x ∷ l) h = rw (lt-ltb x 0x80 (h 0)) (every_ascii l (λ i. h (suc i)))

-- the front of a text whose bytes are all ASCII
pub front_of_ascii : (t whole : List ℕ) → t ≡ take (length t) whole → ((i : ℕ) → get_or whole i 0 < 0x80) → true ≡ utf8 t
front_of_ascii t whole e h = rw e (sym (ascii_utf8 (take (length t) whole) (every_take ascii (length t) whole (every_ascii whole h))))
