-- `text_in` is the text, byte by byte. Assumes nothing.
use Rattle.std.proofs.Common.{◌≡◌, ℕ, ◌<◌, cond, List, [], ◌∷◌, map, length, get_or, arith}
use Rattle.std.proofs.lemmas.List.{get_or-map}
use Rattle.laws.specs.Bytes.{point, capital_n, capital_s}
use Rattle.mic_e.specs.Character.{digit_of, is_flagged}
use Rattle.mic_e.specs.Destination.{text_in}
use Rattle.mic_e.proofs.text_in.Goals as goal

module _ (s t : List ℕ) (long : length s ≡ 6) (e : t ≡ map digit_of s) where
  at : (i : ℕ) → i < 6 → get_or t i 0 ≡ digit_of (get_or s i 0)
  at i h = rw e (get_or-map digit_of s i 0 0 (omega arith))

  made : (l : ℕ) → l ≡ cond (is_flagged (get_or s 3 0)) capital_n capital_s
      → get_or t 0 0 ∷ get_or t 1 0 ∷ get_or t 2 0 ∷ get_or t 3 0 ∷ point ∷ get_or t 4 0 ∷ get_or t 5 0 ∷ l ∷ [] ≡ text_in s
  unfolding text_in
  made l q = rw (at 0 (omega arith), at 1 (omega arith), at 2 (omega arith), at 3 (omega arith), at 4 (omega arith), at 5 (omega arith), q)

pub returns : goal.returns
returns c = made c.args.call.now c.digits_of.result c.told-call c.digits_of.ensures c.letter_of.result c.letter_of.ensures
