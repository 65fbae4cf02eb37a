-- Laws of an SSID's number: with a sign, without one, and that it has four bits.
-- Assumes nothing.
use Rattle.std.proofs.Common.{◌≡◌, ℕ, ◌-◌, ◌<◌, ◌≤◌, cond, eqb, List, [], ◌∷◌, length, get_or, take, drop, sym, refl, ap, ◌∙◌, arith, eq-eqb, ne_eqb, Result, Ok}
use borrow.Author.Rules.{part_to_end}
use Rattle.laws.specs.Bytes.{plus}
use Rattle.numbers.specs.declared.CountError.{CountError}
use Rattle.numbers.specs.Numbers.{read_count}
use Rattle.numbers.proofs.Counts.{count_small}
use Rattle.callsign.specs.Packed.{ssid_number}

pub no_ssid_number : (s : List ℕ) → length s < 1 → Ok 0 ≡ ssid_number s
unfolding ssid_number
no_ssid_number [] h = refl
no_ssid_number (x ∷ l) h = absurd (omega arith)

pub signed : (s : List ℕ) (r : Result ℕ CountError) → 1 ≤ length s → get_or s 0 0 ≡ plus → r ≡ read_count (take (length s - 1) (drop 1 s)) 15 → r ≡ ssid_number s
unfolding ssid_number
signed [] r h e q = absurd (omega arith)
signed (x ∷ l) r h e q = q ∙ ap (λ (t : List ℕ). read_count t 15) (part_to_end (x ∷ l) 1) ∙ sym (rw (eq-eqb x plus e))

pub unsigned : (s : List ℕ) (r : Result ℕ CountError) → 1 ≤ length s → (get_or s 0 0 ≡ plus → ⊥) → r ≡ read_count s 15 → r ≡ ssid_number s
unfolding ssid_number
unsigned [] r h e q = absurd (omega arith)
unsigned (x ∷ l) r h e q = q ∙ sym (rw (ne_eqb x plus e))

pub ssid_small : (n : ℕ) (s : List ℕ) → ssid_number s ≡ Ok n → n ≤ 15
unfolding ssid_number
ssid_small n [] e = let z : 0 ≡ n = cc in omega arith
ssid_small n (x ∷ l) e = count_small (cond (eqb x plus) l (x ∷ l)) 15 n (sym e)
