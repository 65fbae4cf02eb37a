-- The default has nothing in it: no length, no mark, and sixteen zeros. Assumes nothing.
use Rattle.std.proofs.Common.{◌≡◌, ℕ, zero, suc, ◌<◌, false, List, [], ◌∷◌, length, get_or, replicate, refl, arith}
use Rattle.laws.specs.Lists.{pad_to}
use Rattle.callsign.specs.declared.Callsign.{Callsign}
use Rattle.callsign.specs.Text.{joined, made, blank_call}
use Rattle.callsign.proofs.blank.Goals as goal

all_zero : (l : List ℕ) (n : ℕ) → length l ≡ n → ((i d : ℕ) → i < n → get_or l i d ≡ 0) → l ≡ replicate n 0
all_zero [] zero e h = refl
all_zero [] (suc n) e h = absurd (omega arith)
all_zero (x ∷ l) zero e h = absurd (omega arith)
all_zero (x ∷ l) (suc n) e h = rw (h 0 0 (omega arith), all_zero l n (omega arith) (λ i d k. h (suc i) d (omega arith)))

is_blank : (c : Callsign) → c.text ≡ replicate 16 0 → c.call_len ≡ 0 → c.ssid_len ≡ 0 → c.had_zero_ssid ≡ false → c ≡ blank_call
unfolding blank_call made joined pad_to
is_blank c e f g h = λ i. record { text = e i; call_len = f i; ssid_len = g i; had_zero_ssid = h i }

pub returns : goal.returns
returns c = let d = c.default.ensures in is_blank _ (all_zero _ 16 d.0.long d.0.at) d.1.0 d.1.1.0 d.1.1.1
