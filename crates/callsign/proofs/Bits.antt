-- Laws of the seventh byte: its parts have room beside each other, and come out again.
-- Assumes nothing.
use Rattle.std.proofs.Common.{◌≡◌, ℕ, ◌/◌, ◌%◌, ◌<◌, ◌≤◌, Bool, true, false, eqb, refl, arith, eq-eqb, ne_eqb}
use Rattle.callsign.specs.declared.Field.{Field}
use Rattle.callsign.specs.declared.Field.TheVariants.{Destination, Source, Hop}
use Rattle.callsign.specs.Address.{ssid_of, heard_of, last_of}
use Rattle.callsign.specs.Packed.{bit, upper_bits, seventh_of}

bit_small : (b : Bool) → bit b ≤ 1
unfolding bit
bit_small true = omega arith
bit_small false = omega arith

pub upper_small : (f : Field) → upper_bits f < 8
unfolding upper_bits
upper_small Destination = omega arith
upper_small Source = omega arith
upper_small (Hop h) = omega (arith, bit_small h)

-- ---- the parts come out again

-- bit 7 of the seventh byte, by the field
unfoldable pub heard_in : Field → Bool
heard_in Destination = true
heard_in Source = false
heard_in (Hop heard) = heard

is_bit : (x : ℕ) (b : Bool) → x ≡ bit b → eqb x 1 ≡ b
unfolding bit
is_bit x true e = eq-eqb x 1 e
is_bit x false e = ne_eqb x 1 (λ o. omega arith)

upper_heard : (f : Field) → upper_bits f / 4 ≡ bit (heard_in f)
unfolding upper_bits heard_in bit
upper_heard Destination = refl
upper_heard Source = refl
upper_heard (Hop true) = refl
upper_heard (Hop false) = refl

module _ (f : Field) (s : ℕ) (l : Bool) (h : s ≤ 15) where
  pub ssid_back : ssid_of (seventh_of f s l) ≡ s
  unfolding ssid_of seventh_of
  ssid_back = omega (arith, bit_small l)

  pub heard_back : heard_of (seventh_of f s l) ≡ heard_in f
  unfolding heard_of seventh_of
  heard_back = is_bit (seventh_of f s l / 128 % 2) (heard_in f) (omega (arith, bit_small l, upper_small f, upper_heard f))

  pub last_back : last_of (seventh_of f s l) ≡ l
  unfolding last_of seventh_of
  last_back = is_bit (seventh_of f s l % 2) l (omega (arith, bit_small l))
