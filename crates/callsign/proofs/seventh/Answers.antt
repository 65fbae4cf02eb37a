-- The parts of the seventh byte do not overlap: computed at each. Assumes nothing.
use Rattle.std.proofs.Common.{◌≡◌, ℕ, ◌+◌, ◌*◌, ◌%◌, ◌<◌, Bool, true, false, T, eqb, ap, ◌∙◌, eqb→eq}
use lib.Bits.{bit_or}
use mir.Val.{bool_byte}
use Rattle.laws.proofs.Every.{all, all_at}
use Rattle.callsign.specs.Packed.{bit, seventh_of}
use Rattle.callsign.proofs.Bits.{upper_small}
use Rattle.callsign.proofs.seventh.Goals as goal

abbrev agree : Bool → ℕ → ℕ → Bool
unfolding bit
agree l u s = eqb (bit_or (bit_or (u * 32 % 256) (s * 2 % 256)) (bool_byte l)) (u * 32 + s * 2 + bit l)

tested : (l : Bool) → T (all 8 (λ u. all 16 (λ s. agree l u s)))
unfolding bit
tested true = tt
tested false = tt

joined_bits : (u s : ℕ) (l : Bool) → u < 8 → s < 16 → bit_or (bit_or (u * 32 % 256) (s * 2 % 256)) (bool_byte l) ≡ u * 32 + s * 2 + bit l
unfolding agree bit
joined_bits u s l h k =
    eqb→eq (bit_or (bit_or (u * 32 % 256) (s * 2 % 256)) (bool_byte l)) (u * 32 + s * 2 + bit l)
    (all_at 16 (λ (x : ℕ). agree l u x) (all_at 8 (λ (y : ℕ). all 16 (λ x. agree l y x)) (tested l) u h) s k)

pub returns : goal.returns
unfolding seventh_of
returns c = let a = c.args in
    let u = c.upper.ensures in
    joined_bits c.upper.result a.ssid a.last (rw u (upper_small a.field)) c.requires
    ∙ ap (λ (n : ℕ). n * 32 + a.ssid * 2 + bit a.last) u
