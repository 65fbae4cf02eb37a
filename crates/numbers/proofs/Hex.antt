-- Laws of hexadecimal digits, and that a digit written reads back.
-- Assumes nothing.
use Rattle.std.specs.Prelude.{Option, Some, None}
use Rattle.std.proofs.Common.{Bool, false, T, eqb, eqb→eq, ap, ◌≡◌, ℕ, ◌<◌}
use Rattle.laws.specs.Bytes.{within}
use Rattle.laws.proofs.Every.{all_at}
use Rattle.numbers.specs.Numbers.{hex_digit, hex_value}

-- whether a digit was read as k
reads : Option ℕ → ℕ → Bool
reads (Some x) k = eqb x k
reads None k = false

reads_eq : (o : Option ℕ) (k : ℕ) → T (reads o k) → o ≡ Some k
unfolding reads
reads_eq (Some x) k t = ap Some (eqb→eq x k t)
reads_eq None k t = absurd t

-- what is written for a number below sixteen reads back
pub hex_reads_back : (n : ℕ) → n < 16 → hex_value (hex_digit n) ≡ Some n
unfolding hex_value hex_digit within reads
hex_reads_back n h = reads_eq (hex_value (hex_digit n)) n (all_at 16 (λ k. reads (hex_value (hex_digit k)) k) tt n h)
