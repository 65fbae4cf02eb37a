-- What `Input::of_reader` and `Output::of_pieces` promise fixes their results: two results that meet one promise are equal.
-- Assumes nothing.
use mathlib.Core.Path.{◌≡◌}
use mathlib.Core.List.{List}
use Prim.Native.Nat.{ℕ}
use lib.ListN.{length}
use Rattle.laws.proofs.Unique.{one_value}
use Rattle.stream.specs.declared.input.Input.{Input}
use Rattle.stream.specs.declared.output.Output.{Output}

pub unique_of_reader : (input r r' : Input) → r ≡ input → r' ≡ input → r ≡ r'
unique_of_reader input r r' = one_value r r' input

pub unique_of_pieces : (len : ℕ) (bytes : List ℕ) (r r' : Output)
    → r ≡ record { used = len; size = length bytes } → r' ≡ record { used = len; size = length bytes } → r ≡ r'
unique_of_pieces len bytes r r' = one_value r r' (record { used = len; size = length bytes })
