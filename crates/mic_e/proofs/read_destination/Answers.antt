-- `read_destination`: six characters, each fit for its place. Assumes nothing.
use Rattle.std.proofs.Common.{◌≡◌, ◌≢◌, ℕ, Bool, true, false, List, length, Option, Some, None, ◌∙◌, eq-eqb, ne_eqb}
use Rattle.std.specs.Array.{IsWholeChunk}
use Rattle.std.specs.Result.{MatchResult, result_ok}
use Rattle.std.specs.declared.result.Result.{Result}
use Rattle.std.specs.declared.result.Result.TheVariants.{Ok, Err}
use Rattle.lonlat.specs.Latitude.{read_latitude}
use Rattle.mic_e.specs.Destination.{are_characters, text_in, destination_with, read_destination}
use Rattle.mic_e.specs.declared.Destination.{Destination}
use Rattle.mic_e.proofs.read_destination.Goals as goal

-- what a conversion said, from its value or from there being none
module _ {A E : Type 0} (P : A → Type 0) (Q : E → Type 0) where
  ok_is : (r : Result A E) (y : A) → MatchResult r P Q → Some y ≡ result_ok r → P y
  ok_is (Ok x) y p e = let q : x ≡ y = cc in rw (← q) p
  ok_is (Err x) y p e = cc

  err_is : (X : Type 0) → ((x : E) → Q x → X) → (r : Result A E) → MatchResult r P Q → None ≡ result_ok r → X
  err_is X so (Ok x) p e = cc
  err_is X so (Err x) p e = so x p

not_six : (call : List ℕ) (r : Option Destination) → r ≡ None → (length call ≢ 6) → r ≡ read_destination call
unfolding read_destination
not_six call r none n = none ∙ rw (ne_eqb (length call) 6 n)

module _ (call six : List ℕ) (whole : IsWholeChunk call six 6) (t : Bool) (e : t ≡ are_characters six) where
  fit : (r : Option Destination) → t ≡ true → r ≡ destination_with six (read_latitude (text_in six)) → r ≡ read_destination call
  unfolding read_destination
  fit r h q = q ∙ rw (eq-eqb (length call) 6 whole.long, ← whole.same, ← e, h)

  unfit : t ≡ false → None ≡ read_destination call
  unfolding read_destination
  unfit h = rw (eq-eqb (length call) 6 whole.long, ← whole.same, ← e, h)

pub returns-in_err-call : goal.returns-in_err-call
returns-in_err-call c =
    not_six c.args.call.now c.from_residual.result c.from_residual.ensures
    (err_is _ _ (length c.args.call.now ≢ 6) (λ x p. p) c.try_into.result c.try_into.ensures.1 c.in_err-call.ensures.value)

pub returns-then-are_characters : goal.returns-then-are_characters
returns-then-are_characters c =
    fit c.args.call.now c.in_ok-call.call.now (ok_is _ _ c.try_into.result c.in_ok-call.call c.try_into.ensures.1 c.in_ok-call.ensures.value)
    c.are_characters.result c.are_characters.ensures _ c.if-are_characters.true c.destination_in.ensures

pub returns-else-are_characters : goal.returns-else-are_characters
returns-else-are_characters c =
    unfit c.args.call.now c.in_ok-call.call.now (ok_is _ _ c.try_into.result c.in_ok-call.call c.try_into.ensures.1 c.in_ok-call.ensures.value)
    c.are_characters.result c.are_characters.ensures c.if-are_characters.false
