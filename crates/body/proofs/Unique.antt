-- What each public function promises fixes its result: two results that meet one promise are equal.
-- Assumes nothing.
use mathlib.Core.Path.{◌≡◌}
use mathlib.Core.Bool.{Bool}
use mathlib.Core.List.{List}
use Prim.Native.Nat.{ℕ}
use Rattle.laws.proofs.Unique.{one_value}
use Rattle.callsign.specs.declared.Callsign.{Callsign}
use Rattle.body.specs.declared.Body.{Body}
use Rattle.body.specs.declared.BodyRead.{BodyRead}
use Rattle.body.specs.declared.BodyWritten.{BodyWritten}
use Rattle.body.specs.Body.{blank_body, read_body_by}
use Rattle.body.specs.Written.{write_body}

pub unique_blank : (r r' : Body) → r ≡ blank_body → r' ≡ blank_body → r ≡ r'
unique_blank r r' = one_value r r' blank_body

pub unique_read : (strict : Bool) (to : Callsign) (s : List ℕ) (from : ℕ) (r r' : BodyRead) → r ≡ read_body_by strict to s from → r' ≡ read_body_by strict to s from → r ≡ r'
unique_read strict to s from r r' = one_value r r' (read_body_by strict to s from)

pub unique_write : (b : Body) (to : Callsign) (text identifier : List ℕ) (r r' : BodyWritten) → r ≡ write_body b to text identifier → r' ≡ write_body b to text identifier → r ≡ r'
unique_write b to text identifier r r' = one_value r r' (write_body b to text identifier)
