-- `base_of`: the size of the longitude that was read, or nothing. Assumes nothing.
use Rattle.std.proofs.Common.{◌≡◌, ℕ, Bool, false, nat_abs, Option, Some, None, ap, ◌∙◌, rules}
use Rattle.lonlat.specs.declared.Longitude.{Longitude}
use Rattle.numbers.proofs.Sign.{back}
use Rattle.mic_e.specs.Longitude.{read_longitude}
use Rattle.fields.specs.Search.{base_in, base_of}
use Rattle.fields.proofs.base_of.Goals as goal

module _ (hundred : Bool) (a b : ℕ) where
  some : (l : Longitude) (n : ℕ) → Some l ≡ read_longitude hundred false a b 28 → n ≡ nat_abs l.0 → Some n ≡ base_of hundred a b
  unfolding base_of base_in
  some l n e q = rw (← e, q)

  none : (r : Option ℕ) → r ≡ None → None ≡ read_longitude hundred false a b 28 → r ≡ base_of hundred a b
  unfolding base_of base_in
  none r n e = n ∙ rw (← e)

pub returns-in_err-longitude : goal.returns-in_err-longitude
returns-in_err-longitude c = search (rules, none)

pub returns : goal.returns
returns c = some _ _ _ _ _ c.in_ok-longitude.ensures (c.unsigned_abs.ensures.value ∙ ap nat_abs (back c.in_ok-longitude.longitude.0 (record { sfits = search rules })))
