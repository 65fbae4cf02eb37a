-- What each public function promises fixes its result: two results that meet one promise are equal.
-- Assumes nothing.
use Rattle.std.proofs.Common.{◌≡◌, ℕ, Bool, List, ℤ}
use Rattle.buffer.specs.Wrote.{ends}
use Rattle.buffer.specs.declared.Answer.{Answer}
use Rattle.buffer.proofs.Wrote.{one_end}
use Rattle.lonlat.specs.Longitude.{longitude_refusal}
use Rattle.fields.specs.Lists.{listed, motion_fields, motion_refusal, longitude_fields}

module _ (r r' : Answer) (o o' out : List ℕ) where
  pub unique_list_motion : (s t : ℕ)
      → ends r o ≡ listed (motion_refusal s t) (motion_fields s t) out → ends r' o' ≡ listed (motion_refusal s t) (motion_fields s t) out → (r ≡ r') × (o ≡ o')
  unique_list_motion s t = one_end r r' o o' (listed (motion_refusal s t) (motion_fields s t) out)

  pub unique_list_longitude : (target : ℤ) (hundred west : Bool)
      → ends r o ≡ listed (longitude_refusal target) (longitude_fields hundred west target) out
      → ends r' o' ≡ listed (longitude_refusal target) (longitude_fields hundred west target) out → (r ≡ r') × (o ≡ o')
  unique_list_longitude target hundred west = one_end r r' o o' (listed (longitude_refusal target) (longitude_fields hundred west target) out)
