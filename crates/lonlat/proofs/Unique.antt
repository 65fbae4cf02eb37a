-- What each public function promises fixes its result: two results that meet one promise are equal.
-- Assumes nothing.
use Rattle.std.proofs.Common.{◌≡◌, ℕ, Bool, List, Option, Result, ℤ}
use Rattle.buffer.specs.declared.Answer.{Answer}
use Rattle.buffer.specs.Wrote.{ends, wrote}
use Rattle.laws.proofs.Unique.{one_value}
use Rattle.buffer.proofs.Wrote.{one_end}
use Rattle.lonlat.specs.declared.Longitude.{Longitude}
use Rattle.lonlat.specs.declared.LatitudeRead.{LatitudeRead}
use Rattle.lonlat.specs.declared.LongitudeRead.{LongitudeRead}
use Rattle.lonlat.specs.declared.LongitudeError.{LongitudeError}
use Rattle.lonlat.specs.Angle.{longitude_of}
use Rattle.lonlat.specs.Latitude.{read_latitude, latitude_text, latitude_refusal}
use Rattle.lonlat.specs.Longitude.{read_longitude, longitude_text, longitude_refusal}

pub unique_longitude_of : (size : ℕ) (west : Bool) (r r' : Option Longitude) → r ≡ longitude_of size west → r' ≡ longitude_of size west → r ≡ r'
unique_longitude_of size west r r' = one_value r r' (longitude_of size west)

pub unique_read_latitude : (s : List ℕ) (r r' : Option LatitudeRead) → r ≡ read_latitude s → r' ≡ read_latitude s → r ≡ r'
unique_read_latitude s r r' = one_value r r' (read_latitude s)

pub unique_read_longitude : (s : List ℕ) (blanks : ℕ) (r r' : Result LongitudeRead LongitudeError) → r ≡ read_longitude s blanks → r' ≡ read_longitude s blanks → r ≡ r'
unique_read_longitude s blanks r r' = one_value r r' (read_longitude s blanks)

module _ (r r' : Answer) (o o' out : List ℕ) where
  pub unique_write_latitude : (angle : ℤ) (blanks : ℕ)
      → ends r o ≡ wrote (latitude_refusal angle blanks) (latitude_text angle blanks) out
      → ends r' o' ≡ wrote (latitude_refusal angle blanks) (latitude_text angle blanks) out
      → (r ≡ r') × (o ≡ o')
  unique_write_latitude angle blanks e e' = one_end r r' o o' (wrote (latitude_refusal angle blanks) (latitude_text angle blanks) out) e e'

  pub unique_write_longitude : (angle : ℤ)
      → ends r o ≡ wrote (longitude_refusal angle) (longitude_text angle) out
      → ends r' o' ≡ wrote (longitude_refusal angle) (longitude_text angle) out
      → (r ≡ r') × (o ≡ o')
  unique_write_longitude angle e e' = one_end r r' o o' (wrote (longitude_refusal angle) (longitude_text angle) out) e e'
