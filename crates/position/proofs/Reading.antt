-- What each answer of the reader must show, one law an answer.
-- Assumes nothing.
use Rattle.std.proofs.Common.{◌≡◌, ℕ, ◌<◌, ◌≤◌, Bool, true, false, Option, Some, None, Result, Ok, Err, List, length, get_or, take, drop, le-ltb, lt-ltb}
use Rattle.lonlat.specs.Latitude.{read_latitude, latitude_number}
use Rattle.lonlat.specs.Longitude.{read_longitude, longitude_number}
use Rattle.lonlat.specs.declared.LatitudeRead.{LatitudeRead}
use Rattle.lonlat.specs.declared.LongitudeRead.{LongitudeRead}
use Rattle.lonlat.specs.declared.LongitudeError.{LongitudeError}
use Rattle.lonlat.specs.declared.LongitudeError.TheVariants.{Malformed, OutOfRange}
use Rattle.position.specs.declared.PositionRead.{PositionRead}
use Rattle.position.specs.Position.{fixed_bytes, is_uncompressed, is_over, is_off_table, refused_position, accepted_position, place_of, with_longitude, with_latitude, read_position_by}

-- ---- the longitude: q is what was read

module _ (strict : Bool) (s : List ℕ) (north : LatitudeRead) (q a : Result LongitudeRead LongitudeError) (e : q ≡ a) where
  pub longitude_refused : q ≡ Err Malformed → (r : PositionRead) → r ≡ refused_position 9 → r ≡ with_longitude strict s north a
  unfolding with_longitude longitude_number
  longitude_refused f r g = rw (← e, f) g

  pub longitude_out_lem : q ≡ Err OutOfRange → (r : PositionRead) → r ≡ refused_position 15 → r ≡ with_longitude strict s north a
  unfolding with_longitude longitude_number
  longitude_out_lem f r g = rw (← e, f) g

  -- o and t are the tests of its minutes and of the table byte
  module _ (east : LongitudeRead) (f : q ≡ Ok east) (o : Bool) (i : o ≡ is_over strict east.sixty) where
    pub longitude_over : o ≡ true → (r : PositionRead) → r ≡ refused_position 9 → r ≡ with_longitude strict s north a
    unfolding with_longitude longitude_number
    longitude_over z r g = rw (← e, f, ← i, z) g

    module _ (z : o ≡ false) (t : Bool) (j : t ≡ is_off_table strict (get_or s 8 0)) where
      pub longitude_off_table : t ≡ true → (r : PositionRead) → r ≡ refused_position 20 → r ≡ with_longitude strict s north a
      unfolding with_longitude
      longitude_off_table y r g = rw (← e, f, ← i, z, ← j, y) g

      pub longitude_found : t ≡ false → (r : PositionRead) → r ≡ accepted_position (place_of s north east) north.sixty east.sixty
          → r ≡ with_longitude strict s north a
      unfolding with_longitude
      longitude_found y r g = rw (← e, f, ← i, z, ← j, y) g

-- ---- the latitude: u is the test of the first byte

module _ (strict : Bool) (s : List ℕ) (u : Bool) (e : u ≡ is_uncompressed s) where
  pub position_compressed : u ≡ false → (r : PositionRead) → r ≡ refused_position 7 → r ≡ read_position_by strict s
  unfolding read_position_by
  position_compressed h r f = rw (← e, h) f

  module _ (h : u ≡ true) where
    pub position_short : length s < fixed_bytes → (r : PositionRead) → r ≡ refused_position 10 → r ≡ read_position_by strict s
    unfolding read_position_by
    position_short k r f = rw (← e, h, lt-ltb (length s) fixed_bytes k) f

    module _ (k : fixed_bytes ≤ length s) (q : Option LatitudeRead) (f : q ≡ read_latitude (take 8 s)) where
      pub latitude_refused : q ≡ None → (r : PositionRead) → r ≡ refused_position 8 → r ≡ read_position_by strict s
      unfolding read_position_by with_latitude latitude_number
      latitude_refused g r i = rw (← e, h, le-ltb (length s) fixed_bytes k, ← f, g) i

      -- o is the test of its minutes
      module _ (north : LatitudeRead) (g : q ≡ Some north) (o : Bool) (j : o ≡ is_over strict north.sixty) (r : PositionRead) where
        pub latitude_over : o ≡ true → r ≡ refused_position 8 → r ≡ read_position_by strict s
        unfolding read_position_by with_latitude latitude_number
        latitude_over z i = rw (← e, h, le-ltb (length s) fixed_bytes k, ← f, g, ← j, z) i

        pub latitude_found : o ≡ false → r ≡ with_longitude strict s north (read_longitude (take 9 (drop 9 s)) north.blanks) → r ≡ read_position_by strict s
        unfolding read_position_by with_latitude
        latitude_found z i = rw (← e, h, le-ltb (length s) fixed_bytes k, ← f, g, ← j, z) i
