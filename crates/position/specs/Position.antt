-- An uncompressed position, behind its type byte or its time (document 01, module 3): "8 bytes of latitude, table byte, 9 of
-- longitude, code byte, comment." The comment is what follows those 19 bytes. Order of refusals: "Position: 7, 10, 8, 9."; and strictly
-- (document 02, R-8) 20 behind them.
-- Assumes nothing.
use Rattle.std.specs.Prelude.{ℕ, Bool, true, false, cond, not, ◌&&◌, ◌||◌, List, [], ◌∷◌, ◌++◌, length, take, drop, Some, None, Option, Ok, Err, Result, pos, ◌==◌, nat_lt, slice_index, unsigned_abs}
use Rattle.laws.specs.Bytes.{slash, backslash, is_digit, is_capital}
use Rattle.numbers.specs.Sign.{is_minus, is_on}
use Rattle.lonlat.specs.Angle.{most_latitude, most_longitude}
use Rattle.lonlat.specs.Latitude.{read_latitude, latitude_number, latitude_text}
use Rattle.lonlat.specs.Longitude.{read_longitude, longitude_number, longitude_text}
use Rattle.lonlat.specs.declared.LatitudeRead.{LatitudeRead}
use Rattle.lonlat.specs.declared.LongitudeRead.{LongitudeRead}
use Rattle.lonlat.specs.declared.LongitudeError.{LongitudeError}
use Rattle.lonlat.specs.declared.LongitudeError.TheVariants.{Malformed}
use Rattle.position.specs.declared.Place.{Place}
use Rattle.position.specs.declared.PositionRead.{PositionRead}
use Rattle.position.specs.Reach.{in_reach}

-- the bytes before the comment
abbrev pub fixed_bytes : ℕ
fixed_bytes = 19

-- ---- strictly (document 02, R-8)

-- a reader judges as usually, or strictly: "A second entry refuses minutes of 60 or more .. The usual entry is unchanged."
abbrev pub usually : Bool
usually = false

abbrev pub strictly : Bool
strictly = true

-- "it also wants table bytes `/`, `\`, `0-9` or `A-Z`"
unfoldable pub is_table : ℕ → Bool
is_table b = b == slash || (b == backslash || (is_digit b || is_capital b))

-- minutes that are refused: of a position's angles and of a Mic-E destination
abbrev pub is_over : Bool → Bool → Bool
is_over strict sixty = strict && sixty

-- a table byte that is refused: of a position and of a Mic-E report
abbrev pub is_off_table : Bool → ℕ → Bool
is_off_table strict table = strict && not (is_table table)

-- "the table byte gives 20"
abbrev pub table_number : ℕ
table_number = 20

-- ---- read

-- "a digit or one of b2 b3 b9 bc bd be, as `is_numeric` has it"
unfoldable pub is_numeric : ℕ → Bool
is_numeric b = is_digit b || (b == 0xb2 || (b == 0xb3 || (b == 0xb9 || (b == 0xbc || (b == 0xbd || b == 0xbe)))))

-- "A position is uncompressed when its first byte (0 if none) is" one of those
unfoldable pub is_uncompressed : List ℕ → Bool
is_uncompressed s = is_numeric (slice_index s 0)

-- nothing: all numbers 0
abbrev pub no_place : Place
no_place = record { latitude = record { 0 = pos 0 }; longitude = record { 0 = pos 0 }; blanks = 0; table = 0; code = 0; south = false; west = false }

-- a refusal by its number, and nothing else
abbrev pub refused_position : ℕ → PositionRead
refused_position n = record { refusal = n; place = no_place; latitude_sixty = false; longitude_sixty = false }

-- a place, and which of its angles has minutes of 60 or more
abbrev pub accepted_position : Place → Bool → Bool → PositionRead
accepted_position place latitude_sixty longitude_sixty = record {
  refusal = 0;
  place = place;
  latitude_sixty = latitude_sixty;
  longitude_sixty = longitude_sixty;
}

-- the place of both angles, with the symbol's bytes at their places, and the letters as they stood: "At 0 the side is the letter
-- read, so the record must carry both letters" (document 02, R-1)
abbrev pub place_of : List ℕ → LatitudeRead → LongitudeRead → Place
place_of s north east = record {
  latitude = north.latitude;
  longitude = east.longitude;
  blanks = north.blanks;
  table = slice_index s 8;
  code = slice_index s 18;
  south = north.south;
  west = east.west;
}

-- that place, if both angles were read. Strictly "minutes give 8, 9 .. after the digits and before the size test; the table
-- byte gives 20, last of all": minutes and size have one number, so that an angle that was read is judged as in that order.
unfoldable pub with_longitude : Bool → List ℕ → LatitudeRead → Result LongitudeRead LongitudeError → PositionRead
with_longitude strict s north (Ok east) =
    cond (is_over strict east.sixty) (refused_position (longitude_number (Err Malformed)))
    (cond (is_off_table strict (slice_index s 8)) (refused_position table_number)
    (accepted_position (place_of s north east) north.sixty east.sixty))
with_longitude strict s north (Err e) = refused_position (longitude_number (Err e))

-- the latitude's blanks rule the longitude too; "Latitude is done before longitude begins"
unfoldable pub with_latitude : Bool → List ℕ → Option LatitudeRead → PositionRead
with_latitude strict s (Some north) =
    cond (is_over strict north.sixty) (refused_position (latitude_number None))
    (with_longitude strict s north (read_longitude (take 9 (drop 9 s)) north.blanks))
with_latitude strict s None = refused_position (latitude_number None)

-- 7, 10, 8, 9, and strictly 20
unfoldable pub read_position_by : Bool → List ℕ → PositionRead
read_position_by strict s =
    cond (is_uncompressed s)
    (cond (nat_lt (length s) fixed_bytes) (refused_position 10) (with_latitude strict s (read_latitude (take 8 s))))
    (refused_position 7)

-- as usually
abbrev pub read_position : List ℕ → PositionRead
read_position s = read_position_by usually s

-- ---- written

-- both angles and the blanks; of any kind of record that has a place
unfoldable pub place_in_range : Place → Bool
place_in_range p = in_reach most_latitude (unsigned_abs p.latitude.0) p.blanks && in_reach most_longitude (unsigned_abs p.longitude.0) p.blanks

-- "15 also for a record's letter that contradicts a nonzero angle" (document 02, R-1); of any such record too
unfoldable pub letters_agree : Place → Bool
letters_agree p = is_on p.south p.latitude.0 && is_on p.west p.longitude.0

-- "a position symbol byte of 128 or more" is 15
unfoldable pub symbols_in_range : Place → Bool
symbols_in_range p = nat_lt p.table 128 && nat_lt p.code 128

-- what a position may be; of Mic-E the symbol may be any
unfoldable pub position_fits : Place → Bool
position_fits p = place_in_range p && (letters_agree p && symbols_in_range p)

-- else 15
unfoldable pub position_refusal : Place → ℕ
position_refusal p = cond (position_fits p) 0 15

-- the 19 bytes in front of the comment
unfoldable pub position_text : Place → List ℕ
position_text p = latitude_text p.latitude.0 p.blanks ++ (p.table ∷ longitude_text p.longitude.0 ++ (p.code ∷ []))

-- the place with the letters that are written, each angle's own side's: "a writer still takes N or E for 0" (document 02, R-1)
unfoldable pub as_written : Place → Place
as_written p =
    record {
      latitude = p.latitude;
      longitude = p.longitude;
      blanks = p.blanks;
      table = p.table;
      code = p.code;
      south = is_minus p.latitude.0;
      west = is_minus p.longitude.0;
    }
