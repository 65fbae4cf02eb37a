-- Worked cases of the bounds, in bits, of the box, and of reading strictly: the formulas compute.
-- Assumes nothing.
use Rattle.std.proofs.Common.{◌≡◌, ℕ, true, false, List, [], ◌∷◌, ◌++◌, pos, negsuc, refl}
use lib.Ieee.{binary64, of_bits, of_int, add, sub, div, neg}
use Rattle.laws.specs.Bytes.{space, dash, point, slash, digit0, digit9, capital_e, capital_n, small_a, within}
use Rattle.laws.specs.Lists.{index_of, every}
use Rattle.numbers.specs.Numbers.{number_after, number_of}
use Rattle.numbers.specs.Sign.{signed_of, is_minus, is_on}
use Rattle.lonlat.specs.Angle.{most_latitude, most_longitude, width_of}
use Rattle.lonlat.specs.Digits.{last_as, degrees_of as degrees_read, minutes_of, hundredths_of, value_of, is_sixty, fits, angle_in}
use Rattle.lonlat.specs.Latitude.{blanks_in, rest_blank, counted_digits, latitude_with, latitude_in, read_latitude, latitude_number}
use Rattle.lonlat.specs.Longitude.{longitude_with, longitude_in, read_longitude, longitude_number}
use Rattle.position.specs.Position.{strictly, is_table, is_numeric, is_uncompressed, with_longitude, with_latitude, read_position_by, read_position}
use Rattle.position.specs.Reach.{in_reach}
use Rattle.position.specs.Bounds.{from_dmh, degrees_of, center_of, degree_width, range_of, no_bounds, bounds_of}
use Rattle.position.specs.Page.{no_box, outward, box_of}

-- 49 degrees 03.50 north, two blanks
pub north_bounds : bounds_of most_latitude (pos 294350) 2
    ≡ record { refusal = 0; bounds = record { lower = of_bits binary64 0x4048866666666666; upper = of_bits binary64 0x4048888888888888 } }
unfolding bounds_of in_reach range_of center_of is_minus degrees_of from_dmh degree_width of_bits of_int add sub div neg
north_bounds = refl

-- 72 degrees 01.75 west, no blank
pub west_bounds : bounds_of most_longitude (negsuc 432174) 0
    ≡ record { refusal = 0; bounds = record { lower = of_bits binary64 0xc05201df3b645a1d; upper = of_bits binary64 0xc05201dc8057619f } }
unfolding bounds_of in_reach range_of center_of is_minus degrees_of from_dmh degree_width of_bits of_int add sub div neg
west_bounds = refl

-- 90 degrees and a hundredth
pub past_the_pole : bounds_of most_latitude (pos 540001) 0 ≡ no_bounds
unfolding bounds_of in_reach
past_the_pole = refl

pub six_blanks : bounds_of most_latitude (pos 0) 6 ≡ no_bounds
unfolding bounds_of in_reach
six_blanks = refl

-- document 02, R-1, read out: 9000.00N runs past the pole
pub pole_box : box_of most_latitude (pos 540000) 0 false ≡ record { refusal = 0; from = pos 1080000; to = pos 1080002 }
unfolding box_of outward is_on in_reach width_of
pole_box = refl

-- 0 with two blanks, N and S
pub zero_north_box : box_of most_latitude (pos 0) 2 false ≡ record { refusal = 0; from = pos 0; to = pos 200 }
unfolding box_of outward is_on in_reach width_of
zero_north_box = refl

pub zero_south_box : box_of most_latitude (pos 0) 2 true ≡ record { refusal = 0; from = negsuc 199; to = pos 0 }
unfolding box_of outward is_on in_reach width_of
zero_south_box = refl

-- 50 hundredths south made by hand, two blanks
pub by_hand_box : box_of most_latitude (negsuc 49) 2 true ≡ record { refusal = 0; from = negsuc 299; to = negsuc 99 }
unfolding box_of outward is_on in_reach width_of
by_hand_box = refl

-- 72 degrees 01.75 west, no blank
pub west_box : box_of most_longitude (negsuc 432174) 0 true ≡ record { refusal = 0; from = negsuc 864351; to = negsuc 864349 }
unfolding box_of outward is_on in_reach width_of
west_box = refl

-- 5 hundredths north are not south
pub contradicted_box : box_of most_latitude (pos 5) 2 true ≡ no_box
unfolding box_of is_on in_reach
contradicted_box = refl

pub past_the_pole_box : box_of most_latitude (pos 540001) 0 false ≡ no_box
unfolding box_of in_reach
past_the_pole_box = refl

-- ---- strictly: document 02, R-8, read out

-- latitude, table byte, longitude and the code byte `-`
abbrev placed : List ℕ → ℕ → List ℕ → List ℕ
placed latitude table longitude = latitude ++ (table ∷ longitude ++ (dash ∷ []))

abbrev zero_east : List ℕ
zero_east = digit0 ∷ digit0 ∷ digit0 ∷ digit0 ∷ digit0 ∷ point ∷ digit0 ∷ digit0 ∷ capital_e ∷ []

-- the number that is given as usually, and strictly
abbrev Numbered : List ℕ → ℕ → ℕ → Type 0
Numbered s usual strict = ((read_position s).refusal ≡ usual) × ((read_position_by strictly s).refusal ≡ strict)

-- "Proofreaders want 8960.00N stopped"
pub sixty_minutes_stopped : Numbered (placed (0x38 ∷ digit9 ∷ 0x36 ∷ digit0 ∷ point ∷ digit0 ∷ digit0 ∷ capital_n ∷ []) slash zero_east) 0 8
unfolding
    read_position_by is_uncompressed is_numeric is_table within with_latitude with_longitude read_latitude latitude_number latitude_in latitude_with rest_blank blanks_in counted_digits index_of every
    last_as angle_in fits value_of is_sixty degrees_read minutes_of hundredths_of number_of number_after signed_of read_longitude longitude_number longitude_in longitude_with
sixty_minutes_stopped = (refl, refl)

-- 8959.99N passes
pub fifty_nine_minutes : Numbered (placed (0x38 ∷ digit9 ∷ 0x35 ∷ digit9 ∷ point ∷ digit9 ∷ digit9 ∷ capital_n ∷ []) slash zero_east) 0 0
unfolding
    read_position_by is_uncompressed is_numeric is_table within with_latitude with_longitude read_latitude latitude_number latitude_in latitude_with rest_blank blanks_in counted_digits index_of every
    last_as angle_in fits value_of is_sixty degrees_read minutes_of hundredths_of number_of number_after signed_of read_longitude longitude_number longitude_in longitude_with
fifty_nine_minutes = (refl, refl)

-- `006 .  N` has 60 minutes
pub blanks_count_as_0 : Numbered (placed (digit0 ∷ digit0 ∷ 0x36 ∷ space ∷ point ∷ space ∷ space ∷ capital_n ∷ []) slash zero_east) 0 8
unfolding
    read_position_by is_uncompressed is_numeric is_table within with_latitude with_longitude read_latitude latitude_number latitude_in latitude_with rest_blank blanks_in counted_digits index_of every
    last_as angle_in fits value_of is_sixty degrees_read minutes_of hundredths_of number_of number_after signed_of read_longitude longitude_number longitude_in longitude_with
blanks_count_as_0 = (refl, refl)

-- `00  .  N` has none
pub blank_minutes : Numbered (placed (digit0 ∷ digit0 ∷ space ∷ space ∷ point ∷ space ∷ space ∷ capital_n ∷ []) slash zero_east) 0 0
unfolding
    read_position_by is_uncompressed is_numeric is_table within with_latitude with_longitude read_latitude latitude_number latitude_in latitude_with rest_blank blanks_in counted_digits index_of every
    last_as angle_in fits value_of is_sixty degrees_read minutes_of hundredths_of number_of number_after signed_of read_longitude longitude_number longitude_in longitude_with
blank_minutes = (refl, refl)

-- with four blanks both digits of 00099.99E are discarded
pub discarded_minutes : Numbered (placed (digit0 ∷ digit0 ∷ space ∷ space ∷ point ∷ space ∷ space ∷ capital_n ∷ []) slash (digit0 ∷ digit0 ∷ digit0 ∷ digit9 ∷ digit9 ∷ point ∷ digit9 ∷ digit9 ∷ capital_e ∷ [])) 0 0
unfolding
    read_position_by is_uncompressed is_numeric is_table within with_latitude with_longitude read_latitude latitude_number latitude_in latitude_with rest_blank blanks_in counted_digits index_of every
    last_as angle_in fits value_of is_sixty degrees_read minutes_of hundredths_of number_of number_after signed_of read_longitude longitude_number longitude_in longitude_with
discarded_minutes = (refl, refl)

-- with three blanks 0006x.xxE has 60 minutes
pub discarded_digit : Numbered (placed (digit0 ∷ digit0 ∷ digit0 ∷ space ∷ point ∷ space ∷ space ∷ capital_n ∷ []) slash (digit0 ∷ digit0 ∷ digit0 ∷ 0x36 ∷ 0x78 ∷ point ∷ 0x78 ∷ 0x78 ∷ capital_e ∷ [])) 0 9
unfolding
    read_position_by is_uncompressed is_numeric is_table within with_latitude with_longitude read_latitude latitude_number latitude_in latitude_with rest_blank blanks_in counted_digits index_of every
    last_as angle_in fits value_of is_sixty degrees_read minutes_of hundredths_of number_of number_after signed_of read_longitude longitude_number longitude_in longitude_with
discarded_digit = (refl, refl)

-- the latitude is done before the longitude begins
pub latitude_first : Numbered (placed (0x34 ∷ digit9 ∷ 0x36 ∷ digit0 ∷ point ∷ digit0 ∷ digit0 ∷ capital_n ∷ []) slash (0x78 ∷ 0x78 ∷ 0x78 ∷ 0x78 ∷ 0x78 ∷ point ∷ 0x78 ∷ 0x78 ∷ capital_e ∷ [])) 9 8
unfolding
    read_position_by is_uncompressed is_numeric is_table within with_latitude with_longitude read_latitude latitude_number latitude_in latitude_with rest_blank blanks_in counted_digits index_of every
    last_as angle_in fits value_of is_sixty degrees_read minutes_of hundredths_of number_of number_after signed_of read_longitude longitude_number longitude_in longitude_with
latitude_first = (refl, refl)

-- "it also wants table bytes", last of all: a small letter is none
pub small_letter : Numbered (placed (0x34 ∷ digit9 ∷ digit0 ∷ 0x33 ∷ point ∷ 0x35 ∷ digit0 ∷ capital_n ∷ []) small_a zero_east) 0 20
unfolding
    read_position_by is_uncompressed is_numeric is_table within with_latitude with_longitude read_latitude latitude_number latitude_in latitude_with rest_blank blanks_in counted_digits index_of every
    last_as angle_in fits value_of is_sixty degrees_read minutes_of hundredths_of number_of number_after signed_of read_longitude longitude_number longitude_in longitude_with
small_letter = (refl, refl)

-- the longitude comes before it
pub longitude_before_table : Numbered (placed (0x34 ∷ digit9 ∷ digit0 ∷ 0x33 ∷ point ∷ 0x35 ∷ digit0 ∷ capital_n ∷ []) small_a (digit0 ∷ digit0 ∷ digit0 ∷ 0x36 ∷ digit0 ∷ point ∷ digit0 ∷ digit0 ∷ capital_e ∷ [])) 0 9
unfolding
    read_position_by is_uncompressed is_numeric is_table within with_latitude with_longitude read_latitude latitude_number latitude_in latitude_with rest_blank blanks_in counted_digits index_of every
    last_as angle_in fits value_of is_sixty degrees_read minutes_of hundredths_of number_of number_after signed_of read_longitude longitude_number longitude_in longitude_with
longitude_before_table = (refl, refl)
