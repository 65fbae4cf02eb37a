-- What a position reads as is blank, or in range and on the sides that were read; its angles are the inner edges of their boxes;
-- and what is written reads back, 0 with the letters N and E.
-- Assumes nothing.
use Rattle.std.proofs.Common.{◌≡◌, ℕ, ◌%◌, ◌≤◌, Bool, true, false, cond, Option, Some, None, Result, Ok, Err, ◌||◌, eqb, ltb, List, [], ◌∷◌, ◌++◌, length, get_or, take, drop, pos, nat_abs, sym, refl, ap, ◌∙◌, append_assoc, arith, length-append, get_or-drop, take_at, get_or-append-add, drop_at, le-ltb, le-leb}
use mathlib.Core.Bool.{false≢true}
use lib.ListN.{get_or-append}
use lib.Seq.{get_or_at}
use Rattle.laws.specs.Bytes.{is_digit}
use Rattle.numbers.specs.Sign.{is_minus, is_on}
use Rattle.numbers.proofs.Sign.{on_one}
use Rattle.lonlat.specs.Angle.{most_latitude, most_longitude, width_of, cut_angle}
use Rattle.lonlat.specs.Latitude.{latitude_read, read_latitude, latitude_number, latitude_text}
use Rattle.lonlat.specs.Longitude.{longitude_read, read_longitude, longitude_number, longitude_text}
use Rattle.lonlat.specs.declared.LatitudeRead.{LatitudeRead}
use Rattle.lonlat.specs.declared.LongitudeRead.{LongitudeRead}
use Rattle.lonlat.specs.declared.LongitudeError.{LongitudeError}
use Rattle.lonlat.specs.declared.LongitudeError.TheVariants.{Malformed, OutOfRange}
use Rattle.lonlat.proofs.Texts.{latitude_text_length, latitude_text_first, longitude_text_length}
use Rattle.lonlat.proofs.Theorems.{AngleFound, LatitudeFound, read_latitude_found, read_longitude_found, longitude_few, cut_whole, latitude_reads_cut, longitude_reads_cut}
use Rattle.position.specs.declared.Place.{Place}
use Rattle.position.specs.declared.PositionRead.{PositionRead}
use Rattle.position.specs.Reach.{in_reach}
use Rattle.position.specs.Position.{fixed_bytes, is_numeric, usually, is_uncompressed, refused_position, accepted_position, place_of, with_longitude, with_latitude, read_position_by, read_position, no_place, place_in_range, letters_agree, position_text, as_written}
use Rattle.position.specs.Page.{box_of}
use Rattle.position.proofs.InnerEdge.{InnerEdge, inner_edge}
use Rattle.position.proofs.Reach.{latitude_near, longitude_near, reach_near, reach_few, latitude_agrees, longitude_agrees}

-- ---- every answer, by cases: a refusal, or a place with its sides

abbrev pub is_position_refusal : ℕ → Bool
is_position_refusal n = eqb n 7 || (eqb n 8 || (eqb n 9 || eqb n 10))

module _ (P : PositionRead → Type 0) (s : List ℕ)
    (blank : (n : ℕ) → is_position_refusal n ≡ true → P (refused_position n))
    (found : (north : LatitudeRead) (east : LongitudeRead) → LatitudeFound north → AngleFound most_longitude east.west (width_of north.blanks) east.longitude.0
    → P (accepted_position (place_of s north east) north.sixty east.sixty)) where
  longitude_cases : (north : LatitudeRead) → LatitudeFound north
      → (q : Result LongitudeRead LongitudeError) → read_longitude (take 9 (drop 9 s)) north.blanks ≡ q → P (with_longitude usually s north q)
  unfolding with_longitude longitude_number
  longitude_cases north l (Ok east) e = found north east l (read_longitude_found east (take 9 (drop 9 s)) north.blanks e)
  longitude_cases north l (Err Malformed) e = blank 9 refl
  longitude_cases north l (Err OutOfRange) e = absurd (longitude_few (take 9 (drop 9 s)) north.blanks l.few e)

  latitude_cases : (q : Option LatitudeRead) → read_latitude (take 8 s) ≡ q → P (with_latitude usually s q)
  unfolding with_latitude latitude_number
  latitude_cases (Some north) e = longitude_cases north (read_latitude_found north (take 8 s) e) (read_longitude (take 9 (drop 9 s)) north.blanks) refl
  latitude_cases None e = blank 8 refl

  position_cases : P (read_position s)
  unfolding read_position_by
  position_cases = go (is_uncompressed s) (ltb (length s) fixed_bytes)
    where
      go : (u v : Bool) → P (cond u (cond v (refused_position 10) (with_latitude usually s (read_latitude (take 8 s)))) (refused_position 7))
      go true true = blank 10 refl
      go true false = latitude_cases (read_latitude (take 8 s)) refl
      go false v = blank 7 refl

-- a refusal is one of 7, 8, 9, 10, and leaves nothing; a place is in range, each angle is on the side of its letter and a
-- multiple of the width that the blanks leave
pub record Answered (r : PositionRead) : Type 0 where
  pub number : (r.refusal ≡ 0 → ⊥) → is_position_refusal r.refusal ≡ true
  pub nothing : (r.refusal ≡ 0 → ⊥) → r ≡ refused_position r.refusal
  pub near : r.refusal ≡ 0 → place_in_range r.place ≡ true
  pub agree : letters_agree r.place ≡ true
  pub latitude_whole : nat_abs r.place.latitude.0 % width_of r.place.blanks ≡ 0
  pub longitude_whole : nat_abs r.place.longitude.0 % width_of r.place.blanks ≡ 0

refusal_not_zero : (n : ℕ) → is_position_refusal n ≡ true → n ≡ 0 → ⊥
refusal_not_zero n e z = let k : is_position_refusal 0 ≡ true = rw z at e in let f : false ≡ true = k in false≢true f

module _ (s : List ℕ) (north : LatitudeRead) (east : LongitudeRead)
    (l : LatitudeFound north) (m : AngleFound most_longitude east.west (width_of north.blanks) east.longitude.0) where
  found_near : place_in_range (place_of s north east) ≡ true
  unfolding place_in_range in_reach
  found_near = rw (le-leb (nat_abs north.latitude.0) most_latitude l.angle.near, le-leb north.blanks 5 l.few, le-leb (nat_abs east.longitude.0) most_longitude m.near)

  found_agree : letters_agree (place_of s north east) ≡ true
  unfolding letters_agree
  found_agree = rw (l.angle.side, m.side)

nothing_agrees : letters_agree no_place ≡ true
unfolding letters_agree is_on
nothing_agrees = refl

pub read_position_answered : (s : List ℕ) → Answered (read_position s)
unfolding width_of
read_position_answered s =
    position_cases Answered s
    (λ n e. record {
      number = λ h. e;
      nothing = λ h. refl;
      near = λ z. absurd (refusal_not_zero n e z);
      agree = nothing_agrees;
      latitude_whole = refl;
      longitude_whole = refl;
    })
    (λ north east l m. record {
      number = λ h. absurd (h refl);
      nothing = λ h. absurd (h refl);
      near = λ z. found_near s north east l m;
      agree = found_agree s north east l m;
      latitude_whole = l.angle.whole;
      longitude_whole = m.whole;
    })

-- ---- the boxes of a place whose angles are multiples of the width that its blanks leave, as those of a position that was read are:
-- each angle is the inner edge of its box

module _ (p : Place) (near : place_in_range p ≡ true) (agree : letters_agree p ≡ true) where
  pub latitude_is_inner_edge : nat_abs p.latitude.0 % width_of p.blanks ≡ 0
      → InnerEdge p.south p.blanks p.latitude.0 (box_of most_latitude p.latitude.0 p.blanks p.south)
  latitude_is_inner_edge = inner_edge most_latitude p.latitude.0 p.blanks p.south (latitude_near p near) (latitude_agrees p agree)

  pub longitude_is_inner_edge : nat_abs p.longitude.0 % width_of p.blanks ≡ 0
      → InnerEdge p.west p.blanks p.longitude.0 (box_of most_longitude p.longitude.0 p.blanks p.west)
  longitude_is_inner_edge = inner_edge most_longitude p.longitude.0 p.blanks p.west (longitude_near p near) (longitude_agrees p agree)

-- ---- what is written reads back

-- a place with its angles cut to the width that the blanks leave, and the letters that are written: each angle's own side, and N and
-- E for 0
abbrev pub cut_place : Place → Place
cut_place p = record {
  latitude = record { 0 = cut_angle p.blanks p.latitude.0 };
  longitude = record { 0 = cut_angle p.blanks p.longitude.0 };
  blanks = p.blanks;
  table = p.table;
  code = p.code;
  south = is_minus p.latitude.0;
  west = is_minus p.longitude.0;
}

-- a text of 8 bytes, one byte, a text of 9, one byte, and the rest
module _ (n : List ℕ) (t : ℕ) (e : List ℕ) (c : ℕ) (rest : List ℕ) (eight : length n ≡ 8) (nine : length e ≡ 9) where
  whole : List ℕ
  whole = n ++ (t ∷ e ++ (c ∷ rest))

  whole_long : fixed_bytes ≤ length whole
  unfolding whole
  whole_long = rw (length-append n (t ∷ e ++ (c ∷ rest)), length-append e (c ∷ rest)) (omega arith)

  whole_first : get_or whole 0 0 ≡ get_or n 0 0
  unfolding whole
  whole_first = get_or-append n (t ∷ e ++ (c ∷ rest)) 0 0 (omega arith)

  whole_north : take 8 whole ≡ n
  unfolding whole
  whole_north = take_at n (t ∷ e ++ (c ∷ rest)) 8 eight

  whole_table : get_or whole 8 0 ≡ t
  unfolding whole
  whole_table = ap (λ (i : ℕ). get_or (n ++ (t ∷ e ++ (c ∷ rest))) i 0) (sym eight ∙ omega arith) ∙ get_or-append-add n (t ∷ e ++ (c ∷ rest)) 0 0

  past_table : drop 9 whole ≡ e ++ (c ∷ rest)
  unfolding whole
  past_table =
      ap (drop 9) (sym (append_assoc n (t ∷ []) (e ++ (c ∷ rest))))
      ∙ drop_at (n ++ (t ∷ [])) (e ++ (c ∷ rest)) 9 (length-append n (t ∷ []) ∙ rw eight)

  whole_east : take 9 (drop 9 whole) ≡ e
  whole_east = ap (take 9) past_table ∙ take_at e (c ∷ rest) 9 nine

  whole_code : get_or whole 18 0 ≡ c
  whole_code = sym (get_or-drop 9 whole 9 0) ∙ ap (λ (l : List ℕ). get_or l 9 0) past_table ∙ get_or_at e c rest 0 9 nine

-- a place read from text whose parts are known
parts_read : (s : List ℕ) (north : LatitudeRead) (east : LongitudeRead) → is_uncompressed s ≡ true → fixed_bytes ≤ length s
    → read_latitude (take 8 s) ≡ Some north → read_longitude (take 9 (drop 9 s)) north.blanks ≡ Ok east
    → read_position s ≡ accepted_position (place_of s north east) north.sixty east.sixty
unfolding read_position_by with_latitude with_longitude
parts_read s north east u l e f = rw (u, le-ltb (length s) fixed_bytes l, e, f)

numeric_digit : (s : List ℕ) (b : ℕ) → get_or s 0 0 ≡ b → is_digit b ≡ true → is_uncompressed s ≡ true
unfolding is_uncompressed is_numeric
numeric_digit s b e d = rw (e, d)

module _ (p : Place) (near : place_in_range p ≡ true) (comment : List ℕ) where
  few : p.blanks ≤ 5
  few = reach_few most_latitude (nat_abs p.latitude.0) p.blanks (latitude_near p near)

  n : List ℕ
  n = latitude_text p.latitude.0 p.blanks

  e : List ℕ
  e = longitude_text p.longitude.0

  eight : length n ≡ 8
  unfolding n
  eight = latitude_text_length p.latitude.0 p.blanks (omega (arith, few))

  nine : length e ≡ 9
  unfolding e
  nine = longitude_text_length p.longitude.0

  s : List ℕ
  s = whole n p.table e p.code comment eight nine

  text_whole : position_text p ++ comment ≡ s
  unfolding position_text whole s n e
  text_whole = append_assoc n (p.table ∷ e ++ (p.code ∷ [])) comment ∙ ap {B = List ℕ} (λ l. n ++ (p.table ∷ l)) (append_assoc e (p.code ∷ []) comment)

  north_read : read_latitude (take 8 s) ≡ Some (latitude_read (cut_angle p.blanks p.latitude.0) p.blanks (is_minus p.latitude.0) false)
  unfolding s n
  north_read =
      ap read_latitude (whole_north n p.table e p.code comment eight nine)
      ∙ latitude_reads_cut p.latitude.0 p.blanks few (reach_near most_latitude (nat_abs p.latitude.0) p.blanks (latitude_near p near))

  east_read : read_longitude (take 9 (drop 9 s)) p.blanks ≡ Ok (longitude_read (cut_angle p.blanks p.longitude.0) (is_minus p.longitude.0) false)
  unfolding s e
  east_read =
      ap (λ (l : List ℕ). read_longitude l p.blanks) (whole_east n p.table e p.code comment eight nine)
      ∙ longitude_reads_cut p.longitude.0 p.blanks few (reach_near most_longitude (nat_abs p.longitude.0) p.blanks (longitude_near p near))

  starts : is_uncompressed s ≡ true
  unfolding s n
  starts = numeric_digit s (get_or n 0 0) (whole_first n p.table e p.code comment eight nine) (latitude_text_first p.latitude.0 p.blanks few)

  -- what is written, and a comment behind it, reads as the place cut to the width that its blanks leave, with no minutes of 60 or
  -- more
  pub position_reads_cut : read_position (position_text p ++ comment) ≡ accepted_position (cut_place p) false false
  unfolding s
  position_reads_cut =
      rw text_whole
      (parts_read s _ _ starts (whole_long n p.table e p.code comment eight nine) north_read east_read
      ∙ rw (whole_table n p.table e p.code comment eight nine, whole_code n p.table e p.code comment eight nine))

  -- as the place itself with the letters that are written, where both angles are multiples of that width
  pub position_reads_back : nat_abs p.latitude.0 % width_of p.blanks ≡ 0 → nat_abs p.longitude.0 % width_of p.blanks ≡ 0
      → read_position (position_text p ++ comment) ≡ accepted_position (as_written p) false false
  unfolding as_written
  position_reads_back h k = position_reads_cut ∙ rw (cut_whole p.latitude.0 p.blanks h, cut_whole p.longitude.0 p.blanks k)

-- ---- the letters that are written: the record's own, but for an angle of 0, which is written N or E

pub zero_is_north : (p : Place) → p.latitude.0 ≡ pos 0 → (as_written p).south ≡ false
unfolding as_written is_minus
zero_is_north p e = rw e

pub zero_is_east : (p : Place) → p.longitude.0 ≡ pos 0 → (as_written p).west ≡ false
unfolding as_written is_minus
zero_is_east p e = rw e

module _ (p : Place) (agree : letters_agree p ≡ true) where
  pub latitude_letter_kept : (p.latitude.0 ≡ pos 0 → ⊥) → (as_written p).south ≡ p.south
  unfolding as_written
  latitude_letter_kept h = sym (on_one p.south p.latitude.0 (latitude_agrees p agree) h)

  pub longitude_letter_kept : (p.longitude.0 ≡ pos 0 → ⊥) → (as_written p).west ≡ p.west
  unfolding as_written
  longitude_letter_kept h = sym (on_one p.west p.longitude.0 (longitude_agrees p agree) h)

  pub letters_kept : (p.latitude.0 ≡ pos 0 → ⊥) → (p.longitude.0 ≡ pos 0 → ⊥) → as_written p ≡ p
  unfolding as_written
  letters_kept h k = rw (latitude_letter_kept h, longitude_letter_kept k)
