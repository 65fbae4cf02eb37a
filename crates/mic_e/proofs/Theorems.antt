-- What is written reads back: speed and course, longitude under the writer's offset and side, the information, and the
-- whole Mic-E part of a record. And what is read is in range, and on the side that was read.
-- Assumes nothing.
use Rattle.std.proofs.Common.{◌≡◌, ℕ, ◌/◌, ◌%◌, ◌<◌, ◌≤◌, Bool, true, false, not, eqb, ltb, leb, List, ◌++◌, length, get_or, drop, Option, Some, None, ℤ, pos, nat_abs, refl, ap, subst, ◌∙◌, arith, ltb-false, le-ltb, ne_eqb}
use borrow.Author.Tests.{lt-leb}
use Rattle.std.proofs.lemmas.Option.{same_Some}
use Rattle.laws.specs.Bytes.{capital_n, capital_s}
use Rattle.laws.proofs.Tests.{guard, passed, picked}
use Rattle.lonlat.specs.Angle.{most_latitude, most_longitude, width_of}
use Rattle.numbers.specs.Sign.{is_minus, is_on}
use Rattle.lonlat.specs.Digits.{minutes_of}
use Rattle.lonlat.specs.Latitude.{latitude_refusal, counted_digits, latitude_places, read_latitude}
use Rattle.lonlat.specs.declared.LatitudeRead.{LatitudeRead}
use Rattle.lonlat.specs.declared.Longitude.{Longitude}
use Rattle.numbers.proofs.Sign.{rejoined, size_signed, on_signed, on_one}
use Rattle.lonlat.proofs.Theorems.{LatitudeFound, read_latitude_found, latitude_side_is_the_letter's, latitude_minutes_are_the_digits'}
use Rattle.mic_e.specs.Character.{is_flagged}
use Rattle.mic_e.specs.Motion.{most_speed, most_course, read_motion, motion_field}
use Rattle.mic_e.specs.Longitude.{read_longitude, longitude_out, hundred_of, hundred_for, longitude_field}
use Rattle.mic_e.specs.Destination.{read_destination, are_characters, text_in, destination_with, destination_bytes, destination_refusal, write_destination}
use Rattle.mic_e.specs.Information.{read_information, information_of, information_out, information_bytes}
use Rattle.mic_e.specs.declared.Destination.{Destination}
use Rattle.mic_e.specs.declared.DestinationWritten.{DestinationWritten}
use Rattle.mic_e.specs.declared.Message.{Message}
use Rattle.mic_e.specs.declared.Information.{Information}
use Rattle.mic_e.specs.declared.Motion.{Motion}
use Rattle.mic_e.proofs.Range.{in_longitude, in_speed, in_course}
use Rattle.mic_e.proofs.MotionFacts.{motion, reads_moves, moves_reads, written_moves}
use Rattle.mic_e.proofs.LongitudeFacts.{reads_lies, lies_reads, written_lies}
use Rattle.mic_e.proofs.DestinationFacts.{destination_reads_back}

-- speed and course as written read as the same
pub motion_reads_back : (s t : ℕ) → s ≤ most_speed → t ≤ most_course
    → read_motion (get_or (motion_field s t) 0 0) (get_or (motion_field s t) 1 0) (get_or (motion_field s t) 2 0) ≡ Some (motion s t)
motion_reads_back s t hs ht = moves_reads s t _ _ _ (written_moves s t hs ht)

abbrev longitude_at : ℤ → Option Longitude
longitude_at z = Some (record { 0 = z })

-- longitude short of 180 degrees, as written, with the writer's offset and side, reads as the same
pub longitude_reads_back : (z : ℤ) → nat_abs z < most_longitude
    → read_longitude (hundred_of z) (is_minus z) (get_or (longitude_field (nat_abs z)) 0 0) (get_or (longitude_field (nat_abs z)) 1 0) (get_or (longitude_field (nat_abs z)) 2 0)
    ≡ Some (record { 0 = z })
unfolding hundred_of
longitude_reads_back z h =
    lies_reads (hundred_for (nat_abs z / 6000)) (is_minus z) _ _ _ (nat_abs z) (written_lies (nat_abs z) h)
    ∙ ap (λ (x : ℤ). longitude_at x) (rejoined z)

-- the information as written, with the writer's offset and side, reads as the same, whatever comment follows
pub information_reads_back : (i : Information) (comment : List ℕ) → information_out i ≡ false
    → read_information (information_bytes i ++ comment) (hundred_of i.longitude.0) (is_minus i.longitude.0) ≡ Some i
unfolding read_information information_bytes information_of
information_reads_back i comment h =
    let room : 8 ≤ length (information_bytes i ++ comment) = omega arith in
    rw (le-ltb (length (information_bytes i ++ comment)) 8 room, longitude_reads_back i.longitude.0 (in_longitude i h), motion_reads_back i.speed.0 i.course.0 (in_speed i h) (in_course i h))

pub information_length : (i : Information) → length (information_bytes i) ≡ 8
unfolding information_bytes
information_length i = refl

-- and the comment is the rest
pub comment_comes_back : (i : Information) (comment : List ℕ) → drop 8 (information_bytes i ++ comment) ≡ comment
unfolding information_bytes
comment_comes_back i comment = refl

-- ---- the whole: destination and information as written, read by themselves

-- what the destination of a record says
unfoldable pub destination_for : ℤ → ℕ → Message → ℤ → Destination
destination_for latitude blanks message longitude =
    record {
      latitude = record { 0 = latitude };
      message = message;
      blanks = blanks;
      south = is_minus latitude;
      hundred = hundred_of longitude;
      west = is_minus longitude;
      sixty = false;
    }

-- what is in range is written
pub destination_written : (latitude : ℤ) (blanks : ℕ) (message : Message) (longitude : ℤ)
    → nat_abs latitude ≤ most_latitude → blanks ≤ 5 → nat_abs longitude < most_longitude
    → write_destination latitude blanks message longitude ≡ record { bytes = destination_bytes latitude blanks message longitude; refusal = 0 }
unfolding write_destination destination_refusal longitude_out latitude_refusal
destination_written latitude blanks message longitude near few short =
    rw (lt-leb most_longitude (nat_abs longitude) short, le-ltb most_latitude (nat_abs latitude) near, le-ltb 5 blanks few)

module _ (latitude : ℤ) (blanks : ℕ) (message : Message) (i : Information) (comment : List ℕ) where
  abbrev call : List ℕ
  call = (write_destination latitude blanks message i.longitude.0).bytes

  pub record ReadsBack : Type 0 where
    pub accepted : (write_destination latitude blanks message i.longitude.0).refusal ≡ 0
    pub destination : read_destination call ≡ Some (destination_for latitude blanks message i.longitude.0)
    pub information : read_information (information_bytes i ++ comment) (hundred_of i.longitude.0) (is_minus i.longitude.0) ≡ Some i
    pub rest : drop 8 (information_bytes i ++ comment) ≡ comment

  -- "A Mic-E body and destination as written, read by themselves, give back the Mic-E part of the record and the comment
  -- bytes, if latitude is a multiple of the width its blanks leave."
  pub report_reads_back : nat_abs latitude ≤ most_latitude → blanks ≤ 5 → nat_abs latitude % width_of blanks ≡ 0 → information_out i ≡ false → ReadsBack
  unfolding destination_for
  report_reads_back near few width inside =
      let w = destination_written latitude blanks message i.longitude.0 near few (in_longitude i inside) in
      record {
        accepted = ap (λ (x : DestinationWritten). x.refusal) w;
        destination =
            ap (λ (x : DestinationWritten). read_destination x.bytes) w
            ∙ destination_reads_back latitude blanks message i.longitude.0 near few width;
        information = information_reads_back i comment inside;
        rest = comment_comes_back i comment;
      }

-- ---- what is read is in range, and on the side that was read

pub record InformationFound (west : Bool) (i : Information) : Type 0 where
  pub near : nat_abs i.longitude.0 ≤ most_longitude
  pub side : is_on west i.longitude.0 ≡ true
  pub slow : i.speed.0 ≤ most_speed
  pub turned : i.course.0 ≤ most_course

no_information : (i : Information) → None ≡ Some i → ⊥
no_information i e = cc

informed : (west : Bool) (i : Information) (code table : ℕ) (l : Option Longitude) (m : Option Motion)
    → ((x : Longitude) → l ≡ Some x → (nat_abs x.0 ≤ most_longitude) × (is_on west x.0 ≡ true))
    → ((v : Motion) → m ≡ Some v → (v.speed.0 ≤ most_speed) × (v.course.0 ≤ most_course))
    → information_of code table l m ≡ Some i → InformationFound west i
unfolding information_of
informed west i code table (Some x) (Some v) found range e =
    let r : record { longitude = x; speed = v.speed; course = v.course; code = code; table = table } ≡ i = cc in
    rw (← r) (record { near = (found x refl).0; side = (found x refl).1; slow = (range v refl).0; turned = (range v refl).1 })
informed west i code table (Some x) None found range e = absurd (no_information i e)
informed west i code table None m found range e = absurd (no_information i e)

module _ (s : List ℕ) (hundred west : Bool) (i : Information) where
  longitude_read : (x : Longitude) → read_longitude hundred west (get_or s 0 0) (get_or s 1 0) (get_or s 2 0) ≡ Some x
      → (nat_abs x.0 ≤ most_longitude) × (is_on west x.0 ≡ true)
  longitude_read x e = let h = reads_lies hundred west _ _ _ x e in rw h.1 (rw size_signed h.0.size_to, on_signed west _)

  range_read : (m : Motion) → read_motion (get_or s 3 0) (get_or s 4 0) (get_or s 5 0) ≡ Some m → (m.speed.0 ≤ most_speed) × (m.course.0 ≤ most_course)
  range_read m e = let h = reads_moves _ _ _ m e in (h.speed_to, h.course_to)

  parted : read_information s hundred west ≡ Some i
      → (ltb (length s) 8 ≡ false)
      × (information_of (get_or s 6 0) (get_or s 7 0) (read_longitude hundred west (get_or s 0 0) (get_or s 1 0) (get_or s 2 0)) (read_motion (get_or s 3 0) (get_or s 4 0) (get_or s 5 0)) ≡ Some i)
  unfolding read_information
  parted e = guard (ltb (length s) 8) None _ _ (no_information i) e

  -- it has its 8 bytes
  pub information_long : read_information s hundred west ≡ Some i → 8 ≤ length s
  information_long e = ltb-false (length s) 8 (parted e).0

  pub read_information_found : read_information s hundred west ≡ Some i → InformationFound west i
  read_information_found e = informed west i (get_or s 6 0) (get_or s 7 0) _ _ longitude_read range_read (parted e).1

  -- the side that the destination gave is the longitude's own, where it is not 0
  pub information_side_is_the_angle's : read_information s hundred west ≡ Some i → (i.longitude.0 ≡ pos 0 → ⊥) → west ≡ is_minus i.longitude.0
  information_side_is_the_angle's e = on_one west i.longitude.0 (read_information_found e).side

-- a call that is not six characters is no destination
pub not_six : (s : List ℕ) → (length s ≡ 6 → ⊥) → read_destination s ≡ None
unfolding read_destination
not_six s h = rw (ne_eqb (length s) 6 h)

no_destination : (d : Destination) → None ≡ Some d → ⊥
no_destination d e = cc

-- the latitude that a destination has
abbrev pub latitude_of : Destination → LatitudeRead
latitude_of d = record { latitude = d.latitude; blanks = d.blanks; south = d.south; sixty = d.sixty }

-- what holds of whatever lonlat read in the text holds of the destination's own
sited : (P : LatitudeRead → Type 0) (call : List ℕ) (d : Destination) (r : Option LatitudeRead) → ((l : LatitudeRead) → r ≡ Some l → P l) → destination_with call r ≡ Some d → P (latitude_of d)
unfolding destination_with
sited P call d (Some l) h e = subst (λ (x : Destination). P (latitude_of x)) (same_Some _ d e) (h l refl)
sited P call d None h e = absurd (no_destination d e)

module _ (call : List ℕ) (d : Destination) (read : read_destination call ≡ Some d) where
  carried : destination_with call (read_latitude (text_in call)) ≡ Some d
  unfolding read_destination
  carried =
      let g = passed (eqb (length call) 6) _ None _ (no_destination d) read in
      (passed (are_characters call) _ None _ (no_destination d) g.1).1

  -- in range, on the side that was read, and a multiple of the width that the blanks leave
  pub read_destination_found : LatitudeFound (latitude_of d)
  read_destination_found = sited LatitudeFound call d (read_latitude (text_in call)) (λ l. read_latitude_found l (text_in call)) carried

  -- the side that was read is the latitude's own, where it is not 0
  pub destination_side_is_the_angle's : (d.latitude.0 ≡ pos 0 → ⊥) → d.south ≡ is_minus d.latitude.0
  destination_side_is_the_angle's = on_one d.south d.latitude.0 read_destination_found.angle.side

  -- and it is south exactly where the fourth character is none of P to Z
  pub destination_side_is_the_fourth's : d.south ≡ not (is_flagged (get_or call 3 0))
  unfolding text_in
  destination_side_is_the_fourth's =
      sited (λ l. l.south ≡ not (is_flagged (get_or call 3 0))) call d (read_latitude (text_in call))
      (λ l e.
      latitude_side_is_the_letter's l (text_in call) e
      ∙ picked (λ letter flag. eqb letter capital_s ≡ not flag) capital_n capital_s refl refl (is_flagged (get_or call 3 0)))
      carried

  -- its minutes are those that its third and fourth characters show, blanks as 0 (document 02, R-8)
  pub destination_minutes_are_the_digits' : d.sixty ≡ leb 60 (minutes_of (counted_digits (latitude_places (text_in call))))
  destination_minutes_are_the_digits' =
      sited (λ l. l.sixty ≡ leb 60 (minutes_of (counted_digits (latitude_places (text_in call))))) call d (read_latitude (text_in call))
      (λ l. latitude_minutes_are_the_digits' l (text_in call))
      carried
