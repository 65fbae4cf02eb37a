-- Reading strictly and as usually (document 02, R-8): the one is the other, but where a fault is found that only the strict reader looks
-- for.
-- Assumes nothing.
use Rattle.std.proofs.Common.{◌≡◌, ℕ, suc, Bool, true, false, cond, Option, Some, None, Result, Ok, Err, not, ◌&&◌, ◌||◌, eqb, ltb, ◌⊎◌, List, length, get_or, take, drop, sym, refl, ◌∙◌, inl, inr, arith, eqb-true}
use Rattle.laws.proofs.Tests.{picked}
use Rattle.lonlat.specs.Latitude.{read_latitude, latitude_number}
use Rattle.lonlat.specs.Longitude.{read_longitude, longitude_number}
use Rattle.lonlat.specs.declared.LatitudeRead.{LatitudeRead}
use Rattle.lonlat.specs.declared.LongitudeRead.{LongitudeRead}
use Rattle.lonlat.specs.declared.LongitudeError.{LongitudeError}
use Rattle.lonlat.specs.declared.LongitudeError.TheVariants.{Malformed, OutOfRange}
use Rattle.lonlat.proofs.Theorems.{read_latitude_found, longitude_few}
use Rattle.position.specs.declared.PositionRead.{PositionRead}
use Rattle.position.specs.Position.{fixed_bytes, usually, strictly, is_table, table_number, is_uncompressed, refused_position, with_longitude, with_latitude, read_position_by, read_position}

-- ---- an answer, or the fault that was found: of a position, of a body and of a packet

module _ {A : Type 0} (refused : ℕ → A) where
  abbrev pub unless : ℕ → A → A
  unless fault r = cond (eqb fault 0) r (refused fault)

  -- what is made of an answer, where a refusal is made a refusal of the same number
  pub through_unless : {B : Type 0} (refused' : ℕ → B) (f : A → B) → ((n : ℕ) → eqb n 0 ≡ false → f (refused n) ≡ refused' n)
      → (fault : ℕ) (r : A) → f (unless fault r) ≡ cond (eqb fault 0) (f r) (refused' fault)
  through_unless refused' f same fault r = picked (λ x none. eqb fault 0 ≡ none → f x ≡ cond none (f r) (refused' fault)) r (refused fault) (λ e. refl) (λ e. same fault e) (eqb fault 0) refl

  -- a table byte is judged last
  pub table_unless : (t : Bool) (r : A) → cond (not t) (refused table_number) r ≡ unless (cond t 0 table_number) r
  table_unless true r = refl
  table_unless false r = refl

-- of an answer that is made by a number, the number
pub number_of : {A : Type 0} (number : A → ℕ) (n : ℕ) (x y : A) → number x ≡ 0 → number y ≡ n → number (cond (eqb n 0) x y) ≡ n
number_of number n x y p q = picked (λ r none. eqb n 0 ≡ none → number r ≡ n) x y (λ e. p ∙ sym (eqb-true n 0 e)) (λ e. q) (eqb n 0) refl

-- ---- the fault that only the strict reader finds; 0 is none

-- the number of a fault of the table byte
abbrev pub table_fault : ℕ → ℕ
table_fault table = cond (is_table table) 0 table_number

-- behind a latitude
unfoldable pub longitude_fault : ℕ → Result LongitudeRead LongitudeError → ℕ
longitude_fault table (Ok east) = cond east.sixty (longitude_number (Err Malformed)) (table_fault table)
longitude_fault table (Err e) = 0

-- a latitude's is found whatever stands behind it
unfoldable pub latitude_fault : List ℕ → Option LatitudeRead → ℕ
latitude_fault s (Some north) = cond north.sixty (latitude_number None) (longitude_fault (get_or s 8 0) (read_longitude (take 9 (drop 9 s)) north.blanks))
latitude_fault s None = 0

-- of a position that has its bytes
unfoldable pub position_fault : List ℕ → ℕ
position_fault s = cond (is_uncompressed s) (cond (ltb (length s) fixed_bytes) 0 (latitude_fault s (read_latitude (take 8 s)))) 0

-- ---- the strict reader is the usual one, but for its faults

-- minutes of 60 or more are refused in front of the other faults
over_unless : {A : Type 0} (refused : ℕ → A) (sixty : Bool) (n fault : ℕ) (x r : A) → eqb n 0 ≡ false → x ≡ unless refused fault r → cond sixty (refused n) x ≡ unless refused (cond sixty n fault) r
over_unless refused true n fault x r e f = rw e
over_unless refused false n fault x r e f = f

longitude_strictly : (s : List ℕ) (north : LatitudeRead) (q : Result LongitudeRead LongitudeError)
    → with_longitude strictly s north q ≡ unless refused_position (longitude_fault (get_or s 8 0) q) (with_longitude usually s north q)
unfolding with_longitude longitude_fault longitude_number
longitude_strictly s north (Ok east) = over_unless refused_position east.sixty 9 _ _ _ refl (table_unless refused_position (is_table (get_or s 8 0)) _)
longitude_strictly s north (Err e) = refl

latitude_strictly : (s : List ℕ) (q : Option LatitudeRead) → with_latitude strictly s q ≡ unless refused_position (latitude_fault s q) (with_latitude usually s q)
unfolding with_latitude latitude_fault latitude_number
latitude_strictly s (Some north) = over_unless refused_position north.sixty 8 _ _ _ refl (longitude_strictly s north (read_longitude (take 9 (drop 9 s)) north.blanks))
latitude_strictly s None = refl

pub position_strictly : (s : List ℕ) → read_position_by strictly s ≡ unless refused_position (position_fault s) (read_position s)
unfolding read_position_by position_fault
position_strictly s = go (is_uncompressed s) (ltb (length s) fixed_bytes)
  where
    go : (u v : Bool)
        → cond u (cond v (refused_position 10) (with_latitude strictly s (read_latitude (take 8 s)))) (refused_position 7)
        ≡ unless refused_position (cond u (cond v 0 (latitude_fault s (read_latitude (take 8 s)))) 0) (cond u (cond v (refused_position 10) (with_latitude usually s (read_latitude (take 8 s)))) (refused_position 7))
    go true true = refl
    go true false = latitude_strictly s (read_latitude (take 8 s))
    go false v = refl

-- ---- which numbers a fault has: "minutes give 8, 9 or 11 ..; the table byte gives 20"

abbrev pub is_fault : ℕ → Bool
is_fault n = eqb n 0 || (eqb n 8 || (eqb n 9 || (eqb n 11 || eqb n 20)))

pub either_fault : (a b : ℕ) → is_fault a ≡ true → is_fault b ≡ true → (t : Bool) → is_fault (cond t a b) ≡ true
either_fault a b p q = picked (λ n t. is_fault n ≡ true) a b p q

pub table_fault_lem : (table : ℕ) → is_fault (table_fault table) ≡ true
table_fault_lem table = either_fault 0 table_number refl refl (is_table table)

longitude_fault_lem : (table : ℕ) (q : Result LongitudeRead LongitudeError) → is_fault (longitude_fault table q) ≡ true
unfolding longitude_fault longitude_number
longitude_fault_lem table (Ok east) = either_fault 9 (table_fault table) refl (table_fault_lem table) east.sixty
longitude_fault_lem table (Err e) = refl

latitude_fault_lem : (s : List ℕ) (q : Option LatitudeRead) → is_fault (latitude_fault s q) ≡ true
unfolding latitude_fault latitude_number
latitude_fault_lem s (Some north) = either_fault 8 _ refl (longitude_fault_lem (get_or s 8 0) (read_longitude (take 9 (drop 9 s)) north.blanks)) north.sixty
latitude_fault_lem s None = refl

pub position_fault_lem : (s : List ℕ) → is_fault (position_fault s) ≡ true
unfolding position_fault
position_fault_lem s =
    either_fault _ 0 (either_fault 0 _ refl (latitude_fault_lem s (read_latitude (take 8 s))) (ltb (length s) fixed_bytes)) refl (is_uncompressed s)

-- ---- what the fault is beside the usual answer

-- the longitude's minutes and the table byte are looked at once the longitude is read; so what is refused usually is refused strictly with
-- the same number, but with 8 for 9 where the latitude's minutes are 60 or more
module _ (s : List ℕ) where
  latitude_refused : (q : Option LatitudeRead) → read_latitude (take 8 s) ≡ q → ((with_latitude usually s q).refusal ≡ 0 → ⊥)
      → (latitude_fault s q ≡ 0) ⊎ (((with_latitude usually s q).refusal ≡ 9) × (latitude_fault s q ≡ 8))
  unfolding with_latitude latitude_fault latitude_number
  latitude_refused (Some north) e n =
      go (read_longitude (take 9 (drop 9 s)) north.blanks) (longitude_few (take 9 (drop 9 s)) north.blanks (read_latitude_found north (take 8 s) e).few) north.sixty n
    where
      go : (q : Result LongitudeRead LongitudeError) → (q ≡ Err OutOfRange → ⊥) → (b : Bool) → ((with_longitude usually s north q).refusal ≡ 0 → ⊥)
          → (cond b 8 (longitude_fault (get_or s 8 0) q) ≡ 0) ⊎ (((with_longitude usually s north q).refusal ≡ 9) × (cond b 8 (longitude_fault (get_or s 8 0) q) ≡ 8))
      go (Ok east) few b n = absurd (n (unfold with_longitude in refl))
      go (Err Malformed) few true n = inr (unfold with_longitude longitude_number in refl, refl)
      go (Err Malformed) few false n = inl (unfold longitude_fault in refl)
      go (Err OutOfRange) few b n = absurd (few refl)
  latitude_refused None e n = inl refl

  pub position_refused_too : ((read_position s).refusal ≡ 0 → ⊥) → (position_fault s ≡ 0) ⊎ (((read_position s).refusal ≡ 9) × (position_fault s ≡ 8))
  unfolding read_position_by position_fault
  position_refused_too = go (is_uncompressed s) (ltb (length s) fixed_bytes)
    where
      go : (u v : Bool) → ((cond u (cond v (refused_position 10) (with_latitude usually s (read_latitude (take 8 s)))) (refused_position 7)).refusal ≡ 0 → ⊥)
          → (cond u (cond v 0 (latitude_fault s (read_latitude (take 8 s)))) 0 ≡ 0)
          ⊎ (((cond u (cond v (refused_position 10) (with_latitude usually s (read_latitude (take 8 s)))) (refused_position 7)).refusal ≡ 9)
          × (cond u (cond v 0 (latitude_fault s (read_latitude (take 8 s)))) 0 ≡ 8))
      go true true n = inl refl
      go true false n = latitude_refused (read_latitude (take 8 s)) refl n
      go false v n = inl refl

-- ---- what is accepted strictly: minutes below 60, and a table byte of the class

-- of a position that was accepted
unfoldable pub is_sound : PositionRead → Bool
is_sound p = not p.latitude_sixty && (not p.longitude_sixty && is_table p.place.table)

-- a fault is none where its test fails
pub none_where : (over : Bool) (n : ℕ) (t : Bool) (m : ℕ) → eqb (suc n) 0 ≡ false → eqb m 0 ≡ t → eqb (cond over (suc n) m) 0 ≡ (not over && t)
none_where true n t m e f = e
none_where false n t m e f = f

pub table_none : (table : ℕ) → eqb (table_fault table) 0 ≡ is_table table
table_none table = go (is_table table)
  where
    go : (t : Bool) → eqb (cond t 0 table_number) 0 ≡ t
    go true = refl
    go false = refl

module _ (s : List ℕ) where
  longitude_sound : (north : LatitudeRead) (q : Result LongitudeRead LongitudeError) → (with_longitude usually s north q).refusal ≡ 0
      → eqb (cond north.sixty 8 (longitude_fault (get_or s 8 0) q)) 0 ≡ is_sound (with_longitude usually s north q)
  unfolding with_longitude longitude_fault longitude_number is_sound
  longitude_sound north (Ok east) z = none_where north.sixty 7 _ _ refl (none_where east.sixty 8 _ _ refl (table_none (get_or s 8 0)))
  longitude_sound north (Err Malformed) z = absurd (omega arith)
  longitude_sound north (Err OutOfRange) z = absurd (omega arith)

  latitude_sound : (q : Option LatitudeRead) → (with_latitude usually s q).refusal ≡ 0 → eqb (latitude_fault s q) 0 ≡ is_sound (with_latitude usually s q)
  unfolding with_latitude latitude_fault latitude_number
  latitude_sound (Some north) z = longitude_sound north (read_longitude (take 9 (drop 9 s)) north.blanks) z
  latitude_sound None z = absurd (omega arith)

  pub position_sound : (read_position s).refusal ≡ 0 → eqb (position_fault s) 0 ≡ is_sound (read_position s)
  unfolding read_position_by position_fault
  position_sound = go (is_uncompressed s) (ltb (length s) fixed_bytes)
    where
      go : (u v : Bool) → (cond u (cond v (refused_position 10) (with_latitude usually s (read_latitude (take 8 s)))) (refused_position 7)).refusal ≡ 0
          → eqb (cond u (cond v 0 (latitude_fault s (read_latitude (take 8 s)))) 0) 0
          ≡ is_sound (cond u (cond v (refused_position 10) (with_latitude usually s (read_latitude (take 8 s)))) (refused_position 7))
      go true true z = absurd (omega arith)
      go true false z = latitude_sound (read_latitude (take 8 s)) z
      go false v z = absurd (omega arith)
