-- What the two lists are: every field that reads as the target, in strictly ascending order, each once, the writer's among
-- them; and the lists that document 01 gives.
-- Assumes nothing.
use Rattle.std.proofs.Common.{◌≡◌, ℕ, Some, ◌<◌, ◌≤◌, Bool, true, false, List, length, ℤ, pos, nat_abs, sym, refl, ◌∙◌, ⊎_elim, arith, le-ltb}
use mathlib.Core.List.{Memᴰ}
use Rattle.buffer.specs.Wrote.{ends, done_by}
use Rattle.lonlat.specs.Longitude.{longitude_refusal}
use Rattle.laws.proofs.Tests.{bool_cases}
use Rattle.lonlat.specs.Angle.{most_longitude}
use Rattle.numbers.specs.Sign.{is_minus, is_on}
use Rattle.mic_e.specs.Motion.{most_speed, most_course, read_motion, motion_field}
use Rattle.mic_e.specs.Longitude.{read_longitude, hundred_of, longitude_field}
use Rattle.mic_e.proofs.MotionFacts.{motion, Bytes, motion_bytes}
use Rattle.mic_e.proofs.LongitudeFacts.{longitude_bytes}
use Rattle.mic_e.proofs.Theorems.{motion_reads_back, longitude_reads_back}
use Rattle.fields.specs.Each.{Field, field_at, bytes_of}
use Rattle.fields.specs.Lists.{listed, is_motion, is_longitude, motion_fields, longitude_fields}
use Rattle.fields.specs.Search.{motion_hits}
use Rattle.fields.proofs.MotionMost.{motion_few}
use Rattle.fields.proofs.LongitudeMost.{longitude_fewest}
use Rattle.fields.proofs.Answers.{empty_list}
use Rattle.fields.proofs.Sides.{on_side_lem, off_side}
use Rattle.fields.proofs.Hits.{motion_reads, reads_motion, is_longitude_lem, longitude_is}
use Rattle.fields.proofs.Order.{keep, every_field, kept, member_passes, passes_member, Within, fields_ascend}

-- ---- of all fields in ascending order, those that read so

pub motion_kept : (s t : ℕ) → motion_fields s t ≡ keep (λ f. is_motion s t (read_motion f.first f.second f.third)) every_field
unfolding motion_fields
motion_kept s t = kept _

pub longitude_kept : (hundred west : Bool) (z : ℤ)
    → longitude_fields hundred west z ≡ keep (λ f. is_longitude z (read_longitude hundred west f.first f.second f.third)) every_field
unfolding longitude_fields
longitude_kept hundred west z = kept _

-- ---- a field of bytes is listed exactly when it reads so

pub motion_listed_reads : (s t : ℕ) (f : Field) → Memᴰ f (motion_fields s t)
    → Bytes (bytes_of f) × (read_motion f.first f.second f.third ≡ Some (motion s t))
unfolding motion_fields motion_hits
motion_listed_reads s t f m =
    let h = member_passes (motion_hits s t) f m in
    (record { first_byte = h.first_byte; second_byte = h.second_byte; third_byte = h.third_byte }, motion_reads s t _ _ _ h.passes)

pub motion_reads_listed : (s t : ℕ) (f : Field) → Bytes (bytes_of f) → read_motion f.first f.second f.third ≡ Some (motion s t)
    → Memᴰ f (motion_fields s t)
unfolding motion_fields motion_hits
motion_reads_listed s t f b e =
    passes_member (motion_hits s t) f (record { first_byte = b.first_byte; second_byte = b.second_byte; third_byte = b.third_byte; passes = reads_motion s t _ _ _ e })

module _ (hundred west : Bool) (z : ℤ) (f : Field) where
  pub longitude_listed_reads : Memᴰ f (longitude_fields hundred west z)
      → Bytes (bytes_of f) × (read_longitude hundred west f.first f.second f.third ≡ Some (record { 0 = z }))
  unfolding longitude_fields
  longitude_listed_reads m =
      let h = member_passes (λ a b c. is_longitude z (read_longitude hundred west a b c)) f m in
      (record { first_byte = h.first_byte; second_byte = h.second_byte; third_byte = h.third_byte }, is_longitude_lem z _ h.passes)

  pub longitude_reads_listed : Bytes (bytes_of f) → read_longitude hundred west f.first f.second f.third ≡ Some (record { 0 = z })
      → Memᴰ f (longitude_fields hundred west z)
  unfolding longitude_fields
  longitude_reads_listed b e =
      passes_member (λ x y u. is_longitude z (read_longitude hundred west x y u)) f
      (record { first_byte = b.first_byte; second_byte = b.second_byte; third_byte = b.third_byte; passes = longitude_is z _ e })

-- ---- strictly ascending; with `one_list`, members and order determine a list

pub motion_ascends : (s t : ℕ) → Within 0 16777216 (motion_fields s t)
unfolding motion_fields
motion_ascends s t = fields_ascend _

pub longitude_ascends : (hundred west : Bool) (z : ℤ) → Within 0 16777216 (longitude_fields hundred west z)
unfolding longitude_fields
longitude_ascends hundred west z = fields_ascend _

-- ---- the writer's field is on the list

as_bytes : {l : List ℕ} → Bytes l → Bytes (bytes_of (field_at l))
as_bytes b = record { first_byte = b.first_byte; second_byte = b.second_byte; third_byte = b.third_byte }

pub motion_written_listed : (s t : ℕ) → s ≤ most_speed → t ≤ most_course → Memᴰ (field_at (motion_field s t)) (motion_fields s t)
motion_written_listed s t h k = motion_reads_listed s t (field_at (motion_field s t)) (as_bytes (motion_bytes s t h k)) (motion_reads_back s t h k)

pub longitude_written_listed : (z : ℤ) → nat_abs z < most_longitude → Memᴰ (field_at (longitude_field (nat_abs z))) (longitude_fields (hundred_of z) (is_minus z) z)
longitude_written_listed z h =
    longitude_reads_listed (hundred_of z) (is_minus z) z (field_at (longitude_field (nat_abs z))) (as_bytes (longitude_bytes (nat_abs z) h)) (longitude_reads_back z h)

-- ---- the other side

module _ (hundred west : Bool) (z : ℤ) (near : nat_abs z ≤ most_longitude) (other : is_on west z ≡ false) where
  -- document 02, R-1: "a list target on the other side than its given direction is in range, and its list is empty, count 0": it fits
  -- every buffer, one without a byte too, and changes none
  pub other_side_is_empty : (out : List ℕ) → listed (longitude_refusal z) (longitude_fields hundred west z) out ≡ ends (done_by 0) out
  unfolding longitude_refusal
  other_side_is_empty out = sym (empty_list (longitude_refusal z) (longitude_fields hundred west z) out (done_by 0) (rw (le-ltb most_longitude (nat_abs z) near)) (off_side hundred west z other) refl)

-- 0 is on both sides, and lists the same fields for both
pub zero_either_side : (hundred : Bool) → longitude_fields hundred true (pos 0) ≡ longitude_fields hundred false (pos 0)
unfolding is_on
zero_either_side hundred = on_side_lem hundred true (pos 0) refl ∙ sym (on_side_lem hundred false (pos 0) refl)

-- ---- no list of motions holds more than 36 fields, and none of longitudes more than 24

pub motion_at_most : (s t : ℕ) → length (motion_fields s t) ≤ 36
unfolding motion_fields motion_hits
motion_at_most s t = motion_few s t

pub longitude_at_most : (hundred west : Bool) (z : ℤ) → length (longitude_fields hundred west z) ≤ 24
longitude_at_most hundred west z =
    ⊎_elim
    (λ e. rw (on_side_lem hundred west z e) (longitude_fewest (nat_abs z) hundred))
    (λ e. rw (off_side hundred west z e) (omega arith))
    (bool_cases (is_on west z))
