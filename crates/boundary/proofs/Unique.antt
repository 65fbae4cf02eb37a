-- What each public function promises fixes its result: two results that meet one promise are equal.
-- Assumes nothing.
use mathlib.Core.Path.{◌≡◌}
use mathlib.Core.Bool.{Bool}
use mathlib.Core.List.{List}
use Prim.Native.Nat.{ℕ}
use lib.IntN.{ℤ}
use Rattle.buffer.specs.declared.Answer.{Answer}
use Rattle.buffer.specs.Wrote.{ends, wrote}
use Rattle.laws.proofs.Unique.{one_value}
use Rattle.buffer.proofs.Wrote.{one_end}
use Rattle.lonlat.specs.Angle.{most_latitude, most_longitude}
use Rattle.lonlat.specs.Longitude.{longitude_refusal}
use Rattle.position.specs.declared.BoundsAnswer.{BoundsAnswer}
use Rattle.position.specs.declared.PageBox.{PageBox}
use Rattle.position.specs.Bounds.{bounds_of}
use Rattle.position.specs.Page.{box_of}
use Rattle.fields.specs.Lists.{listed, motion_refusal, motion_fields, longitude_fields}
use Rattle.packet.specs.Packet.{read_text, read_frame, strict_text, strict_frame}
use Rattle.packet.specs.Written.{text_bytes, frame_bytes}
use Rattle.boundary.specs.declared.CRecord.{CRecord}
use Rattle.boundary.specs.declared.CRead.{CRead}
use Rattle.boundary.specs.Record.{read_in_c, record_meant, text_refusal_in_c, frame_refusal_in_c}

module _ (s : List ℕ) (r r' : CRead) where
  pub unique_tusselgro_read_text : r ≡ read_in_c (read_text s) → r' ≡ read_in_c (read_text s) → r ≡ r'
  unique_tusselgro_read_text = one_value r r' (read_in_c (read_text s))

  pub unique_tusselgro_read_frame : r ≡ read_in_c (read_frame s) → r' ≡ read_in_c (read_frame s) → r ≡ r'
  unique_tusselgro_read_frame = one_value r r' (read_in_c (read_frame s))

  pub unique_tusselgro_read_text_strictly : r ≡ read_in_c (strict_text s) → r' ≡ read_in_c (strict_text s) → r ≡ r'
  unique_tusselgro_read_text_strictly = one_value r r' (read_in_c (strict_text s))

  pub unique_tusselgro_read_frame_strictly : r ≡ read_in_c (strict_frame s) → r' ≡ read_in_c (strict_frame s) → r ≡ r'
  unique_tusselgro_read_frame_strictly = one_value r r' (read_in_c (strict_frame s))

module _ (out : List ℕ) (a a' : Answer) (o o' : List ℕ) where
  module _ (r : CRecord) (comment identifier : List ℕ) where
    pub unique_tusselgro_write_text : ends a o ≡ wrote (text_refusal_in_c r comment identifier) (text_bytes (record_meant r) comment identifier) out
        → ends a' o' ≡ wrote (text_refusal_in_c r comment identifier) (text_bytes (record_meant r) comment identifier) out
        → (a ≡ a') × (o ≡ o')
    unique_tusselgro_write_text = one_end a a' o o' (wrote (text_refusal_in_c r comment identifier) (text_bytes (record_meant r) comment identifier) out)

    pub unique_tusselgro_write_frame : ends a o ≡ wrote (frame_refusal_in_c r comment identifier) (frame_bytes (record_meant r) comment identifier) out
        → ends a' o' ≡ wrote (frame_refusal_in_c r comment identifier) (frame_bytes (record_meant r) comment identifier) out
        → (a ≡ a') × (o ≡ o')
    unique_tusselgro_write_frame = one_end a a' o o' (wrote (frame_refusal_in_c r comment identifier) (frame_bytes (record_meant r) comment identifier) out)

  pub unique_tusselgro_list_motion : (speed course : ℕ) → ends a o ≡ listed (motion_refusal speed course) (motion_fields speed course) out
      → ends a' o' ≡ listed (motion_refusal speed course) (motion_fields speed course) out
      → (a ≡ a') × (o ≡ o')
  unique_tusselgro_list_motion speed course = one_end a a' o o' (listed (motion_refusal speed course) (motion_fields speed course) out)

  pub unique_tusselgro_list_longitude : (longitude : ℤ) (hundred west : Bool) → ends a o ≡ listed (longitude_refusal longitude) (longitude_fields hundred west longitude) out
      → ends a' o' ≡ listed (longitude_refusal longitude) (longitude_fields hundred west longitude) out
      → (a ≡ a') × (o ≡ o')
  unique_tusselgro_list_longitude longitude hundred west = one_end a a' o o' (listed (longitude_refusal longitude) (longitude_fields hundred west longitude) out)

-- ---- bounds and boxes

module _ (angle : ℤ) (blanks : ℕ) where
  pub unique_tusselgro_latitude_bounds : (r r' : BoundsAnswer) → r ≡ bounds_of most_latitude angle blanks → r' ≡ bounds_of most_latitude angle blanks → r ≡ r'
  unique_tusselgro_latitude_bounds r r' = one_value r r' (bounds_of most_latitude angle blanks)

  pub unique_tusselgro_longitude_bounds : (r r' : BoundsAnswer) → r ≡ bounds_of most_longitude angle blanks → r' ≡ bounds_of most_longitude angle blanks → r ≡ r'
  unique_tusselgro_longitude_bounds r r' = one_value r r' (bounds_of most_longitude angle blanks)

  -- on the side that is told
  module _ (minus : Bool) (r r' : PageBox) where
    pub unique_tusselgro_latitude_box : r ≡ box_of most_latitude angle blanks minus → r' ≡ box_of most_latitude angle blanks minus → r ≡ r'
    unique_tusselgro_latitude_box = one_value r r' (box_of most_latitude angle blanks minus)

    pub unique_tusselgro_longitude_box : r ≡ box_of most_longitude angle blanks minus → r' ≡ box_of most_longitude angle blanks minus → r ≡ r'
    unique_tusselgro_longitude_box = one_value r r' (box_of most_longitude angle blanks minus)
