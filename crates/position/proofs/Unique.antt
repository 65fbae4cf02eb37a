-- What each public function promises fixes its result: two results that meet one promise are equal.
-- Assumes nothing.
use Rattle.std.proofs.Common.{◌≡◌, ℕ, Bool, List, ℤ}
use Rattle.buffer.specs.declared.Answer.{Answer}
use Rattle.buffer.specs.Wrote.{ends, wrote}
use Rattle.laws.proofs.Unique.{one_value}
use Rattle.buffer.proofs.Wrote.{one_end}
use Rattle.lonlat.specs.Angle.{most_latitude, most_longitude}
use Rattle.position.specs.declared.Place.{Place}
use Rattle.position.specs.declared.PositionRead.{PositionRead}
use Rattle.position.specs.declared.BoundsAnswer.{BoundsAnswer}
use Rattle.position.specs.declared.PageBox.{PageBox}
use Rattle.position.specs.Position.{is_over, is_off_table, no_place, read_position_by, letters_agree, position_refusal, position_text}
use Rattle.position.specs.Bounds.{bounds_of}
use Rattle.position.specs.Page.{box_of}

pub unique_read_position : (strict : Bool) (s : List ℕ) (r r' : PositionRead) → r ≡ read_position_by strict s → r' ≡ read_position_by strict s → r ≡ r'
unique_read_position strict s r r' = one_value r r' (read_position_by strict s)

-- minutes and table bytes, by what was asked
module _ (strict : Bool) where
  pub unique_is_over : (sixty : Bool) (r r' : Bool) → r ≡ is_over strict sixty → r' ≡ is_over strict sixty → r ≡ r'
  unique_is_over sixty r r' = one_value r r' (is_over strict sixty)

  pub unique_is_off_table : (table : ℕ) (r r' : Bool) → r ≡ is_off_table strict table → r' ≡ is_off_table strict table → r ≡ r'
  unique_is_off_table table r r' = one_value r r' (is_off_table strict table)

pub unique_write_position : (p : Place) (r r' : Answer) (o o' out : List ℕ)
    → ends r o ≡ wrote (position_refusal p) (position_text p) out → ends r' o' ≡ wrote (position_refusal p) (position_text p) out → (r ≡ r') × (o ≡ o')
unique_write_position p r r' o o' out e e' = one_end r r' o o' (wrote (position_refusal p) (position_text p) out) e e'

pub unique_blank : (r r' : Place) → r ≡ no_place → r' ≡ no_place → r ≡ r'
unique_blank r r' = one_value r r' no_place

pub unique_letters_agree : (p : Place) (r r' : Bool) → r ≡ letters_agree p → r' ≡ letters_agree p → r ≡ r'
unique_letters_agree p r r' = one_value r r' (letters_agree p)

-- bounds and boxes, each at either limit
module _ (angle : ℤ) (blanks : ℕ) where
  pub unique_latitude_bounds : (r r' : BoundsAnswer) → r ≡ bounds_of most_latitude angle blanks → r' ≡ bounds_of most_latitude angle blanks → r ≡ r'
  unique_latitude_bounds r r' = one_value r r' (bounds_of most_latitude angle blanks)

  pub unique_longitude_bounds : (r r' : BoundsAnswer) → r ≡ bounds_of most_longitude angle blanks → r' ≡ bounds_of most_longitude angle blanks → r ≡ r'
  unique_longitude_bounds r r' = one_value r r' (bounds_of most_longitude angle blanks)

  module _ (minus : Bool) where
    pub unique_latitude_box : (r r' : PageBox) → r ≡ box_of most_latitude angle blanks minus → r' ≡ box_of most_latitude angle blanks minus → r ≡ r'
    unique_latitude_box r r' = one_value r r' (box_of most_latitude angle blanks minus)

    pub unique_longitude_box : (r r' : PageBox) → r ≡ box_of most_longitude angle blanks minus → r' ≡ box_of most_longitude angle blanks minus → r ≡ r'
    unique_longitude_box r r' = one_value r r' (box_of most_longitude angle blanks minus)
