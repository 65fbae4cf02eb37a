-- The box of a blanked angle for the page (document 02, R-1): "Blanked digits are cut off, not rounded, so the digits we print are
-- the inner edge. The page box is to run from 2T to 2(T + w) on the north or east side and from 2(T - w) to 2T on the other. At 0
-- the side is the letter read". T is the angle and w its width (document 01, module 3): "w, for 0 to 5 blanks, is 1, 10, 100, 1000,
-- 6000, 60000. Out of range, both give 15 and bounds 0, 0." Nothing is cut off at 90 or 180 degrees.
-- Assumes nothing.
use Rattle.std.specs.Prelude.{ℕ, Bool, cond, ◌&&◌, ℤ, pos, ◌+ℤ◌, ◌-ℤ◌, ◌*ℤ◌, int_le, int_lt, unsigned_abs}
use Rattle.numbers.specs.Sign.{is_on}
use Rattle.lonlat.specs.Angle.{width_of}
use Rattle.position.specs.declared.PageBox.{PageBox}
use Rattle.position.specs.Reach.{in_reach}

-- out of range
abbrev pub no_box : PageBox
no_box = record { refusal = 15; from = pos 0; to = pos 0 }

-- in half hundredths, so twice the angle: from the angle away from 0, which is south or west where minus
unfoldable pub outward : ℤ → ℤ → Bool → PageBox
outward angle width minus =
    cond minus
    (record { refusal = 0; from = pos 2 *ℤ (angle -ℤ width); to = pos 2 *ℤ angle })
    (record { refusal = 0; from = pos 2 *ℤ angle; to = pos 2 *ℤ (angle +ℤ width) })

-- "15 also for a record's letter that contradicts a nonzero angle"
unfoldable pub box_of : ℕ → ℤ → ℕ → Bool → PageBox
box_of most angle blanks minus = cond (in_reach most (unsigned_abs angle) blanks && is_on minus angle) (outward angle (pos (width_of blanks)) minus) no_box

-- an angle in a box that runs to that side, its far edge apart
unfoldable pub holds : Bool → PageBox → ℤ → Bool
holds minus page angle =
    cond minus
    (int_le (pos 2 *ℤ angle) page.to && int_lt page.from (pos 2 *ℤ angle))
    (int_le page.from (pos 2 *ℤ angle) && int_lt (pos 2 *ℤ angle) page.to)
