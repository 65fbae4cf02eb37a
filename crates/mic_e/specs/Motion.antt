-- Speed and course of a Mic-E report (document 01, module 4): three bytes, the fourth to the sixth of its information.
-- Assumes nothing.
use Rattle.std.specs.Prelude.{ℕ, ◌+◌, ◌-◌, ◌*◌, ◌/◌, ◌%◌, Bool, cond, ◌||◌, List, [], ◌∷◌, nat_lt, Option, Some, None}
use Rattle.mic_e.specs.Turn.{less_if}
use Rattle.mic_e.specs.declared.Motion.{Motion}

-- "at most 799"
abbrev pub most_speed : ℕ
most_speed = 799

-- "at most 360"
abbrev pub most_course : ℕ
most_course = 360

-- ---- read

-- "Speed is 10 times the fourth plus a tenth of the fifth, 800 off if 800 or more"
unfoldable pub knots : ℕ → ℕ → ℕ
knots a b = less_if 800 (10 * (a - 28) + (b - 28) / 10)

-- "Course is 100 times the fifth's remainder by ten plus the sixth, 400 off if 400 or more"
unfoldable pub degrees : ℕ → ℕ → ℕ
degrees b c = less_if 400 (100 * ((b - 28) % 10) + (c - 28))

-- "Subtract 28 from each ..; below 28 is 12"; then the speed's limit and the course's
unfoldable pub read_motion : ℕ → ℕ → ℕ → Option Motion
read_motion a b c =
    cond (nat_lt a 28) None
    (cond (nat_lt b 28) None
    (cond (nat_lt c 28) None
    (cond (nat_lt most_speed (knots a b)) None
    (cond (nat_lt most_course (degrees b c)) None
    (Some (record { speed = record { 0 = knots a b }; course = record { 0 = degrees b c } }))))))

-- document 01's number
unfoldable pub motion_number : Option Motion → ℕ
motion_number (Some motion) = 0
motion_number None = 12

-- ---- written

-- "15 is given for: .. speed or course out of range"
unfoldable pub motion_out : ℕ → ℕ → Bool
motion_out speed course = nat_lt most_speed speed || nat_lt most_course course

-- "tens of knots 0..19 add 80"
unfoldable pub tens_of : ℕ → ℕ
tens_of speed = cond (nat_lt (speed / 10) 20) (speed / 10 + 80) (speed / 10)

-- "fifth is 10 times units plus hundreds plus 4; add 28 to each"
unfoldable pub motion_field : ℕ → ℕ → List ℕ
motion_field speed course =
    (tens_of speed + 28) ∷ (10 * (speed % 10) + course / 100 + 4 + 28) ∷ (course % 100 + 28) ∷ []
