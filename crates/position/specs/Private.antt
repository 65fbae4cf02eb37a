-- What only private functions promise: the box about an angle, with no range tested.
-- Assumes nothing.
use Rattle.std.specs.Prelude.{ℕ, ℤ, pos, ◌+ℤ◌, ◌-ℤ◌, ◌*ℤ◌}
use Rattle.position.specs.declared.PageBox.{PageBox}

-- twice the largest width
abbrev pub widest : ℕ
widest = 120000

-- from so many half hundredths below an angle to so many above it
unfoldable pub box_around : ℤ → ℤ → ℤ → PageBox
box_around angle below above = record { refusal = 0; from = pos 2 *ℤ angle -ℤ below; to = pos 2 *ℤ angle +ℤ above }
