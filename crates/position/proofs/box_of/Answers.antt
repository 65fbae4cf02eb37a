-- `box_of`: the angle in range and on its side, and then twice the width away from 0. Assumes nothing.
use Rattle.std.proofs.Common.{ℤ, ℕ, ◌≤◌, nat_abs, arith, w32, SFits, to_z, of_z, rules}
use Rattle.lonlat.specs.Angle.{most_longitude}
use Rattle.numbers.proofs.Sign.{back}
use Rattle.position.proofs.Boxes.{reach_most, box_out, box_contradicted, box_below, box_above, width_near, wide_fits, wide_is, wide_small}
use Rattle.position.proofs.box_of.Goals as goal
use Rattle.position.proofs.box_of.Goals.{then-not-in_reach-via-then-not-in_reach, then-not-in_reach-via-else-not-in_reach+then-not-is_on}

near : (z : ℤ) (most : ℕ) → SFits w32 z → nat_abs z ≤ most → most ≤ most_longitude → nat_abs (to_z w32 (of_z w32 z)) ≤ most_longitude
near z most f h m = rw (back z f) (omega arith)

pub returns-then-not-in_reach : goal.returns-then-not-in_reach
returns-then-not-in_reach c = let b = back c.args.angle c.ranges.angle in
    elim c.then-not-in_reach.branch [
      | then-not-in_reach-via-then-not-in_reach w ↦ search (rules, box_out)
      | then-not-in_reach-via-else-not-in_reach+then-not-is_on w ↦ search (rules, box_contradicted)
    ]

pub overflow_mul-wide : goal.overflow_mul-wide
overflow_mul-wide c = search (rules, wide_fits)

pub around-requires : goal.around-requires
around-requires c = let s = c.args in
    let b = back s.angle c.ranges.angle in
    let h : nat_abs s.angle ≤ s.most = search (rules, reach_most) in
    let n = near s.angle s.most c.ranges.angle h c.requires in search (rules, width_near, wide_small)

pub returns-then-minus : goal.returns-then-minus
returns-then-minus c = let b = back c.args.angle c.ranges.angle in
    let w = wide_is _ _ c.width-wide.ensures in
    search (rules, box_below)

pub around-requires-else-minus : goal.around-requires-else-minus
around-requires-else-minus c = let s = c.args in
    let b = back s.angle c.ranges.angle in
    let h : nat_abs s.angle ≤ s.most = search (rules, reach_most) in
    let n = near s.angle s.most c.ranges.angle h c.requires in search (rules, width_near, wide_small)

pub returns-else-minus : goal.returns-else-minus
returns-else-minus c = let b = back c.args.angle c.ranges.angle in
    let w = wide_is _ _ c.width-wide.ensures in
    search (rules, box_above)
