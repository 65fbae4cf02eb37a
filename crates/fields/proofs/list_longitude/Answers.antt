-- `list_longitude`: 15 for a target out of range; on its own side the list of its size, on the other none.
-- Assumes nothing.
use Rattle.std.proofs.Common.{◌≡◌, ℕ, ◌<◌, ◌≤◌, Bool, true, false, ℤ, SFits, to_z, of_z, w32, nat_abs, sym, ap, ◌∙◌, arith, le-ltb, lt-ltb, rules}
use Rattle.lonlat.specs.Angle.{most_longitude}
use Rattle.lonlat.specs.Longitude.{longitude_refusal}
use Rattle.numbers.specs.Sign.{is_on}
use Rattle.numbers.proofs.Sign.{back}
use Rattle.fields.proofs.Answers.{out_of_range, empty_list}
use Rattle.fields.proofs.LongitudeMost.{longitude_fewest}
use Rattle.fields.proofs.Sides.{on_side_lem, off_side}
use Rattle.fields.proofs.list_longitude.Goals as goal

-- the size is the target's
told : (z : ℤ) (n : ℕ) → SFits w32 z → n ≡ nat_abs (to_z w32 (of_z w32 z)) → n ≡ nat_abs z
told z n f e = e ∙ ap nat_abs (back z f)

module _ (z : ℤ) (n : ℕ) (e : n ≡ nat_abs z) where
  over : most_longitude < n → longitude_refusal z ≡ 15
  unfolding longitude_refusal
  over h = rw (lt-ltb most_longitude (nat_abs z) (rw e at h))

  inside : n ≤ most_longitude → longitude_refusal z ≡ 0
  unfolding longitude_refusal
  inside h = rw (le-ltb most_longitude (nat_abs z) (rw e at h))

-- the test of the side is the target's
side : (z : ℤ) (west r t : Bool) → SFits w32 z → r ≡ is_on west (to_z w32 (of_z w32 z)) → r ≡ t → is_on west z ≡ t
side z west r t f e q = ap (is_on west) (sym (back z f)) ∙ sym e ∙ q

pub returns-then-size-gt1080000 : goal.returns-then-size-gt1080000
returns-then-size-gt1080000 c =
    let q = told c.args.target.0 _ (record { sfits = search rules }) c.unsigned_abs-size.ensures.value in
    out_of_range _ _ _ _ (over _ _ q c.if-size-gt1080000.true) c.refused.ensures

pub list-requires : goal.list-requires
list-requires c = omega (arith, longitude_fewest c.unsigned_abs-size.result c.args.hundred)

pub returns-then-is_on : goal.returns-then-is_on
returns-then-is_on c =
    let z = c.args.target.0 in
    let q = told z _ (record { sfits = search rules }) c.unsigned_abs-size.ensures.value in
    let e = side z _ _ true (record { sfits = search rules }) c.is_on.ensures c.if-is_on.true in
    rw (inside z _ q c.if-size-gt1080000.false, on_side_lem c.args.hundred c.args.west z e, ← q) c.list.ensures

pub returns-else-is_on : goal.returns-else-is_on
returns-else-is_on c =
    let z = c.args.target.0 in
    let q = told z _ (record { sfits = search rules }) c.unsigned_abs-size.ensures.value in
    let e = side z _ _ false (record { sfits = search rules }) c.is_on.ensures c.if-is_on.false in
    empty_list _ _ _ _ (inside z _ q c.if-size-gt1080000.false) (off_side c.args.hundred c.args.west z e) c.done.ensures
