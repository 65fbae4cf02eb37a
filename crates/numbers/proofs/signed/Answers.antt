-- `signed`: on each side the size against the most, and then the number. Assumes nothing.
use Rattle.std.proofs.Common.{◌≡◌, Bool, true, false}
use Rattle.numbers.specs.Sign.{most_on}
use Rattle.numbers.proofs.Sign.{number_past, number_is, plus_whole, minus_wide, minus_narrow, minus_whole}
use Rattle.numbers.proofs.signed.Goals as goal

below : {minus : Bool} → minus ≡ true → 2147483648 ≡ most_on minus
unfolding most_on
below e = rw e

above : {minus : Bool} → minus ≡ false → 2147483647 ≡ most_on minus
unfolding most_on
above e = rw e

pub returns-then-size-gt2147483648 : goal.returns-then-size-gt2147483648
returns-then-size-gt2147483648 c = number_past _ _ 2147483648 (below c.if-minus.true) c.if-size-gt2147483648.true

pub overflow_sub-result : goal.overflow_sub-result
overflow_sub-result c = minus_wide c.args.size c.if-size-gt2147483648.false

pub overflow_cast-result-then-minus : goal.overflow_cast-result-then-minus
overflow_cast-result-then-minus c = minus_narrow c.args.size c.if-size-gt2147483648.false

pub returns-then-minus : goal.returns-then-minus
returns-then-minus c = number_is _ _ 2147483648 (below c.if-minus.true) c.if-size-gt2147483648.false _ (rw c.if-minus.true (minus_whole c.args.size c.if-size-gt2147483648.false))

pub returns-then-size-gt2147483647 : goal.returns-then-size-gt2147483647
returns-then-size-gt2147483647 c = number_past _ _ 2147483647 (above c.if-minus.false) c.if-size-gt2147483647.true

pub returns : goal.returns
returns c = number_is _ _ 2147483647 (above c.if-minus.false) c.if-size-gt2147483647.false _ (rw c.if-minus.false (plus_whole c.args.size c.if-size-gt2147483647.false))
