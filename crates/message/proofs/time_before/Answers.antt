-- What the first seven bytes read as, or all there are. Assumes nothing.
use Rattle.std.proofs.Common.{refl}
use Rattle.message.proofs.Status.{before_refused, before_other, before_zulu}
use Rattle.message.proofs.time_before.Goals as goal
use Rattle.message.proofs.time_before.Goals.{in_default-via-in-Some+else-t-eq122, in_default-via-in_default}

pub returns-in-Some : goal.returns-in-Some
returns-in-Some c = before_zulu c.args.s.now c.min.result c.min.ensures _ c.in-Some.t c.in-Some.ensures c.if-t-eq122.true refl

pub returns-in_default : goal.returns-in_default
returns-in_default c =
    elim c.in_default.branch [
      | in_default-via-in-Some+else-t-eq122 w ↦ before_other c.args.s.now c.min.result c.min.ensures _ _ w.in-Some.ensures w.if-t-eq122.false c.blank.ensures
      | in_default-via-in_default w ↦ before_refused c.args.s.now c.min.result c.min.ensures _ w.in_default.ensures c.blank.ensures
    ]
