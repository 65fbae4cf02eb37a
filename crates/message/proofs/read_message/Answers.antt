-- Ten bytes, the colon, the text, and how many bytes stand behind it. Assumes nothing.
use Rattle.std.proofs.Common.{arith, rules}
use Rattle.laws.proofs.Places.{found_le, found_part}
use Rattle.message.proofs.Reading.{message_short, message_no_colon, message_no_text, message_alone, identifier_empty, identifier_long, message_whole}
use Rattle.message.proofs.read_message.Goals as goal
use Rattle.message.proofs.read_message.Goals.{then-s-lt10-via-then-s-lt10, then-s-lt10-via-else-s-lt10+then-s-ne58, in_default-via-then-this-lt2, in_default-via-else-this-lt2+else-this-lt7}

pub returns-then-s-lt10 : goal.returns-then-s-lt10
returns-then-s-lt10 c =
    elim c.then-s-lt10.branch [
      | then-s-lt10-via-then-s-lt10 w ↦ message_short c.args.s.now c.malformed.result w.if-s-lt10.true c.malformed.ensures
      | then-s-lt10-via-else-s-lt10+then-s-ne58 w ↦ message_no_colon c.args.s.now c.malformed.result w.if-s-lt10.false w.if-s-ne58.true c.malformed.ensures
    ]

pub slice_bounds-is_text-end : goal.slice_bounds-is_text-end
slice_bounds-is_text-end c = search (rules, found_part)

pub returns-then-not-is_text : goal.returns-then-not-is_text
returns-then-not-is_text c = search (rules, message_no_text)

pub overflow_sub-rest : goal.overflow_sub-rest
overflow_sub-rest c = search (rules, found_le)

pub returns-in-0 : goal.returns-in-0
returns-in-0 c = search (rules, message_alone)

pub returns-in-2-to-6 : goal.returns-in-2-to-6
returns-in-2-to-6 c =
    message_whole c.args.s.now c.message_in-in-2-to-6.result c.if-s-lt10.false c.if-s-ne58.false c.find-n.result c.find-n.ensures c.is_text.result c.is_text.ensures c.if-not-is_text.false
    (λ e. omega arith) (λ e. omega arith) (omega arith) c.message_in-in-2-to-6.ensures

pub returns-in_default : goal.returns-in_default
returns-in_default c =
    elim c.in_default.branch [
      | in_default-via-then-this-lt2 w ↦ identifier_empty c.args.s.now c.malformed-in_default.result c.if-s-lt10.false c.if-s-ne58.false c.find-n.result c.find-n.ensures c.is_text.result c.is_text.ensures c.if-not-is_text.false
          (λ e. omega arith) (omega arith) c.malformed-in_default.ensures
      | in_default-via-else-this-lt2+else-this-lt7 w ↦ identifier_long c.args.s.now c.malformed-in_default.result c.if-s-lt10.false c.if-s-ne58.false c.find-n.result c.find-n.ensures c.is_text.result c.is_text.ensures c.if-not-is_text.false
          (λ e. omega arith) (λ e. omega arith) (omega arith) c.malformed-in_default.ensures
    ]
