-- `motion_field`: three bytes, by the tens of knots. Assumes nothing.
use Rattle.std.proofs.Common.{◌+◌, ◌<◌, arith}
use Rattle.mic_e.specs.Motion.{motion_field}
use Rattle.mic_e.proofs.MotionFacts.{motion_bytes}
use Rattle.mic_e.proofs.motion_field.Goals as goal

pub overflow_add-result : goal.overflow_add-result
unfolding motion_field
overflow_add-result c = let h : c.tens_of-tens.result + 28 < 256 = rw c.tens_of-tens.ensures (motion_bytes c.args.speed c.args.course c.requires.0 c.requires.1).first_byte in omega arith

pub overflow_cast-result : goal.overflow_cast-result
unfolding motion_field
overflow_cast-result c = let h : c.tens_of-tens.result + 28 < 256 = rw c.tens_of-tens.ensures (motion_bytes c.args.speed c.args.course c.requires.0 c.requires.1).first_byte in omega arith

pub returns : goal.returns
unfolding motion_field
returns c = rw c.tens_of-tens.ensures
