-- `longitude_field`: three bytes, by the degrees and minutes as written. Assumes nothing.
use Rattle.std.proofs.Common.{◌+◌, ◌<◌, arith}
use Rattle.mic_e.specs.Longitude.{longitude_field}
use Rattle.mic_e.proofs.LongitudeFacts.{longitude_bytes}
use Rattle.mic_e.proofs.longitude_field.Goals as goal

pub overflow_add-result : goal.overflow_add-result
unfolding longitude_field
overflow_add-result c = let h : c.degrees_byte-degrees.result + 28 < 256 = rw c.degrees_byte-degrees.ensures (longitude_bytes c.args.size c.requires).first_byte in omega arith

pub overflow_cast-result : goal.overflow_cast-result
unfolding longitude_field
overflow_cast-result c = let h : c.degrees_byte-degrees.result + 28 < 256 = rw c.degrees_byte-degrees.ensures (longitude_bytes c.args.size c.requires).first_byte in omega arith

pub overflow_add-result-2 : goal.overflow_add-result-2
unfolding longitude_field
overflow_add-result-2 c = let h : c.minutes_byte-minutes.result + 28 < 256 = rw c.minutes_byte-minutes.ensures (longitude_bytes c.args.size c.requires).second_byte in omega arith

pub overflow_cast-result-2 : goal.overflow_cast-result-2
unfolding longitude_field
overflow_cast-result-2 c = let h : c.minutes_byte-minutes.result + 28 < 256 = rw c.minutes_byte-minutes.ensures (longitude_bytes c.args.size c.requires).second_byte in omega arith

pub returns : goal.returns
unfolding longitude_field
returns c = rw (c.degrees_byte-degrees.ensures, c.minutes_byte-minutes.ensures)
