-- `information_bytes`: what is in range meets what the two fields require, and they make the bytes. Assumes nothing.
use Rattle.std.proofs.Common.{◌≡◌, ℕ, ◌<◌, false, nat_abs, rules}
use Rattle.lonlat.specs.Angle.{most_longitude}
use Rattle.mic_e.specs.Information.{information_out, information_bytes}
use Rattle.mic_e.specs.declared.Information.{Information}
use Rattle.mic_e.proofs.Range.{in_longitude, in_speed, in_course}
use Rattle.mic_e.proofs.information_bytes.Goals as goal

short : (i : Information) (n : ℕ) → n ≡ nat_abs i.longitude.0 → information_out i ≡ false → n < most_longitude
short i n e h = rw e (in_longitude i h)

pub longitude_field-requires : goal.longitude_field-requires
longitude_field-requires c = search (rules, short)

pub motion_field-requires : goal.motion_field-requires
motion_field-requires c = (search (rules, in_speed), search (rules, in_course))

pub returns : goal.returns
unfolding information_bytes
returns c = rw (c.longitude_field.ensures, c.motion_field.ensures, c.size_of.ensures)
