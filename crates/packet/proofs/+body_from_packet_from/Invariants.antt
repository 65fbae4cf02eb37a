-- The packet reader calls the body reader, which calls the packet reader: the levels that are left fall. Assumes nothing.
use Rattle.std.proofs.Common.{◌+◌}
use Rattle.packet.proofs.+body_from_packet_from.Given as goal

abbrev pub decreases-body_from : goal.decreases-body_from
decreases-body_from l = l.left + l.left

abbrev pub decreases-packet_from : goal.decreases-packet_from
decreases-packet_from l = l.left + l.left + 1
