-- The packet reader calls the body reader, which calls the packet reader: there is a byte, and room for the places inside. Assumes nothing.
use Rattle.std.proofs.Common.{◌+◌, drop, length-drop, arith}
use Rattle.packet.proofs.Packets.{brace_within}
use Rattle.packet.proofs.Given.{inside_given}
use Rattle.packet.proofs.+body_from_packet_from.Goals as goal

pub packet_from-overflow_add-o : goal.packet_from-overflow_add-o
packet_from-overflow_add-o t c =
    let a = c.args in
    omega (arith, brace_within a.s.now a.o.at _ c.holds_packet.ensures c.if-holds_packet.true)

pub packet_from-body_from-requires : goal.packet_from-body_from-requires
packet_from-body_from-requires t c =
    let a = c.args in
    (omega arith, brace_within a.s.now a.o.at _ c.holds_packet.ensures c.if-holds_packet.true)

pub packet_from-packet_around-requires : goal.packet_from-packet_around-requires
packet_from-packet_around-requires t c =
    let a = c.args in
    let w = brace_within a.s.now a.o.at _ c.holds_packet.ensures c.if-holds_packet.true in
    let g = inside_given a.strict a.left (drop (a.o.at + 1) a.s.now) _ c.body_from.ensures in
    omega (arith, w, length-drop (a.o.at + 1) a.s.now, g.number, g.within, g.identifier_within)
