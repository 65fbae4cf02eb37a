-- At most six characters, and the four bits of SSID. Assumes nothing.
use Rattle.std.proofs.Common.{arith, length-take, rules}
use Rattle.callsign.proofs.Digits.{called, four_bits}
use borrow.Author.Rules.{length_unmapped}
use Rattle.callsign.proofs.address_call.Goals as goal

pub numbered-requires : goal.numbered-requires
numbered-requires c = (rw length-take (omega (arith, c.min.ensures)), search (rules, four_bits))

pub returns : goal.returns
returns c = search (rules, called, length_unmapped)
