-- The range, the SSID's number, and then the bytes. Assumes nothing.
use Rattle.std.proofs.Common.{rules}
use borrow.Author.Rules.{length_unmapped}
use Rattle.callsign.proofs.Ranges.{room_full}
use Rattle.callsign.proofs.Sends.{range_refuses, call_fits, bare_sent, none_sent, fit_small, fit_byte, fit_sent}
use Rattle.callsign.proofs.write_address.Goals as goal

pub returns-then-not-in_range : goal.returns-then-not-in_range
returns-then-not-in_range c = search (rules, range_refuses)

pub shared_ref_as_front-call : goal.shared_ref_as_front-call
shared_ref_as_front-call c = search (rules, call_fits)

pub returns-then-k-eq0 : goal.returns-then-k-eq0
returns-then-k-eq0 c = search (rules, bare_sent, length_unmapped)

pub slice_bounds-ssid_number-end : goal.slice_bounds-ssid_number-end
slice_bounds-ssid_number-end c = search (rules, room_full)

pub returns-in-Err : goal.returns-in-Err
returns-in-Err c = search (rules, none_sent, length_unmapped)

pub overflow_cast-ssid : goal.overflow_cast-ssid
overflow_cast-ssid c = search (rules, fit_byte, length_unmapped)

pub seventh-requires-in-Ok : goal.seventh-requires-in-Ok
seventh-requires-in-Ok c = search (rules, fit_small, length_unmapped)

pub returns-in-Ok : goal.returns-in-Ok
returns-in-Ok c = search (rules, fit_sent, length_unmapped)
