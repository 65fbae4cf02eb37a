-- The header of an AX.25 frame. Document 01, order: "1; destination's 7 bytes present (2), readable (3), not last (2); source
-- the same without the last test; each hop 5, 2, 3; control pair; body." Modules, 5: "the walk ends at the first address
-- whose low bit is set; then exactly the two bytes 03 f0 must follow." Document 02, R-7, of a Q element: "in a frame it is left out".
-- Assumes nothing.
use Rattle.std.specs.Prelude.{ℕ, zero, suc, ◌+◌, ◌*◌, Bool, true, false, cond, ◌&&◌, List, [], ◌∷◌, ◌++◌, length, take, drop, eqb, ltb, Ok, Err}
use Rattle.callsign.specs.declared.Callsign.{Callsign}
use Rattle.callsign.specs.declared.AddressRead.{AddressRead}
use Rattle.callsign.specs.declared.AddressWritten.{AddressWritten}
use Rattle.callsign.specs.declared.Field.TheVariants.{Destination, Source, Hop as HopField}
use Rattle.callsign.specs.Address.{read_address}
use Rattle.callsign.specs.Packed.{write_address}
use Rattle.header.specs.declared.Hop.{Hop}
use Rattle.header.specs.declared.Header.{Header}
use Rattle.header.specs.declared.Path.{Path}
use Rattle.header.specs.declared.HeaderRead.{HeaderRead}
use Rattle.header.specs.declared.Fault.TheVariants.{Incomplete, Call, NinthHop}
use Rattle.header.specs.Hop.{call_hop, is_heard, calls_of}
use Rattle.header.specs.Header.{most_bytes, Hops, before, path_of, hops_of, header_refused, header_accepted, unless_refused, with_hops}

-- ---- the control and protocol bytes

-- unnumbered information
abbrev pub control : ℕ
control = 0x03

-- no layer 3
abbrev pub protocol : ℕ
protocol = 0xf0

-- "exactly the two bytes 03 f0"
abbrev pub pair : List ℕ
pair = control ∷ protocol ∷ []

-- that pair in front
unfoldable pub starts_with_pair : List ℕ → Bool
starts_with_pair [] = false
starts_with_pair (a ∷ []) = false
starts_with_pair (a ∷ b ∷ l) = eqb a control && eqb b protocol

-- ---- the hops

-- "Frames keep each heard bit as it is."
unfoldable pub address_hop : AddressRead → Hop
address_hop a = call_hop a.call a.heard

-- "ends at the first address whose low bit is set"
unfoldable pub address_then : AddressRead → Hops → Hops
address_then a later =
    cond (eqb a.refusal 0)
    (before (address_hop a) (cond a.last (Ok []) later))
    (Err (Call a.refusal))

-- the addresses at the front of s, of which so many more may come: 5, 2, 3
unfoldable pub frame_hops : ℕ → List ℕ → Hops
frame_hops zero s = Err NinthHop
frame_hops (suc k) s =
    cond (ltb (length s) 7) (Err Incomplete)
    (address_then (read_address (take 7 s)) (frame_hops k (drop 7 s)))

-- ---- the header read

-- the addresses, seven bytes each, and behind them the pair; a frame has no stars
unfoldable pub with_pair : Callsign → Callsign → Path → List ℕ → HeaderRead
with_pair from to path s =
    let at = 14 + 7 * path.count in
    cond (starts_with_pair (drop at s)) (header_accepted from to path (at + 2) 0) (header_refused 2)

-- source and hops of the frame s, after its destination
unfoldable pub read_source : Callsign → List ℕ → HeaderRead
read_source to s =
    let from = read_address (take 7 (drop 7 s)) in
    cond (ltb (length s) 14) (header_refused 2)
    (unless_refused from.refusal
    (with_hops (cond from.last (Ok []) (frame_hops 8 (drop 14 s))) (λ l. with_pair from.call to (path_of l) s)))

-- 1, and then the destination: present (2), readable (3), not last (2)
unfoldable pub read_frame_header : List ℕ → HeaderRead
read_frame_header s =
    let to = read_address (take 7 s) in
    cond (ltb most_bytes (length s)) (header_refused 1)
    (cond (ltb (length s) 7) (header_refused 2)
    (unless_refused to.refusal
    (cond to.last (header_refused 2)
    (read_source to.call s))))

-- ---- the header written

-- no hop follows
unfoldable pub is_none : List Hop → Bool
is_none [] = true
is_none (h ∷ l) = false

-- the low bit of the last one is set
unfoldable pub hop_addresses : List Hop → List AddressWritten
hop_addresses [] = []
hop_addresses (h ∷ l) = write_address h.call (HopField (is_heard h)) (is_none l) ∷ hop_addresses l

-- "destination, source, hops in order", of which Q elements are left out; without hops the source is the last
unfoldable pub addresses : Header → List AddressWritten
addresses h =
    let calls = calls_of (hops_of h.path) in
    write_address h.to Destination false
    ∷ write_address h.from Source (is_none calls)
    ∷ hop_addresses calls

-- the refusal of the first address that is not written, or 0
unfoldable pub first_refusal : List AddressWritten → ℕ
first_refusal [] = 0
first_refusal (a ∷ l) = cond (eqb a.refusal 0) (first_refusal l) a.refusal

-- the bytes of each address in turn
unfoldable pub address_bytes : List AddressWritten → List ℕ
address_bytes [] = []
address_bytes (a ∷ l) = a.bytes ++ address_bytes l

-- the addresses, and the pair behind them
unfoldable pub header_frame : Header → List ℕ
header_frame h = address_bytes (addresses h) ++ pair
