-- A header (source, destination and hops), and what a reader answers. Document 01: "an array of 8 hops"; "A refused decode
-- returns the blank record .. all lengths and numbers 0".
-- Assumes nothing.
use Rattle.std.specs.Prelude.{ℕ, false, cond, List, [], ◌∷◌, length, take, eqb, Result, Ok, Err}
use Rattle.laws.specs.Lists.{pad_to}
use Rattle.callsign.specs.declared.Callsign.{Callsign}
use Rattle.callsign.specs.Text.{blank_call}
use Rattle.header.specs.declared.Hop.{Hop}
use Rattle.header.specs.declared.Path.{Path}
use Rattle.header.specs.declared.Header.{Header}
use Rattle.header.specs.declared.HeaderRead.{HeaderRead}
use Rattle.header.specs.declared.Fault.{Fault}
use Rattle.header.specs.declared.Fault.TheVariants.{TooLong, Incomplete, Call, NinthHop, OddName}
use Rattle.header.specs.Hop.{call_hop}

-- "a line or frame is at most 512 bytes"
abbrev pub most_bytes : ℕ
most_bytes = 512

-- ---- the record

-- a blank callsign, not heard
unfoldable pub blank_hop : Hop
blank_hop = call_hop blank_call false

-- hops in the array of eight, the others blank
unfoldable pub path_of : List Hop → Path
path_of hops = record { hops = pad_to 8 blank_hop hops; count = length hops }

-- the hops that count
unfoldable pub hops_of : Path → List Hop
hops_of p = take p.count p.hops

-- source, destination and path
unfoldable pub header_of : Callsign → Callsign → Path → Header
header_of from to path = record { from = from; to = to; path = path }

-- blank callsigns and no hop
unfoldable pub blank_header : Header
blank_header = header_of blank_call blank_call (path_of [])

-- ---- what reading gives

-- a refusal: the blank header, no place, no stars
unfoldable pub header_refused : ℕ → HeaderRead
header_refused n = record { header = blank_header; body = 0; stars = 0; refusal = n }

-- a header that was read, where its body starts, and the stars as typed
unfoldable pub header_accepted : Callsign → Callsign → Path → ℕ → ℕ → HeaderRead
header_accepted from to path body stars = record { header = header_of from to path; body = body; stars = stars; refusal = 0 }

-- a part's refusal is the header's; without one, what follows
unfoldable pub unless_refused : ℕ → HeaderRead → HeaderRead
unless_refused n next = cond (eqb n 0) next (header_refused n)

-- ---- hops one after the other

-- "1", "2", "5", "6", or the number of a callsign's or an address's reader
abbrev pub number_of : Fault → ℕ
number_of TooLong = 1
number_of Incomplete = 2
number_of (Call n) = n
number_of NinthHop = 5
number_of OddName = 6

-- all hops, or the first fault
abbrev pub Hops : Type 0
Hops = Result (List Hop) Fault

-- a hop in front of others, unless they are refused
unfoldable pub before : Hop → Hops → Hops
before h (Err f) = Err f
before h (Ok l) = Ok (h ∷ l)

-- the hops' fault is the header's; without one, what is made of the hops
unfoldable pub with_hops : Hops → (List Hop → HeaderRead) → HeaderRead
with_hops (Err f) next = header_refused (number_of f)
with_hops (Ok l) next = next l
