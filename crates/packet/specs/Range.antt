-- Which records are in range. Document 01: "15 is given for: an angle, speed or course out of range; precision outside
-- 0 to 5; more than 8 hops; callsign text over 16 bytes, not UTF-8, or SSID `0`; spare bytes, hops or parts its kind
-- lacks not zero; a Mic-E angle of 180 degrees ..; a position symbol byte of 128 or more".
-- Assumes nothing.
use Rattle.std.specs.Prelude.{ℕ, Bool, cond, ◌&&◌, eqb, leb}
use Rattle.header.specs.Range.{header_in_range, is_blank_header}
use Rattle.body.specs.Range.{body_in_range}
use Rattle.packet.specs.declared.Record.{Record}
use Rattle.packet.specs.Packet.{most_inner, innermost_of}

-- document 02, R-6: at most four packets inside, and the header of the innermost; "an inner header that is not blank at number 0" is 15
unfoldable pub inner_in_range : Record → Bool
inner_in_range r = cond (eqb r.inner 0) (is_blank_header r.innermost) (leb r.inner most_inner && header_in_range r.innermost)

-- the callsigns and hops of both headers; the body's parts, and whether its kind has a destination, which is the innermost header's
unfoldable pub record_in_range : Record → Bool
record_in_range r = header_in_range r.header && (inner_in_range r && body_in_range r.body (innermost_of r).to)

-- 15 for a record out of range
unfoldable pub range_refusal : Record → ℕ
range_refusal r = cond (record_in_range r) 0 15
