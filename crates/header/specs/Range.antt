-- Which headers are in range. Document 01: "15 is given for: .. more than 8 hops; callsign text over 16 bytes, not UTF-8, or SSID
-- `0`; spare bytes, hops or parts its kind lacks not zero". Writing: "15, .. 13 (AX.25 only; destination, source, hops in order)".
-- Document 02, R-7: a Q element "never has a star" and is one of ten names, which have no SSID; what else stands in a record is 15.
-- Assumes nothing.
use Rattle.std.specs.Prelude.{ℕ, Bool, cond, ◌&&◌, drop, eqb, leb}
use Rattle.laws.specs.Lists.{every}
use Rattle.callsign.specs.Range.{in_range, is_blank_call, text_of}
use Rattle.header.specs.declared.Hop.{Hop}
use Rattle.header.specs.declared.Path.{Path}
use Rattle.header.specs.declared.Header.{Header}
use Rattle.header.specs.Hop.{is_q_name, not_heard, was_heard, is_q_element}
use Rattle.header.specs.Header.{hops_of}
use Rattle.header.specs.Frame.{first_refusal, addresses}

-- a callsign that was heard or not, or a Q element, whose text is a name: so it has no SSID
unfoldable pub is_some_hop : Hop → Bool
is_some_hop h = cond (is_q_element h) (is_q_name (text_of h.call)) (leb h.kind was_heard)

-- a hop, and its callsign
unfoldable pub hop_in_range : Hop → Bool
hop_in_range h = is_some_hop h && in_range h.call

-- a hop with nothing in it, and not heard
unfoldable pub is_blank : Hop → Bool
is_blank h = eqb h.kind not_heard && is_blank_call h.call

-- "more than 8 hops", each hop, and spare hops
unfoldable pub path_in_range : Path → Bool
path_in_range p = leb p.count 8 && (every hop_in_range (hops_of p) && every is_blank (drop p.count p.hops))

-- source, destination and path
unfoldable pub header_in_range : Header → Bool
header_in_range h = in_range h.from && (in_range h.to && path_in_range h.path)

-- neither source nor destination, and eight blank hops of which none counts
unfoldable pub is_blank_header : Header → Bool
is_blank_header h = is_blank_call h.from && (is_blank_call h.to && (eqb h.path.count 0 && every is_blank h.path.hops))

-- ---- the refusals of the writers, but for 16

-- of a line: 15
unfoldable pub text_refusal : Header → ℕ
text_refusal h = cond (header_in_range h) 0 15

-- of a frame: 15, then 13 for the first address that cannot be written
unfoldable pub frame_refusal : Header → ℕ
frame_refusal h = cond (header_in_range h) (first_refusal (addresses h)) 15
