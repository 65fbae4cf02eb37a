-- What only private functions promise: the pieces of a header, each with its writer's refusal, put one behind the other into a scratch array.
-- Assumes nothing.
use Rattle.std.specs.Prelude.{ℕ, ◌+◌, max, Bool, false, not, cond, ◌&&◌, List, [], ◌∷◌, ◌++◌, length, eqb, leb}
use Rattle.laws.specs.Bytes.{comma, colon, greater}
use Rattle.buffer.specs.Filled.{Filled, filled, added}
use Rattle.callsign.specs.declared.Callsign.{Callsign}
use Rattle.callsign.specs.declared.AddressWritten.{AddressWritten}
use Rattle.callsign.specs.declared.Field.TheVariants.{Destination, Source, Hop as HopField}
use Rattle.callsign.specs.Packed.{write_address}
use Rattle.callsign.specs.Range.{range_refusal, text_of, with_star}
use Rattle.header.specs.declared.Hop.{Hop}
use Rattle.header.specs.declared.Header.{Header}
use Rattle.header.specs.Hop.{is_heard, is_q_element, calls_of, any_heard}
use Rattle.header.specs.Header.{hops_of}
use Rattle.header.specs.Frame.{pair, is_none}
use Rattle.header.specs.Range.{hop_in_range}
use Rattle.header.specs.Private.{is_tidy_hop}

-- ---- pieces in an array

-- what a writer makes of one part: its refusal or 0, and its bytes
pub record Piece : Type 0 where
  pub refusal : ℕ
  pub bytes : List ℕ

-- an array with pieces in it, and the greatest refusal of their writers
pub record Building : Type 0 where
  pub refusal : ℕ
  pub array : Filled

-- a refusal, and an array of which so many bytes are in use
abbrev pub building : ℕ → List ℕ → ℕ → Building
building refusal bytes len = record { refusal = refusal; array = filled bytes len }

-- what the writer of a piece answers that is lent the rest of the array: its refusal, or 16 without room
unfoldable pub answer_to : Filled → Piece → ℕ
answer_to f p = cond (eqb p.refusal 0) (cond (leb (f.len + length p.bytes) (length f.bytes)) 0 16) p.refusal

-- a piece behind those that are there, unless it is refused
unfoldable pub with_piece : Building → Piece → Building
with_piece b p = record { refusal = max b.refusal (answer_to b.array p); array = cond (eqb p.refusal 0) (added b.array p.bytes) b.array }

-- nothing of a piece that is refused with a number
unfoldable pub with_refusal : Building → ℕ → Building
with_refusal b n = record { refusal = max b.refusal n; array = b.array }

-- pieces in turn
unfoldable pub with_pieces : Building → List Piece → Building
with_pieces b [] = b
with_pieces b (p ∷ l) = with_pieces (with_piece b p) l

-- ---- the pieces of a header

-- bytes that nothing refuses
abbrev pub plain : List ℕ → Piece
plain bytes = record { refusal = 0; bytes = bytes }

-- a callsign's text
abbrev pub call_piece : Callsign → Bool → Piece
call_piece c starred = record { refusal = range_refusal c; bytes = with_star (text_of c) starred }

-- source and destination
abbrev pub end_pieces : Callsign → Callsign → List Piece
end_pieces from to = call_piece from false ∷ plain (greater ∷ []) ∷ call_piece to false ∷ []

-- a hop's text
abbrev pub hop_piece : Hop → Bool → Piece
hop_piece h starred = record { refusal = cond (hop_in_range h) 0 15; bytes = with_star (text_of h.call) starred }

-- each hop after a comma, the last heard one with a star
unfoldable pub hop_pieces : List Hop → List Piece
hop_pieces [] = []
hop_pieces (h ∷ l) = plain (comma ∷ []) ∷ hop_piece h (is_heard h && not (any_heard l)) ∷ hop_pieces l

-- a header's text
unfoldable pub text_pieces : Header → List Piece
text_pieces h = end_pieces h.from h.to ++ (hop_pieces (hops_of h.path) ++ plain (colon ∷ []) ∷ [])

-- an address
abbrev pub address_piece : AddressWritten → Piece
address_piece a = record { refusal = a.refusal; bytes = a.bytes }

-- destination and source, which is the last or not
abbrev pub end_address_pieces : Callsign → Callsign → Bool → List Piece
end_address_pieces to from last = address_piece (write_address to Destination false) ∷ address_piece (write_address from Source last) ∷ []

-- a hop's address; of a Q element there are no bytes
unfoldable pub hop_address_piece : Hop → Bool → Piece
hop_address_piece h last =
    let a = write_address h.call (HopField (is_heard h)) last in
    record { refusal = cond (is_tidy_hop h) (cond (is_q_element h) 0 a.refusal) 15; bytes = cond (is_q_element h) [] a.bytes }

-- each hop, the last callsign marked
unfoldable pub hop_address_pieces : List Hop → List Piece
hop_address_pieces [] = []
hop_address_pieces (h ∷ l) = hop_address_piece h (is_none (calls_of l)) ∷ hop_address_pieces l

-- a header's frame
unfoldable pub frame_pieces : Header → List Piece
frame_pieces h =
    let hops = hops_of h.path in
    end_address_pieces h.to h.from (is_none (calls_of hops)) ++ (hop_address_pieces hops ++ plain pair ∷ [])
