-- The row of the listing for a line (document 01, 'Values for the bench'): "Output: line, answer, source, destination, hops,
-- heard hops, latitude, longitude." "`-` is absent; an accepted empty callsign prints `.`." A refused line has no hops; a
-- Mic-E record has no destination. Document 02, R-5: line 2 "then answers `2 0 N0CALL APRS 0 0 - -`": a message and a status line
-- keep their destination and have no place, as the Unknown kind. Document 02, R-6: "the listing prints the outermost header", and
-- the innermost body's place. R-7: a Q element is one of the hops, and never heard.
-- Assumes nothing.
use Rattle.std.specs.Prelude.{ℕ, ◌+◌, Bool, cond, List, [], ◌∷◌, eqb, length, take, count_by}
use Rattle.laws.specs.Bytes.{space, dash, point, digit0, line_feed}
use Rattle.laws.specs.Lists.{together}
use Rattle.numbers.specs.Numbers.{digits, decimal}
use Rattle.callsign.specs.declared.Callsign.{Callsign}
use Rattle.callsign.specs.Range.{text_len}
use Rattle.position.specs.declared.Place.{Place}
use Rattle.position.specs.Position.{usually}
use Rattle.header.specs.declared.Hop.{Hop}
use Rattle.header.specs.declared.Path.{Path}
use Rattle.header.specs.Hop.{is_heard}
use Rattle.body.specs.declared.Kind.{Kind}
use Rattle.body.specs.declared.Kind.TheVariants.{Unknown, Position, MicE, Message, Status}
use Rattle.packet.specs.declared.Record.{Record}
use Rattle.packet.specs.declared.PacketRead.{PacketRead}
use Rattle.packet.specs.Packet.{read_text_by}

-- ---- fields

-- "`-` is absent"
abbrev pub absent : List ℕ
absent = dash ∷ []

-- "an accepted empty callsign prints `.`"
unfoldable pub or_point : List ℕ → List ℕ
or_point [] = point ∷ []
or_point (b ∷ l) = b ∷ l

-- a callsign as it stands in the record: call, dash and SSID
unfoldable pub call_field : Callsign → List ℕ
call_field c = or_point (take (text_len c) c.text)

-- of the header that a body belongs to: "a Mic-E record has no destination"
unfoldable pub own_to_field : Kind → Callsign → List ℕ
own_to_field Unknown to = call_field to
own_to_field Position to = call_field to
own_to_field MicE to = absent
own_to_field Message to = call_field to
own_to_field Status to = call_field to

-- of the outermost header, which with a packet inside is not the body's: "`to` also where the innermost is Mic-E"
unfoldable pub to_field : ℕ → Kind → Callsign → List ℕ
to_field inner kind to = cond (eqb inner 0) (own_to_field kind to) (call_field to)

unfoldable pub heard_among : List Hop → ℕ
heard_among hops = count_by is_heard hops

-- "hops, heard hops"
unfoldable pub heard_hops : Path → ℕ
heard_hops p = heard_among (take p.count p.hops)

-- "latitude, longitude", in signed hundredths of a minute
unfoldable pub angle_fields : Place → List (List ℕ)
angle_fields p = decimal p.latitude.0 ∷ decimal p.longitude.0 ∷ []

-- as both documents print it where there is no place: `- -`
unfoldable pub absent_angles : List (List ℕ)
absent_angles = (dash ∷ space ∷ dash ∷ []) ∷ []

-- a position and a Mic-E report have a place, the other kinds have none
unfoldable pub place_fields : Kind → Place → List (List ℕ)
place_fields Unknown p = absent_angles
place_fields Position p = angle_fields p
place_fields MicE p = angle_fields p
place_fields Message p = absent_angles
place_fields Status p = absent_angles

-- "source, destination, hops, heard hops, latitude, longitude" of an accepted line
unfoldable pub record_fields : Record → List (List ℕ)
record_fields r =
    call_field r.header.from ∷ to_field r.inner r.body.kind r.header.to
    ∷ digits r.header.path.count ∷ digits (heard_hops r.header.path)
    ∷ place_fields r.body.kind r.body.place

-- of a refused one, as document 01 prints them: `- - 0 0 - -`
unfoldable pub refused_fields : List (List ℕ)
refused_fields = (dash ∷ space ∷ dash ∷ space ∷ digit0 ∷ space ∷ digit0 ∷ space ∷ dash ∷ space ∷ dash ∷ []) ∷ []

-- line and answer, and the rest by the answer
unfoldable pub row_fields : ℕ → PacketRead → List (List ℕ)
row_fields number read =
    digits number ∷ digits read.refusal ∷ cond (eqb read.refusal 0) (record_fields read.«record») refused_fields

-- ---- the row

-- fields with a space between them and an LF at the end
unfoldable pub spaced : List (List ℕ) → List (List ℕ)
spaced [] = []
spaced (f ∷ []) = f ∷ (line_feed ∷ []) ∷ []
spaced (f ∷ g ∷ fs) = f ∷ (space ∷ []) ∷ spaced (g ∷ fs)

-- the row of a line's number and answer
unfoldable pub row_of : ℕ → PacketRead → List ℕ
row_of number read = together (spaced (row_fields number read))

-- the row of a line's number and bytes, read as usually or strictly (document 02, R-8)
unfoldable pub row_by : Bool → ℕ → List ℕ → List ℕ
row_by strict number line = row_of number (read_text_by strict line)

-- as usually
abbrev pub row : ℕ → List ℕ → List ℕ
row number line = row_by usually number line

-- ---- for the contracts of private functions

-- the bytes of fields, with one behind each
unfoldable pub width_of : List (List ℕ) → ℕ
width_of [] = 0
width_of (f ∷ fs) = length f + 1 + width_of fs
