-- A body written: the destination that goes with it, its bytes from the type byte up to the comment or text and those behind it, and the
-- refusals 15, 14 and 18 (document 01, 'Numbers a refusal carries' and 'Modules in port order', 4 and 5; document 02, R-3 and R-5).
-- Assumes nothing.
use Rattle.std.specs.Prelude.{ℕ, zero, suc, Bool, cond, List, [], ◌∷◌, ◌++◌, length}
use Rattle.laws.specs.Bytes.{bang, equals, slash, at_sign, backquote, apostrophe, colon, greater}
use Rattle.laws.specs.Lists.{pad_to}
use Rattle.callsign.specs.declared.Callsign.{Callsign}
use Rattle.callsign.specs.Text.{made, blank_call}
use Rattle.time.specs.declared.Time.{Time}
use Rattle.time.specs.Time.{is_present, time_text}
use Rattle.position.specs.declared.Place.{Place}
use Rattle.position.specs.Position.{position_text}
use Rattle.mic_e.specs.declared.Information.{Information}
use Rattle.mic_e.specs.Destination.{destination_bytes}
use Rattle.mic_e.specs.Information.{information_bytes}
use Rattle.message.specs.Message.{addressee_text, identifier_text, message_refusal}
use Rattle.message.specs.Status.{status_text_refusal}
use Rattle.body.specs.declared.Kind.{Kind}
use Rattle.body.specs.declared.Kind.TheVariants.{Unknown, Position, MicE, Message, Status}
use Rattle.body.specs.declared.Report.{Report}
use Rattle.body.specs.declared.Body.{Body}
use Rattle.body.specs.declared.BodyWritten.{BodyWritten}
use Rattle.body.specs.Range.{body_in_range}

-- ---- the destination

-- "the destination is built by value": six characters, no SSID
unfoldable pub mic_e_call : Place → Report → Callsign
mic_e_call place report = made (destination_bytes place.latitude.0 place.blanks report.message place.longitude.0) []

-- by the kind
unfoldable pub to_as : Kind → Body → Callsign → Callsign
to_as Unknown b to = to
to_as Position b to = to
to_as MicE b to = mic_e_call b.place b.report
to_as Message b to = to
to_as Status b to = to

-- the destination that is written with a body whose record has the destination `to`
unfoldable pub written_to : Body → Callsign → Callsign
written_to b to = to_as b.kind b to

-- ---- the bytes

-- what the information of a Mic-E report holds
unfoldable pub information_of : Place → Report → Information
information_of place report =
    record {
      longitude = place.longitude;
      speed = report.speed;
      course = report.course;
      code = place.code;
      table = place.table;
    }

-- the type byte of a position: with a time `/`, or `@` if it takes messages; else `!` or `=`
unfoldable pub position_type : Bool → Time → ℕ
position_type messaging time = cond (is_present time) (cond messaging at_sign slash) (cond messaging equals bang)

-- that byte, the time's seven or none, and what is fixed behind them
unfoldable pub position_bytes : Place → Bool → Time → List ℕ
position_bytes place messaging time = position_type messaging time ∷ (time_text time ++ position_text place)

-- of a Mic-E report: "writing uses backquote or apostrophe"
unfoldable pub mic_e_bytes : Place → Report → List ℕ
mic_e_bytes place report = cond report.current backquote apostrophe ∷ information_bytes (information_of place report)

-- of a message: the type byte, the addressee and `:`
unfoldable pub message_bytes : List ℕ → List ℕ
message_bytes addressee = colon ∷ addressee_text addressee

-- of a status: the type byte, and the time's seven bytes or none
unfoldable pub status_bytes : Time → List ℕ
status_bytes time = greater ∷ time_text time

-- by the kind
unfoldable pub bytes_as : Kind → Body → List ℕ
bytes_as Unknown b = []
bytes_as Position b = position_bytes b.place b.messaging b.time
bytes_as MicE b = mic_e_bytes b.place b.report
bytes_as Message b = message_bytes b.addressee
bytes_as Status b = status_bytes b.time

-- the bytes of a body up to its comment or text
unfoldable pub body_bytes : Body → List ℕ
body_bytes b = bytes_as b.kind b

-- by the kind
unfoldable pub tail_as : Kind → List ℕ → List ℕ
tail_as Unknown identifier = []
tail_as Position identifier = []
tail_as MicE identifier = []
tail_as Message identifier = identifier_text identifier
tail_as Status identifier = []

-- those behind it: "the identifier as one more slice; an empty one means none and no `{`", and is taken by a message alone
unfoldable pub tail_bytes : Body → List ℕ → List ℕ
tail_bytes b identifier = tail_as b.kind identifier

-- ---- the refusals

-- "14: record of Unknown kind to be written"; document 02, R-5: "18 .., on writing next after 14"
unfoldable pub refusal_as : Kind → Body → List ℕ → List ℕ → ℕ
refusal_as Unknown b text identifier = 14
refusal_as Position b text identifier = 0
refusal_as MicE b text identifier = 0
refusal_as Message b text identifier = message_refusal text identifier
refusal_as Status b text identifier = status_text_refusal b.time text

-- of a body in range, with what is handed over to be written with it
unfoldable pub body_refusal : Body → List ℕ → List ℕ → ℕ
body_refusal b text identifier = refusal_as b.kind b text identifier

-- ---- the answer

-- the most bytes that a body has before its comment or text: those of a position with a time
abbrev pub most_fixed : ℕ
most_fixed = 27

-- and behind it: `{` and an identifier
abbrev pub most_tail : ℕ
most_tail = 6

-- a destination, and bytes in front of zeros
unfoldable pub written_as : ℕ → Callsign → List ℕ → List ℕ → BodyWritten
written_as refusal to bytes tail =
    record {
      refusal = refusal;
      to = to;
      bytes = pad_to most_fixed 0 bytes;
      len = length bytes;
      tail = pad_to most_tail 0 tail;
      tail_len = length tail;
    }

-- a destination, an array of which so many bytes are written, and nothing behind the comment or text
unfoldable pub without_tail : Callsign → List ℕ → ℕ → BodyWritten
without_tail to bytes len =
    record { refusal = 0; to = to; bytes = bytes; len = len; tail = pad_to most_tail 0 []; tail_len = 0 }

-- 15, and nothing
unfoldable pub unwritten : BodyWritten
unwritten = written_as 15 blank_call [] []

-- a refusal leaves the destination alone
unfoldable pub written_or : ℕ → Callsign → List ℕ → List ℕ → BodyWritten
written_or zero to bytes tail = written_as 0 to bytes tail
written_or (suc n) to bytes tail = written_as (suc n) to [] []

-- 15, then 14 or 18
unfoldable pub write_body : Body → Callsign → List ℕ → List ℕ → BodyWritten
write_body b to text identifier =
    cond (body_in_range b to) (written_or (body_refusal b text identifier) (written_to b to) (body_bytes b) (tail_bytes b identifier)) unwritten
