-- The body of a packet, by its first byte (document 01, 'Modules in port order', 5, and 'Numbers a refusal carries'; document 02, R-3,
-- R-5 and, for the strict reader, R-8). It stands in the input from a place on, since its comment or text is a place in the whole input.
-- Assumes nothing.
use Rattle.std.specs.Prelude.{Option, Some, None, ℕ, Result, Ok, Err, ◌+◌, ◌-◌, Bool, true, false, cond, ◌||◌, List, eqb, ltb, length, take, drop, get_or}
use Rattle.laws.specs.Bytes.{colon, greater, slash, at_sign, bang, equals, backquote, apostrophe}
use Rattle.callsign.specs.declared.Callsign.{Callsign}
use Rattle.callsign.specs.Range.{call_part}
use Rattle.time.specs.declared.Time.{Time}
use Rattle.time.specs.Time.{no_time, time_bytes, read_time, time_number, time_text}
use Rattle.position.specs.declared.PositionRead.{PositionRead}
use Rattle.position.specs.Position.{no_place, fixed_bytes, usually, is_over, is_off_table, table_number, read_position_by}
use Rattle.mic_e.specs.declared.Destination.{Destination}
use Rattle.mic_e.specs.declared.Message.TheVariants.{M0}
use Rattle.mic_e.specs.Destination.{read_destination, destination_number}
use Rattle.mic_e.specs.Information.{read_information, information_number}
use Rattle.message.specs.declared.MessageRead.{MessageRead}
use Rattle.message.specs.Message.{addressee_bytes, no_addressee, read_message}
use Rattle.message.specs.Status.{read_status, status_number}
use Rattle.mic_e.specs.declared.Information.{Information}
use Rattle.body.specs.declared.Kind.{Kind}
use Rattle.body.specs.declared.Kind.TheVariants.{Unknown, Position, MicE, Message, Status}
use Rattle.body.specs.declared.Opening.{Opening}
use Rattle.body.specs.declared.TimeAt.{TimeAt}
use Rattle.body.specs.declared.TimeError.{TimeError}
use Rattle.body.specs.declared.TimeError.TheVariants.{Missing, Bad}
use Rattle.body.specs.declared.Opening.TheVariants.{Positioned, Mic, Addressed, Stated, Other}
use Rattle.body.specs.declared.Report.{Report}
use Rattle.body.specs.declared.Span.{Span}
use Rattle.body.specs.declared.Body.{Body}
use Rattle.body.specs.declared.BodyRead.{BodyRead}

-- ---- nothing: "Unknown kind, all lengths and numbers 0"

-- no Mic-E report: the message of number 0, no speed, no course, not current
unfoldable pub no_report : Report
no_report = record { message = M0; speed = record { 0 = 0 }; course = record { 0 = 0 }; current = false }

-- no part of the input: no place, no length
unfoldable pub no_span : Span
no_span = record { at = 0; len = 0 }

-- nothing but a kind, a comment or text, an identifier, a time and an addressee; "All parts of a position, letters and flag are 0"
abbrev pub body_with : Kind → Span → Span → Time → List ℕ → Body
body_with kind comment identifier time addressee =
    record {
      kind = kind;
      place = no_place;
      time = time;
      messaging = false;
      report = no_report;
      comment = comment;
      identifier = identifier;
      addressee = addressee;
    }

-- of Unknown kind nothing but the header is kept
unfoldable pub blank_body : Body
blank_body = body_with Unknown no_span no_span no_time no_addressee

-- ---- what reading gives

-- a body
abbrev pub body_accepted : Body → BodyRead
body_accepted b = record { refusal = 0; body = b }

-- a refusal: "A refused decode returns the blank record"
abbrev pub body_refused : ℕ → BodyRead
body_refused n = record { refusal = n; body = blank_body }

-- ---- the first byte

-- 1c, as the document numbers it
abbrev pub file_separator : ℕ
file_separator = 0x1c

-- 1d
abbrev pub group_separator : ℕ
group_separator = 0x1d

-- "bodies starting `!` or `=`"; document 02, R-3: "Bodies `/` and `@` carry seven bytes after the type byte"; "Body 1c or backquote is
-- current Mic-E, 1d or apostrophe old"; document 02, R-5, of messages and status lines: "Row 7 of document 01 loses `:` and `>`"
unfoldable pub opening_of : ℕ → Opening
opening_of b =
    cond (eqb b bang) (Positioned false false)
    (cond (eqb b equals) (Positioned true false)
    (cond (eqb b slash) (Positioned false true)
    (cond (eqb b at_sign) (Positioned true true)
    (cond (eqb b file_separator || eqb b backquote) (Mic true)
    (cond (eqb b group_separator || eqb b apostrophe) (Mic false)
    (cond (eqb b colon) Addressed
    (cond (eqb b greater) Stated
    Other)))))))

-- ---- what follows it

-- from a place on: a comment, or a status's text, goes to the end of the input
unfoldable pub span_from : List ℕ → ℕ → Span
span_from s at = record { at = at; len = length s - at }

-- a position that was read, with its time or none, and the comment behind it; "Parts a kind lacks are 0"
unfoldable pub position_body : PositionRead → Bool → Time → Span → BodyRead
position_body p messaging time comment =
    cond (eqb p.refusal 0)
    (body_accepted (record { kind = Position; place = p.place; time = time; messaging = messaging; report = no_report; comment = comment; identifier = no_span; addressee = no_addressee }))
    (body_refused p.refusal)

-- a position from a place on, its 19 bytes and its comment
unfoldable pub position_from : Bool → List ℕ → ℕ → Bool → Time → BodyRead
position_from strict s at messaging time = position_body (read_position_by strict (drop at s)) messaging time (span_from s (at + fixed_bytes))

-- "10 when the seven bytes are missing", and "17 for a bad time"
unfoldable pub error_number : TimeError → ℕ
error_number Missing = 10
error_number Bad = time_number None

-- a time that was read, with the place behind it
unfoldable pub time_behind : Option Time → ℕ → Result TimeAt TimeError
time_behind (Some t) behind = Ok (record { time = t; behind = behind })
time_behind None behind = Err Bad

-- the time from a place on, where there is to be one, and the place behind it: 10 "stands before" 17
unfoldable pub time_at : List ℕ → ℕ → Bool → Result TimeAt TimeError
time_at s at timed =
    cond timed
    (cond (ltb (length s - at) time_bytes) (Err Missing) (time_behind (read_time (take time_bytes (drop at s))) (at + time_bytes)))
    (Ok (record { time = no_time; behind = at }))

-- "and 7, 10, 8, 9 follow": the position behind a time that was found
unfoldable pub behind_time : Bool → Result TimeAt TimeError → List ℕ → Bool → BodyRead
behind_time strict (Ok x) s messaging = position_from strict s x.behind messaging x.time
behind_time strict (Err e) s messaging = body_refused (error_number e)

-- a position from a place on, with a time before it or without one
unfoldable pub positioned_from : Bool → List ℕ → ℕ → Bool → Bool → BodyRead
positioned_from strict s at messaging timed = behind_time strict (time_at s at timed) s messaging

-- a Mic-E report, of a destination and of information that was read; its letters are those that the destination says; strictly "the
-- table byte gives 20, last of all"
unfoldable pub report_body : Bool → Destination → Option Information → Bool → Span → BodyRead
report_body strict d (Some i) current comment =
    cond (is_off_table strict i.table) (body_refused table_number)
    (body_accepted (record {
      kind = MicE;
      place = record { latitude = d.latitude; longitude = i.longitude; blanks = d.blanks; table = i.table; code = i.code; south = d.south; west = d.west };
      time = no_time;
      messaging = false;
      report = record { message = d.message; speed = i.speed; course = i.course; current = current };
      comment = comment;
      identifier = no_span;
      addressee = no_addressee;
    }))
report_body strict d None current comment = body_refused (information_number None)

-- "Mic-E: 11, then 12"; strictly 11 is given for the destination's minutes too, not for those of the information
unfoldable pub mic_e_body : Bool → Option Destination → List ℕ → Bool → Span → BodyRead
mic_e_body strict (Some d) info current comment =
    cond (is_over strict d.sixty) (body_refused (destination_number None))
    (report_body strict d (read_information info d.hundred d.west) current comment)
mic_e_body strict None info current comment = body_refused (destination_number None)

-- "the identifier's place and length, 0 and 0 where there is none": it stands past the `{` that ends the text
unfoldable pub identifier_span : ℕ → ℕ → Span
identifier_span at len = cond (eqb len 0) no_span (record { at = at + 1; len = len })

-- a message that was read from a place on: its text is past the addressee and the `:`
unfoldable pub message_body : MessageRead → ℕ → BodyRead
message_body m at =
    let text = at + (addressee_bytes + 1) in
    cond (eqb m.refusal 0)
    (body_accepted (body_with Message (record { at = text; len = m.text }) (identifier_span (text + m.text) m.identifier) no_time m.addressee))
    (body_refused m.refusal)

-- a status that was read from a place on: its text is past the time
unfoldable pub status_body : Option Time → List ℕ → ℕ → BodyRead
status_body (Some t) s at = body_accepted (body_with Status (span_from s (at + length (time_text t))) no_span t no_addressee)
status_body None s at = body_refused (status_number None)

-- what the first byte makes of the input from the place behind it on: a position, timed or not, a report and its 8 bytes, a message or
-- a status; of a Mic-E destination "6 call characters, SSID ignored"; only positions and reports have a strict rule
unfoldable pub body_after : Bool → Opening → Callsign → List ℕ → ℕ → BodyRead
body_after strict (Positioned messaging timed) to s at = positioned_from strict s at messaging timed
body_after strict (Mic current) to s at = mic_e_body strict (read_destination (call_part to)) (drop at s) current (span_from s (at + 8))
body_after strict Addressed to s at = message_body (read_message (drop at s)) at
body_after strict Stated to s at = status_body (read_status (drop at s)) s at
body_after strict Other to s at = body_accepted blank_body

-- "An empty body is Unknown."
unfoldable pub read_body_by : Bool → Callsign → List ℕ → ℕ → BodyRead
read_body_by strict to s from =
    cond (ltb from (length s))
    (body_after strict (opening_of (get_or s from 0)) to s (from + 1))
    (body_accepted blank_body)

-- as usually
abbrev pub read_body : Callsign → List ℕ → ℕ → BodyRead
read_body to s from = read_body_by usually to s from
