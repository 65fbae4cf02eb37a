-- Which bodies are in range, beside a destination. Document 01: "15 is given for: an angle, speed or course out of range;
-- precision outside 0 to 5; .. parts its kind lacks not zero; a Mic-E angle of 180 degrees ..; a position symbol byte of 128
-- or more"; and document 02, R-1: "15 also for a record's letter that contradicts a nonzero angle", and R-3: 15 for a bad time in a
-- record; R-5: 15 for "a time in a message; a time of a status that is not `z` or out of range; an addressee in another kind". Where a
-- comment, a text or an identifier stands is not judged.
-- Assumes nothing.
use Rattle.std.specs.Prelude.{Bool, false, not, ◌&&◌, eqb, leb, ltb, nat_abs}
use Rattle.laws.specs.Lists.{zeros}
use Rattle.lonlat.specs.Angle.{most_longitude}
use Rattle.callsign.specs.declared.Callsign.{Callsign}
use Rattle.callsign.specs.Range.{is_blank_call}
use Rattle.time.specs.Time.{is_no_time, time_in_range}
use Rattle.position.specs.declared.Place.{Place}
use Rattle.position.specs.Position.{place_in_range, letters_agree, symbols_in_range, position_fits}
use Rattle.mic_e.specs.Message.{message_number}
use Rattle.mic_e.specs.Motion.{most_speed, most_course}
use Rattle.message.specs.Status.{is_status_time}
use Rattle.body.specs.declared.Kind.{Kind}
use Rattle.body.specs.declared.Kind.TheVariants.{Unknown, Position, MicE, Message, Status}
use Rattle.body.specs.declared.Report.{Report}
use Rattle.body.specs.declared.Body.{Body}

-- ---- parts that a kind lacks: all zero

-- neither S nor W; N and E are said by neither
unfoldable pub is_no_letter : Place → Bool
is_no_letter p = not p.south && not p.west

-- angles, blanks, symbol and letters
unfoldable pub is_no_place : Place → Bool
is_no_place p =
    eqb (nat_abs p.latitude.0) 0
    && (eqb (nat_abs p.longitude.0) 0
    && (eqb p.blanks 0
    && (eqb p.table 0
    && (eqb p.code 0
    && is_no_letter p))))

-- the message of number 0, no speed, no course, not current
unfoldable pub is_no_report : Report → Bool
is_no_report m =
    eqb (message_number m.message) 0
    && (eqb m.speed.0 0
    && (eqb m.course.0 0
    && not m.current))

-- no addressee: nine zeros
abbrev pub is_no_addressee : Body → Bool
is_no_addressee b = zeros b.addressee

-- neither a report nor an addressee
unfoldable pub is_place_alone : Body → Bool
is_place_alone b = is_no_report b.report && is_no_addressee b

-- no messaging, no time, no addressee
unfoldable pub is_report_alone : Body → Bool
is_report_alone b = not b.messaging && (is_no_time b.time && is_no_addressee b)

-- neither a place nor a report, and no flag
unfoldable pub is_bare : Body → Bool
is_bare b = is_no_place b.place && (not b.messaging && is_no_report b.report)

-- ---- parts that a kind has

-- "a Mic-E angle of 180 degrees" is out of range
unfoldable pub is_short : Place → Bool
is_short p = ltb (nat_abs p.longitude.0) most_longitude

-- ".. speed or course out of range"
unfoldable pub motion_in_range : Report → Bool
motion_in_range m = leb m.speed.0 most_speed && leb m.course.0 most_course

-- ---- by the kind

-- nothing at all
unfoldable pub unknown_in_range : Body → Bool
unknown_in_range b = is_bare b && (is_no_time b.time && is_no_addressee b)

-- nothing that a position lacks; no time or one in range; what a place may be
unfoldable pub position_in_range : Body → Bool
position_in_range b = is_place_alone b && (time_in_range b.time && position_fits b.place)

-- no destination, nothing that a report lacks; letters, angles and precision, 180 degrees, speed and course
unfoldable pub mic_e_in_range : Body → Callsign → Bool
mic_e_in_range b to =
    is_blank_call to
    && (is_report_alone b
    && (letters_agree b.place
    && (place_in_range b.place
    && (is_short b.place
    && motion_in_range b.report))))

-- nothing but an addressee: "No nine bytes of addressee are out of range."
unfoldable pub message_in_range : Body → Bool
message_in_range b = is_bare b && is_no_time b.time

-- nothing but a time, if it has one
unfoldable pub status_in_range : Body → Bool
status_in_range b = is_bare b && (is_no_addressee b && is_status_time b.time)

-- a body as one of that kind
unfoldable pub in_range_as : Kind → Body → Callsign → Bool
in_range_as Unknown b to = unknown_in_range b
in_range_as Position b to = position_in_range b
in_range_as MicE b to = mic_e_in_range b to
in_range_as Message b to = message_in_range b
in_range_as Status b to = status_in_range b

-- a body, and the destination of its record
unfoldable pub body_in_range : Body → Callsign → Bool
body_in_range b to = in_range_as b.kind b to

-- ---- what a reader gives and no writer takes: "The last two go into DIFFERENCES."

-- a body as one of that kind
unfoldable pub excepted_as : Kind → Body → Bool
excepted_as Unknown b = false
excepted_as Position b = not (symbols_in_range b.place)
excepted_as MicE b = not (is_short b.place)
excepted_as Message b = false
excepted_as Status b = false

-- a position's symbol byte of 128 or more, a Mic-E angle of 180 degrees
unfoldable pub is_excepted : Body → Bool
is_excepted b = excepted_as b.kind b
