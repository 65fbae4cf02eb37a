-- What the readers and writers of a packet's parts give, as C has it: of an enum the values of its case beside its number in document 01
-- or 02; "A refused decode returns" all else 0. A number that stands for no field or message is 15.
-- Assumes nothing.
use Rattle.std.specs.Prelude.{ℕ, Bool, false, cond, List, eqb, leb, ℤ, pos, length, replicate, Option, Some, None, Result, Ok, Err}
use Rattle.callsign.specs.declared.Callsign.{Callsign}
use Rattle.callsign.specs.declared.AddressWritten.{AddressWritten}
use Rattle.callsign.specs.declared.Field.{Field}
use Rattle.callsign.specs.declared.Field.TheVariants.{Destination, Source, Hop}
use Rattle.callsign.specs.Packed.{unwritten_by, write_address}
use Rattle.lonlat.specs.declared.LatitudeRead.{LatitudeRead}
use Rattle.lonlat.specs.declared.LongitudeRead.{LongitudeRead}
use Rattle.lonlat.specs.declared.LongitudeError.{LongitudeError}
use Rattle.lonlat.specs.declared.LongitudeError.TheVariants.{Malformed, OutOfRange}
use Rattle.lonlat.specs.Latitude.{latitude_number}
use Rattle.lonlat.specs.Longitude.{longitude_number}
use Rattle.time.specs.declared.Time.{Time}
use Rattle.time.specs.Time.{no_time, time_number}
use Rattle.mic_e.specs.declared.Destination as mic_e
use Rattle.mic_e.specs.declared.DestinationWritten.{DestinationWritten}
use Rattle.mic_e.specs.declared.Information.{Information}
use Rattle.mic_e.specs.Message.{message_number, message_at, most_message}
use Rattle.mic_e.specs.Destination.{destination_number, write_destination}
use Rattle.mic_e.specs.Information.{information_number}
use Rattle.message.specs.Message.{addressee_bytes, message_refusal}
use Rattle.message.specs.Status.{status_number}
use Rattle.parts.specs.declared.CLatitudeRead.{CLatitudeRead}
use Rattle.parts.specs.declared.CLongitudeRead.{CLongitudeRead}
use Rattle.parts.specs.declared.CTimeRead.{CTimeRead}
use Rattle.parts.specs.declared.CDestinationRead.{CDestinationRead}
use Rattle.parts.specs.declared.CInformationRead.{CInformationRead}

-- ---- callsigns and addresses

-- the fields of an address by number: 0 the destination, 1 the source, 2 a hop, 3 a heard hop
unfoldable pub field_at : ℕ → Field
field_at n = cond (eqb n 0) Destination (cond (eqb n 1) Source (Hop (eqb n 3)))

-- the highest of them; a writer refuses one above with 15
abbrev pub most_field : ℕ
most_field = 3

-- the address in the field of that number
unfoldable pub address_for : Callsign → ℕ → Bool → AddressWritten
address_for call field last = cond (leb field most_field) (write_address call (field_at field) last) (unwritten_by 15)

-- ---- angles

-- the latitude that was read, or none
unfoldable pub latitude_in_c : Option LatitudeRead → CLatitudeRead
latitude_in_c (Some l) =
    record { latitude = l.latitude; blanks = l.blanks; south = l.south; sixty = l.sixty; refusal = latitude_number (Some l) }
latitude_in_c None =
    record { latitude = record { 0 = pos 0 }; blanks = 0; south = false; sixty = false; refusal = latitude_number None }

-- no longitude, by that refusal
abbrev pub no_longitude : ℕ → CLongitudeRead
no_longitude n = record { longitude = record { 0 = pos 0 }; west = false; sixty = false; refusal = n }

-- the longitude that was read, or none
unfoldable pub longitude_in_c : Result LongitudeRead LongitudeError → CLongitudeRead
longitude_in_c (Ok l) = record { longitude = l.longitude; west = l.west; sixty = l.sixty; refusal = longitude_number (Ok l) }
longitude_in_c (Err Malformed) = no_longitude (longitude_number (Err Malformed))
longitude_in_c (Err OutOfRange) = no_longitude (longitude_number (Err OutOfRange))

-- ---- times

-- a time that was read, or none and that refusal
unfoldable pub time_or : ℕ → Option Time → CTimeRead
time_or n (Some t) = record { time = t; refusal = 0 }
time_or n None = record { time = no_time; refusal = n }

-- the time that was read, or none
unfoldable pub time_in_c : Option Time → CTimeRead
time_in_c read = time_or (time_number None) read

-- ---- Mic-E

-- what the destination says, with its message's number; or nothing
unfoldable pub destination_in_c : Option mic_e.Destination → CDestinationRead
destination_in_c (Some d) =
    record {
      latitude = d.latitude;
      message = message_number d.message;
      blanks = d.blanks;
      south = d.south;
      hundred = d.hundred;
      west = d.west;
      sixty = d.sixty;
      refusal = destination_number (Some d);
    }
destination_in_c None =
    record {
      latitude = record { 0 = pos 0 };
      message = 0;
      blanks = 0;
      south = false;
      hundred = false;
      west = false;
      sixty = false;
      refusal = destination_number None;
    }

-- the destination of the message of that number
unfoldable pub destination_for : ℤ → ℕ → ℕ → ℤ → DestinationWritten
destination_for latitude blanks message longitude =
    cond (leb message most_message)
    (write_destination latitude blanks (message_at message) longitude)
    (record { bytes = replicate 6 0; refusal = 15 })

-- what the information says, or nothing
unfoldable pub information_in_c : Option Information → CInformationRead
information_in_c (Some i) = record { information = i; refusal = information_number (Some i) }
information_in_c None =
    record {
      information = record {
        longitude = record { 0 = pos 0 };
        speed = record { 0 = 0 };
        course = record { 0 = 0 };
        code = 0;
        table = 0;
      };
      refusal = information_number None;
    }

-- ---- messages and status lines

-- 18 for an addressee that has not "nine addressee characters", and for a text or an identifier that no message has
unfoldable pub message_refusal_for : List ℕ → List ℕ → List ℕ → ℕ
message_refusal_for addressee text identifier = cond (eqb (length addressee) addressee_bytes) (message_refusal text identifier) 18

-- the time of a status, or none
unfoldable pub status_in_c : Option Time → CTimeRead
status_in_c read = time_or (status_number None) read
