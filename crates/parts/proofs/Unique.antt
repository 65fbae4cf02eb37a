-- What each public function promises fixes its result: two results that meet one promise are equal.
-- Assumes nothing.
use mathlib.Core.Path.{◌≡◌}
use mathlib.Core.Bool.{Bool}
use mathlib.Core.List.{List}
use Prim.Native.Nat.{ℕ}
use lib.IntN.{ℤ}
use Rattle.buffer.specs.declared.Answer.{Answer}
use Rattle.buffer.specs.Wrote.{ends, wrote}
use Rattle.laws.proofs.Unique.{one_value}
use Rattle.buffer.proofs.Wrote.{one_end}
use Rattle.callsign.specs.declared.Callsign.{Callsign}
use Rattle.callsign.specs.declared.CallRead.{CallRead}
use Rattle.callsign.specs.declared.AddressRead.{AddressRead}
use Rattle.callsign.specs.declared.AddressWritten.{AddressWritten}
use Rattle.callsign.specs.Text.{read_text}
use Rattle.callsign.specs.Range.{range_refusal, text_of, with_star}
use Rattle.callsign.specs.Address.{read_address}
use Rattle.lonlat.specs.Latitude.{read_latitude, latitude_refusal, latitude_text}
use Rattle.lonlat.specs.Longitude.{read_longitude, longitude_refusal, longitude_text}
use Rattle.time.specs.declared.Time.{Time}
use Rattle.time.specs.Time.{read_time, time_refusal, time_text}
use Rattle.position.specs.declared.Place.{Place}
use Rattle.position.specs.declared.PositionRead.{PositionRead}
use Rattle.position.specs.Position.{read_position, position_refusal, position_text}
use Rattle.mic_e.specs.declared.Information.{Information}
use Rattle.mic_e.specs.declared.DestinationWritten.{DestinationWritten}
use Rattle.mic_e.specs.Destination.{read_destination}
use Rattle.mic_e.specs.Information.{read_information, information_refusal, information_bytes}
use Rattle.message.specs.declared.MessageRead.{MessageRead}
use Rattle.message.specs.Message.{read_message, message_text}
use Rattle.message.specs.Status.{read_status, status_refusal, status_text}
use Rattle.parts.specs.declared.CLatitudeRead.{CLatitudeRead}
use Rattle.parts.specs.declared.CLongitudeRead.{CLongitudeRead}
use Rattle.parts.specs.declared.CTimeRead.{CTimeRead}
use Rattle.parts.specs.declared.CDestinationRead.{CDestinationRead}
use Rattle.parts.specs.declared.CInformationRead.{CInformationRead}
use Rattle.parts.specs.Parts.{address_for, latitude_in_c, longitude_in_c, time_in_c, destination_in_c, destination_for, information_in_c, message_refusal_for, status_in_c}

module _ (s : List ℕ) where
  pub unique_tusselgro_read_callsign : (r r' : CallRead) → r ≡ read_text s → r' ≡ read_text s → r ≡ r'
  unique_tusselgro_read_callsign r r' = one_value r r' (read_text s)

  pub unique_tusselgro_read_address : (r r' : AddressRead) → r ≡ read_address s → r' ≡ read_address s → r ≡ r'
  unique_tusselgro_read_address r r' = one_value r r' (read_address s)

  pub unique_tusselgro_read_latitude : (r r' : CLatitudeRead) → r ≡ latitude_in_c (read_latitude s) → r' ≡ latitude_in_c (read_latitude s) → r ≡ r'
  unique_tusselgro_read_latitude r r' = one_value r r' (latitude_in_c (read_latitude s))

  pub unique_tusselgro_read_longitude : (blanks : ℕ) → (r r' : CLongitudeRead) → r ≡ longitude_in_c (read_longitude s blanks) → r' ≡ longitude_in_c (read_longitude s blanks) → r ≡ r'
  unique_tusselgro_read_longitude blanks r r' = one_value r r' (longitude_in_c (read_longitude s blanks))

  pub unique_tusselgro_read_time : (r r' : CTimeRead) → r ≡ time_in_c (read_time s) → r' ≡ time_in_c (read_time s) → r ≡ r'
  unique_tusselgro_read_time r r' = one_value r r' (time_in_c (read_time s))

  pub unique_tusselgro_read_position : (r r' : PositionRead) → r ≡ read_position s → r' ≡ read_position s → r ≡ r'
  unique_tusselgro_read_position r r' = one_value r r' (read_position s)

  pub unique_tusselgro_read_destination : (r r' : CDestinationRead) → r ≡ destination_in_c (read_destination s) → r' ≡ destination_in_c (read_destination s) → r ≡ r'
  unique_tusselgro_read_destination r r' = one_value r r' (destination_in_c (read_destination s))

  pub unique_tusselgro_read_information : (hundred west : Bool) → (r r' : CInformationRead) → r ≡ information_in_c (read_information s hundred west) → r' ≡ information_in_c (read_information s hundred west) → r ≡ r'
  unique_tusselgro_read_information hundred west r r' = one_value r r' (information_in_c (read_information s hundred west))

  pub unique_tusselgro_read_message : (r r' : MessageRead) → r ≡ read_message s → r' ≡ read_message s → r ≡ r'
  unique_tusselgro_read_message r r' = one_value r r' (read_message s)

  pub unique_tusselgro_read_status : (r r' : CTimeRead) → r ≡ status_in_c (read_status s) → r' ≡ status_in_c (read_status s) → r ≡ r'
  unique_tusselgro_read_status r r' = one_value r r' (status_in_c (read_status s))

module _ (out : List ℕ) (a a' : Answer) (o o' : List ℕ) where
  pub unique_tusselgro_write_callsign : (call : Callsign) (starred : Bool) → ends a o ≡ wrote (range_refusal call) (with_star (text_of call) starred) out → ends a' o' ≡ wrote (range_refusal call) (with_star (text_of call) starred) out → (a ≡ a') × (o ≡ o')
  unique_tusselgro_write_callsign call starred = one_end a a' o o' (wrote (range_refusal call) (with_star (text_of call) starred) out)

  pub unique_tusselgro_write_latitude : (latitude : ℤ) (blanks : ℕ) → ends a o ≡ wrote (latitude_refusal latitude blanks) (latitude_text latitude blanks) out → ends a' o' ≡ wrote (latitude_refusal latitude blanks) (latitude_text latitude blanks) out → (a ≡ a') × (o ≡ o')
  unique_tusselgro_write_latitude latitude blanks = one_end a a' o o' (wrote (latitude_refusal latitude blanks) (latitude_text latitude blanks) out)

  pub unique_tusselgro_write_longitude : (longitude : ℤ) → ends a o ≡ wrote (longitude_refusal longitude) (longitude_text longitude) out → ends a' o' ≡ wrote (longitude_refusal longitude) (longitude_text longitude) out → (a ≡ a') × (o ≡ o')
  unique_tusselgro_write_longitude longitude = one_end a a' o o' (wrote (longitude_refusal longitude) (longitude_text longitude) out)

  pub unique_tusselgro_write_time : (time : Time) → ends a o ≡ wrote (time_refusal time) (time_text time) out → ends a' o' ≡ wrote (time_refusal time) (time_text time) out → (a ≡ a') × (o ≡ o')
  unique_tusselgro_write_time time = one_end a a' o o' (wrote (time_refusal time) (time_text time) out)

  pub unique_tusselgro_write_position : (place : Place) → ends a o ≡ wrote (position_refusal place) (position_text place) out → ends a' o' ≡ wrote (position_refusal place) (position_text place) out → (a ≡ a') × (o ≡ o')
  unique_tusselgro_write_position place = one_end a a' o o' (wrote (position_refusal place) (position_text place) out)

  pub unique_tusselgro_write_information : (information : Information) → ends a o ≡ wrote (information_refusal information) (information_bytes information) out → ends a' o' ≡ wrote (information_refusal information) (information_bytes information) out → (a ≡ a') × (o ≡ o')
  unique_tusselgro_write_information information = one_end a a' o o' (wrote (information_refusal information) (information_bytes information) out)

  pub unique_tusselgro_write_message : (addressee text identifier : List ℕ) → ends a o ≡ wrote (message_refusal_for addressee text identifier) (message_text addressee text identifier) out
      → ends a' o' ≡ wrote (message_refusal_for addressee text identifier) (message_text addressee text identifier) out
      → (a ≡ a') × (o ≡ o')
  unique_tusselgro_write_message addressee text identifier = one_end a a' o o' (wrote (message_refusal_for addressee text identifier) (message_text addressee text identifier) out)

  pub unique_tusselgro_write_status : (time : Time) (text : List ℕ) → ends a o ≡ wrote (status_refusal time text) (status_text time text) out → ends a' o' ≡ wrote (status_refusal time text) (status_text time text) out → (a ≡ a') × (o ≡ o')
  unique_tusselgro_write_status time text = one_end a a' o o' (wrote (status_refusal time text) (status_text time text) out)

pub unique_tusselgro_write_address : (call : Callsign) (field : ℕ) (last : Bool) (r r' : AddressWritten) → r ≡ address_for call field last → r' ≡ address_for call field last → r ≡ r'
unique_tusselgro_write_address call field last r r' = one_value r r' (address_for call field last)

pub unique_tusselgro_write_destination : (latitude : ℤ) (blanks message : ℕ) (longitude : ℤ) (r r' : DestinationWritten)
    → r ≡ destination_for latitude blanks message longitude
    → r' ≡ destination_for latitude blanks message longitude
    → r ≡ r'
unique_tusselgro_write_destination latitude blanks message longitude r r' = one_value r r' (destination_for latitude blanks message longitude)
