-- What each public function promises fixes its result: two results that meet one promise are equal.
-- Assumes nothing.
use Rattle.std.proofs.Common.{◌≡◌, ℕ, Bool, List, Option, ℤ}
use Rattle.buffer.specs.Wrote.{ends, wrote}
use Rattle.buffer.specs.declared.Answer.{Answer}
use Rattle.lonlat.specs.declared.Longitude.{Longitude}
use Rattle.laws.proofs.Unique.{one_value}
use Rattle.buffer.proofs.Wrote.{one_end}
use Rattle.mic_e.specs.Motion.{read_motion}
use Rattle.mic_e.specs.Longitude.{read_longitude}
use Rattle.mic_e.specs.Message.{message_number, message_at}
use Rattle.mic_e.specs.Destination.{read_destination, write_destination}
use Rattle.mic_e.specs.Information.{read_information, information_refusal, information_bytes}
use Rattle.mic_e.specs.declared.Motion.{Motion}
use Rattle.mic_e.specs.declared.Message.{Message}
use Rattle.mic_e.specs.declared.Destination.{Destination}
use Rattle.mic_e.specs.declared.DestinationWritten.{DestinationWritten}
use Rattle.mic_e.specs.declared.Information.{Information}

pub unique_read_motion : (a b c : ℕ) (r r' : Option Motion) → r ≡ read_motion a b c → r' ≡ read_motion a b c → r ≡ r'
unique_read_motion a b c r r' = one_value r r' (read_motion a b c)

pub unique_read_longitude : (hundred west : Bool) (a b c : ℕ) (r r' : Option Longitude) → r ≡ read_longitude hundred west a b c → r' ≡ read_longitude hundred west a b c → r ≡ r'
unique_read_longitude hundred west a b c r r' = one_value r r' (read_longitude hundred west a b c)

pub unique_message_number : (m : Message) (r r' : ℕ) → r ≡ message_number m → r' ≡ message_number m → r ≡ r'
unique_message_number m r r' = one_value r r' (message_number m)

pub unique_message_at : (n : ℕ) (r r' : Message) → r ≡ message_at n → r' ≡ message_at n → r ≡ r'
unique_message_at n r r' = one_value r r' (message_at n)

pub unique_read_destination : (call : List ℕ) (r r' : Option Destination) → r ≡ read_destination call → r' ≡ read_destination call → r ≡ r'
unique_read_destination call r r' = one_value r r' (read_destination call)

pub unique_write_destination : (latitude : ℤ) (blanks : ℕ) (message : Message) (longitude : ℤ) (r r' : DestinationWritten)
    → r ≡ write_destination latitude blanks message longitude → r' ≡ write_destination latitude blanks message longitude → r ≡ r'
unique_write_destination latitude blanks message longitude r r' = one_value r r' (write_destination latitude blanks message longitude)

pub unique_read_information : (s : List ℕ) (hundred west : Bool) (r r' : Option Information) → r ≡ read_information s hundred west → r' ≡ read_information s hundred west → r ≡ r'
unique_read_information s hundred west r r' = one_value r r' (read_information s hundred west)

pub unique_write_information : (i : Information) (out : List ℕ) (r r' : Answer) (o o' : List ℕ)
    → ends r o ≡ wrote (information_refusal i) (information_bytes i) out → ends r' o' ≡ wrote (information_refusal i) (information_bytes i) out → (r ≡ r') × (o ≡ o')
unique_write_information i out r r' o o' = one_end r r' o o' (wrote (information_refusal i) (information_bytes i) out)
