-- `destination_in`: what lonlat reads in the text, with the message and the flags beside it. Assumes nothing.
use Rattle.std.proofs.Common.{◌≡◌, ℕ, Bool, List, get_or, Option, Some, None, ◌∙◌, rules}
use Rattle.lonlat.specs.Latitude.{read_latitude}
use Rattle.lonlat.specs.declared.LatitudeRead.{LatitudeRead}
use Rattle.mic_e.specs.Character.{is_flagged, bit_of}
use Rattle.mic_e.specs.Message.{message_of}
use Rattle.mic_e.specs.Destination.{text_in, destination_with}
use Rattle.mic_e.specs.declared.Destination.{Destination}
use Rattle.mic_e.specs.declared.Message.{Message}
use Rattle.mic_e.proofs.destination_in.Goals as goal

module _ (call text : List ℕ) (t : text ≡ text_in call) where
  refused : (r : Option Destination) → r ≡ None → None ≡ read_latitude text → r ≡ destination_with call (read_latitude (text_in call))
  unfolding destination_with
  refused r none e = none ∙ rw (← t, ← e)

  read : (l : LatitudeRead) (h w : Bool) (m : Message) → Some l ≡ read_latitude text
      → m ≡ message_of (bit_of (get_or call 0 0)) (bit_of (get_or call 1 0)) (bit_of (get_or call 2 0)) → h ≡ is_flagged (get_or call 4 0) → w ≡ is_flagged (get_or call 5 0)
      → Some (record { latitude = l.latitude; message = m; blanks = l.blanks; south = l.south; hundred = h; west = w; sixty = l.sixty }) ≡ destination_with call (read_latitude (text_in call))
  unfolding destination_with
  read l h w m e q u v = rw (← t, ← e, q, u, v)

pub returns-in_err-latitude : goal.returns-in_err-latitude
returns-in_err-latitude c = search (rules, refused)

pub returns : goal.returns
returns c = search (rules, read)
