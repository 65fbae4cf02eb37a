-- `read_information`: each answer is `information_of` of the longitude and the motion that were read. Assumes nothing.
use Rattle.std.proofs.Common.{◌≡◌, ℕ, ◌≤◌, Bool, List, length, get_or, Option, Some, None, ◌∙◌, rules, le-ltb}
use Rattle.laws.proofs.Picks.{picks}
use Rattle.lonlat.specs.declared.Longitude.{Longitude}
use Rattle.mic_e.specs.Motion.{read_motion}
use Rattle.mic_e.specs.Longitude.{read_longitude}
use Rattle.mic_e.specs.Information.{read_information, information_of}
use Rattle.mic_e.specs.declared.Information.{Information}
use Rattle.mic_e.specs.declared.Motion.{Motion}
use Rattle.mic_e.proofs.read_information.Goals as goal

module _ (s : List ℕ) (hundred west : Bool) (h : 8 ≤ length s) where
  lost : (r : Option Information) → r ≡ None → None ≡ read_longitude hundred west (get_or s 0 0) (get_or s 1 0) (get_or s 2 0) → r ≡ read_information s hundred west
  unfolding read_information information_of
  lost r none e = none ∙ rw (le-ltb (length s) 8 h, ← e)

  module _ (longitude : Longitude) (el : Some longitude ≡ read_longitude hundred west (get_or s 0 0) (get_or s 1 0) (get_or s 2 0)) where
    still : (r : Option Information) → r ≡ None → None ≡ read_motion (get_or s 3 0) (get_or s 4 0) (get_or s 5 0) → r ≡ read_information s hundred west
    unfolding read_information information_of
    still r none e = none ∙ rw (le-ltb (length s) 8 h, ← el, ← e)

    moves : (m : Motion) → Some m ≡ read_motion (get_or s 3 0) (get_or s 4 0) (get_or s 5 0)
        → Some (record { longitude = longitude; speed = m.speed; course = m.course; code = get_or s 6 0; table = get_or s 7 0 }) ≡ read_information s hundred west
    unfolding read_information information_of
    moves m e = rw (le-ltb (length s) 8 h, ← el, ← e)

pub returns-in_default : goal.returns-in_default
unfolding read_information
returns-in_default c = search (rules, picks)

pub returns-in_err-longitude : goal.returns-in_err-longitude
returns-in_err-longitude c = search (rules, lost)

pub returns-in_err-speed : goal.returns-in_err-speed
returns-in_err-speed c = search (rules, still)

pub returns : goal.returns
returns c = search (rules, moves)
