-- The destination that is written with a body: built of a Mic-E report it is six ASCII characters, so it is in range.
-- Assumes nothing.
use mathlib.Core.Path.{◌≡◌, refl, sym, ◌∙◌}
use mathlib.Core.Bool.{true}
use mathlib.Core.List.{List, []}
use Prim.Native.Nat.{ℕ, ◌≤◌}
use native.Mathlib.Omega.{arith}
use lib.IntN.{nat_abs}
use lib.ListN.{length}
use Rattle.callsign.specs.declared.Callsign.{Callsign}
use Rattle.callsign.specs.Text.{made, joined}
use Rattle.callsign.specs.Range.{in_range}
use Rattle.callsign.proofs.Ranges.{utf8_none, zero_none, blank_is_in_range}
use Rattle.callsign.proofs.Made.{made_range}
use Rattle.callsign.proofs.Unicode.{ascii_utf8}
use Rattle.lonlat.specs.Angle.{most_latitude}
use Rattle.position.specs.declared.Place.{Place}
use Rattle.position.specs.Position.{place_in_range}
use Rattle.position.proofs.Reach.{latitude_near, reach_few}
use Rattle.mic_e.specs.declared.Message as mic-e
use Rattle.mic_e.specs.Destination.{destination_bytes}
use Rattle.mic_e.proofs.DestinationFacts.{destination_length, destination_ascii}
use Rattle.body.specs.declared.Kind.{Kind}
use Rattle.body.specs.declared.Kind.TheVariants.{Unknown, Position, MicE, Message, Status}
use Rattle.body.specs.declared.Body.{Body}
use Rattle.body.specs.Range.{in_range_as, body_in_range}
use Rattle.body.specs.Written.{mic_e_call, to_as, written_to}
use Rattle.body.proofs.Judged.{mic_e_held}

six_short : (l : List ℕ) → length l ≡ 6 → length (joined l []) ≤ 16
unfolding joined
six_short l h = omega arith

module _ (place : Place) (message : mic-e.Message) (near : place_in_range place ≡ true) where
  abbrev bytes : List ℕ
  bytes = destination_bytes place.latitude.0 place.blanks message place.longitude.0

  built_range : in_range (made bytes []) ≡ true
  built_range =
      let six = destination_length place.latitude.0 place.blanks message place.longitude.0 in
      let few = reach_few most_latitude (nat_abs place.latitude.0) place.blanks (latitude_near place near) in
      let plain = destination_ascii place.latitude.0 place.blanks message place.longitude.0 few in
      made_range bytes [] (six_short bytes six) (ascii_utf8 bytes plain) utf8_none zero_none

-- it is in range where the record's own is
pub to_same : (b : Body) (to : Callsign) → body_in_range b to ≡ true → in_range (written_to b to) ≡ in_range to
unfolding body_in_range written_to in_range_as to_as mic_e_call
to_same b to = go b.kind
  where
    go : (k : Kind) → in_range_as k b to ≡ true → in_range (to_as k b to) ≡ in_range to
    go Unknown e = refl
    go Position e = refl
    go Message e = refl
    go Status e = refl
    go MicE e = let h = mic_e_held b to e in built_range b.place b.report.message h.near ∙ sym (blank_is_in_range to h.no_call)
