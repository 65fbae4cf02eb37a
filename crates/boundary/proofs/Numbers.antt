-- Kinds and messages by number: to a number, which is in use, and back. Assumes nothing.
use mathlib.Core.Path.{◌≡◌, refl}
use mathlib.Core.Bool.{true}
use lib.Dec.{leb}
use Rattle.mic_e.specs.declared.Message.{Message}
use Rattle.mic_e.specs.declared.Message.TheVariants.{M0, M1, M2, M3, M4, M5, M6, C0, C1, C2, C3, C4, C5, C6, Emergency, Unknown}
use Rattle.mic_e.specs.Message.{message_number, message_at, most_message}
use Rattle.body.specs.declared.Kind.{Kind}
use Rattle.body.specs.declared.Kind.TheVariants as kind
use Rattle.boundary.specs.Numbers.{kind_number, most_kind, kind_at}

pub kind_kept : (k : Kind) → (kind_at (kind_number k) ≡ k) × (leb (kind_number k) most_kind ≡ true)
unfolding kind_at kind_number
kind_kept kind.Unknown = (refl, refl)
kind_kept kind.Position = (refl, refl)
kind_kept kind.MicE = (refl, refl)
kind_kept kind.Message = (refl, refl)
kind_kept kind.Status = (refl, refl)

pub message_kept : (m : Message) → (message_at (message_number m) ≡ m) × (leb (message_number m) most_message ≡ true)
unfolding message_at message_number
message_kept M0 = (refl, refl)
message_kept M1 = (refl, refl)
message_kept M2 = (refl, refl)
message_kept M3 = (refl, refl)
message_kept M4 = (refl, refl)
message_kept M5 = (refl, refl)
message_kept M6 = (refl, refl)
message_kept C0 = (refl, refl)
message_kept C1 = (refl, refl)
message_kept C2 = (refl, refl)
message_kept C3 = (refl, refl)
message_kept C4 = (refl, refl)
message_kept C5 = (refl, refl)
message_kept C6 = (refl, refl)
message_kept Emergency = (refl, refl)
message_kept Unknown = (refl, refl)
