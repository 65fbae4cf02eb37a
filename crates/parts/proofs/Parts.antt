-- What the readers and writers of a packet's parts answer, one law an answer: of a reader q is what was read, and a what should be.
-- Assumes nothing.
use mathlib.Core.Path.{◌≡◌}
use mathlib.Core.Bool.{Bool}
use mathlib.Core.List.{List}
use Prim.Native.Nat.{ℕ, ◌<◌, ◌≤◌}
use native.Mathlib.Omega.{arith}
use borrow.Author.Tests.{eq-eqb, ne_eqb, le-leb, lt-leb}
use lib.IntN.{ℤ}
use lib.ListN.{length, replicate}
use Rattle.buffer.specs.declared.Answer.{Answer}
use Rattle.buffer.specs.Wrote.{Wrote, ends, refused_by, wrote}
use Rattle.buffer.proofs.Wrote.{passed_on}
use Rattle.callsign.specs.declared.Callsign.{Callsign}
use Rattle.callsign.specs.declared.AddressWritten.{AddressWritten}
use Rattle.callsign.specs.declared.Field.{Field}
use Rattle.callsign.specs.Packed.{unwritten_by, write_address}
use Rattle.mic_e.specs.declared.Message.{Message}
use Rattle.mic_e.specs.declared.DestinationWritten.{DestinationWritten}
use Rattle.mic_e.specs.Message.{message_at, most_message}
use Rattle.mic_e.specs.Destination.{write_destination}
use Rattle.message.specs.Message.{addressee_bytes, message_refusal, message_text}
use Rattle.parts.specs.Parts.{field_at, most_field, address_for, destination_for, message_refusal_for}

-- ---- callsigns and addresses

module _ (call : Callsign) (field : ℕ) (last : Bool) where
  pub no_field : most_field < field → record { bytes = replicate 7 0; refusal = 15 } ≡ address_for call field last
  unfolding address_for unwritten_by
  no_field h = rw (lt-leb field most_field h)

  pub in_field : (f : Field) (w : AddressWritten) → field ≤ most_field → f ≡ field_at field → w ≡ write_address call f last
      → w ≡ address_for call field last
  unfolding address_for
  in_field f w h e g = rw (le-leb field most_field h, ← e) g

-- ---- Mic-E

module _ (latitude : ℤ) (blanks message : ℕ) (longitude : ℤ) where
  pub no_message : most_message < message → record { bytes = replicate 6 0; refusal = 15 } ≡ destination_for latitude blanks message longitude
  unfolding destination_for
  no_message h = rw (lt-leb message most_message h)

  -- y and z are the angles as the code has them
  pub of_message : (y z : ℤ) (m : Message) (w : DestinationWritten) → y ≡ latitude → z ≡ longitude → message ≤ most_message → m ≡ message_at message
      → w ≡ write_destination y blanks m z
      → w ≡ destination_for latitude blanks message longitude
  unfolding destination_for
  of_message y z m w e f h g k = rw (le-leb message most_message h, ← e, ← f, ← g) k

-- ---- messages and status lines

module _ (addressee text identifier out : List ℕ) where
  pub not_nine : (a : Answer) → (length addressee ≡ addressee_bytes → ⊥) → a ≡ refused_by 18
      → ends a out ≡ wrote (message_refusal_for addressee text identifier) (message_text addressee text identifier) out
  unfolding message_refusal_for
  not_nine a n e = passed_on a 18 (message_refusal_for addressee text identifier) (message_text addressee text identifier) out e (λ z. omega arith) (rw (ne_eqb (length addressee) addressee_bytes n))

  pub to_nine : (nine : List ℕ) (w : Wrote) → length addressee ≡ addressee_bytes → nine ≡ addressee
      → w ≡ wrote (message_refusal text identifier) (message_text nine text identifier) out
      → w ≡ wrote (message_refusal_for addressee text identifier) (message_text addressee text identifier) out
  unfolding message_refusal_for
  to_nine nine w h e q = rw (eq-eqb (length addressee) addressee_bytes h, ← e) q
