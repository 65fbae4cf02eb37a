-- The message of a Mic-E report (document 01, module 4), from the bits of the first three characters of its destination.
-- Assumes nothing.
use Rattle.std.specs.Prelude.{ℕ, Bool, true, false, cond, ◌&&◌, ◌||◌, List, [], ◌∷◌, slice_index_or}
use Rattle.mic_e.specs.declared.Bit.{Bit}
use Rattle.mic_e.specs.declared.Bit.TheVariants.{Zero, Custom, Standard}
use Rattle.mic_e.specs.declared.Message.{Message}
use Rattle.mic_e.specs.declared.Message.TheVariants.{M0, M1, M2, M3, M4, M5, M6, C0, C1, C2, C3, C4, C5, C6, Emergency, Unknown}

-- a custom 1; a standard 1; either
unfoldable pub is_custom : Bit → Bool
is_custom Zero = false
is_custom Custom = true
is_custom Standard = false

unfoldable pub is_standard : Bit → Bool
is_standard Zero = false
is_standard Custom = false
is_standard Standard = true

unfoldable pub is_one : Bit → Bool
is_one b = is_custom b || is_standard b

-- "all three of 0 is Emergency; .. else M0 to M6 or C0 to C6, the three bits 111 down to 001"
unfoldable pub message_by : Bool → Bool → Bool → Bool → Message
message_by standard true true true = cond standard M0 C0
message_by standard true true false = cond standard M1 C1
message_by standard true false true = cond standard M2 C2
message_by standard true false false = cond standard M3 C3
message_by standard false true true = cond standard M4 C4
message_by standard false true false = cond standard M5 C5
message_by standard false false true = cond standard M6 C6
message_by standard false false false = Emergency

-- "standard and custom mixed is Unknown"
unfoldable pub message_of : Bit → Bit → Bit → Message
message_of x y z =
    cond ((is_standard x || is_standard y || is_standard z) && (is_custom x || is_custom y || is_custom z)) Unknown
    (message_by (is_standard x || is_standard y || is_standard z) (is_one x) (is_one y) (is_one z))

-- three bits by the characters that carry them
abbrev pub bits : Bit → Bit → Bit → List Bit
bits x y z = x ∷ y ∷ z ∷ []

-- the three bits of a message as written; "Unknown is written standard, custom, standard"
unfoldable pub bits_of : Message → List Bit
bits_of M0 = bits Standard Standard Standard
bits_of M1 = bits Standard Standard Zero
bits_of M2 = bits Standard Zero Standard
bits_of M3 = bits Standard Zero Zero
bits_of M4 = bits Zero Standard Standard
bits_of M5 = bits Zero Standard Zero
bits_of M6 = bits Zero Zero Standard
bits_of C0 = bits Custom Custom Custom
bits_of C1 = bits Custom Custom Zero
bits_of C2 = bits Custom Zero Custom
bits_of C3 = bits Custom Zero Zero
bits_of C4 = bits Zero Custom Custom
bits_of C5 = bits Zero Custom Zero
bits_of C6 = bits Zero Zero Custom
bits_of Emergency = bits Zero Zero Zero
bits_of Unknown = bits Standard Custom Standard

-- the messages by number: M0 is 0
unfoldable pub message_number : Message → ℕ
message_number M0 = 0
message_number M1 = 1
message_number M2 = 2
message_number M3 = 3
message_number M4 = 4
message_number M5 = 5
message_number M6 = 6
message_number C0 = 7
message_number C1 = 8
message_number C2 = 9
message_number C3 = 10
message_number C4 = 11
message_number C5 = 12
message_number C6 = 13
message_number Emergency = 14
message_number Unknown = 15

-- the messages in the order of their numbers
abbrev pub messages : List Message
messages = M0 ∷ M1 ∷ M2 ∷ M3 ∷ M4 ∷ M5 ∷ M6 ∷ C0 ∷ C1 ∷ C2 ∷ C3 ∷ C4 ∷ C5 ∷ C6 ∷ Emergency ∷ Unknown ∷ []

-- the message of a number; above the last, Unknown
unfoldable pub message_at : ℕ → Message
message_at n = slice_index_or messages n Unknown

-- the highest number of a message
abbrev pub most_message : ℕ
most_message = 15
