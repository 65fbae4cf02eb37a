-- `write` answers by the buffer's room: 16 and nothing changed, or the bytes at its front. Assumes nothing.
use mathlib.Core.Path.{◌≡◌, refl, ◌∙◌}
use mathlib.Core.List.{List}
use Prim.Native.Nat.{ℕ, ◌<◌, ◌≤◌}
use lib.ListN.{length}
use lib.Seq.{paste}
use Rattle.buffer.specs.declared.Answer.{Answer}
use Rattle.buffer.specs.Wrote.{ends, no_room, done_by, wrote}
use Rattle.buffer.proofs.Wrote.{no_room_lem, writes, put_first}
use borrow.Author.Rules.{rules}
use Rattle.buffer.proofs.write.Goals as goal

short : (r : Answer) (bytes out : List ℕ) → r ≡ no_room (length bytes) → length out < length bytes → ends r out ≡ wrote 0 bytes out
short r bytes out e h = rw e (no_room_lem 0 (length bytes) bytes out refl refl h)

fits : (r : Answer) (bytes out out' : List ℕ) → r ≡ done_by (length bytes) → length bytes ≤ length out → out' ≡ paste out 0 bytes (length bytes) → ends r out' ≡ wrote 0 bytes out
fits r bytes out out' e h w = rw e (writes 0 (length bytes) bytes out out' refl refl h (w ∙ put_first out bytes))

pub returns-then-out-n : goal.returns-then-out-n
returns-then-out-n c = search (rules, short)

pub returns : goal.returns
returns c = search (rules, fits)
