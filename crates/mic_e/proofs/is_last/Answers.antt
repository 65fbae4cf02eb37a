-- `is_last` tests the class that is refused, and then whether it is a character. Assumes nothing.
use Rattle.std.proofs.Common.{◌≡◌, Bool, true, false, not, ◌&&◌, rules}
use mathlib.Core.Bool.{and-false, and-true}
use Rattle.mic_e.proofs.Classes.{classes}
use Rattle.mic_e.specs.Character.{is_last}
use Rattle.mic_e.proofs.is_last.Goals as goal

refused : (a b : Bool) → b ≡ true → false ≡ (a && not b)
refused a b e = rw (e, and-false a)

left : (u a b : Bool) → u ≡ a → b ≡ false → u ≡ (a && not b)
left u a b e f = rw (e, f, and-true a)

pub returns-then-not-c : goal.returns-then-not-c
unfolding is_last
returns-then-not-c c = search (rules, left, classes)

pub returns-else-not-c : goal.returns-else-not-c
unfolding is_last
returns-else-not-c c = search (rules, refused, classes)
