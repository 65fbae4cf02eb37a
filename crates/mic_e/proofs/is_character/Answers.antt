-- `is_character` tests the three classes in order. Assumes nothing.
use Rattle.std.proofs.Common.{rules}
use Rattle.laws.specs.Bytes.{within}
use Rattle.laws.proofs.Picks.{choices}
use Rattle.mic_e.proofs.Classes.{classes}
use Rattle.mic_e.specs.Character.{is_character}
use Rattle.mic_e.proofs.is_character.Goals as goal

pub returns-then-c-lt12 : goal.returns-then-c-lt12
unfolding is_character
returns-then-c-lt12 c = search (rules, choices, classes) depth 24

pub returns-else-c-lt12 : goal.returns-else-c-lt12
unfolding is_character within
returns-else-c-lt12 c = search (rules, choices, classes) depth 24
