-- `message_of`: no bit is standard, none is custom, or both kinds are there. Assumes nothing.
use Rattle.mic_e.proofs.Messages.{three_most, three_below, none_standard, none_custom, some_of_both}
use Rattle.std.proofs.Common.{rules}
use Rattle.mic_e.specs.Private.{is_bit}
use Rattle.mic_e.proofs.message_of.Goals as goal

pub overflow_sub-custom : goal.overflow_sub-custom
overflow_sub-custom c = search (rules, three_below)

pub returns-then-standard-eq0 : goal.returns-then-standard-eq0
unfolding is_bit
returns-then-standard-eq0 c = search (rules, none_standard)

pub overflow_sub-standard : goal.overflow_sub-standard
overflow_sub-standard c = search (rules, three_most)

pub returns-then-custom-eq0 : goal.returns-then-custom-eq0
unfolding is_bit
returns-then-custom-eq0 c = search (rules, none_custom)

pub returns-else-custom-eq0 : goal.returns-else-custom-eq0
unfolding is_bit
returns-else-custom-eq0 c = search (rules, some_of_both)
