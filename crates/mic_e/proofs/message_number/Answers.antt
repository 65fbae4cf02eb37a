-- `message_number`: a message's number is its place among the variants. Assumes nothing.
use Rattle.std.proofs.Common.{◌≡◌, refl}
use denote.Enum.Declared.{tag_of}
use Rattle.mic_e.specs.Message.{message_number}
use Rattle.mic_e.specs.contracts.Message.{the_type}
use Rattle.mic_e.specs.declared.Message.{Message}
use Rattle.mic_e.specs.declared.Message.TheVariants.{M0, M1, M2, M3, M4, M5, M6, C0, C1, C2, C3, C4, C5, C6, Emergency, Unknown}
use Rattle.mic_e.proofs.message_number.Goals as goal

tag_is : (m : Message) → tag_of the_type m ≡ message_number m
unfolding message_number
tag_is M0 = refl
tag_is M1 = refl
tag_is M2 = refl
tag_is M3 = refl
tag_is M4 = refl
tag_is M5 = refl
tag_is M6 = refl
tag_is C0 = refl
tag_is C1 = refl
tag_is C2 = refl
tag_is C3 = refl
tag_is C4 = refl
tag_is C5 = refl
tag_is C6 = refl
tag_is Emergency = refl
tag_is Unknown = refl

pub returns : goal.returns
returns c = tag_is c.args.m
