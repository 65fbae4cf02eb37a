-- 18, and zeros. Assumes nothing.
use mathlib.Core.Path.{refl}
use Rattle.laws.specs.Lists.{pad_to}
use Rattle.message.specs.Message.{no_addressee, message_refused}
use Rattle.message.proofs.malformed.Goals as goal

pub returns : goal.returns
unfolding message_refused no_addressee pad_to
returns c = refl
