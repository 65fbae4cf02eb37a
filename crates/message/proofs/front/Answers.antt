-- The nine bytes, and the colon. Assumes nothing.
use Rattle.message.specs.Message.{addressee_text}
use Rattle.message.proofs.front.Goals as goal

pub returns : goal.returns
unfolding addressee_text
returns c = rw c.copy_from_slice.ensures.after
