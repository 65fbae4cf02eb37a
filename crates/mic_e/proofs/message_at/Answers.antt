-- `message_at`: what stands in the table at the number, or Unknown. Assumes nothing.
use Rattle.std.proofs.Common.{rules}
use Rattle.std.proofs.lemmas.Option.{unwrap_or-slice_get}
use Rattle.mic_e.specs.Message.{message_at}
use Rattle.mic_e.proofs.message_at.Goals as goal

pub returns : goal.returns
unfolding message_at
returns c = search (rules, unwrap_or-slice_get)
