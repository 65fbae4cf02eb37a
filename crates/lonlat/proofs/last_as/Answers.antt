-- `last_as`: what stands before the last n bytes stays, and those are filled. Assumes nothing.
use Rattle.std.proofs.Common.{rules}
use Rattle.lonlat.proofs.Digits.{last_filled}
use Rattle.lonlat.proofs.last_as.Goals as goal

pub returns : goal.returns
returns c = last_filled c.args.b c.args.n c.args.t.now c.requires c.fill.new.self _ (c.fill.ensures.after (λ y e. e)) (search rules)
