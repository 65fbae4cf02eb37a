-- The sixteen bytes are the first n and zeros. Assumes nothing.
use Rattle.std.proofs.Common.{rules}
use borrow.Author.Rules.{length_unmapped}
use Rattle.callsign.proofs.Padded.{spare_zeros}
use Rattle.callsign.proofs.is_spare.Goals as goal

pub returns : goal.returns
returns c = search (rules, spare_zeros, length_unmapped)
