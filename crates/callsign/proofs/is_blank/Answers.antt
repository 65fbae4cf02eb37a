-- Two lengths of zero, and nothing but zeros behind them. Assumes nothing.
use Rattle.std.proofs.Common.{⊎_elim, rules}
use borrow.Author.Rules.{length_unmapped}
use Rattle.laws.proofs.Picks.{picks}
use Rattle.callsign.specs.Range.{is_blank_call}
use Rattle.callsign.proofs.Padded.{all_zeros}
use Rattle.callsign.proofs.is_blank.Goals as goal

pub returns-then-c-eq0-2 : goal.returns-then-c-eq0-2
unfolding is_blank_call
returns-then-c-eq0-2 c = let h = c.if-c-eq0-2.true.0 in let k = c.if-c-eq0-2.true.1 in search (rules, picks, all_zeros, length_unmapped)

pub returns-else-c-eq0-2 : goal.returns-else-c-eq0-2
unfolding is_blank_call
returns-else-c-eq0-2 c = ⊎_elim (λ h. let k = h.0 in let m = h.1 in search (rules, picks)) (λ h. search (rules, picks)) c.if-c-eq0-2.either
