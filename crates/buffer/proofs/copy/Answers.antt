-- A copy of a whole slice to a place of a buffer: so far the first i bytes are pasted. Assumes nothing.
use Rattle.std.proofs.Common.{ℕ, ◌+◌, ◌<◌, List, length, slice_index_or, slice_set, sym, ◌∙◌, arith}
use mathlib.Core.Path.{ap}
use native.Mathlib.Numerals.{add-one}
use lib.Seq.{paste, paste-suc}
use Rattle.buffer.proofs.copy.Goals as goal

pub loop-i-preserved : goal.loop-i-preserved
loop-i-preserved c = let a = c.args in
    let p : a.at + c.loop-i.i < length a.out.now = omega (arith, c.requires, c.loop-i-test.true) in
    ap (λ (d : List ℕ). slice_set d (a.at + c.loop-i.i) (slice_index_or a.s.now c.loop-i.i 0)) c.loop-i.invariant
    ∙ paste-suc a.out.now a.at a.s.now c.loop-i.i 0 p c.loop-i-test.true
    ∙ ap (λ (k : ℕ). paste a.out.now a.at a.s.now k) (sym (add-one c.loop-i.i))
