-- `next`: a line lies in the capture, and the next one starts behind its place.
-- Assumes nothing.
use Rattle.std.proofs.Common.{◌≡◌, ℕ, List, Some, arith, rules, sym, ◌∙◌}
use Rattle.std.specs.declared.option.Option.{Option}
use Rattle.lines.specs.declared.Line.{Line}
use Rattle.lines.specs.Lines.{line_at}
use Rattle.lines.proofs.Walk.{Ahead, ahead}
use Rattle.stream.proofs.capture.CaptureIterator.next.Goals as goal

-- where the line lies in the capture
here : {s : List ℕ} {at : ℕ} {line : Line} {r : Option Line}
    → r ≡ line_at s at → r ≡ Some line → Ahead s at line.start line.end line.next
here e is = ahead _ _ _ _ _ (sym e ∙ is)

pub slice_bounds-result-count : goal.slice_bounds-result-count
slice_bounds-result-count c = omega (arith, here c.line_at.ensures c.in_ok-line.was)

pub slice_bounds-result-start : goal.slice_bounds-result-start
slice_bounds-result-start c = omega (arith, here c.line_at.ensures c.in_ok-line.was)

pub slice_bounds-result-end : goal.slice_bounds-result-end
slice_bounds-result-end c = omega (arith, here c.line_at.ensures c.in_ok-line.was)

pub returns-clause-goes : goal.returns-clause-goes
returns-clause-goes c =
    let h = here c.line_at.ensures c.in_ok-line.was in
    record { on = λ _. search (rules, h); keeps = search rules; rests = search rules }
