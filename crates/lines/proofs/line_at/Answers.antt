-- `line_at`: each answer is the definition's, by the place of the first LF in what stands from the place on.
-- Assumes nothing.
use Rattle.std.proofs.Common.{◌+◌, ◌≤◌, length, arith, rules}
use borrow.Author.Rules.{part_to_end}
use Rattle.lines.proofs.Lines.{no_line, first_inside, first_within, bare_within, last_line_lem, line_ended}
use Rattle.lines.proofs.line_at.Goals as goal

pub returns-then-s-from : goal.returns-then-s-from
returns-then-s-from c = search (rules, no_line)

pub returns-then-n-t : goal.returns-then-n-t
returns-then-n-t c = search (rules, last_line_lem, part_to_end)

pub slice_bounds-length_of-end : goal.slice_bounds-length_of-end
slice_bounds-length_of-end c = search (rules, first_inside, part_to_end)

pub overflow_add-result : goal.overflow_add-result
overflow_add-result c = omega (arith, let within : c.args.from + c.length_of.result ≤ length c.args.s.now = search (rules, bare_within, part_to_end) in within)

pub overflow_add-result-2 : goal.overflow_add-result-2
overflow_add-result-2 c = omega (arith, let within : c.args.from + c.find-n.result ≤ length c.args.s.now = search (rules, first_within, part_to_end) in within)

pub overflow_add-result-3 : goal.overflow_add-result-3
overflow_add-result-3 c = omega (arith, let within : c.args.from + c.find-n.result ≤ length c.args.s.now = search (rules, first_within, part_to_end) in within)

pub returns : goal.returns
returns c = search (rules, line_ended, part_to_end)
