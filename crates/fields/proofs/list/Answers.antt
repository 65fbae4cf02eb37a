-- `list`: the fields fit the buffer that they are found in, and what the writer answers is the list's. Assumes nothing.
use Rattle.std.proofs.Common.{◌≡◌, replicate, ◌∙◌}
use Rattle.buffer.specs.Filled.{filled, added}
use Rattle.fields.specs.Each.{all_fields, flat}
use Rattle.fields.proofs.Answers.{found_count, found_bytes, counted, short}
use Rattle.fields.proofs.list.Goals as goal

pub returns-then-answer-eq0 : goal.returns-then-answer-eq0
returns-then-answer-eq0 g c =
    let fields = all_fields (g.T.Target.hits c.args.t.now) in
    let e : filled c.fill.new.out.bytes.now c.fill.new.out.len ≡ added (filled (replicate 108 0) 0) (flat fields) = rw c.new-found.ensures.value at c.fill.ensures.value in
    counted fields _ _ _ _ _ (found_count _ _ _ c.requires e) (c.written.ensures ∙ found_bytes _ _ _ c.requires e) c.write-answer.ensures c.if-answer-eq0.true _ c.done.ensures

pub returns-else-answer-eq0 : goal.returns-else-answer-eq0
returns-else-answer-eq0 g c =
    let fields = all_fields (g.T.Target.hits c.args.t.now) in
    let e : filled c.fill.new.out.bytes.now c.fill.new.out.len ≡ added (filled (replicate 108 0) 0) (flat fields) = rw c.new-found.ensures.value at c.fill.ensures.value in
    short fields _ _ _ _ _ (found_count _ _ _ c.requires e) (c.written.ensures ∙ found_bytes _ _ _ c.requires e) c.write-answer.ensures c.if-answer-eq0.false
