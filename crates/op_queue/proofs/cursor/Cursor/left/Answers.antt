use Rattle.std.proofs.Common.{ap, ◌∙◌, ◌+◌, sym, drop, slice_range}
use Rattle.op_queue.proofs.BoundLemmas.{drop-slice_range}
use Rattle.op_queue.proofs.cursor.Cursor.left.Goals as goal

pub returns-clause-left : goal.returns-clause-left
returns-clause-left c =
    let es = c.args.log.now.elements in
    let first = c.places-first.result.0 in
    let end = c.places-first.result.1 in
    let passed = c.args.self.now.passed in
    ap (drop passed) c.places-first.ensures.shown
    ∙ drop-slice_range es first end passed c.places-first.ensures.some c.places-first.ensures.within
    ∙ ap (λ k. slice_range es (first + k) end) (sym c.min-passed.ensures)
