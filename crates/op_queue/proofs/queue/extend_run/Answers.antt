use Rattle.std.proofs.Common.{◌≡◌, ◌+◌, ◌∙◌, ap, None, refl, arith}
use Rattle.op_queue.specs.Pieces.{end_of}
use Rattle.op_queue.specs.Queues.{run_pieces}
use Rattle.op_queue.proofs.ApartLemmas.{end_of_pieces-at, run_pieces-apart, run_pieces-rows}
use Rattle.op_queue.proofs.RunLemmas.{IsLongerRun-set}
use Rattle.op_queue.proofs.queue.extend_run.Goals as goal
use Rattle.op_queue.proofs.queue.extend_run.Goals.{else-to-first-via-then-to-first+else-first-to-eq1, else-to-first-via-else-to-first}

pub returns-then-first-to-eq1-clause-longer : goal.returns-then-first-to-eq1-clause-longer
returns-then-first-to-eq1-clause-longer c =
    IsLongerRun-set c.args.pieces.now.items _ c.args.first c.args.last c.in-Ticks.from c.in-Ticks.to _ (omega arith) c.index.ensures c.in-Ticks.is (omega arith)

pub returns-in-Rows-clause-apart : goal.returns-in-Rows-clause-apart
returns-in-Rows-clause-apart c =
    ap (λ o. run_pieces o c.args.first) (end_of_pieces-at None c.args.pieces.now.items _ c.index.result.now (omega arith) c.index.ensures ∙ ap end_of c.in-Rows.is)
    ∙ run_pieces-rows c.in-Rows.field-0 c.args.first c.in-Rows.field-1 None refl

pub returns-else-to-first-clause-apart : goal.returns-else-to-first-clause-apart
returns-else-to-first-clause-apart c =
    let other : c.in-Ticks.to + 1 ≡ c.args.first → ⊥ = elim c.else-to-first.branch [
      | else-to-first-via-then-to-first+else-first-to-eq1 w ↦ λ e. omega arith
      | else-to-first-via-else-to-first w ↦ λ e. omega arith
    ] in
    ap (λ o. run_pieces o c.args.first) (end_of_pieces-at None c.args.pieces.now.items _ c.index.result.now (omega arith) c.index.ensures ∙ ap end_of c.in-Ticks.is)
    ∙ run_pieces-apart c.in-Ticks.to c.args.first other
