use Rattle.op_queue.proofs.BeginLemmas.{at_once-rows, at_once-ticks}
use Rattle.op_queue.proofs.FrontLemmas.{IsFrontPart-rows, IsFrontPart-tick, cut-rows, cut-tick}
use Rattle.op_queue.proofs.queue.Piece.cut.Goals as goal

pub returns-in_ok-part-in-Rows-clause-part : goal.returns-in_ok-part-in-Rows-clause-part
returns-in_ok-part-in-Rows-clause-part c =
    rw c.in-Rows.is
    (IsFrontPart-rows c.in-Rows.at c.in-Rows.batch c.in_ok-part-in-Rows.part c.args.taken c.min-rows.result c.args.count (rw c.in-Rows.is at c.requires.part) (rw c.len.ensures.value at c.min-rows.ensures) c.requires.some c.in_ok-part-in-Rows.ensures)

pub returns-in_ok-part-in-Rows-clause-value : goal.returns-in_ok-part-in-Rows-clause-value
returns-in_ok-part-in-Rows-clause-value c =
    rw c.in-Rows.is
    (rw (at_once-rows c.in-Rows.at c.args.taken c.in-Rows.batch (rw c.in-Rows.is at c.requires.part))
    (cut-rows c.in-Rows.at c.in-Rows.batch c.in_ok-part-in-Rows.part c.args.taken c.min-rows.result c.args.count (rw c.in-Rows.is at c.requires.part) (rw c.len.ensures.value at c.min-rows.ensures) c.in_ok-part-in-Rows.ensures))

pub returns-in-Ticks-clause-part : goal.returns-in-Ticks-clause-part
returns-in-Ticks-clause-part c =
    rw c.in-Ticks.is
    (IsFrontPart-tick c.in-Ticks.first c.in-Ticks.field-1 c.args.taken c.args.count (rw c.in-Ticks.is at c.requires.part) c.requires.some)

pub returns-in-Ticks-clause-value : goal.returns-in-Ticks-clause-value
returns-in-Ticks-clause-value c =
    rw c.in-Ticks.is
    (rw (at_once-ticks c.in-Ticks.first c.in-Ticks.field-1 c.args.taken (rw c.in-Ticks.is at c.requires.part))
    (cut-tick c.in-Ticks.first c.in-Ticks.field-1 c.args.taken c.args.count (rw c.in-Ticks.is at c.requires.part) c.requires.some))
