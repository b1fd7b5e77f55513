use Rattle.op_queue.specs.Tables.{lists}
use Rattle.op_queue.proofs.MarkLemmas.{AreKeptTo}
use Rattle.op_queue.proofs.log.keep_columns.Given as goal

abbrev pub invariant-loop-k : goal.invariant-loop-k
invariant-loop-k l = AreKeptTo l.kept l.k (lists l.initial.columns.items) (lists l.columns.items)
