use Rattle.op_queue.specs.Tables.{column_of, lists}
use Rattle.op_queue.proofs.TableLemmas.{IsLongerTo}
use Rattle.op_queue.proofs.log.append_values.Given as goal

abbrev pub invariant-loop-k : goal.invariant-loop-k
invariant-loop-k l = IsLongerTo l.len (λ k. column_of l.width k l.count l.values) l.k (lists l.initial.columns.items) (lists l.columns.items)
