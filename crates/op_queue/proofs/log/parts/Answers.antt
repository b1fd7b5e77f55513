use Rattle.op_queue.proofs.TableLemmas.{column_long}
use Rattle.op_queue.proofs.log.parts.Goals as goal

pub part-requires-clause-within : goal.part-requires-clause-within
part-requires-clause-within c =
    rw c.deref.ensures.value (column_long c.args.columns.now c.args.to c.loop-column.column-index c.column-item.result c.requires.within c.loop-column-test.true c.column-item.is)
