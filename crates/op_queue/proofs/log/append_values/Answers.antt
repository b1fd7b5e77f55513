use Rattle.std.proofs.Common.{arith}
use Rattle.op_queue.specs.Tables.{column_of, lists}
use Rattle.op_queue.proofs.TableLemmas.{IsLongerTo-column, KeepsFirst-column, length-lists}
use Rattle.op_queue.proofs.log.append_values.Goals as goal

pub returns-in_err-append_column-clause-same : goal.returns-in_err-append_column-clause-same
returns-in_err-append_column-clause-same c =
    KeepsFirst-column c.args.len c.loop-k.k (lists c.args.columns.now.items) c.loop-k.columns.items c.index_mut.result.now c.append_column.new.column (omega (arith, c.loop-k.invariant.kept.width, length-lists c.loop-k.columns.items, length-lists c.args.columns.now.items)) c.index_mut.ensures.value c.loop-k.invariant.kept c.in_err-append_column.ensures.same

pub loop-k-preserved : goal.loop-k-preserved
loop-k-preserved c =
    IsLongerTo-column c.args.len c.loop-k.k (λ k. column_of c.len-width.result k c.args.count c.args.values.now) (lists c.args.columns.now.items) c.loop-k.columns.items c.index_mut.result.now c.append_column.new.column (omega (arith, c.loop-k.invariant.kept.width, length-lists c.loop-k.columns.items, length-lists c.args.columns.now.items)) c.index_mut.ensures.value c.loop-k.invariant c.in_ok-append_column.ensures.same c.in_ok-append_column.ensures.more
