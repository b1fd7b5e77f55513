use Rattle.std.proofs.Common.{arith}
use Rattle.op_queue.specs.Tables.{lists}
use Rattle.op_queue.proofs.MarkLemmas.{kept_columns-set, kept_columns-end, column_long-next}
use Rattle.op_queue.proofs.TableLemmas.{length-lists}
use Rattle.op_queue.proofs.log.keep_columns.Goals as goal

pub keep_values-requires : goal.keep_values-requires
keep_values-requires c =
    column_long-next c.args.kept.now c.loop-k.k (lists c.args.columns.now.items) c.loop-k.columns.items c.index_mut.result.now (omega (arith, c.loop-k.invariant.width, length-lists c.loop-k.columns.items, length-lists c.args.columns.now.items)) c.index_mut.ensures.value c.loop-k.invariant

pub loop-k-preserved : goal.loop-k-preserved
loop-k-preserved c =
    kept_columns-set c.args.kept.now c.loop-k.k (lists c.args.columns.now.items) c.loop-k.columns.items c.index_mut.result.now c.keep_values.new.values (omega (arith, c.loop-k.invariant.width, length-lists c.loop-k.columns.items, length-lists c.args.columns.now.items)) c.index_mut.ensures.value c.keep_values.ensures c.loop-k.invariant

pub returns : goal.returns
returns c =
    kept_columns-end c.args.kept.now c.loop-k.k (lists c.args.columns.now.items) (lists c.loop-k.columns.items) (omega (arith, c.loop-k.invariant.width, length-lists c.loop-k.columns.items, length-lists c.args.columns.now.items)) c.loop-k.invariant
