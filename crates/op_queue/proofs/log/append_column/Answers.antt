use Rattle.std.proofs.Common.{arith, take}
use Rattle.op_queue.proofs.TableLemmas.{column_more}
use Rattle.op_queue.proofs.log.append_column.Goals as goal

pub loop-row-preserved : goal.loop-row-preserved
loop-row-preserved c =
    let l = c.loop-row in
    record {
      done = column_more c.args.width c.args.k c.args.count l.row c.args.values.now c.index-values-row.result (take c.args.len c.args.column.now.items) l.column.items c.push_reserved.new.self.items
          c.requires.values c.loop-row-test.true c.requires.column c.index-values-row.is c.push_reserved.ensures.items l.invariant.done;
      room = omega (arith, c.loop-row-test.true, l.invariant.room, c.push_reserved.ensures.len, c.push_reserved.ensures.capacity);
    }
