use Rattle.std.proofs.Common.{arith}
use Rattle.stream_store.proofs.FlatLemmas.{one_number}
use Rattle.stream_store.proofs.late_rows.push_numbers.Goals as goal

pub loop-number-preserved : goal.loop-number-preserved
loop-number-preserved c =
    let l = c.loop-number in
    record {
      start = omega (arith, l.invariant.start);
      done = one_number c.args.first l.number c.args.numbers.now.items l.numbers.items c.push_reserved.new.self.items l.invariant.start c.push_reserved.ensures.items l.invariant.done;
      room = omega (arith, c.loop-number-test.true, l.invariant.room, c.push_reserved.ensures.len, c.push_reserved.ensures.capacity);
    }
