use Rattle.std.proofs.Common.{arith}
use Rattle.stream_store.proofs.FlatLemmas.{one_head}
use Rattle.stream_store.proofs.ordered_rows.push_heads.Goals as goal

pub loop-number-preserved : goal.loop-number-preserved
loop-number-preserved c =
    let l = c.loop-number in
    record {
      start = omega (arith, l.invariant.start);
      done = one_head c.args.instant c.args.first l.number c.new.result c.args.heads.now.items l.heads.items c.push_back_reserved.new.self.items l.invariant.start c.new.ensures.instant c.new.ensures.number c.push_back_reserved.ensures.items l.invariant.done;
      room = omega (arith, c.loop-number-test.true, l.invariant.room, c.push_back_reserved.ensures.len, c.push_back_reserved.ensures.capacity);
    }
