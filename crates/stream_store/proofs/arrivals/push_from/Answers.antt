use Rattle.std.proofs.Common.{◌<◌, arith, length}
use Rattle.stream_store.proofs.ArrivalLemmas.{one_value}
use Rattle.stream_store.proofs.arrivals.push_from.Goals as goal

pub loop-place-preserved : goal.loop-place-preserved
loop-place-preserved c =
    let l = c.loop-place in
    let within : l.place < length c.args.list.now.items = omega (arith, c.loop-place-test.true, c.requires.within) in
    record {
      start = omega (arith, l.invariant.start);
      done = one_value c.args.start l.place c.args.list.now.items c.index.result.now c.args.values.now.items l.values.items c.push_reserved.new.self.items l.invariant.start within c.index.ensures c.push_reserved.ensures.items l.invariant.done;
      room = omega (arith, c.loop-place-test.true, l.invariant.room, c.push_reserved.ensures.len, c.push_reserved.ensures.capacity);
    }
