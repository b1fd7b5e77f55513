use Rattle.std.proofs.Common.{arith}
use Rattle.leases.specs.ByStream.{lists}
use Rattle.leases.proofs.ByStreamLemmas.{many_lists, one_forgotten}
use Rattle.leases.proofs.readers.forget_in_each.Goals as goal

pub loop-place-preserved : goal.loop-place-preserved
loop-place-preserved c =
    one_forgotten c.args.query c.loop-place.place (lists c.args.by_stream.now.items) c.loop-place.by_stream.items c.index_mut.result.now c.forget_in.new.readers
    (omega (arith, c.loop-place-test.true, c.loop-place.invariant.width, many_lists c.loop-place.by_stream.items, many_lists c.args.by_stream.now.items)) c.index_mut.ensures.value c.forget_in.ensures c.loop-place.invariant
