use Rattle.std.proofs.Common.{Option, None, ℤ, replicate}
use Rattle.std.proofs.lemmas.List.{length-replicate}
use Rattle.row_bags.proofs.KeyLemmas.{filled-next}
use Rattle.row_bags.proofs.key.RowKey.of.Goals as goal

pub loop-place-preserved : goal.loop-place-preserved
loop-place-preserved g c =
    let null : Option ℤ = None in
    rw c.value_at.ensures (filled-next c.args.row.now.items (replicate g.row.N null) c.loop-place.values c.loop-place.place g.row.N c.requires.fits (length-replicate g.row.N null) c.loop-place-test.true c.loop-place.invariant)
