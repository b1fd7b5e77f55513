use Rattle.std.proofs.Common.{◌<◌, ◌+◌, ◌∙◌, ap, sym, arith, length, ℕ}
use Rattle.row_bags.proofs.DatedLemmas.{count-least, count-next}
use Rattle.row_bags.proofs.dated_rows.values_of_first.Goals as goal

pub overflow_add-values : goal.overflow_add-values
overflow_add-values c =
    let within : c.loop-place.place < length c.args.heads.now.items = omega (arith, c.loop-place-test.true, c.requires.within) in
    let next = count-next c.loop-place.place c.args.heads.now.items c.index.result.now within c.index.ensures in
    omega (arith, c.loop-place.invariant, next, c.requires.few, count-least (c.loop-place.place + 1) c.args.count c.args.heads.now.items (omega (arith, c.loop-place-test.true)))

pub loop-place-preserved : goal.loop-place-preserved
loop-place-preserved c =
    let within : c.loop-place.place < length c.args.heads.now.items = omega (arith, c.loop-place-test.true, c.requires.within) in
    ap (λ (n : ℕ). n + c.index.result.now.width) c.loop-place.invariant ∙ sym (count-next c.loop-place.place c.args.heads.now.items c.index.result.now within c.index.ensures)
