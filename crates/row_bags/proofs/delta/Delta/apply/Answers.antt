use Rattle.std.proofs.Common.{◌∙◌, sym, ap, Bool, true, [], get_or, arith}
use Rattle.std.proofs.lemmas.List.Sums.{fold_more}
use Rattle.values.specs.Row.{Row}
use Rattle.row_bags.specs.Deltas.{PlainDelta, delta_after}
use Rattle.row_bags.proofs.delta.Delta.apply.Goals as goal

pub loop-place-preserved : goal.loop-place-preserved
loop-place-preserved c =
    let s : Bool × Row = get_or c.args.batch.now c.loop-place.place (true, []) in
    c.in_ok-apply_at.ensures.ok
    ∙ ap (λ (n : PlainDelta). delta_after n s) c.loop-place.invariant
    ∙ sym (fold_more delta_after c.args.self.now c.args.batch.now c.loop-place.place (true, []) (omega arith))
