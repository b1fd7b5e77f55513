use Rattle.std.proofs.Common.{◌∙◌, ap, arith, get_or, length, sym, None, List, Bool}
use Rattle.values.specs.Row.{Row}
use Rattle.windows.proofs.FallenLemmas.{before_more, minus_none, minus_some}
use Rattle.windows.proofs.fallen_rows.FallenRows.count_before.Goals as goal
use Rattle.windows.proofs.fallen_rows.FallenRows.count_before.Goals.{then-falls, else-falls}

pub loop-before-preserved : goal.loop-before-preserved
loop-before-preserved c =
    let f = get_or c.args.self.now c.loop-before.before None in
    let more = before_more c.args.self.now c.loop-before.before (omega (arith, c.requires, c.loop-before-test.true)) in
    elim c.if-falls.branch [
      | then-falls w ↦
          record {
            count = omega (arith, w.count-is, more, minus_some f (sym c.falls.ensures ∙ w.if-falls.true), c.loop-before.invariant.count);
            few = omega (arith, w.count-is, c.loop-before.invariant.few);
          }
      | else-falls w ↦
          record {
            count = omega (arith, w.count-is, more, ap (λ (rs : List (Bool × Row)). length rs) (minus_none f (sym c.falls.ensures ∙ w.if-falls.false)), c.loop-before.invariant.count);
            few = omega (arith, w.count-is, c.loop-before.invariant.few);
          }
    ]
