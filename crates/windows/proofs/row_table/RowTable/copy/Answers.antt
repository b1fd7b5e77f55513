use Rattle.std.proofs.Common.{arith, ap, length}
use Rattle.std.proofs.lemmas.List.{length-take}
use Rattle.values.specs.Row.{Row}
use Rattle.windows.proofs.TableLemmas.{row_narrow}
use Rattle.windows.proofs.row_table.RowTable.copy.Goals as goal

pub push-requires : goal.push-requires
push-requires c =
    let s = c.self.inside in
    let narrow = row_narrow s.width s.len c.args.place s.values.items c.args.self.now c.row-value-items.result.now c.self.invariant c.self.view_is c.requires c.row-value-items.ensures in (
      omega arith,
      omega (arith, narrow, ap (λ (r : Row). length r) c.loop-value.invariant, length-take c.loop-value.value-index c.row-value-items.result.now),
    )
