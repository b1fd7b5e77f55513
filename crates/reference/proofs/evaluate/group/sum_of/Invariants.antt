use Rattle.std.proofs.Common.{◌≡◌, ◌*◌, ◌^◌, take, ◌+ℤ◌}
use Rattle.std.specs.List.{reduce}
use Rattle.values.specs.Relation as relations
use Rattle.reference.specs.Views.{tables_of}
use Rattle.values.specs.Resolved.{column_of}
use Rattle.reference.specs.Totals.{IsWithin}
use Rattle.reference.proofs.evaluate.group.sum_of.Given as goal

abbrev pub invariant-loop-rows : goal.invariant-loop-rows
invariant-loop-rows l =
    (l.total ≡ reduce ◌+ℤ◌ (relations.numbers (column_of l.column) (tables_of (take l.rows-index l.group)))) × IsWithin (l.rows-index * 2 ^ 63) l.total
