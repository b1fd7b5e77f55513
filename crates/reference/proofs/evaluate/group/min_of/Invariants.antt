use Rattle.std.proofs.Common.{◌≡◌, take}
use Rattle.std.specs.List.{reduce}
use Rattle.std.specs.Int.{int_min}
use Rattle.values.specs.Relation as relations
use Rattle.reference.specs.Views.{tables_of}
use Rattle.values.specs.Resolved.{column_of}
use Rattle.reference.proofs.evaluate.group.min_of.Given as goal

abbrev pub invariant-loop-rows : goal.invariant-loop-rows
invariant-loop-rows l = l.least ≡ reduce int_min (relations.numbers (column_of l.column) (tables_of (take l.rows-index l.group)))
