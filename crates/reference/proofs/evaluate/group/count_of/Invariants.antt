use Rattle.std.proofs.Common.{◌≡◌, ◌≤◌, take, length}
use Rattle.values.specs.Relation as relations
use Rattle.reference.specs.Views.{tables_of}
use Rattle.values.specs.Resolved.{column_of}
use Rattle.reference.proofs.evaluate.group.count_of.Given as goal

abbrev pub invariant-loop-rows : goal.invariant-loop-rows
invariant-loop-rows l =
    (l.count ≤ l.rows-index) × (l.count ≡ length (relations.numbers (column_of l.column) (tables_of (take l.rows-index l.group))))
