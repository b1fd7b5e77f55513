use Rattle.std.proofs.Common.{◌≡◌, take, filter}
use Rattle.values.specs.Row.{same_row}
use Rattle.values.specs.Relation as relations
use Rattle.reference.specs.Views.{tables_of}
use Rattle.values.specs.Resolved.{columns_of}
use Rattle.reference.proofs.evaluate.group.members.Given as goal

abbrev pub invariant-loop-combination : goal.invariant-loop-combination
invariant-loop-combination l =
    tables_of l.chosen.items
    ≡ filter (λ rows. same_row l.key.items (relations.key_of (columns_of l.by) rows)) (tables_of (take l.combination-index l.all))
