use Rattle.std.proofs.Common.{◌≡◌, ◌++◌, length}
use Rattle.std.specs.List.{AllByRecursion}
use Rattle.wire.specs.Usual.{RowIsShort, before_commas}
use Rattle.wire.specs.Printed.{row_text}
use Rattle.wire.proofs.scan.rows.Given as goal

abbrev pub invariant-rows : goal.invariant-rows
invariant-rows l = (l.text ≡ before_commas row_text l.rows ++ l.rest) × AllByRecursion RowIsShort l.rows

abbrev pub decreases-rows : goal.decreases-rows
decreases-rows l = length l.rest
