use Rattle.std.proofs.Common.{◌≡◌, ◌++◌, codes, length}
use Rattle.std.specs.List.{AllByRecursion}
use Rattle.std.specs.Fmt.{signed_decimal}
use Rattle.wire.specs.Printed.{value_text, after_commas}
use Rattle.wire.specs.Usual.{ValueIsShort}
use Rattle.wire.proofs.scan.row.Given as goal

abbrev pub invariant-values : goal.invariant-values
invariant-values l = (l.text ≡ codes "[" ++ signed_decimal l.at ++ after_commas value_text l.values.items ++ l.rest) × AllByRecursion ValueIsShort l.values.items

abbrev pub decreases-values : goal.decreases-values
decreases-values l = length l.rest
