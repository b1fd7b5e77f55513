use Rattle.std.proofs.Common.{◌≡◌, drop}
use Rattle.cql_reader.specs.Prediction.{ends}
use Rattle.cql_reader.proofs.choice.may_be_empty.Given as goal

abbrev pub invariant-loop-symbol : goal.invariant-loop-symbol
invariant-loop-symbol l = ends (drop l.symbol-index l.symbols) ≡ ends l.symbols
