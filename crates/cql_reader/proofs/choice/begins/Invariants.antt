use Rattle.std.proofs.Common.{◌≡◌, drop}
use Rattle.cql_reader.specs.Prediction.{firsts}
use Rattle.cql_reader.proofs.choice.begins.Given as goal

abbrev pub invariant-loop-symbol : goal.invariant-loop-symbol
invariant-loop-symbol l = firsts (drop l.symbol-index l.symbols) l.kind ≡ firsts l.symbols l.kind
