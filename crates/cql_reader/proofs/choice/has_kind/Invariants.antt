use Rattle.std.proofs.Common.{◌≡◌, drop}
use Rattle.cql_reader.specs.Prediction.{has}
use Rattle.cql_reader.proofs.choice.has_kind.Given as goal

abbrev pub invariant-loop-own : goal.invariant-loop-own
invariant-loop-own l = has (drop l.own-index l.kinds) l.kind ≡ has l.kinds l.kind
