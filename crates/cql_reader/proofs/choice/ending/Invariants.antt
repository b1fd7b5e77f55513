use Rattle.std.proofs.Common.{◌≡◌, drop, map}
use Rattle.cql_reader.specs.Prediction.{ends, pick}
use Rattle.cql_reader.proofs.choice.ending.Given as goal

abbrev pub invariant-loop-symbols : goal.invariant-loop-symbols
invariant-loop-symbols l = pick ends (map (λ symbols. symbols.now) (drop l.symbols-index l.alternatives)) ≡ pick ends (map (λ symbols. symbols.now) l.alternatives)
