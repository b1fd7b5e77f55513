use Rattle.std.proofs.Common.{◌≡◌, drop, map}
use Rattle.cql_reader.specs.Prediction.{firsts, pick}
use Rattle.cql_reader.proofs.choice.beginning.Given as goal

abbrev pub invariant-loop-symbols : goal.invariant-loop-symbols
invariant-loop-symbols l = pick (λ ys. firsts ys l.kind) (map (λ symbols. symbols.now) (drop l.symbols-index l.alternatives)) ≡ pick (λ ys. firsts ys l.kind) (map (λ symbols. symbols.now) l.alternatives)
