use Rattle.std.proofs.Common.{◌≡◌, drop, map}
use Rattle.names.specs.Matches as spec
use Rattle.cql_reader.specs.Views as syntax
use Rattle.names.specs.Views.{table_of, verdict_of, both_verdicts}
use Rattle.names.proofs.verdict.judge_within.Given as goal

abbrev pub invariant-loop-reference : goal.invariant-loop-reference
invariant-loop-reference l =
    both_verdicts l.verdict (verdict_of (map (λ r. spec.matches_in 0 r (table_of l.table)) (syntax.references_of (drop l.reference-index l.references))))
    ≡ verdict_of (map (λ r. spec.matches_in 0 r (table_of l.table)) (syntax.references_of l.references))
