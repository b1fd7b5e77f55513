use Rattle.std.proofs.Common.{◌≡◌, drop}
use Rattle.cql_reader.specs.Views as syntax
use Rattle.names.specs.Views.{tables_of, verdict_on, both_verdicts}
use Rattle.names.proofs.verdict.judge_all.Given as goal

abbrev pub invariant-loop-reference : goal.invariant-loop-reference
invariant-loop-reference l =
    both_verdicts l.verdict (verdict_on (tables_of l.tables) (syntax.references_of (drop l.reference-index l.references)))
    ≡ verdict_on (tables_of l.tables) (syntax.references_of l.references)
