use Rattle.std.proofs.Common.{◌≡◌, drop}
use Rattle.cql_reader.specs.Views as syntax
use Rattle.names.specs.Views.{tables_of, verdict_of, both_verdicts, partitions_in}
use Rattle.names.proofs.verdict.judge_windows.Given as goal

abbrev pub invariant-loop-i : goal.invariant-loop-i
invariant-loop-i l =
    both_verdicts l.verdict (verdict_of (partitions_in (tables_of (drop l.i l.tables)) (syntax.sources_of (drop l.i l.sources))))
    ≡ verdict_of (partitions_in (tables_of l.tables) (syntax.sources_of l.sources))
