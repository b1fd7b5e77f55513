use Rattle.std.proofs.Common.{◌≡◌, drop, map, flat_map}
use Rattle.cql_reader.specs.Views as syntax
use Rattle.names.specs.Resolved.{named_by}
use Rattle.names.specs.Views.{tables_of, verdict_on, both_verdicts}
use Rattle.names.proofs.verdict.judge_entries.Given as goal

abbrev pub invariant-loop-entry : goal.invariant-loop-entry
invariant-loop-entry l =
    both_verdicts l.verdict (verdict_on (tables_of l.tables) (flat_map named_by (map syntax.entry_of (drop l.entry-index l.entries))))
    ≡ verdict_on (tables_of l.tables) (flat_map named_by (map syntax.entry_of l.entries))
