use Rattle.std.proofs.Common.{◌≡◌, ◌++◌, drop, map}
use Rattle.values.specs.Resolved.{window_of}
use Rattle.cql_reader.specs.Views as syntax
use Rattle.names.specs.Views.{tables_of, windows_in}
use Rattle.names.proofs.sources.windows_of.Given as goal

abbrev pub invariant-loop-i : goal.invariant-loop-i
invariant-loop-i l =
    map window_of l.windows.items ++ windows_in (tables_of (drop l.i l.tables)) (syntax.sources_of (drop l.i l.sources))
    ≡ windows_in (tables_of l.tables) (syntax.sources_of l.sources)
