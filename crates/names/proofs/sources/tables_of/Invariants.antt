use Rattle.std.proofs.Common.{◌≡◌, take}
use Rattle.names.specs.Matches as spec
use Rattle.cql_reader.specs.Views as syntax
use Rattle.names.specs.Views.{tables_of}
use Rattle.names.proofs.sources.tables_of.Given as goal

abbrev pub invariant-loop-source : goal.invariant-loop-source
invariant-loop-source l = tables_of l.tables.items ≡ spec.tables l.catalog (syntax.sources_of (take l.source-index l.sources))
