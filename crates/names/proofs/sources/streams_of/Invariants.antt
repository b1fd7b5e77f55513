use Rattle.std.proofs.Common.{◌≡◌, take, map}
use Rattle.std.specs.Option.{unwrap_or}
use Rattle.names.specs.Catalog.{number_in}
use Rattle.cql_reader.specs.Views as syntax
use Rattle.names.proofs.sources.streams_of.Given as goal

abbrev pub invariant-loop-source : goal.invariant-loop-source
invariant-loop-source l = l.streams.items ≡ map (λ s. unwrap_or (number_in l.catalog s.stream) 0) (syntax.sources_of (take l.source-index l.sources))
