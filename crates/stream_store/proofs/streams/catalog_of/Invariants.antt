use Rattle.std.proofs.Common.{◌≡◌, ◌≤◌, take, length}
use Rattle.std.specs.List.{AllByRecursion}
use Rattle.reference.specs.Commands.{catalog_of}
use Rattle.stream_store.proofs.streams.catalog_of.Given as goal

abbrev pub invariant-loop-stream : goal.invariant-loop-stream
invariant-loop-stream l = record {
  catalog : l.catalog ≡ catalog_of (take l.stream-index l.streams);
  few : AllByRecursion (λ s. length s.columns ≤ 8) l.catalog;
}
