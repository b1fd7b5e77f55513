use Rattle.std.proofs.Common.{◌≡◌, ◌++◌, map}
use Rattle.values.specs.Resolved.{window_of}
use Rattle.needed_rows.specs.Needed.{readers_in}
use Rattle.needed_rows.specs.Queries.{readers_of}
use Rattle.leases.specs.Views.{place_of, query_of}
use Rattle.leases.proofs.state.forget.push_readers.Given as goal

-- with the sources that are left all have come
abbrev pub invariant-loop-place : goal.invariant-loop-place
invariant-loop-place l =
    readers_in l.readers.items ++ readers_of l.stream (query_of l.query) l.next (map window_of l.place-iterator.b.rest.now) (map place_of l.place-iterator.a.rest.now)
    ≡ readers_in l.fn.readers.items ++ readers_of l.stream (query_of l.query) l.next (query_of l.query).meaning.windows (query_of l.query).places
