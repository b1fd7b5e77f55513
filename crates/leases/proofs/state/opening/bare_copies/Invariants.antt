use Rattle.std.proofs.Common.{◌≡◌, map, take}
use Rattle.leases.specs.Forgets.{without_earlier}
use Rattle.leases.specs.Views.{query_of}
use Rattle.leases.proofs.state.opening.bare_copies.Given as goal

-- the queries before this one are copied
abbrev pub invariant-loop-query : goal.invariant-loop-query
invariant-loop-query l = map query_of l.copies.items ≡ map without_earlier (map query_of (take l.query-index l.registered))
