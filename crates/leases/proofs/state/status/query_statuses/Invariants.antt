use Rattle.std.proofs.Common.{◌≡◌, ◌++◌, map}
use Rattle.reference.specs.StatusViews.{query_status_in}
use Rattle.leases.specs.Forgets.{AreMarkable}
use Rattle.leases.proofs.StatusLemmas.{queries_among}
use Rattle.leases.proofs.state.status.query_statuses.Given as goal

-- those that are left have their marks, and with how far they are all have come
abbrev pub invariant-loop-query : goal.invariant-loop-query
invariant-loop-query l =
    AreMarkable l.query-iterator.a.rest.now l.query-iterator.b.rest.now
    × (map query_status_in l.all.items ++ queries_among l.query-iterator.a.rest.now l.query-iterator.b.rest.now ≡ queries_among l.registered l.remains)
