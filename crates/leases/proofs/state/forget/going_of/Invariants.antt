use Rattle.std.proofs.Common.{◌≡◌, ◌++◌, map}
use Rattle.laws_engine.specs.Openings.{marks_by}
use Rattle.leases.specs.Forgets.{AreMarkable, going_of}
use Rattle.leases.specs.Keeping.{going_over}
use Rattle.leases.specs.Views.{query_of, remains_of}
use Rattle.leases.proofs.state.forget.going_of.Given as goal

-- those that are left have their marks, and with those of them that run all have come
abbrev pub invariant-loop-query : goal.invariant-loop-query
invariant-loop-query l =
    AreMarkable l.query-iterator.a.rest.now l.query-iterator.b.rest.now
    × (map going_of l.going.items ++ going_over (map query_of l.query-iterator.a.rest.now) (marks_by (map query_of l.query-iterator.a.rest.now) (map remains_of l.query-iterator.b.rest.now))
    ≡ going_over (map query_of l.registered) (marks_by (map query_of l.registered) (map remains_of l.remains)))
