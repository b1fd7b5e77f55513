use Rattle.std.proofs.Common.{◌≡◌, ◌++◌, drop, map}
use Rattle.reference.specs.Standing.{query_of, upto_of, waiting_of}
use Rattle.reference.specs.Status.{queries_status}
use Rattle.reference.specs.StatusViews.{query_status_in}
use Rattle.reference.proofs.plain.looks.queries_status.Given as goal

-- what is said so far, and then what is to be said of the rest, is all
abbrev pub invariant-loop-query : goal.invariant-loop-query
invariant-loop-query l =
    map query_status_in l.all.items ++ queries_status (map query_of (drop l.query-index l.queries)) (map waiting_of (drop l.query-index l.queries)) (map upto_of (drop l.query-index l.queries))
    ≡ queries_status (map query_of l.queries) (map waiting_of l.queries) (map upto_of l.queries)
