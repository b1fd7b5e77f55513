-- What waits at the queries of the plain engine.
use Rattle.std.specs.Prelude.{ℕ, List, length, map, take, drop}
use Rattle.values.specs.Row.{Row}
use Rattle.reference.specs.Machine.{Registered, Stream, closed_answers}
use Rattle.reference.specs.Places.{machine_of}
use Rattle.reference.specs.Standing.{query_of, waiting_of}
use Rattle.reference.specs.declared.standing.StandingQuery.{StandingQuery}

-- the next of the query's closed answers, behind those that were taken, so many
abbrev pub next_of : List Stream → Registered → ℕ → List (ℕ × Row)
next_of streams q count = take count (drop q.taken (closed_answers (machine_of streams) q))

-- the same of each query, as many as wait there
abbrev pub next_wait : List Stream → List StandingQuery → List (List (ℕ × Row))
next_wait streams queries = map (λ q. next_of streams (query_of q) (length (waiting_of q))) queries
