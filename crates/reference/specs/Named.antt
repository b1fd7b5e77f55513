-- The names that tables find, by the numbers of the streams and the queries.
use Rattle.std.specs.Prelude.{ℕ, cond, List, Option, Some, None}
use Rattle.reference.specs.Machine as machine
use Rattle.reference.specs.Standing.{query_of}
use Rattle.reference.specs.declared.standing.StandingQuery.{StandingQuery}

abbrev pub stream_name : machine.Stream → Option (List ℕ)
stream_name s = Some s.name

-- a dropped query's name is free
abbrev pub name_of_registered : machine.Registered → Option (List ℕ)
name_of_registered q = cond q.is_dropped None (Some q.name)

abbrev pub query_name : StandingQuery → Option (List ℕ)
query_name q = name_of_registered (query_of q)
