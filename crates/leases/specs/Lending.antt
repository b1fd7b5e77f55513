-- What is lent of a query, to be changed in place.
use Rattle.std.specs.Borrow.{Fml, Lends, MutBor}
use Rattle.laws_queries.specs.Plain.{PlainQuery}
use Rattle.query_runtime.specs.contracts.queries.RunningQuery as query
use Rattle.leases.specs.contracts.remains.Remains.{the_row}
use Rattle.leases.specs.declared.remains.Remains.{Remains}
use Rattle.leases.specs.declared.remains.Remains.TheVariants as code

-- what is left of the query ends as the running query that the caller leaves
abbrev pub LendsRunning : MutBor Remains → MutBor PlainQuery → Fml
LendsRunning remains lent = Lends the_row query.the_row remains lent code.Running
