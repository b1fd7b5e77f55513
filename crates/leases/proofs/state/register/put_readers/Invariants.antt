use Rattle.std.proofs.Common.{◌≡◌, ◌++◌, drop}
use Rattle.leases.specs.ByStream.{but_query}
use Rattle.leases.specs.Readers.{windows_from}
use Rattle.leases.specs.Views.{query_of}
use Rattle.leases.proofs.state.register.put_readers.Given as goal

-- with the windows among the operators that are left all have come, and the others' are as before
abbrev pub invariant-loop-operator : goal.invariant-loop-operator
invariant-loop-operator l = record {
  come : l.readers ++ windows_from (query_of l.query) l.number l.operator (drop l.operator (query_of l.query).nodes)
      ≡ l.fn.readers ++ windows_from (query_of l.query) l.number 0 (query_of l.query).nodes;
  others : but_query l.number l.readers ≡ but_query l.number l.fn.readers;
}
