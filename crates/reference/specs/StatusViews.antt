-- TO BELIEVE: the theorem rests on these definitions, and no proof can check them.
-- What the code answers of streams and queries, as what is defined of them.
use Rattle.std.specs.Prelude.{map, string_bytes}
use Rattle.cql_reader.specs.Names.{name_of}
use Rattle.names.specs.Names.{names_of}
use Rattle.reference.specs.Status as defined
use Rattle.reference.specs.declared.status.QueryStatus.{QueryStatus}
use Rattle.reference.specs.declared.status.StreamStatus.{StreamStatus}
use Rattle.reference.specs.declared.status.Status.{Status}

abbrev pub query_status_in : QueryStatus → defined.QueryStatus
query_status_in q = record {
  name = string_bytes q.name;
  base = q.base;
  taken = q.taken;
  waiting = q.waiting;
  upto = q.upto;
  is_broken = q.is_broken;
}

abbrev pub stream_status_in : StreamStatus → defined.StreamStatus
stream_status_in s = record {
  name = name_of s.name;
  columns = names_of s.columns.items;
  closed = s.closed;
  rows = s.rows;
}

abbrev pub status_in : Status → defined.Status
status_in s = record {
  queries = map query_status_in s.queries.items;
  streams = map stream_status_in s.streams.items;
}
