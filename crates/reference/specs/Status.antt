-- TO BELIEVE: the theorem rests on these definitions, and no proof can check them.
-- What anyone may ask of the streams and queries: how far each of them is.
use Rattle.std.specs.Prelude.{ℕ, ℤ, pos, ◌-ℤ◌, Bool, false, cond, List, [], ◌∷◌, length, map}
use Rattle.values.specs.Row.{Row}
use Rattle.reference.specs.Machine.{Machine, Registered, Stream}
use Rattle.reference.specs.World.{World}

-- the last instant before this one, -1 before the first
abbrev pub last_before : ℕ → ℤ
last_before n = pos n -ℤ pos 1

-- a query: its name, the last instant before its first, how many of its answers were ever taken,
-- how many wait, the last instant up to which all its answers were taken or wait, and whether
-- running out of memory broke it
pub record QueryStatus : Type 0 where
  pub name : List ℕ
  pub base : ℤ
  pub taken : ℕ
  pub waiting : ℕ
  pub upto : ℤ
  pub is_broken : Bool

-- a stream: its name, its columns' names, the last instant that is
-- closed, and how many rows were ever appended to it
pub record StreamStatus : Type 0 where
  pub name : List ℕ
  pub columns : List (List ℕ)
  pub closed : ℤ
  pub rows : ℕ

-- the undropped queries and the streams, each in the order of their numbers
pub record Status : Type 0 where
  pub queries : List QueryStatus
  pub streams : List StreamStatus

abbrev pub query_status : Registered → List (ℕ × Row) → ℕ → Bool → QueryStatus
query_status q waiting upto is_broken = record {
  name = q.name;
  base = last_before q.first;
  taken = q.ever_taken;
  waiting = length waiting;
  upto = last_before upto;
  is_broken = is_broken;
}

abbrev pub stream_status : Stream → StreamStatus
stream_status s = record {
  name = s.name;
  columns = s.columns;
  closed = last_before s.first_open;
  rows = s.arrivals;
}

-- of queries, of what waits at them, and of where they are complete up to
abbrev pub queries_status : List Registered → List (List (ℕ × Row)) → List ℕ → List QueryStatus
queries_status [] waiting upto = []
queries_status (q ∷ qs) [] upto = []
queries_status (q ∷ qs) (w ∷ ws) [] = []
queries_status (q ∷ qs) (w ∷ ws) (u ∷ us) =
    cond q.is_dropped (queries_status qs ws us)
    (query_status q w u false ∷ queries_status qs ws us)

-- THE STATUS of a world none of whose queries is broken
unfoldable pub status_of : World → Status
status_of w = record {
  queries = queries_status w.machine.queries w.waiting w.upto;
  streams = map stream_status w.machine.streams;
}
