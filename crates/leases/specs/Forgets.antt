-- What is kept of a stream, and how the rows that stay are found.
use Rattle.std.specs.Prelude.{ℕ, ◌≡◌, ◌+◌, ◌-◌, ◌*◌, ◌^◌, ◌<◌, ◌≤◌, Bool, Option, None, Some}
use Rattle.std.specs.Prelude.{Result, Ok, Err, List, [], length, map, max, min, slice_get, ⊤}
use Rattle.std.specs.List.{sum_by}
use Rattle.std.specs.Option.{option_map_or}
use Rattle.values.specs.Row.{Row}
use Rattle.values.specs.Window.{Element}
use Rattle.reference.specs.Machine.{Machine, Registered, Stream}
use Rattle.reference.specs.Opening.{all_instants, all_restarted, needs_by}
use Rattle.reference.specs.declared.fault.Fault.{Fault}
use Rattle.reference.specs.declared.fault.Fault.TheVariants.{UnknownStream}
use Rattle.op_queue.specs.Logs.{Closed}
use Rattle.stream_store.specs.Closing.{closed_of}
use Rattle.stream_store.specs.declared.starts.Start.{Start}
use Rattle.needed_rows.specs.Columns.{IsRegular}
use Rattle.laws_dataflow.specs.Roots.{below_root}
use Rattle.laws_engine.specs.Engines.{Broken, Dropped, PlainEngine, PlainRemains, Running}
use Rattle.laws_engine.specs.Engines.{answers_in, next_of}
use Rattle.laws_engine.specs.Openings.{marks_by}
use Rattle.leases.specs.Keeping.{AllSay, going_over}
use Rattle.leases.specs.Views.{query_of, remains_of}
use Rattle.leases.specs.declared.registered.Registration.{Registration}
use Rattle.leases.specs.declared.remains.Remains.{Remains}
use Rattle.leases.specs.declared.state.EngineState.{EngineState}
use Rattle.leases.specs.declared.state.forget.Going.{Going}
use Rattle.leases.specs.declared.state.forget.KeptRows.{KeptRows}

-- how many elements the stream of a number has
abbrev pub kept_at : Machine → ℕ → Result ℕ Fault
kept_at m n = option_map_or (λ (s : Stream). Ok (length s.elements)) (slice_get m.streams n)
    (Err UnknownStream)

-- a count, as far as the code counts: at most 2^64 - 1
abbrev pub counted : ℕ → ℕ
counted n = min n (2 ^ 64 - 1)

-- what a forgetting walks over: the rows of all streams, and the queries that were ever registered
abbrev pub walked_in : PlainEngine → ℕ
walked_in e =
    length e.machine.queries + sum_by (λ (s : Stream). length s.elements) e.machine.streams

-- the most that may be stored before it pays to forget, after a forgetting that left so much
abbrev pub most_after : ℕ → ℕ
most_after left = left * 2 + 1024

-- so much is stored that it does not pay to forget
abbrev pub HasNoneToForget : EngineState → Type 0
HasNoneToForget s = s.stored ≤ most_after s.left

-- which elements of the stream of a number some running query needs
abbrev pub needs_in : PlainEngine → ℕ → Element → Bool
needs_in e = needs_by e.machine.streams e.machine.queries (marks_by e.machine.queries e.queries)

-- WHAT STAYS of each stream: the marks of its closed rows, and where its readers begin
abbrev pub said_in : KeptRows → List Bool × List Start
said_in k = (k.marks.items, k.starts.items)

-- it says of all streams, one by one, what is to be kept
pub record Says (keep : ℕ → Element → Bool) (kept : List KeptRows)
    (streams : List Stream) : Type 0 where
  pub many : length kept ≡ length streams
  pub all : AllSay keep (map said_in kept) streams

-- it says so of some rule
abbrev pub IsSaid : List KeptRows → List Stream → Type 0
IsSaid kept streams = (keep : ℕ → Element → Bool) × Says keep kept streams

-- the rows of the stream of a number stand as they came
abbrev pub IsReadIn : Option Stream → Type 0
IsReadIn None = ⊤
IsReadIn (Some s) = IsRegular s

abbrev pub AreReadIn : List Stream → ℕ → Type 0
AreReadIn streams n = IsReadIn (slice_get streams n)

-- the log is what such a stream has closed
abbrev pub IsReadLog : Closed → Type 0
IsReadLog log = (s : Stream) × (IsRegular s × (log ≡ closed_of s))

-- A QUERY HAS ITS MARK: its root is its last operator, and the instant after
-- the mark is no greater than its first one or than all instants are many
abbrev pub IsMarkable : Registered → PlainRemains → Type 0
IsMarkable q (Running p) = (0 < length p.operators)
    × ((below_root q.nodes ≡ length p.operators - 1) × (next_of q p ≤ max q.first all_instants))
IsMarkable q (Broken answers upto) = ⊤
IsMarkable q Dropped = ⊤

abbrev pub AreMarkable : List Registration → List Remains → Type 0
AreMarkable registered remains = (length remains ≡ length registered)
    × ((n : ℕ) (q : Registration) (k : Remains) → slice_get registered n ≡ Some q
    → slice_get remains n ≡ Some k → IsMarkable (query_of q) (remains_of k))

-- THE QUERIES that run, each with the instant after its mark
abbrev pub going_of : Going → Registered × ℕ
going_of g = (query_of g.query.now, g.next)

abbrev pub going_in : List Going → List Registration → List Remains → Type 0
going_in gs registered remains =
    map going_of gs ≡ going_over (map query_of registered)
    (marks_by (map query_of registered) (map remains_of remains))

-- the answers that wait
abbrev pub earlier_in : List Remains → List (List (ℕ × Row))
earlier_in remains = map answers_in (map remains_of remains)

-- the queries as they go on
abbrev pub restarted_by : List Registration → List Remains → List (List (ℕ × Row)) → List Registered
restarted_by registered remains waiting =
    all_restarted (map query_of registered)
    (marks_by (map query_of registered) (map remains_of remains)) waiting

-- a query before any answer that waited
abbrev pub without_earlier : Registered → Registered
without_earlier q = record q { earlier = [] }
