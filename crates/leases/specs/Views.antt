-- The engine of the code as a plain value.
use Rattle.std.specs.Arc.{arc_value}
use Rattle.std.specs.Prelude.{ℕ, ◌≡◌, Option, Some, None, List, [], length, map, string_bytes}
use Rattle.values.specs.Resolved.{resolved_of}
use Rattle.turn.specs.declared.turns.Turn.{Turn}
use Rattle.plan.specs.Views.{nodes_of}
use Rattle.reference.specs.Machine as machine
use Rattle.reference.specs.Machine.{Registered, Stream, empty}
use Rattle.laws_queries.specs.Plain.{PlainQuery, operator_at}
use Rattle.run_queue.specs.declared.slots.Slot.{Slot}
use Rattle.laws_engine.specs.Engines.{Broken, Dropped, Lease, PlainEngine, PlainRemains, Running}
use Rattle.laws_engine.specs.Engines.{answers_in, remains_at}
use Rattle.leases.specs.declared.remains.Remains.{Remains}
use Rattle.leases.specs.declared.remains.Remains.TheVariants as code
use Rattle.leases.specs.declared.registered.SourcePlace.{SourcePlace}
use Rattle.leases.specs.declared.registered.Registration.{Registration}

-- a source's place
abbrev pub place_of : SourcePlace → machine.Place
place_of p = record { stream = p.stream; arrivals = p.arrivals }

-- what is left of a query
abbrev pub remains_of : Remains → PlainRemains
remains_of (code.Running p) = Running p
remains_of (code.Broken answers reach) = Broken answers reach.next
remains_of code.Dropped = Dropped

-- a registered query; the answers that waited when
-- rows were last forgotten are known to the proof alone
abbrev pub query_of : Registration → Registered
query_of r = record {
  name = string_bytes r.name;
  meaning = resolved_of (arc_value r.plan).meaning;
  nodes = nodes_of (arc_value r.plan).nodes.items;
  measures = (arc_value r.plan).measures.items;
  places = map place_of r.places.items;
  first = r.first;
  start = r.start;
  earlier = answers_in (remains_of r.before.value);
  taken = r.taken;
  ever_taken = r.ever_taken;
  is_dropped = r.is_dropped;
}

-- a turn that is out; what its operator does is known of the operator
abbrev pub lease_of : Turn → Lease
lease_of t = record {
  number = t.lease;
  query = t.node.query;
  operator = t.node.operator;
  side = t.node.side;
  item = t.item;
  excerpt = t.near;
}

abbrev pub engine_of : List Stream → List Registration → List Remains → List Turn → ℕ → List Slot
    → PlainEngine
engine_of streams registered remains leases next slots = record {
  machine = record { streams = streams; queries = map query_of registered };
  queries = map remains_of remains;
  leases = map lease_of leases;
  next = next;
  slots = slots;
}

-- a turn that is out does what its operator does
abbrev pub HasKind : PlainEngine → Turn → Type 0
HasKind e t = (p : PlainQuery) → remains_at e t.node.query ≡ Running p
    → t.node.kind ≡ (operator_at p.operators t.node.operator).kind

-- before any call
abbrev pub empty_engine : PlainEngine
empty_engine = record { machine = empty; queries = []; leases = []; next = 0; slots = [] }

-- how many answers wait; of a dropped query that is not said
abbrev pub waiting_in : PlainRemains → Option ℕ
waiting_in (Running p) = Some (length p.answers)
waiting_in (Broken answers upto) = Some (length answers)
waiting_in Dropped = None
