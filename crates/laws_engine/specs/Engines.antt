-- TO BELIEVE: the theorem rests on these definitions, and no proof can check them.
-- An engine of many queries, as a plain value.
use Rattle.std.specs.Prelude.{ℕ, Bool, ◌≡◌, ◌==◌, ◌&&◌, cond, Option, None, List, [], ◌∷◌, ◌++◌}
use Rattle.std.specs.Prelude.{length, map, get_or, slice_get}
use Rattle.std.specs.List.{list_any}
use Rattle.values.specs.Row.{Row}
use Rattle.column.specs.declared.batch.Side.{Side}
use Rattle.op_queue.specs.declared.item.Item.{Item}
use Rattle.turn.specs.declared.excerpts.Excerpt.{Excerpt}
use Rattle.operators.specs.Ready.{last_in, ready}
use Rattle.envelope.specs.Fraction.{Fraction, fraction}
use Rattle.plan.specs.Paths.{plan_slopes}
use Rattle.reference.specs.Machine.{Machine, Registered, closed_answers}
use Rattle.reference.specs.World.{World}
use Rattle.laws_dataflow.specs.Roots.{behind, below_root}
use Rattle.laws_queries.specs.Plain.{PlainQuery, log_at, operator_at}
use Rattle.run_queue.specs.Slots.{slot}
use Rattle.run_queue.specs.declared.slots.Slot.{Slot}

-- what is left of a registered query: it runs, or was dropped, or was broken by a growth that was
-- refused; then its answers are left that wait, and the first instant whose answers may be missing
pub data PlainRemains : Type 0 where
  Running : PlainQuery → PlainRemains
  Broken : List (ℕ × Row) → ℕ → PlainRemains
  Dropped : PlainRemains

-- the answers that wait
abbrev pub answers_in : PlainRemains → List (ℕ × Row)
answers_in (Running p) = p.answers
answers_in (Broken answers upto) = answers
answers_in Dropped = []

-- it is broken, and nothing waits
abbrev pub IsExhausted : PlainRemains → Type 0
IsExhausted (Running p) = ⊥
IsExhausted (Broken answers upto) = answers ≡ []
IsExhausted Dropped = ⊥

-- a turn that is out: its number, the operator of a query
-- that it is of, and the item of a side with the excerpt
pub record Lease : Type 0 where
  pub number : ℕ
  pub query : ℕ
  pub operator : ℕ
  pub side : Side
  pub item : Item
  pub excerpt : Excerpt

-- the streams and queries, what is left of each query by its number, the
-- turns that are out, the number of the next, and the slots of all operators
pub record PlainEngine : Type 0 where
  pub machine : Machine
  pub queries : List PlainRemains
  pub leases : List Lease
  pub next : ℕ
  pub slots : List Slot

abbrev pub remains_at : PlainEngine → ℕ → PlainRemains
remains_at e n = get_or e.queries n Dropped

abbrev pub query_at : PlainEngine → ℕ → Option Registered
query_at e n = slice_get e.machine.queries n

-- HOW FAR THE QUERIES ARE
-- of one that runs, the instant after the last tick that its root has taken, or its first one
abbrev pub next_of : Registered → PlainQuery → ℕ
next_of q p = behind q.first (last_in (operator_at p.operators (below_root q.nodes)).state)

-- the first instant whose answers may still be missing
abbrev pub upto_in : Registered → PlainRemains → ℕ
upto_in q (Running p) = next_of q p
upto_in q (Broken answers upto) = upto
upto_in q Dropped = 0

abbrev pub upto_by : List Registered → List PlainRemains → List ℕ
upto_by [] remains = []
upto_by (q ∷ qs) [] = []
upto_by (q ∷ qs) (k ∷ remains) = upto_in q k ∷ upto_by qs remains

-- the machine with the answers that wait, and up to where they are complete
abbrev pub world_of : PlainEngine → World
world_of e = record {
  machine = e.machine;
  waiting = map answers_in e.queries;
  upto = upto_by e.machine.queries e.queries;
}

-- THE SLOTS
abbrev pub is_of : ℕ → ℕ → Lease → Bool
is_of n k l = (l.query == n) && (l.operator == k)

abbrev pub is_leased : PlainEngine → ℕ → ℕ → Bool
is_leased e n k = list_any (is_of n k) e.leases

abbrev pub slope_at : Registered → ℕ → Fraction
slope_at q k = get_or (plan_slopes q.nodes q.measures) k (fraction 0 1)

-- the side and the instant of what the operator k of a running query may take next
abbrev pub ready_in : Machine → Registered → PlainQuery → ℕ → Option (Side × ℕ)
ready_in m q p k = ready (operator_at p.operators k) (log_at m q k)

-- it may not be leased twice
abbrev pub next_at : PlainEngine → ℕ → Registered → PlainQuery → ℕ → Option (Side × ℕ)
next_at e n q p k = cond (is_leased e n k) None (ready_in e.machine q p k)

abbrev pub slot_at : PlainEngine → ℕ → Registered → PlainQuery → ℕ → Slot
slot_at e n q p k = slot (slope_at q k) (next_at e n q p k) n k

-- THE QUERIES
-- the answers that were taken and those that wait are a beginning
-- of the query's answers for the instants that are closed
pub record HasGiven (m : Machine) (q : Registered) (waiting : List (ℕ × Row)) : Type 0 where
  pub taken : List (ℕ × Row)
  pub counted : length taken ≡ q.taken
  pub rest : List (ℕ × Row)
  pub begins : closed_answers m q ≡ (taken ++ waiting) ++ rest
