-- A turn of an operator while it is made.
use Rattle.std.specs.Prelude.{ℕ, ◌≡◌}
use Rattle.turn.specs.Nodes.{PlainNode}
use Rattle.turn.specs.declared.turns.Turn.{Turn}
use Rattle.laws_queries.specs.Plain.{PlainQuery, operator_at}
use Rattle.query_runtime.specs.Turns.{CanLease, HasOperator, IsLeased, log_of}
use Rattle.run_queue.specs.declared.slots.Slot.{Slot}
use Rattle.laws_engine.specs.Engines.{PlainEngine, Running, remains_at}

-- the slot's operator may be leased on the slot's side, of at most so many rows
pub record IsLeasableOn (e : PlainEngine) (s : Slot) (rows : ℕ) (p : PlainQuery) : Type 0 where
  pub running : remains_at e s.query ≡ Running p
  pub operator : HasOperator e.machine.streams p s.operator
  pub may : CanLease (operator_at p.operators s.operator)
      (log_of e.machine.streams p s.operator) s.side rows

abbrev pub MayLeaseOn : PlainEngine → Slot → ℕ → Type 0
MayLeaseOn e s rows = (p : PlainQuery) × IsLeasableOn e s rows p

-- the operator with the side, and what it does
abbrev pub node_on : PlainQuery → Slot → PlainNode
node_on p s = record {
  query = s.query;
  operator = s.operator;
  side = s.side;
  kind = (operator_at p.operators s.operator).kind;
}

-- a turn of it has the next number, and what comes
-- out at once on the side with the excerpt for that
pub record IsOfSlot (e : PlainEngine) (s : Slot) (rows : ℕ) (t : Turn)
    (p : PlainQuery) : Type 0 where
  pub running : remains_at e s.query ≡ Running p
  pub number : t.lease ≡ e.next
  pub node : t.node ≡ node_on p s
  pub leased : IsLeased (operator_at p.operators s.operator)
      (log_of e.machine.streams p s.operator) s.side rows t.item t.near

abbrev pub IsTurnOn : PlainEngine → Slot → ℕ → Turn → Type 0
IsTurnOn e s rows t = (p : PlainQuery) × IsOfSlot e s rows t p
