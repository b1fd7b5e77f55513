-- A query of an engine passes instants at which it has nothing to do.
use Rattle.std.specs.Prelude.{ℕ, ◌≡◌, ◌+◌, false, Some, set}
use Rattle.reference.specs.Machine.{Registered}
use Rattle.laws_queries.specs.Passing.{QueryPasses}
use Rattle.laws_queries.specs.Plain.{PlainQuery}
use Rattle.laws_engine.specs.Engines.{PlainEngine, Running, is_leased, query_at}
use Rattle.laws_engine.specs.Good.{HasSlots}
use Rattle.laws_engine.specs.Engines.{remains_at}
use Rattle.laws_engine.specs.Good.{slot_of}

-- its operators change, and it takes one number, as a turn does
abbrev pub with_passed : PlainEngine → ℕ → PlainQuery → PlainEngine
with_passed e n p2 = record e { queries = set e.queries n (Running p2); next = e.next + 1 }

-- A PASS: the query n, which runs and of which no turn is out, passes the instants below b; its
-- slots have what its operators may take then, and nothing else changes
pub record HasPassed (e : PlainEngine) (n b : ℕ) (e2 : PlainEngine) : Type 0 where
  pub query : Registered
  pub plain : PlainQuery
  pub after : PlainQuery
  pub registered : query_at e n ≡ Some query
  pub running : remains_at e n ≡ Running plain
  pub returned : (k : ℕ) → is_leased e n k ≡ false
  pub wires : after.wires ≡ plain.wires
  pub sources : after.sources ≡ plain.sources
  pub answers : after.answers ≡ plain.answers
  pub passes : QueryPasses e.machine query b plain.operators after.operators
  pub slots : HasSlots (slot_of e2) e2.slots
  pub is : e2 ≡ record (with_passed e n after) { slots = e2.slots }
