-- A good engine: its queries, the turns that are out and the slots agree.
use Rattle.std.specs.Prelude.{ℕ, false, ◌≡◌, ◌<◌, ◌⊎◌, nat_lt, cond, Option, Some, None, List, []}
use Rattle.std.specs.Prelude.{◌∷◌, length}
use Rattle.std.specs.List.Sorted.{IsStrictlySortedBy}
use Rattle.std.specs.Option.{option_map_or}
use Rattle.values.specs.Row.{Row}
use Rattle.operators.specs.States.{near_of}
use Rattle.reference.specs.Machine.{Machine, Registered}
use Rattle.laws_queries.specs.Machines.{IsMachine, widths_of}
use Rattle.laws_queries.specs.Queries.{IsPlainQuery}
use Rattle.laws_queries.specs.Plain.{PlainQuery, log_at, operator_at}
use Rattle.laws_queries.specs.Rows.{AreSourceWidths, HaveRows}
use Rattle.laws_queries.specs.Steps.{IsFirst}
use Rattle.run_queue.specs.Slots.{slot_cmp}
use Rattle.run_queue.specs.declared.slots.Slot.{Slot}
use Rattle.laws_engine.specs.Engines.{Broken, Dropped, HasGiven, Lease, PlainEngine, PlainRemains}
use Rattle.laws_engine.specs.Engines.{Running, query_at, remains_at, slot_at, upto_in}

-- x is one of the list
abbrev pub IsIn : {X : Type 0} → List X → X → Type 0
IsIn [] x = ⊥
IsIn (y ∷ ys) x = (y ≡ x) ⊎ IsIn ys x

-- that of the query of a number
abbrev pub upto_at : PlainEngine → ℕ → ℕ
upto_at e n = option_map_or (λ q. upto_in q (remains_at e n)) (query_at e n) 0

-- the slot of the operator k of the query n, if that runs and has such an operator
abbrev pub slot_in : PlainEngine → ℕ → ℕ → Option Registered → PlainRemains → Option Slot
slot_in e n k None remains = None
slot_in e n k (Some q) (Running p) =
    cond (nat_lt k (length q.nodes)) (Some (slot_at e n q p k)) None
slot_in e n k (Some q) (Broken answers upto) = None
slot_in e n k (Some q) Dropped = None

abbrev pub slot_of : PlainEngine → ℕ → ℕ → Option Slot
slot_of e n k = slot_in e n k (query_at e n) (remains_at e n)

-- a list of the slots that a table has
pub record HasSlots (table : ℕ → ℕ → Option Slot) (slots : List Slot) : Type 0 where
  pub ordered : IsStrictlySortedBy slot_cmp slots
  pub there : (n k : ℕ) (s : Slot) → table n k ≡ Some s → IsIn slots s
  pub only : (s : Slot) → IsIn slots s → table s.query s.operator ≡ Some s

-- it runs, was not dropped, and has given those that were taken and those that wait
pub record Goes (m : Machine) (q : Registered) (p : PlainQuery) : Type 0 where
  pub lives : q.is_dropped ≡ false
  pub widths : List ℕ
  pub sources : AreSourceWidths widths m q
  pub taken : List (ℕ × Row)
  pub counted : length taken ≡ q.taken
  pub runs : IsPlainQuery (widths_of m.streams q) widths m q taken p

abbrev pub AreRemains : Machine → Registered → PlainRemains → Type 0
AreRemains m q (Running p) = Goes m q p
AreRemains m q (Broken answers upto) = HasGiven m q answers
AreRemains m q Dropped = HasGiven m q []

-- THE TURNS THAT ARE OUT
-- the item stands first on its side of an operator of a running
-- query, and the excerpt is what it needs of that operator's state
pub record IsLease (e : PlainEngine) (l : Lease) : Type 0 where
  pub numbered : l.number < e.next
  pub query : Registered
  pub registered : query_at e l.query ≡ Some query
  pub plain : PlainQuery
  pub running : remains_at e l.query ≡ Running plain
  pub within : l.operator < length query.nodes
  pub first : IsFirst (operator_at plain.operators l.operator)
      (log_at e.machine query l.operator) l.side l.item
  pub near : l.excerpt ≡ near_of (operator_at plain.operators l.operator).state l.side l.item

-- no two are of one operator or of one number
pub record AreApart (ls : List Lease) : Type 0 where
  pub operators : (a b : Lease) → IsIn ls a → IsIn ls b → a.query ≡ b.query
      → a.operator ≡ b.operator → a ≡ b
  pub numbers : (a b : Lease) → IsIn ls a → IsIn ls b → a.number ≡ b.number → a ≡ b

-- A GOOD ENGINE
pub record GoodEngine (e : PlainEngine) : Type 0 where
  pub machine : IsMachine e.machine
  pub rows : HaveRows e.machine
  pub many : length e.queries ≡ length e.machine.queries
  pub queries : (n : ℕ) (q : Registered) → query_at e n ≡ Some q
      → AreRemains e.machine q (remains_at e n)
  pub leases : (l : Lease) → IsIn e.leases l → IsLease e l
  pub apart : AreApart e.leases
  pub slots : HasSlots (slot_of e) e.slots
