-- Turns and passes in any order, and what they leave.
use Rattle.std.specs.Prelude.{ℕ, ◌≡◌, false, None, List, [], ◌∷◌}
use Rattle.operators.specs.States.{near_of}
use Rattle.reference.specs.Machine.{Registered}
use Rattle.laws_queries.specs.Plain.{PlainQuery, log_at, operator_at}
use Rattle.laws_queries.specs.Steps.{IsFirst}
use Rattle.run_queue.specs.Slots.{first_of}
use Rattle.laws_engine.specs.Calls.{IsOf, leased}
use Rattle.laws_engine.specs.Engines.{Broken, Dropped, Lease, PlainEngine, PlainRemains, Running}
use Rattle.laws_engine.specs.Engines.{is_leased, remains_at, world_of}
use Rattle.laws_engine.specs.Histories.{Finishes, IsCallStep}
use Rattle.laws_engine.specs.Passing.{HasPassed}

-- A TURN THAT MIGHT GO OUT, of any operator that has something to take and of which no turn is
-- out, whatever its slope: with the next number, with what stands first on one of its sides, and
-- with the excerpt for that
pub record IsReady (e : PlainEngine) (l : Lease) (q : Registered) (p : PlainQuery) : Type 0 where
  pub returned : is_leased e l.query l.operator ≡ false
  pub number : l.number ≡ e.next
  pub of : IsOf e l q p
  pub item : IsFirst (operator_at p.operators l.operator)
      (log_at e.machine q l.operator) l.side l.item
  pub near : l.excerpt ≡ near_of (operator_at p.operators l.operator).state l.side l.item

-- A STEP: such a turn goes out, or one comes back finished, or a query passes the instants below
-- one at which it has nothing to do
pub data Step : Type 0 where
  GoesOut : Lease → Step
  ComesHome : Lease → Step
  Passes : ℕ → ℕ → Step

abbrev pub IsStep : PlainEngine → Step → PlainEngine → Type 0
IsStep e (GoesOut l) e2 = (q : Registered)
    × ((p : PlainQuery) × (IsReady e l q p × (e2 ≡ leased e l q p)))
IsStep e (ComesHome l) e2 = IsCallStep e (Finishes l) e2
IsStep e (Passes n b) e2 = HasPassed e n b e2

-- ONE STEP AFTER THE OTHER
abbrev pub LeadBy : PlainEngine → List Step → PlainEngine → Type 0
LeadBy e [] e2 = e2 ≡ e
LeadBy e (s ∷ steps) e3 = (e2 : PlainEngine) × (IsStep e s e2 × LeadBy e2 steps e3)

-- NOTHING IS LEFT: no turn is out, and no operator may be leased
pub record IsDone (e : PlainEngine) : Type 0 where
  pub returned : e.leases ≡ []
  pub unready : first_of e.slots ≡ None

-- ONE WORLD: whatever steps in whatever order leave nothing, they leave
-- the same machine, and of each query the same answers that wait
abbrev pub LeaveOneWorld : PlainEngine → Type 0
LeaveOneWorld e = (steps others : List Step) (e2 e3 : PlainEngine) → LeadBy e steps e2
    → LeadBy e others e3 → IsDone e2 → IsDone e3 → world_of e2 ≡ world_of e3

-- both run, or were dropped, or were broken with the same answers up to the same instant
abbrev pub SameKind : PlainRemains → PlainRemains → Type 0
SameKind (Running p) (Running r) = Unit {0}
SameKind (Running p) (Broken answers upto) = ⊥
SameKind (Running p) Dropped = ⊥
SameKind (Broken answers upto) (Running r) = ⊥
SameKind (Broken answers upto) (Broken others there) = (answers ≡ others) × (upto ≡ there)
SameKind (Broken answers upto) Dropped = ⊥
SameKind Dropped (Running r) = ⊥
SameKind Dropped (Broken others there) = ⊥
SameKind Dropped Dropped = Unit {0}

abbrev pub SameKinds : PlainEngine → PlainEngine → Type 0
SameKinds e f = (n : ℕ) → SameKind (remains_at e n) (remains_at f n)
