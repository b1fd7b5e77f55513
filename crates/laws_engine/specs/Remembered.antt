-- The machine that is told the same as an engine, and forgets nothing.
use Rattle.std.specs.Prelude.{ℕ, ◌≡◌, ◌++◌, min, nat_abs, Some, List, [], ◌∷◌, length, slice_get}
use Rattle.values.specs.Row.{Row}
use Rattle.reference.specs.Commands.{Append, Command, Declare, Drop, Heartbeat, Register, Take}
use Rattle.reference.specs.Commands.{after}
use Rattle.reference.specs.Machine.{Machine, Registered}
use Rattle.reference.specs.World.{untaken}
use Rattle.laws_forgetting.specs.Partly.{EndPartlyAlike}
use Rattle.laws_queries.specs.Plain.{PlainQuery}
use Rattle.laws_engine.specs.Engines.{Broken, PlainEngine, Running, answers_in, query_at}
use Rattle.laws_engine.specs.Engines.{remains_at}
use Rattle.laws_engine.specs.Histories.{Abandons, Breaks, Call, Finishes, Forgets, IsCallStep}
use Rattle.laws_engine.specs.Histories.{Leases, Stays, Told}
use Rattle.laws_engine.specs.Unbroken.{goes_on}
use Rattle.laws_engine.specs.Promises.{HasNothingToRun}

-- how many answers the engine hands out
abbrev pub handed_by : PlainEngine → Command → ℕ
handed_by e (Declare name columns start) = 0
handed_by e (Register name text chart) = 0
handed_by e (Append s rows) = 0
handed_by e (Heartbeat s at) = 0
handed_by e (Take n limit) = min (nat_abs limit) (length (answers_in (remains_at e n)))
handed_by e (Drop n) = 0

-- what such a machine makes of a call: it takes the commands alone, and hands out as many answers
abbrev pub remembered : PlainEngine → Call → Machine → Machine
remembered e (Told c) m = after m c (handed_by e c)
remembered e (Leases l) m = m
remembered e (Finishes l) m = m
remembered e (Abandons l) m = m
remembered e (Breaks l) m = m
remembered e Forgets m = m
remembered e Stays m = m

-- ONE CALL AFTER THE OTHER, of an engine and of such a machine
abbrev pub LeadBoth : PlainEngine → Machine → List Call → PlainEngine → Machine → Type 0
LeadBoth e m [] e2 m2 = (e2 ≡ e) × (m2 ≡ m)
LeadBoth e m (c ∷ calls) e3 m3 =
    (e2 : PlainEngine) × (IsCallStep e c e2 × LeadBoth e2 (remembered e c m) calls e3 m3)

-- THE ENGINE GIVES the answers of the machine that forgets nothing
pub record GivesAsRemembered (e : PlainEngine) (m : Machine) : Type 0 where
  -- both accept the same commands, now and later, and of each
  -- query that goes on the same closed answers are to be taken
  pub end : EndPartlyAlike (goes_on e) m e.machine
  -- those of a query that runs begin with what waits
  pub begins : (n : ℕ) (q r : Registered) (p : PlainQuery) → slice_get m.queries n ≡ Some q
      → query_at e n ≡ Some r → remains_at e n ≡ Running p
      → (rest : List (ℕ × Row)) × (untaken m q ≡ p.answers ++ rest)
  -- and so do those of one that broke
  pub broken : (n : ℕ) (q : Registered) (answers : List (ℕ × Row)) (upto : ℕ)
      → slice_get m.queries n ≡ Some q → remains_at e n ≡ Broken answers upto
      → (rest : List (ℕ × Row)) × (untaken m q ≡ answers ++ rest)
  -- and are what waits, where nothing of the query is left to run
  pub all : (n : ℕ) (q r : Registered) (p : PlainQuery) → slice_get m.queries n ≡ Some q
      → query_at e n ≡ Some r → remains_at e n ≡ Running p → HasNothingToRun e n r p
      → untaken m q ≡ p.answers
