-- Queries that are out with jobs while each is drained by itself.
use Rattle.std.specs.Prelude.{ℕ, ◌≡◌, ◌≢◌, ◌+◌, ◌*◌, ◌<◌, ◌≤◌, ⊤, Some, List, [], ◌∷◌, length}
use Rattle.std.specs.Prelude.{map, set, slice_get, slice_index_or}
use Rattle.std.specs.List.{AllByRecursion}
use Rattle.reference.specs.Machine.{Registered, Stream}
use Rattle.laws_queries.specs.Plain.{PlainQuery}
use Rattle.laws_queries.specs.Registrations.{HaveColumnNames}
use Rattle.laws_engine.specs.Bounds.{HaveFewClosed}
use Rattle.laws_engine.specs.Engines.{Dropped, PlainEngine, PlainRemains, Running}
use Rattle.laws_engine.specs.Good.{GoodEngine}
use Rattle.laws_engine.specs.Engines.{query_at, remains_at}
use Rattle.leases.specs.Alone.{HaveRunOwn, MayRunAlone, OwnStep, one_was_less_own}
use Rattle.leases.specs.Passing.{AreSlotsOf}
use Rattle.leases.specs.Readers.{readers_of}
use Rattle.leases.specs.Shown.{engine_in}
use Rattle.leases.specs.Sound.{is_gone}
use Rattle.leases.specs.Undropped.{undropped_of}
use Rattle.leases.specs.Views.{query_of, remains_of}
use Rattle.leases.specs.declared.limits.TheConstants.{LEASE_NUMBERS}
use Rattle.leases.specs.declared.registered.Registration.{Registration}
use Rattle.leases.specs.declared.state.EngineState.{EngineState}
use Rattle.leases.specs.declared.state.jobs.Job.{Job}
use Rattle.leases.specs.declared.state.jobs.Quota.{Quota}
use Rattle.leases.specs.declared.state.jobs.TheConstants.{MOST_TURNS}

-- A JOB THAT MAY RUN: its query runs, and may run by itself
pub record MayRunJob (streams : List Stream) (all : List Registration) (j : Job) : Type 0 where
  pub query : Registration
  pub registered : slice_get all j.query ≡ Some query
  pub plain : PlainQuery
  pub running : remains_of j.remains ≡ Running plain
  pub may : MayRunAlone streams (query_of query) plain

-- WHAT IT MAY DO: turns of some rows, at most as many as numbers are kept for
pub record IsQuota (quota : Quota) : Type 0 where
  pub some : 0 < quota.rows
  pub few : quota.turns ≤ MOST_TURNS

-- A JOB IS DONE: its query has run by itself. If the job was stopped, it ran out of memory
pub record IsDoneJob (streams : List Stream) (rows : ℕ) (p : PlainQuery) (j : Job) : Type 0 where
  pub steps : List OwnStep
  pub after : PlainQuery
  pub run : HaveRunOwn streams rows p steps after
  pub few : j.turns ≤ MOST_TURNS
  pub running : remains_of j.remains ≡ Running after
  pub counts : j.turns ≡ length steps
  pub stopped : j.stopped ≡ one_was_less_own steps

pub record HasRunJob (streams : List Stream) (quota : Quota) (j j2 : Job) : Type 0 where
  pub query : j2.query ≡ j.query
  pub slots : j2.slots.items ≡ j.slots.items
  pub most : j2.turns ≤ quota.turns
  pub done : (p : PlainQuery) → remains_of j.remains ≡ Running p
      → IsDoneJob streams quota.rows p j2

-- the same of each of a list
abbrev pub MayRunJobs : List Stream → List Registration → List Job → Type 0
MayRunJobs streams all js = (i : ℕ) (j : Job) → i < length js → j ≡ slice_index_or js i j
    → MayRunJob streams all j

pub record HaveRunJobs (streams : List Stream) (quota : Quota)
    (js js2 : List Job) : Type 0 where
  pub many : length js2 ≡ length js
  pub each : (i : ℕ) (d : Job) → i < length js
      → HasRunJob streams quota (slice_index_or js i d) (slice_index_or js2 i d)

-- none took more numbers than that
abbrev pub HaveFewTurns : ℕ → List Job → Type 0
HaveFewTurns n js = AllByRecursion (λ j. j.turns ≤ n) js

-- no two are of one query
abbrev pub HaveOwnQueries : List Job → Type 0
HaveOwnQueries [] = ⊤
HaveOwnQueries (j ∷ js) = AllByRecursion (λ i. i.query ≢ j.query) js × HaveOwnQueries js

-- there are numbers for all their turns
abbrev pub HaveNumbers : EngineState → List Job → Type 0
HaveNumbers s js = length js * MOST_TURNS + s.next ≤ LEASE_NUMBERS

-- A JOB OF AN ENGINE: its query runs, and its slots are those of the query
pub record IsJobOf (e : PlainEngine) (j : Job) : Type 0 where
  pub query : Registered
  pub plain : PlainQuery
  pub registered : query_at e j.query ≡ Some query
  pub running : remains_at e j.query ≡ Running plain
  pub listed : AreSlotsOf e j.query j.slots.items

-- that is not out yet
pub record IsNewJob (e : PlainEngine) (j : Job) : Type 0 where
  pub of : IsJobOf e j
  pub empty : remains_of j.remains ≡ Dropped

-- or has its query
pub record IsLentJob (e : PlainEngine) (j : Job) : Type 0 where
  pub of : IsJobOf e j
  pub has : remains_of j.remains ≡ remains_at e j.query

pub record AreNewJobs (s : EngineState) (js : List Job) : Type 0 where
  pub apart : HaveOwnQueries js
  pub numbers : HaveNumbers s js
  pub each : AllByRecursion (IsNewJob (engine_in s)) js

-- the jobs of queries below a number, at most so many
pub record AreJobsBelow (e : PlainEngine) (n room : ℕ) (js : List Job) : Type 0 where
  pub apart : HaveOwnQueries js
  pub each : AllByRecursion (IsNewJob e) js
  pub below : AllByRecursion (λ j. j.query < n) js
  pub few : length js ≤ room

-- WHAT IS OUT, by the numbers of its queries, is put where it was
abbrev pub placed : List (ℕ × PlainRemains) → List PlainRemains → List PlainRemains
placed [] qs = qs
placed (o ∷ os) qs = placed os (set qs o.0 o.1)

abbrev pub out_of : Job → ℕ × PlainRemains
out_of j = (j.query, remains_of j.remains)

-- only what is left of some queries is elsewhere
pub record IsBare (e : PlainEngine) (old new : EngineState) : Type 0 where
  pub is : engine_in new ≡ record e { queries = (engine_in new).queries }
  pub undropped : new.undropped ≡ old.undropped
  pub readers : new.readers ≡ old.readers
  pub leases : new.leases.items ≡ old.leases.items

-- LENT: the jobs have the queries of the state as it was
pub record AreLent (old : EngineState) (js : List Job) (new : EngineState) : Type 0 where
  pub bare : IsBare (engine_in old) old new
  pub placed : placed (map out_of js) (engine_in new).queries ≡ (engine_in old).queries
  pub apart : HaveOwnQueries js
  pub numbers : HaveNumbers new js
  pub each : AllByRecursion (IsLentJob (engine_in old)) js

-- A JOB THAT IS DONE, of a query that was this before
pub record IsBrought (e : PlainEngine) (rows : ℕ) (o : ℕ × PlainRemains) (j : Job) : Type 0 where
  pub same : o.0 ≡ j.query
  pub of : IsJobOf e j
  pub was : o.1 ≡ Running of.plain
  pub done : IsDoneJob e.machine.streams rows of.plain j

abbrev pub AreBrought : PlainEngine → ℕ → List (ℕ × PlainRemains) → List Job → Type 0
AreBrought e rows [] [] = ⊤
AreBrought e rows [] (j ∷ js) = ⊥
AreBrought e rows (o ∷ os) [] = ⊥
AreBrought e rows (o ∷ os) (j ∷ js) = IsBrought e rows o j × AreBrought e rows os js

-- OUT: the state is this good engine, except for the queries that are out; their jobs are done
pub record AreOut (e : PlainEngine) (rows : ℕ) (js : List Job) (s : EngineState) : Type 0 where
  pub good : GoodEngine e
  pub is : engine_in s ≡ record e { queries = (engine_in s).queries }
  pub returned : s.leases.items ≡ []
  pub numbers : HaveNumbers s js
  pub named : s.undropped ≡ undropped_of e.machine.queries
  pub gone : map (λ q. q.is_dropped) e.machine.queries ≡ map is_gone e.queries
  pub columns : HaveColumnNames e.machine
  pub closed : HaveFewClosed e.machine
  pub readers : s.readers ≡ readers_of e
  pub outs : List (ℕ × PlainRemains)
  pub placed : placed outs (engine_in s).queries ≡ e.queries
  pub apart : HaveOwnQueries js
  pub each : AreBrought e rows outs js
