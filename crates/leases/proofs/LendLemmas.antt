-- Queries that are lent to jobs: where they were, and that the jobs may run.
use Rattle.std.proofs.Common.{◌≡◌, ◌≢◌, ◌<◌, ◌≤◌, ◌+◌, ◌++◌, ℕ, zero, suc, true, Some, List, [], ◌∷◌, length, map, refl, sym, ap, ◌∙◌, subst, arith, length-append}
use Rattle.std.specs.Prelude.{slice_get}
use Rattle.std.specs.List.{AllByRecursion}
use Rattle.std.proofs.lemmas.List.{length-map}
use Rattle.reference.specs.Machine.{Registered}
use Rattle.laws_queries.specs.Plain.{PlainQuery}
use Rattle.laws_engine.specs.Asks.{IsOperator}
use Rattle.laws_engine.specs.Engines.{Broken, Dropped, PlainEngine, PlainRemains, Running, query_at}
use Rattle.laws_engine.specs.Engines.{remains_at}
use Rattle.laws_engine.specs.Good.{AreRemains, Goes}
use Rattle.laws_engine.proofs.AskLemmas.{may_ask}
use Rattle.laws_engine.proofs.BackLemmas.{same_plain}
use Rattle.query_runtime.specs.Turns.{HasOperator}
use Rattle.leases.specs.Asked.{IsRunningAt}
use Rattle.leases.specs.Jobs.{AreJobsBelow, HaveOwnQueries, IsNewJob}
use Rattle.leases.specs.Passing.{AreSlotsOf, MayLookAt}
use Rattle.leases.specs.Readers.{runs}
use Rattle.leases.specs.Shown.{engine_in}
use Rattle.leases.specs.Sound.{IsSound}
use Rattle.leases.specs.Views.{remains_of}
use Rattle.leases.specs.declared.state.EngineState.{EngineState}
use Rattle.leases.specs.declared.state.jobs.Job.{Job}
use Rattle.leases.proofs.OutLemmas.{item_within}

some_at : {X : Type 0} (xs : List X) (n : ℕ) → n < length xs → (x : X) × (slice_get xs n ≡ Some x)
some_at [] n h = absurd (omega (arith, h))
some_at (x ∷ xs) zero h = (x, refl)
some_at (x ∷ xs) (suc n) h = some_at xs n (omega (arith, h))

-- A QUERY THAT RUNS
pub runs_here : (r : PlainRemains) → runs r ≡ true → (p : PlainQuery) × (r ≡ Running p)
runs_here (Running p) t = (p, refl)
runs_here (Broken answers upto) t = absurd (cc)
runs_here Dropped t = absurd (cc)

module _ (s : EngineState) (n : ℕ) (sound : IsSound s) (runs_there : IsRunningAt (engine_in s) n) where
  abbrev e : PlainEngine
  e = engine_in s

  abbrev p : PlainQuery
  p = runs_there.0

  found : (q : Registered) × (query_at e n ≡ Some q)
  found =
      let within : n < length s.remains.items = item_within s.remains.items n p runs_there.1 in
      let many : length (map remains_of s.remains.items) ≡ length s.remains.items = length-map s.remains.items remains_of in
      some_at e.machine.queries n (omega (arith, within, many, sound.good.many))

  goes : Goes e.machine found.0 p
  goes = subst (AreRemains e.machine found.0) runs_there.1 (sound.good.queries n found.0 found.1)

  -- may be looked at
  pub looked_at : MayLookAt e n
  looked_at = record {
    query = found.0;
    plain = p;
    registered = found.1;
    running = runs_there.1;
    each = λ k lt.
        let within : k < length found.0.nodes = omega (arith, lt, goes.runs.runs.many) in
        let is : IsOperator e n k found.0 p = record { registered = found.1; running = runs_there.1; within = within } in
        let may = may_ask e sound.good in
        record { registered = found.1; running = runs_there.1; within = within; operator = may.operators n k found.0 p is; log = may.logs n k found.0 p is };
  }

-- AN OPERATOR of a query that may be looked at
pub has_operator : (e : PlainEngine) (n k : ℕ) (p : PlainQuery) → MayLookAt e n → remains_at e n ≡ Running p → k < length p.operators → HasOperator e.machine.streams p k
has_operator e n k p h running lt =
    let same : h.plain ≡ p = same_plain (sym h.running ∙ running) in
    subst (λ z. k < length z.operators → HasOperator e.machine.streams z k) same (λ within. (h.each k within).operator) lt

-- A NEW JOB
pub new_job : (e : PlainEngine) (n : ℕ) (j : Job) → MayLookAt e n → j.query ≡ n → AreSlotsOf e n j.slots.items → remains_of j.remains ≡ Dropped → IsNewJob e j
new_job e n j may same slots none = record {
  of = record {
    query = may.query;
    plain = may.plain;
    registered = ap (query_at e) same ∙ may.registered;
    running = ap (remains_at e) same ∙ may.running;
    listed = subst (λ k. AreSlotsOf e k j.slots.items) (sym same) slots;
  };
  empty = none;
}

pub all_more : {X : Type 0} (P : X → Type 0) (xs : List X) (x : X) → AllByRecursion P xs → P x → AllByRecursion P (xs ++ x ∷ [])
all_more P [] x h is = (is, tt)
all_more P (y ∷ xs) x h is = (h.0, all_more P xs x h.1 is)

pub apart_more : (js : List Job) (j : Job) → HaveOwnQueries js → AllByRecursion (λ (i : Job). i.query < j.query) js → HaveOwnQueries (js ++ j ∷ [])
apart_more [] j h below = (tt, tt)
apart_more (i ∷ js) j h below = (all_more (λ (k : Job). k.query ≢ i.query) js j h.0 (λ e. absurd (omega (arith, e, below.0))), apart_more js j h.1 below.1)

pub each_more : (e : PlainEngine) (js : List Job) (j : Job) → AllByRecursion (IsNewJob e) js → IsNewJob e j → AllByRecursion (IsNewJob e) (js ++ j ∷ [])
each_more e js j h is = all_more (IsNewJob e) js j h is

pub below_more : (n : ℕ) (js : List Job) (j : Job) → j.query ≡ n → AllByRecursion (λ (i : Job). i.query < n) js → AllByRecursion (λ (i : Job). i.query < n + 1) (js ++ j ∷ [])
below_more n [] j same below = (omega (arith, same), tt)
below_more n (i ∷ js) j same below = (omega (arith, below.0), below_more n js j same below.1)

pub below_still : (n : ℕ) (js : List Job) → AllByRecursion (λ (i : Job). i.query < n) js → AllByRecursion (λ (i : Job). i.query < n + 1) js
below_still n [] below = tt
below_still n (i ∷ js) below = (omega (arith, below.0), below_still n js below.1)

below_up : (n m : ℕ) (js : List Job) → n ≤ m → AllByRecursion (λ (i : Job). i.query < n) js → AllByRecursion (λ (i : Job). i.query < m) js
below_up n m [] le below = tt
below_up n m (i ∷ js) le below = (omega (arith, le, below.0), below_up n m js le below.1)

pub below_at : (n m : ℕ) (js : List Job) → m ≡ n → AllByRecursion (λ (i : Job). i.query < n) js → AllByRecursion (λ (i : Job). i.query < m) js
below_at n m js same below = subst (λ k. AllByRecursion (λ (i : Job). i.query < k) js) (sym same) below

pub jobs_still : (e : PlainEngine) (n room : ℕ) (js : List Job) → AreJobsBelow e n room js → AreJobsBelow e (n + 1) room js
jobs_still e n room js h = record { apart = h.apart; each = h.each; below = below_still n js h.below; few = h.few }

pub jobs_more : (e : PlainEngine) (n room : ℕ) (js : List Job) (j : Job) → AreJobsBelow e n room js → length js < room → IsNewJob e j → j.query ≡ n → AreJobsBelow e (n + 1) room (js ++ j ∷ [])
jobs_more e n room js j h lt is same = record {
  apart = apart_more js j h.apart (subst (λ k. AllByRecursion (λ (i : Job). i.query < k) js) (sym same) h.below);
  each = each_more e js j h.each is;
  below = below_more n js j same h.below;
  few = let many : length (js ++ j ∷ []) ≡ length js + 1 = length-append js (j ∷ []) in omega (arith, many, lt);
}

pub jobs_added : (e : PlainEngine) (n k room : ℕ) (js : List Job) (j : Job) → AreJobsBelow e n room js → length js < room → n ≤ k → MayLookAt e k → j.query ≡ k → AreSlotsOf e k j.slots.items → remains_of j.remains ≡ Dropped → AreJobsBelow e (k + 1) room (js ++ j ∷ [])
jobs_added e n k room js j h lt le may same slots none =
    jobs_more e k room js j (record { apart = h.apart; each = h.each; below = below_up n k js le h.below; few = h.few }) lt (new_job e k j may same slots none) same
