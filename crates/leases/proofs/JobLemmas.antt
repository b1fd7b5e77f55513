-- Queries that were out with jobs come home, one after the other: each time the engine is a good one that has gone through turns of the query.
use Rattle.std.proofs.Common.{◌≡◌, ◌≢◌, ◌<◌, ◌≤◌, ◌+◌, ◌*◌, ◌++◌, inl, inr, not, ℕ, zero, suc, Bool, false, Some, List, [], ◌∷◌, length, map, set, refl, sym, ap, ap₂, ◌∙◌, subst, arith, length-append}
use Rattle.std.specs.Prelude.{slice_get}
use Rattle.std.specs.List.{AllByRecursion}
use Rattle.std.proofs.Math.Seq.{map-set_same}
use Rattle.std.proofs.lemmas.List.{get_or-set_same, length-map, length-set, set-set, set_comm}
use Rattle.std.proofs.lemmas.Option.{slice_get_within}
use Rattle.reference.specs.Machine.{Registered}
use Rattle.laws_queries.specs.Plain.{PlainQuery, log_at}
use Rattle.query_runtime.specs.Turns.{HasOperator, log_of}
use Rattle.laws_queries.specs.Registrations.{HaveColumnNames}
use Rattle.run_queue.specs.Changes.{changed}
use Rattle.run_queue.specs.declared.slots.Slot.{Slot}
use Rattle.laws_engine.specs.Asks.{IsOperator}
use Rattle.laws_engine.specs.Bounds.{HaveFewClosed}
use Rattle.laws_engine.specs.Engines.{Dropped, PlainEngine, PlainRemains, Running, query_at}
use Rattle.laws_engine.specs.Engines.{remains_at, slot_at}
use Rattle.laws_engine.specs.Good.{HasSlots, IsIn, slot_of}
use Rattle.laws_engine.proofs.AskLemmas.{may_ask}
use Rattle.laws_engine.proofs.BackLemmas.{remains_here, remains_there}
use Rattle.leases.specs.Alone.{one_was_less_own}
use Rattle.leases.specs.Applied.{AllStand}
use Rattle.leases.specs.Asked.{HasOperatorAt}
use Rattle.leases.specs.ByQuery.{HaveComeHome}
use Rattle.leases.specs.Jobs.{AreBrought, AreOut, HaveOwnQueries, IsBrought, IsDoneJob, IsJobOf, placed}
use Rattle.leases.specs.Passing.{slots_below}
use Rattle.leases.specs.Readers.{next_for, readers_from, readers_of, runs, with_slots, with_update, with_updates}
use Rattle.leases.specs.Shown.{engine_in}
use Rattle.leases.specs.Sound.{is_gone}
use Rattle.leases.specs.Undropped.{undropped_of}
use Rattle.leases.specs.Views.{lease_of, remains_of}
use Rattle.leases.specs.declared.limits.TheConstants.{LEASE_NUMBERS}
use Rattle.leases.specs.declared.state.EngineState.{EngineState}
use Rattle.leases.specs.declared.state.jobs.Job.{Job}
use Rattle.leases.specs.declared.state.jobs.TheConstants.{MOST_TURNS}
use Rattle.leases.proofs.AllStandLemmas.{below_stand}
use Rattle.leases.proofs.AloneLemmas as alone
use Rattle.leases.proofs.AloneLemmas.{After, HasRunOn, all_own}
use Rattle.leases.proofs.BeatLemmas.{next_is}
use Rattle.leases.proofs.ByQueryLemmas.{came_home}
use Rattle.leases.proofs.StandLemmas.{all_of}
use Rattle.leases.proofs.ToldAllLemmas.{all_told, below_are, gone_on, told_as}
use Rattle.leases.proofs.UpdateLemmas.{same_slots}

-- LISTS
pub all_front : {X : Type 0} (P : X → Type 0) (xs : List X) (x : X) → AllByRecursion P (xs ++ x ∷ []) → AllByRecursion P xs × P x
all_front P [] x h = (tt, h.0)
all_front P (y ∷ xs) x h = let r = all_front P xs x h.1 in ((h.0, r.0), r.1)

apart_last : (js : List Job) (j : Job) → HaveOwnQueries (js ++ j ∷ []) → AllByRecursion (λ i. i.query ≢ j.query) js × HaveOwnQueries js
apart_last [] j h = (tt, tt)
apart_last (i ∷ js) j h =
    let first = all_front (λ (k : Job). k.query ≢ i.query) js j h.0 in
    let rest = apart_last js j h.1 in
    ((λ e. first.1 (sym e), rest.0), (first.0, rest.1))

abbrev pub Out : Type 0
Out = ℕ × PlainRemains

pub record IsLast (e : PlainEngine) (rows : ℕ) (os : List Out) (rest : List Job) (j : Job) : Type 0 where
  pub front : List Out
  pub last : Out
  pub is : os ≡ front ++ last ∷ []
  pub each : AreBrought e rows front rest
  pub brought : IsBrought e rows last j

pub last_of : (e : PlainEngine) (rows : ℕ) (os : List Out) (rest : List Job) (j : Job) → AreBrought e rows os (rest ++ j ∷ []) → IsLast e rows os rest j
last_of e rows [] [] j h = absurd h
last_of e rows (o ∷ []) [] j h = record { front = []; last = o; is = refl; each = tt; brought = h.0 }
last_of e rows (o ∷ p ∷ os) [] j h = absurd h.1
last_of e rows [] (i ∷ rest) j h = absurd h
last_of e rows (o ∷ os) (i ∷ rest) j h =
    let r = last_of e rows os rest j h.1 in
    record { front = o ∷ r.front; last = r.last; is = ap (λ z. o ∷ z) r.is; each = (h.0, r.each); brought = r.brought }

pub placed_last : (os : List Out) (o : Out) (qs : List PlainRemains) → placed (os ++ o ∷ []) qs ≡ set (placed os qs) o.0 o.1
placed_last [] o qs = refl
placed_last (p ∷ os) o qs = placed_last os o (set qs p.0 p.1)

pub placed_set : (os : List Out) (n : ℕ) (r : PlainRemains) (qs : List PlainRemains) → AllByRecursion (λ (o : Out). o.0 ≢ n) os → placed os (set qs n r) ≡ set (placed os qs) n r
placed_set [] n r qs h = refl
placed_set (o ∷ os) n r qs h = ap (placed os) (set_comm qs n o.0 r o.1 (λ e. h.0 (sym e))) ∙ placed_set os n r (set qs o.0 o.1) h.1

pub placed_length : (os : List Out) (qs : List PlainRemains) → length (placed os qs) ≡ length qs
placed_length [] qs = refl
placed_length (o ∷ os) qs = placed_length os (set qs o.0 o.1) ∙ length-set qs o.0 o.1

outs_apart : (e : PlainEngine) (rows n : ℕ) (os : List Out) (js : List Job) → AreBrought e rows os js → AllByRecursion (λ (i : Job). i.query ≢ n) js → AllByRecursion (λ (o : Out). o.0 ≢ n) os
outs_apart e rows n [] [] h a = tt
outs_apart e rows n [] (j ∷ js) h a = absurd h
outs_apart e rows n (o ∷ os) [] h a = absurd h
outs_apart e rows n (o ∷ os) (j ∷ js) h a = (λ z. a.0 (sym h.0.same ∙ z), outs_apart e rows n os js h.1 a.1)

-- ANOTHER QUERY WENT ON: a job is one still
slots_over : (e : PlainEngine) (queries : List PlainRemains) (next : ℕ) (slots : List Slot) (n : ℕ) (q : Registered) (p : PlainQuery) (k : ℕ) → slots_below (record e { queries = queries; next = next; slots = slots }) n q p k ≡ slots_below e n q p k
slots_over e queries next slots n q p zero = refl
slots_over e queries next slots n q p (suc k) = ap (λ z. z ++ slot_at e n q p k ∷ []) (slots_over e queries next slots n q p k)

job_on : (e : PlainEngine) (n : ℕ) (r : PlainRemains) (next : ℕ) (slots : List Slot) (j : Job) → j.query ≢ n → IsJobOf e j → IsJobOf (record e { queries = set e.queries n r; next = next; slots = slots }) j
job_on e n r next slots j ne h = record {
  query = h.query;
  plain = h.plain;
  registered = h.registered;
  running = remains_there e n j.query r ne ∙ h.running;
  listed = λ q p here running. h.listed q p here (sym (remains_there e n j.query r ne) ∙ running) ∙ sym (slots_over e (set e.queries n r) next slots j.query q p (length p.operators));
}

brought_on : (e : PlainEngine) (rows n : ℕ) (r : PlainRemains) (next : ℕ) (slots : List Slot) (os : List Out) (js : List Job) → AllByRecursion (λ (i : Job). i.query ≢ n) js → AreBrought e rows os js → AreBrought (record e { queries = set e.queries n r; next = next; slots = slots }) rows os js
unfolding job_on
brought_on e rows n r next slots [] [] a h = tt
brought_on e rows n r next slots [] (j ∷ js) a h = absurd h
brought_on e rows n r next slots (o ∷ os) [] a h = absurd h
brought_on e rows n r next slots (o ∷ os) (j ∷ js) a h = (
  record { same = h.0.same; of = job_on e n r next slots j a.0 h.0.of; was = h.0.was; done = h.0.done },
  brought_on e rows n r next slots os js a.1 h.1,
)

-- SLOTS THAT ARE TOLD depend on what their operators may take next
updates_same : (a b : PlainEngine) (todo slots : List Slot) → ((x : Slot) → IsIn todo x → next_for a x.query x.operator ≡ next_for b x.query x.operator) → with_updates a todo slots ≡ with_updates b todo slots
updates_same a b [] slots h = refl
updates_same a b (x ∷ todo) slots h =
    updates_same a b todo (with_update a x slots) (λ y i. h y (inr i))
    ∙ ap (with_updates b todo) (ap (λ z. changed x z slots) (h x (inl refl)))

-- NUMBERS
one_fewer : (a m t s k : ℕ) → (a + 1) * m + s ≤ k → t ≤ m → a * m + (s + t) ≤ k
one_fewer a m t s k h few = let more : (a + 1) * m ≡ a * m + m = omega arith in omega (arith, h, few, more)

-- THE LAST JOB comes home
module _ (e : PlainEngine) (rows : ℕ) (rest : List Job) (job : Job) (s : EngineState) (out : AreOut e rows (rest ++ job ∷ []) s) where
  abbrev pub last : IsLast e rows out.outs rest job
  last = last_of e rows out.outs rest job out.each

  abbrev pub n : ℕ
  n = job.query

  abbrev pub of : IsJobOf e job
  of = last.brought.of

  abbrev pub q : Registered
  q = of.query

  abbrev pub p : PlainQuery
  p = of.plain

  pub returned : e.leases ≡ []
  returned = sym (ap (λ (z : PlainEngine). z.leases) out.is) ∙ ap (map lease_of) out.returned

  next_same : s.next ≡ e.next
  next_same = ap (λ (z : PlainEngine). z.next) out.is

  apart : AllByRecursion (λ (i : Job). i.query ≢ job.query) rest × HaveOwnQueries rest
  apart = apart_last rest job out.apart

  abbrev pub here : List PlainRemains
  here = (engine_in s).queries

  queries_are : e.queries ≡ set (placed last.front here) n (Running p)
  queries_are =
      sym out.placed ∙ ap (λ z. placed z here) last.is ∙ placed_last last.front last.last here
      ∙ ap₂ (λ i r. set (placed last.front here) i r) last.brought.same last.brought.was

  few : n < length e.queries
  few = omega (arith, out.good.many, slice_get_within e.machine.queries n q of.registered)

  pub within : n < length s.remains.items
  within =
      let a : length e.queries ≡ length here = ap (λ zs. length zs) (sym out.placed) ∙ placed_length out.outs here in
      let b : length here ≡ length s.remains.items = length-map s.remains.items remains_of in
      omega (arith, few, a, b)

  abbrev pub done : IsDoneJob e.machine.streams rows p job
  done = last.brought.done

  pub has_numbers : s.next + job.turns ≤ LEASE_NUMBERS
  has_numbers =
      let many : length (rest ++ job ∷ []) ≡ length rest + 1 = length-append rest (job ∷ []) in
      let all : (length rest + 1) * MOST_TURNS + s.next ≤ LEASE_NUMBERS = subst (λ z. z * MOST_TURNS + s.next ≤ LEASE_NUMBERS) many out.numbers in
      let some : length rest * MOST_TURNS + (s.next + job.turns) ≤ LEASE_NUMBERS = one_fewer (length rest) MOST_TURNS job.turns s.next LEASE_NUMBERS all done.few in
      omega (arith, some)

  left_numbers : length rest * MOST_TURNS + (s.next + job.turns) ≤ LEASE_NUMBERS
  left_numbers =
      let many : length (rest ++ job ∷ []) ≡ length rest + 1 = length-append rest (job ∷ []) in
      let all : (length rest + 1) * MOST_TURNS + s.next ≤ LEASE_NUMBERS = subst (λ z. z * MOST_TURNS + s.next ≤ LEASE_NUMBERS) many out.numbers in
      one_fewer (length rest) MOST_TURNS job.turns s.next LEASE_NUMBERS all done.few

  -- THE STATE is as it was, except for the query that came home and its slots
  module _ (w : EngineState) (r : PlainRemains) (count : ℕ) (e2 : PlainEngine) (after : After e n count r e2) (counts : job.turns ≡ count) (lives : is_gone r ≡ false)
      (is : engine_in w ≡ record e { queries = set here n r; next = e.next + count; slots = w.slots }) (slots : w.slots ≡ e2.slots) (leases : w.leases.items ≡ []) (undropped : w.undropped ≡ s.undropped) (readers : w.readers ≡ readers_of e2) where
    machine : e2.machine ≡ e.machine
    machine = ap (λ (z : PlainEngine). z.machine) after.is

    queries_then : (engine_in w).queries ≡ set here n r
    queries_then = ap (λ (z : PlainEngine). z.queries) is

    pub comes_home : AreOut e2 rows rest w
    comes_home = record {
      good = after.good;
      is = is ∙ ap (λ ss. record e { queries = set here n r; next = e.next + count; slots = ss }) slots
          ∙ ap (λ (z : PlainEngine). record z { queries = set here n r }) (sym after.is)
          ∙ ap (λ qs. record e2 { queries = qs }) (sym queries_then);
      returned = leases;
      numbers = subst (λ z. length rest * MOST_TURNS + z ≤ LEASE_NUMBERS) (ap₂ (λ a b. a + b) next_same counts ∙ sym (ap (λ (z : PlainEngine). z.next) is)) left_numbers;
      named = undropped ∙ out.named ∙ ap (λ m. undropped_of m.queries) (sym machine);
      gone = ap (λ m. map (λ (x : Registered). x.is_dropped) m.queries) machine ∙ out.gone
          ∙ sym (ap (λ (z : PlainEngine). map is_gone z.queries) after.is ∙ map-set_same is_gone e.queries n r Dropped (lives ∙ sym (ap is_gone of.running)));
      columns = subst HaveColumnNames (sym machine) out.columns;
      closed = subst HaveFewClosed (sym machine) out.closed;
      readers = readers;
      outs = last.front;
      placed = ap (placed last.front) queries_then ∙ placed_set last.front n r here (outs_apart e rows n last.front rest last.each apart.0)
          ∙ sym (set-set (placed last.front here) n (Running p) r) ∙ ap (λ qs. set qs n r) (sym queries_are)
          ∙ sym (ap (λ (z : PlainEngine). z.queries) after.is);
      apart = apart.1;
      each = subst (λ z. AreBrought z rows last.front rest) (sym after.is) (brought_on e rows n r (e.next + count) e2.slots last.front rest apart.0 last.each);
    }

  -- IT IS PUT BACK
  module _ (m : EngineState) (put : engine_in m ≡ record (engine_in s) { queries = set here n (remains_of job.remains); next = s.next + job.turns }) (undropped : m.undropped ≡ s.undropped) (readers : m.readers ≡ s.readers)
      (leases : m.leases.items ≡ s.leases.items) where
    abbrev pub after : PlainQuery
    after = done.after

    abbrev pub count : ℕ
    count = length done.steps

    put_e : engine_in m ≡ record e { queries = set here n (remains_of job.remains); next = e.next + job.turns }
    put_e = put
        ∙ ap (λ (z : PlainEngine). record z { queries = set here n (remains_of job.remains); next = s.next + job.turns }) out.is
        ∙ ap (λ k. record e { queries = set here n (remains_of job.remains); next = k + job.turns }) next_same

    slots_before : m.slots ≡ e.slots
    slots_before = ap (λ (z : PlainEngine). z.slots) put_e

    no_leases : m.leases.items ≡ []
    no_leases = leases ∙ out.returned

    has_run : (e2 : PlainEngine) × HasRunOn rows e n count (one_was_less_own done.steps) (Running after) e2
    has_run = all_own rows done.steps e n q p after out.good returned of.registered of.running done.run

    abbrev e1 : PlainEngine
    e1 = has_run.0

    on : HasRunOn rows e n count (one_was_less_own done.steps) (Running after) e1
    on = has_run.1

    machine_on : e1.machine ≡ e.machine
    machine_on = ap (λ (z : PlainEngine). z.machine) on.after.is

    registered_on : query_at e1 n ≡ Some q
    registered_on = ap (λ z. slice_get z.queries n) machine_on ∙ of.registered

    running_on : remains_at e1 n ≡ Running after
    running_on = ap (λ (z : PlainEngine). remains_at z n) on.after.is ∙ remains_here e n (Running after) few

    returned_on : e1.leases ≡ []
    returned_on = ap (λ (z : PlainEngine). z.leases) on.after.is ∙ returned

    -- AND RUNS ON
    abbrev g : PlainEngine
    g = gone_on e n q p after out.good of.registered of.running (e.next + count)

    abbrev bare : PlainEngine
    bare = record e { queries = set here n (Running after); next = e.next + count }

    engine_is : engine_in m ≡ bare
    engine_is = put_e ∙ ap₂ (λ r k. record e { queries = set here n r; next = e.next + k }) done.running done.counts

    running_bare : remains_at bare n ≡ Running after
    running_bare = get_or-set_same here n (Running after) Dropped (let a : length here ≡ length s.remains.items = length-map s.remains.items remains_of in omega (arith, within, a))

    running_g : remains_at g n ≡ Running after
    running_g = remains_here e n (Running after) few

    is_operator : (k : ℕ) → k < length q.nodes → IsOperator e1 n k q after
    is_operator k lt = record { registered = registered_on; running = running_on; within = lt }

    has_operator : (k : ℕ) → k < length q.nodes → HasOperatorAt (engine_in m) n k
    has_operator k lt =
        let may = may_ask e1 on.after.good in
        subst (λ z. HasOperatorAt z n k) (sym engine_is) (
          q,
          (
            after,
            record {
              registered = of.registered;
              running = running_bare;
              within = lt;
              operator = subst (λ z. HasOperator z.streams after k) machine_on (may.operators n k q after (is_operator k lt));
              log = subst (λ z. log_of z.streams after k ≡ log_at z q k) machine_on (may.logs n k q after (is_operator k lt));
            },
          ),
        )

    listed : job.slots.items ≡ slots_below e n q p (length p.operators)
    listed = of.listed q p of.registered of.running

    many : length p.operators ≡ length q.nodes
    many = alone.many e n q p out.good returned of.registered of.running

    pub may_change : AllByRecursion (λ z. HasOperatorAt (engine_in m) z.query z.operator) job.slots.items
    may_change = all_of (λ z. HasOperatorAt (engine_in m) z.query z.operator) job.slots.items (λ y i.
        let r = below_are e n q p (length p.operators) y (subst (λ zs. IsIn zs y) listed i) in
        subst (λ (z : Slot). HasOperatorAt (engine_in m) z.query z.operator) (sym r.1.1) (has_operator r.0 (omega (arith, r.1.0, many))))

    pub slots_stand : AllStand m.slots job.slots.items
    slots_stand = subst (λ z. AllStand z job.slots.items) (sym slots_before) (subst (AllStand e.slots) (sym listed) (below_stand e out.good n q p of.registered of.running (length p.operators) (omega (arith, many))))

    next_same_for : (k : ℕ) → next_for (engine_in m) n k ≡ next_for g n k
    next_same_for k =
        ap (λ z. next_for z n k) engine_is ∙ next_is bare n k q after of.registered running_bare
        ∙ sym (next_is g n k q after of.registered running_g)

    tells_same : with_updates (engine_in m) job.slots.items e.slots ≡ with_updates g job.slots.items e.slots
    tells_same = updates_same (engine_in m) g job.slots.items e.slots (λ y i.
        let r = below_are e n q p (length p.operators) y (subst (λ zs. IsIn zs y) listed i) in
        subst (λ (z : Slot). next_for (engine_in m) z.query z.operator ≡ next_for g z.query z.operator) (sym r.1.1) (next_same_for r.0))

    module _ (w : EngineState) (told : w ≡ with_slots m (with_updates (engine_in m) job.slots.items m.slots)) where
      has_slots : HasSlots (slot_of (record g { slots = e1.slots })) e1.slots
      has_slots = subst (λ z. HasSlots (slot_of z) e1.slots) on.after.is on.after.good.slots

      slots_then : w.slots ≡ e1.slots
      slots_then =
          ap (λ (z : EngineState). z.slots) told
          ∙ ap (with_updates (engine_in m) job.slots.items) slots_before
          ∙ tells_same
          ∙ ap (λ ts. with_updates g ts e.slots) listed
          ∙ same_slots (slot_of g) _ e1.slots (all_told e n q p after out.good of.registered of.running (e.next + count)) (told_as e n q p after out.good of.registered of.running (e.next + count) e1.slots has_slots)

      engine_then : engine_in w ≡ record e { queries = set here n (Running after); next = e.next + count; slots = w.slots }
      engine_then =
          ap engine_in told
          ∙ ap (λ (z : PlainEngine). record z { slots = with_updates (engine_in m) job.slots.items m.slots }) engine_is
          ∙ ap (λ ss. record bare { slots = ss }) (sym (ap (λ (z : EngineState). z.slots) told))

      readers_then : w.readers ≡ readers_of e1
      readers_then =
          ap (λ (z : EngineState). z.readers) told ∙ readers ∙ out.readers
          ∙ ap (readers_from 0 e.machine.queries) (sym (map-set_same runs e.queries n (Running after) Dropped (sym (ap runs of.running))))
          ∙ ap readers_of (sym on.after.is)

      pub home_runs : (all : Bool) → all ≡ not job.stopped → (e2 : PlainEngine) × (AreOut e2 rows rest w × HaveComeHome rows all e e2)
      home_runs all is = (
        e1,
        (
          comes_home w (Running after) count e1 on.after done.counts refl engine_then slots_then (ap (λ (z : EngineState). z.leases.items) told ∙ no_leases) (ap (λ (z : EngineState). z.undropped) told ∙ undropped) readers_then,
          came_home rows all job.stopped e e1 on.steps on.run (on.less ∙ sym done.stopped) is,
        ),
      )
