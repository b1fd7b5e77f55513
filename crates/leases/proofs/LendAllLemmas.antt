-- Queries that are lent to jobs one after the other, and the jobs that were run.
use Rattle.std.proofs.Common.{◌≡◌, ◌≢◌, ◌<◌, ◌≤◌, ◌+◌, ◌*◌, ◌++◌, ℕ, zero, suc, true, false, Bool, Some, List, [], ◌∷◌, drop, take, length, map, set, get_or, slice_index_or, refl, sym, ap, ap₂, ◌∙◌, subst, arith, append-nil, length-append}
use Rattle.std.specs.Prelude.{slice_get}
use Rattle.std.specs.List.{AllByRecursion}
use Rattle.std.proofs.lemmas.List.{drop_all, get_or-set_other, length-map, length-set, map-append, set-get_or, set-set}
use Rattle.laws_engine.specs.Engines.{Dropped, PlainEngine, PlainRemains, query_at, remains_at}
use Rattle.laws_engine.specs.Good.{GoodEngine, IsIn}
use Rattle.turn.specs.declared.turns.Turn.{Turn}
use Rattle.reference.specs.Machine.{Registered}
use Rattle.laws_queries.specs.Registrations.{HaveColumnNames}
use Rattle.laws_engine.specs.Bounds.{HaveFewClosed}
use Rattle.leases.specs.Alone.{MayRunAlone}
use Rattle.leases.specs.Applied.{with_remains}
use Rattle.leases.specs.ByQuery.{HaveComeHome, SomeWereLess, SomeWereDone}
use Rattle.leases.specs.Readers.{readers_of}
use Rattle.leases.specs.Sound.{IsSound, is_gone}
use Rattle.leases.specs.Undropped.{undropped_of}
use Rattle.leases.specs.declared.registered.Registration.{Registration}
use Rattle.leases.proofs.ByQueryLemmas.{done_on, less_since, less_then, less_twice}
use Rattle.leases.specs.Jobs.{AreBrought, AreLent, AreNewJobs, AreOut, HasRunJob, HaveFewTurns, HaveNumbers, HaveOwnQueries, IsBare, IsBrought, IsDoneJob, IsJobOf, IsLentJob, IsNewJob, MayRunJob, out_of, placed}
use Rattle.leases.specs.Passing.{slots_below}
use Rattle.leases.specs.Shown.{engine_in}
use Rattle.leases.specs.declared.limits.TheConstants.{LEASE_NUMBERS}
use Rattle.leases.specs.declared.state.jobs.TheConstants.{MOST_TURNS}
use Rattle.leases.specs.Views.{lease_of, query_of, remains_of}
use Rattle.leases.specs.declared.state.EngineState.{EngineState}
use Rattle.leases.specs.declared.state.jobs.Job.{Job}
use Rattle.leases.specs.declared.state.jobs.Quota.{Quota}
use Rattle.leases.proofs.JobLemmas.{Out, all_front, placed_last, placed_length, placed_set}
use Rattle.leases.proofs.OutLemmas.{item_within}
use Rattle.leases.proofs.LendLemmas.{all_more}

-- PARTLY LENT: the jobs before the place k have their queries
pub record ArePartlyLent (old : EngineState) (js : List Job) (k : ℕ) (new : EngineState) : Type 0 where
  pub bare : IsBare (engine_in old) old new
  pub placed : placed (map out_of (take k js)) (engine_in new).queries ≡ (engine_in old).queries
  pub apart : HaveOwnQueries js
  pub numbers : HaveNumbers new js
  pub lent : AllByRecursion (IsLentJob (engine_in old)) (take k js)
  pub left : AllByRecursion (IsNewJob (engine_in old)) (drop k js)

pub none_lent : (s : EngineState) (js : List Job) → AreNewJobs s js → ArePartlyLent s js 0 s
none_lent s js h = record {
  bare = record { is = refl; undropped = refl; readers = refl; leases = refl };
  placed = refl;
  apart = h.apart;
  numbers = h.numbers;
  lent = tt;
  left = h.each;
}

take_whole : {X : Type 0} (xs : List X) (k : ℕ) → length xs ≤ k → take k xs ≡ xs
take_whole [] zero h = refl
take_whole [] (suc k) h = refl
take_whole (x ∷ xs) zero h = absurd (omega (arith, h))
take_whole (x ∷ xs) (suc k) h = ap (λ z. x ∷ z) (take_whole xs k (omega (arith, h)))

pub all_lent : (old : EngineState) (js : List Job) (k : ℕ) (new : EngineState) → length js ≤ k → ArePartlyLent old js k new → AreLent old js new
all_lent old js k new end h =
    let whole : take k js ≡ js = take_whole js k end in
    record {
      bare = h.bare;
      placed = ap (λ z. placed (map out_of z) (engine_in new).queries) (sym whole) ∙ h.placed;
      apart = h.apart;
      numbers = h.numbers;
      each = subst (AllByRecursion (IsLentJob (engine_in old))) whole h.lent;
    }

-- ONE MORE
take_set : (js : List Job) (k : ℕ) (j : Job) → k < length js → take (k + 1) (set js k j) ≡ take k js ++ j ∷ []
take_set [] k j h = absurd (omega (arith, h))
take_set (i ∷ js) zero j h = refl
take_set (i ∷ js) (suc k) j h = let one : suc k + 1 ≡ suc (k + 1) = omega arith in ap (λ n. take n (i ∷ set js k j)) one ∙ ap (λ z. i ∷ z) (take_set js k j (omega (arith, h)))

drop_set : (js : List Job) (k : ℕ) (j : Job) → drop (k + 1) (set js k j) ≡ drop (k + 1) js
drop_set [] k j = refl
drop_set (i ∷ js) zero j = refl
drop_set (i ∷ js) (suc k) j = let one : suc k + 1 ≡ suc (k + 1) = omega arith in ap (λ n. drop n (i ∷ set js k j)) one ∙ drop_set js k j ∙ ap (λ n. drop n (i ∷ js)) (sym one)

others_set : (n : ℕ) (js : List Job) (k : ℕ) (j d : Job) → k < length js → j.query ≡ (get_or js k d).query → AllByRecursion (λ (i : Job). i.query ≢ n) js → AllByRecursion (λ (i : Job). i.query ≢ n) (set js k j)
others_set n [] k j d lt same h = absurd (omega (arith, lt))
others_set n (i ∷ js) zero j d lt same h = (λ e. h.0 (sym same ∙ e), h.1)
others_set n (i ∷ js) (suc k) j d lt same h = (h.0, others_set n js k j d (omega (arith, lt)) same h.1)

own_set : (js : List Job) (k : ℕ) (j d : Job) → k < length js → j.query ≡ (get_or js k d).query → HaveOwnQueries js → HaveOwnQueries (set js k j)
own_set [] k j d lt same h = absurd (omega (arith, lt))
own_set (i ∷ js) zero j d lt same h = (subst (λ n. AllByRecursion (λ (m : Job). m.query ≢ n) js) (sym same) h.0, h.1)
own_set (i ∷ js) (suc k) j d lt same h = (others_set i.query js k j d (omega (arith, lt)) same h.0, own_set js k j d (omega (arith, lt)) same h.1)

at_place : (P : Job → Type 0) (js : List Job) (k : ℕ) (d : Job) → k < length js → AllByRecursion P js → P (get_or js k d)
at_place P [] k d lt h = absurd (omega (arith, lt))
at_place P (i ∷ js) zero d lt h = h.0
at_place P (i ∷ js) (suc k) d lt h = at_place P js k d (omega (arith, lt)) h.1

first_left : (P : Job → Type 0) (js : List Job) (k : ℕ) (d : Job) → k < length js → AllByRecursion P (drop k js) → P (get_or js k d) × AllByRecursion P (drop (k + 1) js)
first_left P [] k d lt h = absurd (omega (arith, lt))
first_left P (i ∷ js) zero d lt h = h
first_left P (i ∷ js) (suc k) d lt h =
    let one : suc k + 1 ≡ suc (k + 1) = omega arith in
    let r = first_left P js k d (omega (arith, lt)) h in
    (r.0, subst (λ n. AllByRecursion P (drop n (i ∷ js))) (sym one) r.1)

before_apart : (js : List Job) (k : ℕ) (d : Job) → k < length js → HaveOwnQueries js → AllByRecursion (λ (o : Out). o.0 ≢ (get_or js k d).query) (map out_of (take k js))
before_apart [] k d lt h = absurd (omega (arith, lt))
before_apart (i ∷ js) zero d lt h = tt
before_apart (i ∷ js) (suc k) d lt h = (λ e. at_place (λ (m : Job). m.query ≢ i.query) js k d (omega (arith, lt)) h.0 (sym e), before_apart js k d (omega (arith, lt)) h.1)

placed_other : (os : List Out) (n : ℕ) (qs : List PlainRemains) → AllByRecursion (λ (o : Out). o.0 ≢ n) os → get_or (placed os qs) n Dropped ≡ get_or qs n Dropped
placed_other [] n qs h = refl
placed_other (o ∷ os) n qs h = placed_other os n (set qs o.0 o.1) h.1 ∙ get_or-set_other qs o.0 n o.1 Dropped (λ e. h.0 (sym e))

module _ (old : EngineState) (js : List Job) (k : ℕ) (s new : EngineState) (j j2 : Job) (d : Job) (lt : k < length js) (here : j ≡ get_or js k d) (h : ArePartlyLent old js k s)
    (query : j2.query ≡ j.query) (slots : j2.slots.items ≡ j.slots.items) (has : remains_of j2.remains ≡ remains_at (engine_in s) j.query)
    (state : engine_in new ≡ with_remains (engine_in s) j.query (remains_of j.remains)) (rest : IsBare (engine_in s) s new) where
  abbrev e : PlainEngine
  e = engine_in old

  abbrev n : ℕ
  n = j.query

  apart_here : AllByRecursion (λ (o : Out). o.0 ≢ n) (map out_of (take k js))
  apart_here = subst (λ z. AllByRecursion (λ (o : Out). o.0 ≢ z) (map out_of (take k js))) (sym (ap (λ z. z.query) here)) (before_apart js k d lt h.apart)

  first : IsNewJob e j × AllByRecursion (IsNewJob e) (drop (k + 1) js)
  first = let r = first_left (IsNewJob e) js k d lt h.left in (subst (IsNewJob e) (sym here) r.0, r.1)

  queries : (engine_in new).queries ≡ set (engine_in s).queries n (remains_of j.remains)
  queries = ap (λ (z : PlainEngine). z.queries) state

  was : remains_at (engine_in s) n ≡ remains_at e n
  was = sym (placed_other (map out_of (take k js)) n (engine_in s).queries apart_here) ∙ ap (λ qs. get_or qs n Dropped) h.placed

  same_query : j2.query ≡ (get_or js k d).query
  same_query = query ∙ ap (λ z. z.query) here

  lent_one : IsLentJob e j2
  lent_one = record {
    of = record {
      query = first.0.of.query;
      plain = first.0.of.plain;
      registered = ap (query_at e) query ∙ first.0.of.registered;
      running = ap (remains_at e) query ∙ first.0.of.running;
      listed = λ q p here2 running. slots ∙ subst (λ m. j.slots.items ≡ slots_below e m q p (length p.operators)) (sym query)
          (first.0.of.listed q p (ap (query_at e) (sym query) ∙ here2) (ap (remains_at e) (sym query) ∙ running));
    };
    has = has ∙ was ∙ ap (remains_at e) (sym query);
  }

  placed_then : placed (map out_of (take k js ++ j2 ∷ [])) (engine_in new).queries ≡ e.queries
  placed_then =
      let outs : List Out = map out_of (take k js) in
      ap (λ z. placed z (engine_in new).queries) (map-append out_of (take k js) (j2 ∷ []))
      ∙ placed_last outs (out_of j2) (engine_in new).queries
      ∙ ap₂ (λ m r. set (placed outs (engine_in new).queries) m r) query (has ∙ was)
      ∙ ap (λ qs. set (placed outs qs) n (remains_at e n)) queries
      ∙ ap (λ qs. set qs n (remains_at e n)) (placed_set outs n (remains_of j.remains) (engine_in s).queries apart_here)
      ∙ set-set (placed outs (engine_in s).queries) n (remains_of j.remains) (remains_at e n)
      ∙ ap (λ qs. set qs n (remains_at e n)) h.placed
      ∙ set-get_or e.queries n Dropped

  pub one_lent : ArePartlyLent old (set js k j2) (k + 1) new
  one_lent = record {
    bare = record {
      is = rest.is ∙ ap (λ (z : PlainEngine). record z { queries = (engine_in new).queries }) h.bare.is;
      undropped = rest.undropped ∙ h.bare.undropped;
      readers = rest.readers ∙ h.bare.readers;
      leases = rest.leases ∙ h.bare.leases;
    };
    placed = ap (λ z. placed (map out_of z) (engine_in new).queries) (take_set js k j2 lt) ∙ placed_then;
    apart = own_set js k j2 d lt same_query h.apart;
    numbers = subst (λ m. m * MOST_TURNS + new.next ≤ LEASE_NUMBERS) (sym (length-set js k j2))
        (subst (λ m. length js * MOST_TURNS + m ≤ LEASE_NUMBERS) (sym (ap (λ (z : PlainEngine). z.next) rest.is)) h.numbers);
    lent = subst (AllByRecursion (IsLentJob e)) (sym (take_set js k j2 lt)) (all_more (IsLentJob e) (take k js) j2 h.lent lent_one);
    left = subst (AllByRecursion (IsNewJob e)) (sym (drop_set js k j2)) first.1;
  }

-- A JOB that is lent may run
pub registered_here : (rs : List Registration) (n : ℕ) (q : Registered) → slice_get (map query_of rs) n ≡ Some q → (r : Registration) × ((slice_get rs n ≡ Some r) × (query_of r ≡ q))
registered_here [] n q h = absurd (cc)
registered_here (r ∷ rs) zero q h = (r, (refl, same h)) where
  same : Some (query_of r) ≡ Some q → query_of r ≡ q
  same e = cc
registered_here (r ∷ rs) (suc n) q h = registered_here rs n q h

module _ (old : EngineState) (sound : IsSound old) (returned : (engine_in old).leases ≡ []) (js : List Job) (s : EngineState) (h : AreLent old js s) where
  abbrev start : PlainEngine
  start = engine_in old

  machine : (engine_in s).machine ≡ start.machine
  machine = ap (λ (z : PlainEngine). z.machine) h.bare.is

  may_run : (j : Job) → IsLentJob start j → MayRunJob s.streams s.registered.items j
  may_run j is =
      let r = registered_here s.registered.items j.query is.of.query (ap (λ m. slice_get m.queries j.query) machine ∙ is.of.registered) in
      record {
        query = r.0;
        registered = r.1.0;
        plain = is.of.plain;
        running = is.has ∙ is.of.running;
        may = subst (λ z. MayRunAlone s.streams z is.of.plain) (sym r.1.1) (record {
          engine = start;
          good = sound.good;
          returned = returned;
          closed = sound.closed;
          over = sym (ap (λ m. m.streams) machine);
          number = j.query;
          registered = is.of.registered;
          running = is.of.running;
        });
      }

  pub each_may : (i : ℕ) (j : Job) → i < length js → j ≡ slice_index_or js i j → MayRunJob s.streams s.registered.items j
  each_may i j lt is = may_run j (subst (IsLentJob start) (sym is) (at_place (IsLentJob start) js i j lt h.each))

  -- THEY HAVE RUN
  brought_one : (quota : Quota) (j j2 : Job) → IsLentJob start j → HasRunJob s.streams quota j j2 → IsBrought start quota.rows (out_of j) j2
  brought_one quota j j2 is ran =
      record {
        same = sym ran.query;
        of = record {
          query = is.of.query;
          plain = is.of.plain;
          registered = ap (query_at start) ran.query ∙ is.of.registered;
          running = ap (remains_at start) ran.query ∙ is.of.running;
          listed = λ q p here2 running. ran.slots ∙ subst (λ m. j.slots.items ≡ slots_below start m q p (length p.operators)) (sym ran.query)
              (is.of.listed q p (ap (query_at start) (sym ran.query) ∙ here2) (ap (remains_at start) (sym ran.query) ∙ running));
        };
        was = is.has ∙ is.of.running;
        done = subst (λ m. IsDoneJob m.streams quota.rows is.of.plain j2) machine (ran.done is.of.plain (is.has ∙ is.of.running));
      }

  brought_all : (quota : Quota) (xs ys : List Job) → length ys ≡ length xs → AllByRecursion (IsLentJob start) xs → ((i : ℕ) (d : Job) → i < length xs → HasRunJob s.streams quota (get_or xs i d) (get_or ys i d)) → AreBrought start quota.rows (map out_of xs) ys
  brought_all quota [] [] many each ran = tt
  brought_all quota [] (b ∷ ys) many each ran = absurd (omega (arith, many))
  brought_all quota (a ∷ xs) [] many each ran = absurd (omega (arith, many))
  brought_all quota (a ∷ xs) (b ∷ ys) many each ran = (
    brought_one quota a b each.0 (ran 0 a (omega arith)),
    brought_all quota xs ys (omega (arith, many)) each.1 (λ i d lt. ran (suc i) d (omega (arith, lt))),
  )

  apart_of : (n : ℕ) (xs ys : List Job) → length ys ≡ length xs → ((i : ℕ) (d : Job) → i < length xs → (get_or ys i d).query ≡ (get_or xs i d).query) → AllByRecursion (λ (i : Job). i.query ≢ n) xs → AllByRecursion (λ (i : Job). i.query ≢ n) ys
  apart_of n [] [] many same h = tt
  apart_of n [] (b ∷ ys) many same h = absurd (omega (arith, many))
  apart_of n (a ∷ xs) [] many same h = absurd (omega (arith, many))
  apart_of n (a ∷ xs) (b ∷ ys) many same h = (λ e. h.0 (sym (same 0 a (omega arith)) ∙ e), apart_of n xs ys (omega (arith, many)) (λ i d lt. same (suc i) d (omega (arith, lt))) h.1)

  own_of : (xs ys : List Job) → length ys ≡ length xs → ((i : ℕ) (d : Job) → i < length xs → (get_or ys i d).query ≡ (get_or xs i d).query) → HaveOwnQueries xs → HaveOwnQueries ys
  own_of [] [] many same h = tt
  own_of [] (b ∷ ys) many same h = absurd (omega (arith, many))
  own_of (a ∷ xs) [] many same h = absurd (omega (arith, many))
  own_of (a ∷ xs) (b ∷ ys) many same h = (
    subst (λ n. AllByRecursion (λ (i : Job). i.query ≢ n) ys) (sym (same 0 a (omega arith))) (apart_of a.query xs ys (omega (arith, many)) (λ i d lt. same (suc i) d (omega (arith, lt))) h.0),
    own_of xs ys (omega (arith, many)) (λ i d lt. same (suc i) d (omega (arith, lt))) h.1,
  )

  pub all_out : (quota : Quota) (js2 : List Job) → length js2 ≡ length js → ((i : ℕ) (d : Job) → i < length js → HasRunJob s.streams quota (slice_index_or js i d) (slice_index_or js2 i d)) → AreOut start quota.rows js2 s
  all_out quota js2 many ran = record {
    good = sound.good;
    is = h.bare.is;
    returned = h.bare.leases ∙ none old.leases.items returned;
    numbers = subst (λ n. n * MOST_TURNS + s.next ≤ LEASE_NUMBERS) (sym many) h.numbers;
    named = h.bare.undropped ∙ sound.named;
    gone = sound.gone;
    columns = sound.columns;
    closed = sound.closed;
    readers = h.bare.readers ∙ sound.readers;
    outs = map out_of js;
    placed = h.placed;
    apart = own_of js js2 many (λ i d lt. (ran i d lt).query) h.apart;
    each = brought_all quota js js2 many h.each ran;
  }
    where
      none : (ts : List Turn) → map lease_of ts ≡ [] → ts ≡ []
      none [] e = refl
      none (t ∷ ts) e = absurd (cc)

  -- and none took more numbers than it may
  few_turns : (quota : Quota) (xs ys : List Job) → length ys ≡ length xs → ((i : ℕ) (d : Job) → i < length xs → HasRunJob s.streams quota (get_or xs i d) (get_or ys i d)) → HaveFewTurns quota.turns ys
  few_turns quota [] [] many ran = tt
  few_turns quota [] (b ∷ ys) many ran = absurd (omega (arith, many))
  few_turns quota (a ∷ xs) [] many ran = absurd (omega (arith, many))
  few_turns quota (a ∷ xs) (b ∷ ys) many ran = ((ran 0 a (omega arith)).most, few_turns quota xs ys (omega (arith, many)) (λ i d lt. ran (suc i) d (omega (arith, lt))))

  pub all_few : (quota : Quota) (js2 : List Job) → length js2 ≡ length js → ((i : ℕ) (d : Job) → i < length js → HasRunJob s.streams quota (slice_index_or js i d) (slice_index_or js2 i d)) → HaveFewTurns quota.turns js2
  all_few quota js2 many ran = few_turns quota js js2 many ran

-- ALL ARE HOME
pub home_all : (e : PlainEngine) (rows : ℕ) (s : EngineState) (out : AreOut e rows [] s) → engine_in s ≡ e
home_all e rows s out = out.is ∙ ap (λ qs. record e { queries = qs }) (none out.outs out.each out.placed) where
  none : (os : List Out) → AreBrought e rows os [] → placed os (engine_in s).queries ≡ e.queries → (engine_in s).queries ≡ e.queries
  none [] each same = same
  none (o ∷ os) each same = absurd each

pub home_sound : (e : PlainEngine) (rows : ℕ) (s : EngineState) → AreOut e rows [] s → IsSound s
home_sound e rows s out =
    let same : engine_in s ≡ e = home_all e rows s out in
    record {
      good = subst GoodEngine (sym same) out.good;
      kinds = λ t i. absurd (subst (λ ts. IsIn ts t) out.returned i);
      few = let none : length s.leases.items ≡ 0 = ap length out.returned in omega (arith, none);
      numbers = let all : 0 * MOST_TURNS + s.next ≤ LEASE_NUMBERS = out.numbers in omega (arith, all);
      named = out.named ∙ ap (λ (z : PlainEngine). undropped_of z.machine.queries) (sym same);
      gone = subst (λ (z : PlainEngine). map (λ q. q.is_dropped) z.machine.queries ≡ map is_gone z.queries) (sym same) out.gone;
      columns = subst (λ (z : PlainEngine). HaveColumnNames z.machine) (sym same) out.columns;
      closed = subst (λ (z : PlainEngine). HaveFewClosed z.machine) (sym same) out.closed;
      readers = out.readers ∙ ap readers_of (sym same);
    }

-- ONE AFTER THE OTHER
pub both_ran : (rows : ℕ) (b r : Bool) (e1 e2 e3 : PlainEngine) → r ≡ true → HaveComeHome rows b e1 e2 → HaveComeHome rows r e2 e3 → HaveComeHome rows b e1 e3
both_ran rows true true e1 e2 e3 t one two = done_on rows e1 e2 e3 one two
both_ran rows false true e1 e2 e3 t one two = less_then rows e1 e2 e3 one two
both_ran rows b false e1 e2 e3 t one two = absurd (cc)

pub one_less : (rows : ℕ) (b r : Bool) (e1 e2 e3 : PlainEngine) → r ≡ false → HaveComeHome rows b e1 e2 → HaveComeHome rows r e2 e3 → SomeWereLess rows e1 e3
one_less rows true false e1 e2 e3 f one two = less_since rows e1 e2 e3 one two
one_less rows false false e1 e2 e3 f one two = less_twice rows e1 e2 e3 one two
one_less rows b true e1 e2 e3 f one two = absurd (cc)

abbrev pub HaveAll : List Job → EngineState → List Job → EngineState → Bool → Type 0
HaveAll jobs old js m b = (e : PlainEngine) (rows : ℕ) → AreOut e rows jobs old → (e2 : PlainEngine) × (AreOut e2 rows js m × HaveComeHome rows b e e2)

module _ (jobs : List Job) (old m w : EngineState) (js rest : List Job) (job : Job) (b r : Bool) (popped : js ≡ rest ++ job ∷ [])
    (home : (e : PlainEngine) (rows : ℕ) (rest : List Job) → AreOut e rows (rest ++ job ∷ []) m → (e2 : PlainEngine) × (AreOut e2 rows rest w × HaveComeHome rows r e e2)) where
  pub some_home : (e : PlainEngine) × ((rows : ℕ) × AreOut e rows js m) → (e : PlainEngine) × ((rows : ℕ) × AreOut e rows rest w)
  some_home h = let a = home h.0 h.1.0 rest (subst (λ z. AreOut h.0 h.1.0 z m) popped h.1.1) in (a.0, (h.1.0, a.1.0))

  pub all_home : r ≡ true → HaveAll jobs old js m b → HaveAll jobs old rest w b
  all_home t h e rows out =
      let a = h e rows out in
      let c = home a.0 rows rest (subst (λ z. AreOut a.0 rows z m) popped a.1.0) in
      (c.0, (c.1.0, both_ran rows b r e a.0 c.0 t a.1.1 c.1.1))

  pub all_less : r ≡ false → HaveAll jobs old js m b → HaveAll jobs old rest w false
  all_less f h e rows out =
      let a = h e rows out in
      let c = home a.0 rows rest (subst (λ z. AreOut a.0 rows z m) popped a.1.0) in
      (c.0, (c.1.0, one_less rows b r e a.0 c.0 f a.1.1 c.1.1))

-- THE NUMBERS that their turns took
abbrev pub TookFew : List Job → EngineState → List Job → EngineState → Type 0
TookFew jobs old js m = (n : ℕ) → HaveFewTurns n jobs → HaveFewTurns n js × (m.next + length js * n ≤ old.next + length jobs * n)

pub none_took : (jobs : List Job) (old : EngineState) → TookFew jobs old jobs old
none_took jobs old n few = (few, omega arith)

pub one_took : (jobs : List Job) (old m w : EngineState) (js rest : List Job) (job : Job) → js ≡ rest ++ job ∷ [] → w.next ≡ m.next + job.turns → TookFew jobs old js m → TookFew jobs old rest w
one_took jobs old m w js rest job popped next h n few =
    let r = h n few in
    let apart = all_front (λ (j : Job). j.turns ≤ n) rest job (subst (HaveFewTurns n) popped r.0) in
    let many : length js ≡ length rest + 1 = ap length popped ∙ length-append rest (job ∷ []) in
    (apart.0, adds (length rest) (length js) n m.next w.next job.turns (old.next + length jobs * n) many next apart.1 r.1)
  where
    adds : (a b n s t turns all : ℕ) → b ≡ a + 1 → t ≡ s + turns → turns ≤ n → s + b * n ≤ all → t + a * n ≤ all
    adds a b n s t turns all many next few h = let more : (a + 1) * n ≡ a * n + n = omega arith in let was : b * n ≡ (a + 1) * n = ap (λ z. z * n) many in omega (arith, next, few, h, more, was)

pub all_took : (jobs : List Job) (old m : EngineState) (js : List Job) → length js ≡ 0 → TookFew jobs old js m → (n : ℕ) → HaveFewTurns n jobs → m.next ≤ old.next + length jobs * n
all_took jobs old m js none h n few =
    let r = h n few in
    let was : length js * n ≡ 0 * n = ap (λ z. z * n) none in
    let nothing : 0 * n ≡ 0 = omega arith in
    omega (arith, r.1, was, nothing)

-- and none is left
none_left : (js : List Job) → length js ≡ 0 → js ≡ []
none_left [] h = refl
none_left (j ∷ js) h = absurd (omega (arith, h))

pub ends_sound : (js : List Job) (m : EngineState) → length js ≡ 0 → (e : PlainEngine) × ((rows : ℕ) × AreOut e rows js m) → IsSound m
ends_sound js m none h = home_sound h.0 h.1.0 m (subst (λ z. AreOut h.0 h.1.0 z m) (none_left js none) h.1.1)

pub ends_done : (jobs : List Job) (old m : EngineState) (js : List Job) (b : Bool) → length js ≡ 0 → b ≡ true → HaveAll jobs old js m b → (e : PlainEngine) (rows : ℕ) → AreOut e rows jobs old → SomeWereDone rows e (engine_in m)
ends_done jobs old m js b none t h e rows out =
    let a = h e rows out in
    let same : engine_in m ≡ a.0 = home_all a.0 rows m (subst (λ z. AreOut a.0 rows z m) (none_left js none) a.1.0) in
    subst (SomeWereDone rows e) (sym same) (subst (λ z. HaveComeHome rows z e a.0) t a.1.1)

pub ends_less : (jobs : List Job) (old m : EngineState) (js : List Job) (b : Bool) → length js ≡ 0 → b ≡ false → HaveAll jobs old js m b → (e : PlainEngine) (rows : ℕ) → AreOut e rows jobs old → SomeWereLess rows e (engine_in m)
ends_less jobs old m js b none f h e rows out =
    let a = h e rows out in
    let same : engine_in m ≡ a.0 = home_all a.0 rows m (subst (λ z. AreOut a.0 rows z m) (none_left js none) a.1.0) in
    subst (SomeWereLess rows e) (sym same) (subst (λ z. HaveComeHome rows z e a.0) f a.1.1)

-- WHAT IS ASKED of each that is lent: its query is there
pub lends_within : (old s : EngineState) (js : List Job) (k : ℕ) (d : Job) → k < length js → ArePartlyLent old js k s → (get_or js k d).query < length s.remains.items
lends_within old s js k d lt h =
    let of : IsJobOf (engine_in old) (get_or js k d) = (first_left (IsNewJob (engine_in old)) js k d lt h.left).0.of in
    let here : (get_or js k d).query < length old.remains.items = item_within old.remains.items (get_or js k d).query of.plain of.running in
    let a : length (engine_in old).queries ≡ length (engine_in s).queries = ap (λ zs. length zs) (sym h.placed) ∙ placed_length (map out_of (take k js)) (engine_in s).queries in
    let b : length (engine_in old).queries ≡ length old.remains.items = length-map old.remains.items remains_of in
    let c : length (engine_in s).queries ≡ length s.remains.items = length-map s.remains.items remains_of in
    omega (arith, here, a, b, c)

-- A LIST that is written back whole
pub written_back : (n : ℕ) (new old : List Job) → length new ≡ n → length old ≡ n → take n (new ++ drop (length new) old) ≡ new
written_back n new old many few =
    ap (λ z. take n (new ++ z)) (drop_all (length new) old (omega (arith, many, few)))
    ∙ ap (take n) (append-nil new)
    ∙ take_whole new n (omega (arith, many))

pub none_out : (ts : List Turn) → length ts ≡ 0 → map lease_of ts ≡ []
none_out [] h = refl
none_out (t ∷ ts) h = absurd (omega (arith, h))
