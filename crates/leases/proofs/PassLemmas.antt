-- The first slot's query passes instants in a drain: what is asked before, and what the engine is then.
use Rattle.std.proofs.Common.{◌≡◌, ◌≢◌, ℕ, zero, suc, ◌+◌, ◌<◌, ◌≤◌, ◌==◌, inl, inr, ◌⊎◌, ⊎_elim, Bool, true, false, cond, nat_lt, Option, Some, None, List, [], ◌∷◌, ◌++◌, length, map, refl, sym, ap, ◌∙◌, subst, arith, eq-eqb, eqb-true}
use Rattle.std.specs.List.{AllByRecursion, list_any}
use Rattle.std.proofs.Math.Seq.{map-set_same}
use Rattle.std.proofs.lemmas.Bool.{cases_lt}
use Rattle.std.proofs.lemmas.Bool.Decides.{nat_tests}
use Rattle.std.proofs.lemmas.Option.{slice_get_within}
use Rattle.plan.proofs.Lists.{by_test}
use Rattle.reference.specs.Machine.{Registered}
use Rattle.turn.specs.declared.turns.Turn.{Turn}
use Rattle.laws_queries.specs.Machines.{widths_of}
use Rattle.laws_queries.specs.Plain.{PlainQuery, operator_at}
use Rattle.query_runtime.specs.Passing.{HavePassed, MayPassAll}
use Rattle.run_queue.specs.Slots.{first_of, slot}
use Rattle.run_queue.specs.Changes.{with_next}
use Rattle.run_queue.specs.declared.slots.Slot.{Slot}
use Rattle.laws_engine.specs.Asks.{IsOperator}
use Rattle.laws_engine.specs.Engines.{Dropped, PlainEngine, Running, is_of, query_at, remains_at}
use Rattle.laws_engine.specs.Engines.{slope_at, slot_at}
use Rattle.laws_engine.specs.Good.{AreRemains, Goes, GoodEngine, HasSlots, IsIn, slot_in, slot_of}
use Rattle.laws_engine.specs.Passing.{HasPassed, with_passed}
use Rattle.laws_engine.specs.Promises.{IsOfSteepest}
use Rattle.laws_engine.proofs.AskLemmas.{may_ask}
use Rattle.laws_engine.proofs.BackLemmas.{numbered, remains_here, remains_there, same_plain}
use Rattle.laws_engine.proofs.PassingLemmas.{pass_good}
use Rattle.laws_engine.proofs.PromiseLemmas.{is_slot, keeps_its_promises, slot_is}
use Rattle.laws_engine.proofs.TableLemmas.{running_slot, same_slot_in}
use Rattle.laws_engine.proofs.TakeLemmas.{equal_slots}
use Rattle.leases.specs.Applied.{GivesNothing, with_remains}
use Rattle.leases.specs.Asked.{HasOperatorAt, IsAt}
use Rattle.leases.specs.Passing.{HasPassedIn, IsPass, MayLookAt, MayPassIn, OneHasPassed, slots_below}
use Rattle.leases.specs.Readers.{next_for, readers_from, readers_of, runs, with_slots, with_updates}
use Rattle.leases.specs.Shown.{engine_in}
use Rattle.leases.specs.Sound.{IsSound, is_gone}
use Rattle.leases.specs.Views.{lease_of}
use Rattle.leases.specs.declared.limits.TheConstants.{LEASE_NUMBERS}
use Rattle.leases.specs.declared.state.EngineState.{EngineState}
use Rattle.leases.proofs.BeatLemmas.{in_either, in_left, in_right, next_is}
use Rattle.leases.proofs.EachLemmas.{ArePartly, HasOne, each_told}
use Rattle.leases.proofs.FinishSoundLemmas.{StaysBut, sound_from}
use Rattle.leases.proofs.LookLemmas.{asks, asks_on}
use Rattle.leases.proofs.OutLemmas.{turn_in}
use Rattle.leases.proofs.PassedLemmas.{query_passes}
use Rattle.leases.proofs.StandLemmas.{all_of}
use Rattle.leases.proofs.StepLemmas.{counted, counted_sound}

not_equal : (j n : ℕ) → (j == n) ≡ false → j ≢ n
not_equal j n f z = absurd (let t : (j == n) ≡ true = eq-eqb j n z in cc)

-- THE SLOTS of a query's operators
below_are : (e : PlainEngine) (n : ℕ) (q : Registered) (p : PlainQuery) (k : ℕ) (y : Slot) → IsIn (slots_below e n q p k) y → (i : ℕ) × ((i < k) × (y ≡ slot_at e n q p i))
below_are e n q p zero y i = absurd i
below_are e n q p (suc k) y i = ⊎_elim
    (λ left. let r = below_are e n q p k y left in (r.0, (omega (arith, r.1.0), r.1.1)))
    (λ last. ⊎_elim (λ same. (k, (omega arith, sym same))) (λ no_more. absurd no_more) last)
    (in_either (slots_below e n q p k) (slot_at e n q p k ∷ []) y i)

below_has : (e : PlainEngine) (n : ℕ) (q : Registered) (p : PlainQuery) (k i : ℕ) → i < k → IsIn (slots_below e n q p k) (slot_at e n q p i)
below_has e n q p zero i lt = absurd (omega (arith, lt))
below_has e n q p (suc k) i lt = ⊎_elim
    (λ (less : i < k). in_left (slots_below e n q p k) (slot_at e n q p k ∷ []) (slot_at e n q p i) (below_has e n q p k i less))
    (λ (most : k ≤ i).
    let same : k ≡ i = omega (arith, lt, most) in
    in_right (slots_below e n q p k) (slot_at e n q p k ∷ []) (slot_at e n q p i) (inl (ap (slot_at e n q p) same)))
    (cases_lt i k)

-- AN OPERATOR may be looked up
pub look_at : (e : PlainEngine) (n k : ℕ) (r : PlainQuery) → MayLookAt e n → remains_at e n ≡ Running r → k < length r.operators → HasOperatorAt e n k
look_at e n k r h running lt =
    let same : h.plain ≡ r = same_plain (sym h.running ∙ running) in
    let within : k < length h.plain.operators = let is : length h.plain.operators ≡ length r.operators = ap (λ (z : PlainQuery). length z.operators) same in omega (arith, is, lt) in
    (h.query, (h.plain, h.each k within))

module _ (s : EngineState) (x : Slot) (sound : IsSound s) (first : first_of s.slots ≡ Some x) where
  abbrev pub e : PlainEngine
  e = engine_in s

  pub top : IsOfSteepest e x
  top = (keeps_its_promises e sound.good).steepest x first

  abbrev pub n : ℕ
  n = x.query

  abbrev pub q : Registered
  q = top.query

  abbrev pub p : PlainQuery
  p = top.plain

  goes : Goes e.machine q p
  goes = subst (AreRemains e.machine q) top.running (sound.good.queries n q top.registered)

  many : length p.operators ≡ length q.nodes
  many = goes.runs.runs.many

  is_at : (k : ℕ) → k < length p.operators → IsAt e n k q p
  is_at k lt =
      let within : k < length q.nodes = omega (arith, lt, many) in
      let is : IsOperator e n k q p = record { registered = top.registered; running = top.running; within = within } in
      let may = may_ask e sound.good in
      record { registered = top.registered; running = top.running; within = within; operator = may.operators n k q p is; log = may.logs n k q p is }

  -- WHAT IS ASKED BEFORE
  pub may_look : MayLookAt e n
  may_look = record { query = q; plain = p; registered = top.registered; running = top.running; each = is_at }

  pub may_look_first : HasOperatorAt e n x.operator
  may_look_first = asks e sound.good n x.operator q p top.registered top.running top.within

  pub first_running : remains_at e n ≡ Running p
  first_running = top.running

  module _ (b : ℕ) (slots : List Slot) (h : IsPass e n b slots) where
    may : MayPassAll h.start b e.machine.streams p
    may = h.may p top.running

    pub may_pass : MayPassIn e n b
    may_pass = (p, (top.running, λ k lt. (h.start, (may.each k lt).quiet)))

    -- IT HAS PASSED
    module _ (m : EngineState) (passed : HasPassedIn e n b (engine_in m)) (rest : GivesNothing s m) where
      went : (p2 : PlainQuery) × (HavePassed b p p2 × (engine_in m ≡ with_remains e n (Running p2)))
      went = passed p top.running

      abbrev p2 : PlainQuery
      p2 = went.0

      abbrev e2 : PlainEngine
      e2 = with_passed e n p2

      is_e2 : engine_in (counted m) ≡ e2
      is_e2 = ap (λ (z : PlainEngine). record z { next = z.next + 1 }) went.1.1

      pub same_next : m.next ≡ s.next
      same_next = ap (λ (z : PlainEngine). z.next) went.1.1

      few : n < length e.queries
      few = omega (arith, sound.good.many, slice_get_within e.machine.queries n q top.registered)

      running2 : remains_at e2 n ≡ Running p2
      running2 = remains_here e n (Running p2) few

      still : (j : ℕ) (r : PlainQuery) → remains_at e j ≡ Running r → (r2 : PlainQuery) × (remains_at e2 j ≡ Running r2)
      still j r is = by_test (j == n)
          (λ t. (p2, ap (remains_at e2) (eqb-true j n t) ∙ running2))
          (λ f. (r, remains_there e n j (Running p2) (not_equal j n f) ∙ is))

      new_slot : (y : Slot) → slot_of e y.query y.operator ≡ Some y → slot_of e2 y.query y.operator ≡ Some (with_next y (next_for e2 y.query y.operator))
      new_slot y is =
          let o = is_slot e y.query y.operator y is in
          let r = still y.query o.plain o.running in
          slot_is e2 y.query y.operator o.query r.0 o.registered r.1 o.within
          ∙ ap (λ t. Some (slot (slope_at o.query y.operator) t y.query y.operator)) (sym (next_is e2 y.query y.operator o.query r.0 o.registered r.1))
          ∙ ap (λ z. Some (with_next z (next_for e2 y.query y.operator))) o.is

      slots_are : slots ≡ slots_below e n q p (length p.operators)
      slots_are = h.listed q p top.registered top.running

      slot_here : (k : ℕ) → k < length p.operators → slot_of e n k ≡ Some (slot_at e n q p k)
      slot_here k lt = slot_is e n k q p top.registered top.running (omega (arith, lt, many))

      all_are : (y : Slot) → IsIn slots y → slot_of e y.query y.operator ≡ Some y
      all_are y i =
          let r = below_are e n q p (length p.operators) y (subst (λ zs. IsIn zs y) slots_are i) in
          subst (λ (z : Slot). slot_of e z.query z.operator ≡ Some z) (sym r.1.1) (slot_here r.0 r.1.0)

      has_all : (k : ℕ) → k < length p.operators → IsIn slots (slot_at e n q p k)
      has_all k lt = subst (λ zs. IsIn zs (slot_at e n q p k)) (sym slots_are) (below_has e n q p (length p.operators) k lt)

      none_there : (k : ℕ) → length p.operators ≤ k → slot_of e n k ≡ slot_of e2 n k
      none_there k le =
          let no_lt : nat_lt k (length q.nodes) ≡ false = grind (arith, nat_tests, many) in
          running_slot e n k q p top.registered top.running
          ∙ ap (λ t. cond t (Some (slot_at e n q p k)) None) no_lt
          ∙ sym (running_slot e2 n k q p2 top.registered running2 ∙ ap (λ t. cond t (Some (slot_at e2 n q p2 k)) None) no_lt)

      other_there : (j k : ℕ) → j ≢ n → slot_of e j k ≡ slot_of e2 j k
      other_there j k ne = sym (ap (slot_in e2 j k (query_at e j)) (remains_there e n j (Running p2) ne) ∙ same_slot_in e e2.queries e.leases (e.next + 1) e.slots j k refl (query_at e j) (remains_at e j))

      one_of : (j k : ℕ) → (slot_of e j k ≡ slot_of e2 j k) ⊎ ((slot_of e j k ≡ slot_of e j k) × HasOne slots j k)
      one_of j k = by_test (j == n)
          (λ t. ⊎_elim
          (λ (lt : k < length p.operators). inr (refl, (slot_at e n q p k, (has_all k lt, (sym (eqb-true j n t), refl)))))
          (λ (le : length p.operators ≤ k). inl (subst (λ i. slot_of e i k ≡ slot_of e2 i k) (sym (eqb-true j n t)) (none_there k le)))
          (cases_lt k (length p.operators)))
          (λ f. inl (other_there j k (not_equal j n f)))

      told : HasSlots (slot_of e2) (with_updates e2 slots e.slots)
      told = each_told e e2 new_slot slots e.slots all_are (record { table = slot_of e; named = numbered e; has = sound.good.slots; each = one_of })

      abbrev told_slots : List Slot
      told_slots = with_updates e2 slots e.slots

      told_engine : HasPassed e n b (record e2 { slots = told_slots })
      told_engine = record {
        query = q;
        plain = p;
        after = p2;
        registered = top.registered;
        running = top.running;
        returned = λ k. ap (list_any (is_of n k)) h.returned;
        wires = went.1.0.wires;
        sources = went.1.0.sources;
        answers = went.1.0.answers;
        passes = query_passes (widths_of e.machine.streams q) goes.widths e.machine q p p2 (goes.taken ++ p.answers) h.start b goes.runs.runs (λ k lt. (is_at k lt).log) may went.1.0;
        slots = equal_slots (slot_of e2) (slot_of (record e2 { slots = told_slots })) told_slots (λ j k. same_slot_in e2 e2.queries e2.leases e2.next told_slots j k refl (query_at e2 j) (remains_at e2 j)) told;
        is = refl;
      }

      told_good : GoodEngine (record e2 { slots = told_slots })
      told_good = pass_good e n b (record e2 { slots = told_slots }) sound.good told_engine

      -- the slots may be told
      pub may_change : AllByRecursion (λ z. HasOperatorAt (engine_in (counted m)) z.query z.operator) slots
      may_change = all_of (λ z. HasOperatorAt (engine_in (counted m)) z.query z.operator) slots (λ y i.
          let o = is_slot e y.query y.operator y (all_are y i) in
          let r = still y.query o.plain o.running in
          subst (λ z. HasOperatorAt z y.query y.operator) (sym is_e2)
          (asks_on (record e2 { slots = told_slots }) e2.leases e2.next e2.slots y.query y.operator (asks (record e2 { slots = told_slots }) told_good y.query y.operator o.query r.0 o.registered r.1 o.within)))

      -- THEY ARE TOLD
      module _ (new : EngineState) (tells : new ≡ with_slots (counted m) (with_updates (engine_in (counted m)) slots m.slots)) where
        engine_is : engine_in new ≡ record e2 { slots = told_slots }
        engine_is = ap engine_in tells ∙ ap (λ (z : PlainEngine). record z { slots = with_updates z slots z.slots }) is_e2

        pub one_passed : OneHasPassed e (engine_in new)
        one_passed = (n, (b, subst (HasPassed e n b) (sym engine_is) told_engine))

        pub counts : new.next ≡ s.next + 1
        counts = ap (λ (z : PlainEngine). z.next) engine_is

        pub sound_new : s.next < LEASE_NUMBERS → IsSound new
        sound_new lt = sound_from (counted s) new (counted_sound s sound lt)
            (ap (λ (z : EngineState). z.undropped) tells ∙ rest.undropped)
            (ap (λ (z : EngineState). z.readers) tells ∙ rest.readers ∙ sound.readers
            ∙ ap (readers_from 0 e.machine.queries) (sym (map-set_same runs e.queries n (Running p2) Dropped (sym (ap runs top.running)))) ∙ ap readers_of (sym engine_is))
            (λ g i. rest.leases g (subst (λ (z : EngineState). IsIn z.leases.items g) tells i))
            (subst GoodEngine (sym engine_is) told_good)
            (record {
              machine = ap (λ (z : PlainEngine). z.machine) engine_is;
              next = ap (λ (z : PlainEngine). z.next) engine_is;
              few = let same : length (engine_in new).leases ≡ length e.leases = ap (λ (z : PlainEngine). length z.leases) engine_is in omega (arith, same);
              gone = ap (λ (z : PlainEngine). map is_gone z.queries) engine_is ∙ map-set_same is_gone e.queries n (Running p2) Dropped (sym (ap is_gone top.running));
            })
            (λ g i. absurd (subst (λ ls. IsIn ls (lease_of g)) h.returned (turn_in s.leases.items g i)))
