-- A query that is drained by itself: its engine stays good, and goes through turns of operators that might be leased.
use Rattle.std.proofs.Common.{◌≡◌, ◌<◌, ◌≤◌, ◌+◌, ◌++◌, ◌⊎◌, ◌||◌, ⊎_elim, inl, inr, ℕ, suc, Bool, true, false, Option, Some, IfSome, IfErr, Result, Ok, Err, List, [], ◌∷◌, length, set, refl, sym, ap, ap₂, ◌∙◌, subst, arith}
use Rattle.std.specs.List.{list_any}
use Rattle.std.proofs.lemmas.Bool.{cases_lt}
use Rattle.std.specs.Prelude.{⊤, min, slice_get}
use Rattle.std.proofs.lemmas.List.{set-get_or, set-set}
use Rattle.std.proofs.lemmas.Option.{slice_get_within}
use Rattle.column.specs.declared.batch.Side.{Side}
use Rattle.op_queue.specs.Items.{entries_of}
use Rattle.op_queue.specs.declared.item.Item.{Item}
use Rattle.operators.specs.Inboxes.{cut_of}
use Rattle.operators.specs.Ready.{inbox_of, ready}
use Rattle.operators.specs.States.{near_of}
use Rattle.reference.specs.Machine.{Registered, Stream}
use Rattle.laws_queries.specs.Plain.{PlainQuery, log_at, operator_at}
use Rattle.laws_queries.specs.Steps.{IsFirst}
use Rattle.query_runtime.specs.Passing.{AreQuiet, HavePassed}
use Rattle.query_runtime.specs.Runs.{CanRun, HasRun}
use Rattle.query_runtime.specs.Turns.{HasOperator, log_of}
use Rattle.laws_queries.specs.Machines.{widths_of}
use Rattle.envelope.specs.Fraction.{Fraction}
use Rattle.run_queue.specs.Slots.{slot}
use Rattle.run_queue.specs.Changes.{with_next}
use Rattle.run_queue.specs.declared.slots.Slot.{Slot}
use Rattle.laws_engine.specs.Asks.{IsOperator}
use Rattle.laws_engine.specs.Bounds.{HaveFewClosed}
use Rattle.laws_engine.specs.Calls.{IsOf, answered, finished, leased, others}
use Rattle.laws_engine.specs.Engines.{Dropped, Lease, PlainEngine, PlainRemains, Running, is_of}
use Rattle.laws_engine.specs.Engines.{query_at, remains_at}
use Rattle.laws_engine.specs.Good.{AreRemains, Goes, GoodEngine, HasSlots, IsIn, slot_of}
use Rattle.laws_engine.specs.Histories.{ComesBack, Finishes, IsCallStep}
use Rattle.laws_engine.specs.Orders.{IsReady}
use Rattle.laws_engine.specs.Passing.{HasPassed}
use Rattle.laws_engine.proofs.AskLemmas.{may_ask}
use Rattle.laws_engine.proofs.BackLemmas.{remains_here}
use Rattle.laws_engine.proofs.HistoryLemmas.{step_good}
use Rattle.laws_engine.proofs.LeaseLemmas.{ready_good}
use Rattle.laws_engine.proofs.PassingLemmas.{pass_good}
use Rattle.laws_engine.proofs.TableLemmas.{same_slot_in}
use Rattle.laws_engine.proofs.TakeLemmas.{equal_slots}
use Rattle.leases.specs.Alone.{HasPassedOwn, HasStoppedOwn, HasTakenOwn, HaveRunOwn, IsOwnStep, IsReadyIn, MayPassOwn, MayRunAlone, OneOwnStep, OwnStep, PassesTo, Takes, TakesLess, is_less_own, one_was_less_own}
use Rattle.leases.specs.Runs.{HasStoppedOn}
use Rattle.operators.specs.declared.runs.Refused.{Refused}
use Rattle.operators.specs.declared.runs.Refused.TheVariants.{Before, Within}
use Rattle.leases.specs.Applied.{HasTaken}
use Rattle.leases.specs.ByQuery.{AnyStep, GoesOutOfAny, HaveRunAny, IsAnyStep, LessAny, PassedAny, RanAny, is_less, one_was_less}
use Rattle.leases.proofs.DrainLemmas.{all_left}
use Rattle.leases.proofs.FinishLemmas.{comes_back_below, comes_back_root}
use Rattle.leases.proofs.PassedLemmas.{query_passes}
use Rattle.leases.proofs.ToldAllLemmas.{all_slots, all_told, gone_on}
use Rattle.leases.specs.Readers.{with_updates}

-- THE ENGINE AFTER so many steps of the query n: it is good, and only that query, the next number and the slots are others
pub record After (e : PlainEngine) (n count : ℕ) (remains : PlainRemains) (e2 : PlainEngine) : Type 0 where
  pub good : GoodEngine e2
  pub is : e2 ≡ record e { queries = set e.queries n remains; next = e.next + count; slots = e2.slots }

in_end : (ls : List Lease) (l : Lease) → IsIn (ls ++ l ∷ []) l
in_end [] l = inl refl
in_end (x ∷ ls) l = inr (in_end ls l)

module _ (e : PlainEngine) (n : ℕ) (q : Registered) (p : PlainQuery) (good : GoodEngine e) (returned : e.leases ≡ []) (registered : query_at e n ≡ Some q) (running : remains_at e n ≡ Running p) where
  goes : Goes e.machine q p
  goes = subst (AreRemains e.machine q) running (good.queries n q registered)

  pub many : length p.operators ≡ length q.nodes
  many = goes.runs.runs.many

  pub few : n < length e.queries
  few = omega (arith, good.many, slice_get_within e.machine.queries n q registered)

  pub is_operator : (k : ℕ) → k < length p.operators → IsOperator e n k q p
  is_operator k lt = record { registered = registered; running = running; within = omega (arith, lt, many) }

  pub log_is : (k : ℕ) → k < length p.operators → log_of e.machine.streams p k ≡ log_at e.machine q k
  log_is k lt = (may_ask e good).logs n k q p (is_operator k lt)

  -- ONE OF ITS OPERATORS has taken what stands first on a side
  module _ (rows k : ℕ) (side : Side) (item : Item) (within : k < length p.operators) (first : IsFirst (operator_at p.operators k) (log_of e.machine.streams p k) side item)
      (cut : entries_of item ≡ cut_of (min rows 1024) (inbox_of (operator_at p.operators k) side) (log_of e.machine.streams p k)) where
    abbrev pub l : Lease
    l = record { number = e.next; query = n; operator = k; side = side; item = item; excerpt = near_of (operator_at p.operators k).state side item }

    of : IsOf e l q p
    of = record { registered = registered; running = running; within = omega (arith, within, many) }

    is_ready : IsReady e l q p
    is_ready = record {
      returned = ap (list_any (is_of n k)) returned;
      number = refl;
      of = of;
      item = subst (λ z. IsFirst (operator_at p.operators k) z side item) (log_is k within) first;
      near = refl;
    }

    pub goes_out : GoesOutOfAny rows e l (leased e l q p)
    goes_out = (q, (p, (record { ready = is_ready; cut = cut ∙ ap (cut_of (min rows 1024) (inbox_of (operator_at p.operators k) side)) (log_is k within) }, refl)))

    pub out_good : GoodEngine (leased e l q p)
    out_good = ready_good e l q p good is_ready

    pub of_out : IsOf (leased e l q p) l q p
    of_out = record { registered = registered; running = running; within = of.within }

    pub is_out : IsIn (leased e l q p).leases l
    is_out = in_end e.leases l

    pub left : others e.next (e.leases ++ l ∷ []) ≡ e.leases
    left = all_left e.leases l (λ a i. (good.leases a i).numbered)

  module _ (rows k : ℕ) (side : Side) (p2 : PlainQuery) (h : HasTakenOwn e.machine.streams rows p k side p2) where
    abbrev pub turn : Lease
    turn = l rows k side h.ran.item h.here.operator h.ran.leased.first h.ran.leased.cut

    abbrev pub out : PlainEngine
    out = leased e turn q p

    good_out : GoodEngine out
    good_out = out_good rows k side h.ran.item h.here.operator h.ran.leased.first h.ran.leased.cut

    of_it : IsOf out turn q p
    of_it = of_out rows k side h.ran.item h.here.operator h.ran.leased.first h.ran.leased.cut

    took : HasTaken out.machine.streams p turn p2
    took = record { finished = h.ran.finished; put = h.ran.put }

    pub back : (e2 : PlainEngine) × ComesBack out turn q p p2 e2
    back = ⊎_elim
        (λ (below : k + 1 < length p.operators). (finished out turn q p p2, comes_back_below out turn q p good_out of_it p2 took (finished out turn q p p2) below refl))
        (λ (root : length p.operators ≤ k + 1). (answered out turn q p p2, comes_back_root out turn q p good_out of_it p2 took (answered out turn q p p2) root refl))
        (cases_lt (k + 1) (length p.operators))

    home : IsCallStep out (Finishes turn) back.0
    home = (is_out rows k side h.ran.item h.here.operator h.ran.leased.first h.ran.leased.cut, (q, (p, (p2, back.1))))

    pub takes_step : IsAnyStep rows e (RanAny turn) back.0
    takes_step = (out, (goes_out rows k side h.ran.item h.here.operator h.ran.leased.first h.ran.leased.cut, home))

    comes_as : (e2 : PlainEngine) → ComesBack out turn q p p2 e2 → e2 ≡ record e { queries = set e.queries n (Running p2); next = e.next + 1; slots = e2.slots }
    comes_as e2 (inl c) = c.1 ∙ ap (λ ls. record e { queries = set e.queries n (Running p2); leases = ls; next = e.next + 1; slots = (finished out turn q p p2).slots }) left_here ∙ ap (λ (z : PlainEngine). record e { queries = set e.queries n (Running p2); next = e.next + 1; slots = z.slots }) (sym c.1)
      where
        left_here : others e.next (e.leases ++ turn ∷ []) ≡ e.leases
        left_here = left rows k side h.ran.item h.here.operator h.ran.leased.first h.ran.leased.cut
    comes_as e2 (inr c) = c.1 ∙ ap (λ ls. record e { queries = set e.queries n (Running p2); leases = ls; next = e.next + 1; slots = (answered out turn q p p2).slots }) left_here ∙ ap (λ (z : PlainEngine). record e { queries = set e.queries n (Running p2); next = e.next + 1; slots = z.slots }) (sym c.1)
      where
        left_here : others e.next (e.leases ++ turn ∷ []) ≡ e.leases
        left_here = left rows k side h.ran.item h.here.operator h.ran.leased.first h.ran.leased.cut

    pub takes_after : After e n 1 (Running p2) back.0
    takes_after = record { good = step_good out back.0 (Finishes turn) good_out home; is = comes_as back.0 back.1 }

  -- ALL OF ITS OPERATORS have passed the instants below one
  module _ (b : ℕ) (p2 : PlainQuery) (h : HasPassedOwn e.machine.streams p b p2) where
    abbrev gone : PlainEngine
    gone = gone_on e n q p p2 good registered running (e.next + 1)

    abbrev told_slots : List Slot
    told_slots = with_updates gone (all_slots e n q p p2 good registered running (e.next + 1)) e.slots

    told : HasSlots (slot_of gone) told_slots
    told = all_told e n q p p2 good registered running (e.next + 1)

    abbrev pub passed : PlainEngine
    passed = record gone { slots = told_slots }

    pub passes_step : HasPassed e n b passed
    passes_step = record {
      query = q;
      plain = p;
      after = p2;
      registered = registered;
      running = running;
      returned = λ k. ap (list_any (is_of n k)) returned;
      wires = h.passed.wires;
      sources = h.passed.sources;
      answers = h.passed.answers;
      passes = query_passes (widths_of e.machine.streams q) goes.widths e.machine q p p2 (goes.taken ++ p.answers) h.may.start b goes.runs.runs log_is h.may.each h.passed;
      slots = equal_slots (slot_of gone) (slot_of passed) told_slots (λ j k. same_slot_in gone gone.queries gone.leases gone.next told_slots j k refl (query_at gone j) (remains_at gone j)) told;
      is = refl;
    }

    pub passes_after : After e n 1 (Running p2) passed
    passes_after = record { good = pass_good e n b passed good passes_step; is = refl }

-- A STEP of the query is one of its engine
pub one_own : (e : PlainEngine) (n : ℕ) (q : Registered) (p : PlainQuery) (good : GoodEngine e) (returned : e.leases ≡ []) (registered : query_at e n ≡ Some q) (running : remains_at e n ≡ Running p)
    (rows : ℕ) (s : OwnStep) (p2 : PlainQuery) → IsOwnStep e.machine.streams rows p s p2
    → (s2 : AnyStep) × ((e2 : PlainEngine) × (IsAnyStep rows e s2 e2 × (is_less s2 ≡ is_less_own s) × After e n 1 (Running p2) e2))
one_own e n q p good returned registered running rows (Takes k side) p2 h =
    (RanAny (turn e n q p good returned registered running rows k side p2 h), (_, (takes_step e n q p good returned registered running rows k side p2 h, refl, takes_after e n q p good returned registered running rows k side p2 h)))
one_own e n q p good returned registered running rows (PassesTo b) p2 h =
    (PassedAny n b, (passed e n q p good returned registered running b p2 h, (passes_step e n q p good returned registered running b p2 h, refl, passes_after e n q p good returned registered running b p2 h)))
one_own e n q p good returned registered running rows (TakesLess count k side) p2 h = (
  LessAny count (turn e n q p good returned registered running count k side p2 h.2),
  (
    _,
    (
      (h.0, h.1, takes_step e n q p good returned registered running count k side p2 h.2),
      refl,
      takes_after e n q p good returned registered running count k side p2 h.2,
    ),
  ),
)

-- and so are steps one after the other
pub record HasRunOn (rows : ℕ) (e : PlainEngine) (n count : ℕ) (short : Bool) (remains : PlainRemains) (e2 : PlainEngine) : Type 0 where
  pub steps : List AnyStep
  pub run : HaveRunAny rows e steps e2
  pub less : one_was_less steps ≡ short
  pub after : After e n count remains e2

pub after_on : (e e2 e3 : PlainEngine) (n a b : ℕ) (r r2 : PlainRemains) → After e n a r e2 → After e2 n b r2 e3 → After e n (a + b) r2 e3
after_on e e2 e3 n a b r r2 one two = record {
  good = two.good;
  is = two.is
      ∙ ap (λ (z : PlainEngine). record z { queries = set z.queries n r2; next = z.next + b; slots = e3.slots }) one.is
      ∙ ap (λ qs. record e { queries = qs; next = (e.next + a) + b; slots = e3.slots }) (set-set e.queries n r r2)
      ∙ ap (λ k. record e { queries = set e.queries n r2; next = k; slots = e3.slots }) (let z : (e.next + a) + b ≡ e.next + (a + b) = omega arith in z);
}

pub all_own : (rows : ℕ) (steps : List OwnStep) (e : PlainEngine) (n : ℕ) (q : Registered) (p p2 : PlainQuery) (good : GoodEngine e) (returned : e.leases ≡ []) (registered : query_at e n ≡ Some q) (running : remains_at e n ≡ Running p)
    → HaveRunOwn e.machine.streams rows p steps p2 → (e2 : PlainEngine) × HasRunOn rows e n (length steps) (one_was_less_own steps) (Running p2) e2
all_own rows [] e n q p p2 good returned registered running h =
    let same : set e.queries n (Running p2) ≡ e.queries = ap (set e.queries n) (ap Running h ∙ sym running) ∙ set-get_or e.queries n Dropped in
    let none : e.next + 0 ≡ e.next = omega arith in (
      e,
      record {
        steps = [];
        run = refl;
        less = refl;
        after = record {
          good = good;
          is = sym (ap (λ qs. record e { queries = qs; next = e.next + 0 }) same ∙ ap (λ k. record e { next = k }) none);
        };
      },
    )
all_own rows (s ∷ steps) e n q p p2 good returned registered running h =
    let one = one_own e n q p good returned registered running rows s h.0 h.1.0 in
    let e1 : PlainEngine = one.1.0 in
    let after1 : After e n 1 (Running h.0) e1 = one.1.1.2 in
    let machine : e1.machine ≡ e.machine = ap (λ (z : PlainEngine). z.machine) after1.is in
    let later = all_own rows steps e1 n q h.0 p2 after1.good
    (ap (λ (z : PlainEngine). z.leases) after1.is ∙ returned)
    (ap (λ m. slice_get m.queries n) machine ∙ registered)
    (ap (λ (z : PlainEngine). remains_at z n) after1.is ∙ remains_here e n (Running h.0) (few e n q p good returned registered running))
    (subst (λ m. HaveRunOwn m.streams rows h.0 steps p2) (sym machine) h.1.1) in (
      later.0,
      record {
        steps = one.0 ∷ later.1.steps;
        run = (e1, (one.1.1.0, later.1.run));
        less = ap₂ (λ a b. a || b) one.1.1.1 later.1.less;
        after = subst (λ k. After e n k (Running p2) later.0) (let one : 1 + length steps ≡ suc (length steps) = omega arith in one) (after_on e e1 later.0 n 1 (length steps) (Running h.0) (Running p2) after1 later.1.after);
      },
    )

-- ONE MORE is done
pub one_more_own : (streams : List Stream) (rows : ℕ) (p p2 p3 : PlainQuery) (steps : List OwnStep) (s : OwnStep) → HaveRunOwn streams rows p steps p2 → IsOwnStep streams rows p2 s p3 → HaveRunOwn streams rows p (steps ++ s ∷ []) p3
one_more_own streams rows p p2 p3 [] s ran done = (p3, (subst (λ z. IsOwnStep streams rows z s p3) ran done, refl))
one_more_own streams rows p p2 p3 (r ∷ steps) s ran done = (ran.0, (ran.1.0, one_more_own streams rows ran.0 p2 p3 steps s ran.1.1 done))

-- and only the last of them ran out of memory, if any
or_none : (a : Bool) → (a || false) ≡ a
or_none true = refl
or_none false = refl

pub or_neither : (a b : Bool) → (a || b) ≡ false → (a ≡ false) × (b ≡ false)
or_neither true b h = absurd (let bad : true ≡ false = h in cc)
or_neither false b h = (refl, h)

pub last_less : (steps : List OwnStep) (s : OwnStep) (less : Bool) → one_was_less_own steps ≡ false → is_less_own s ≡ less → one_was_less_own (steps ++ s ∷ []) ≡ less
last_less [] s less none is = or_none (is_less_own s) ∙ is
last_less (r ∷ steps) s less none is =
    let neither = or_neither (is_less_own r) (one_was_less_own steps) none in
    ap (λ b. b || one_was_less_own (steps ++ s ∷ [])) neither.0 ∙ last_less steps s less neither.1 is

-- A QUERY THAT MAY RUN BY ITSELF
module _ (streams : List Stream) (q : Registered) (p : PlainQuery) (h : MayRunAlone streams q p) where
  abbrev e : PlainEngine
  e = h.engine

  pub alone_has : (k : ℕ) → k < length p.operators → HasOperator streams p k
  alone_has k lt = subst (λ z. HasOperator z p k) h.over ((may_ask e h.good).operators h.number k q p (is_operator e h.number q p h.good h.returned h.registered h.running k lt))

  pub alone_nodes : (k : ℕ) → k < length p.operators → k < length q.nodes
  alone_nodes k lt = omega (arith, lt, many e h.number q p h.good h.returned h.registered h.running)

  pub alone_runs : (s : Slot) (rows : ℕ) → 0 < rows → IsReadyIn streams p s → CanRun streams p s.operator s.side rows
  alone_runs s rows some is =
      subst (λ z. CanRun z p s.operator s.side rows) h.over
      ((may_ask e h.good).in_place h.number s.operator q p s.side s.instant rows (is_operator e h.number q p h.good h.returned h.registered h.running s.operator is.within)
      (subst (λ z. ready (operator_at p.operators s.operator) (log_of z p s.operator) ≡ Some (s.side, s.instant)) (sym h.over) is.ready) some)

  -- and after some steps it may still
  pub alone_on : (rows : ℕ) (steps : List OwnStep) (p2 : PlainQuery) → HaveRunOwn streams rows p steps p2 → MayRunAlone streams q p2
  alone_on rows steps p2 ran =
      let r = all_own rows steps e h.number q p p2 h.good h.returned h.registered h.running (subst (λ z. HaveRunOwn z rows p steps p2) (sym h.over) ran) in
      let is = r.1.after.is in
      let machine : r.0.machine ≡ e.machine = ap (λ (z : PlainEngine). z.machine) is in
      record {
        engine = r.0;
        good = r.1.after.good;
        returned = ap (λ (z : PlainEngine). z.leases) is ∙ h.returned;
        closed = subst HaveFewClosed (sym machine) h.closed;
        over = ap (λ m. m.streams) machine ∙ h.over;
        number = h.number;
        registered = ap (λ m. slice_get m.queries h.number) machine ∙ h.registered;
        running = ap (λ (z : PlainEngine). remains_at z h.number) is ∙ remains_here e h.number (Running p2) (few e h.number q p h.good h.returned h.registered h.running);
      }

-- it has as many operators as before
pub alone_same : (streams : List Stream) (q : Registered) (p p2 : PlainQuery) → MayRunAlone streams q p → MayRunAlone streams q p2 → (k : ℕ) → k < length p.operators → k < length p2.operators
alone_same streams q p p2 h h2 k lt =
    let old : length p.operators ≡ length q.nodes = many h.engine h.number q p h.good h.returned h.registered h.running in
    let new : length p2.operators ≡ length q.nodes = many h2.engine h2.number q p2 h2.good h2.returned h2.registered h2.running in
    omega (arith, lt, old, new)

-- IT PASSES
pub may_be_quiet : (streams : List Stream) (p : PlainQuery) (b : ℕ) → MayPassOwn streams p b → AreQuiet b p
may_be_quiet streams p b h k lt = (h.start, (h.each.each k lt).quiet)

pub passes_own : (streams : List Stream) (rows : ℕ) (p p2 : PlainQuery) (b : ℕ) → MayPassOwn streams p b → HavePassed b p p2 → OneOwnStep false streams rows p p2
passes_own streams rows p p2 b may h = (PassesTo b, (record { may = may; passed = h }, refl))

-- A TURN RAN, or was refused memory
pub takes_own : (streams : List Stream) (rows : ℕ) (p p2 : PlainQuery) (s : Slot) → HasOperator streams p s.operator → HasRun streams p s.operator s.side rows p2 → OneOwnStep false streams rows p p2
takes_own streams rows p p2 s here h = (Takes s.operator s.side, (record { here = here; ran = h }, refl))

stopped_own : (streams : List Stream) (rows : ℕ) (p p2 : PlainQuery) (s : Slot) (f : Refused) → HasOperator streams p s.operator → HasStoppedOn f streams p s rows p2 → HasStoppedOwn f streams rows p p2
stopped_own streams rows p p2 s Before here h = h
stopped_own streams rows p p2 s Within here h = (TakesLess h.count s.operator s.side, ((h.some, h.fewer, record { here = here; ran = h.run }), refl))

pub err_own : (streams : List Stream) (rows : ℕ) (p p2 : PlainQuery) (s : Slot) (r : Result ⊤ Refused) → HasOperator streams p s.operator → IfErr r (λ f. HasStoppedOn f streams p s rows p2) → IfErr r (λ f. HasStoppedOwn f streams rows p p2)
err_own streams rows p p2 s (Ok u) here h = tt
err_own streams rows p p2 s (Err f) here h = stopped_own streams rows p p2 s f here h

-- WHAT IT HAS READY
pub ready_slot : (streams : List Stream) (p : PlainQuery) (k : ℕ) (slope : Fraction) (next : Side × ℕ) (s : Slot) → k < length p.operators → ready (operator_at p.operators k) (log_of streams p k) ≡ Some next → s ≡ slot slope (Some next) 0 k → IsReadyIn streams p s
ready_slot streams p k slope next s lt is same = subst (IsReadyIn streams p) (sym same) (record { within = lt; ready = is })

pub again_slot : (streams : List Stream) (p : PlainQuery) (s : Slot) (next : Side × ℕ) → s.operator < length p.operators → ready (operator_at p.operators s.operator) (log_of streams p s.operator) ≡ Some next → IsReadyIn streams p (with_next s (Some next))
again_slot streams p s next lt is = record { within = lt; ready = is }

pub either_slot : (streams : List Stream) (p : PlainQuery) (s r : Slot) (o : Option Slot) → (r ≡ s) ⊎ (o ≡ Some r) → IsReadyIn streams p s → IfSome o (IsReadyIn streams p) → IsReadyIn streams p r
either_slot streams p s r o (inl same) is all = subst (IsReadyIn streams p) (sym same) is
either_slot streams p s r o (inr some) is all = subst (λ z. IfSome z (IsReadyIn streams p)) some all
