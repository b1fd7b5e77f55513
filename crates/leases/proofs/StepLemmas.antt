-- A turn that goes out and comes back in one step: the engine that has it out is nowhere kept, and the one after the step is what follows on that.
use Rattle.std.proofs.Common.{◌≡◌, ◌≢◌, ◌<◌, ◌≤◌, ◌+◌, ◌++◌, ◌==◌, ◌||◌, ℕ, Bool, true, false, inl, inr, MatchOption, Option, Some, None, List, [], ◌∷◌, length, refl, sym, ap, ◌∙◌, subst, arith, eq-eqb}
use Rattle.std.specs.List.{list_any}
use Rattle.op_queue.specs.declared.item.Item.TheVariants.{Tick}
use Rattle.turn.specs.declared.excerpts.Excerpt.TheVariants.{Nothing}
use Rattle.turn.specs.declared.turns.Turn.{Turn}
use Rattle.plan.proofs.Lists.{by_test}
use Rattle.reference.specs.Machine.{Registered}
use Rattle.laws_queries.specs.Plain.{PlainQuery}
use Rattle.query_runtime.specs.Turns.{wire_at}
use Rattle.run_queue.specs.Slots.{first_of, slot}
use Rattle.run_queue.specs.Changes.{changed, with_next}
use Rattle.run_queue.specs.declared.slots.Slot.{Slot}
use Rattle.laws_engine.specs.Calls.{IsOf, others}
use Rattle.laws_engine.specs.Engines.{Lease, PlainEngine, Running, is_leased, is_of, next_at}
use Rattle.laws_engine.specs.Engines.{query_at, remains_at, slope_at, slot_at}
use Rattle.laws_engine.specs.Good.{GoodEngine, HasSlots, IsIn, IsLease, slot_of}
use Rattle.laws_engine.specs.Promises.{IsOfSteepest}
use Rattle.laws_engine.proofs.BackLemmas.{same_plain, same_query, unequal}
use Rattle.laws_engine.proofs.LeaseLemmas.{lease_good}
use Rattle.laws_engine.proofs.PromiseLemmas.{first_in, keeps_its_promises, slot_is}
use Rattle.laws_engine.proofs.TableLemmas.{same_slot_at, same_slot_in}
use Rattle.leases.specs.Applied.{BothStand, GivesNothing, HasEnded, HasTakenIn, HasTold, HasWiredOperators, IsAbove, IsOutAsIn, IsUpdated, MayTell, with_slot, without_turn}
use Rattle.leases.specs.Asked.{HasOperatorAt}
use Rattle.leases.specs.Drains.{OneTurnHasRun}
use Rattle.leases.specs.Leasing.{IsTurnOn}
use Rattle.leases.specs.Shown.{engine_in}
use Rattle.leases.specs.Sound.{IsSound}
use Rattle.leases.specs.Turns.{IsTurnOf, lease_fault}
use Rattle.leases.specs.Views.{lease_of}
use Rattle.leases.specs.declared.limits.TheConstants.{LEASE_NUMBERS}
use Rattle.leases.specs.declared.state.EngineState.{EngineState}
use Rattle.leases.proofs.DrainLemmas as drain
use Rattle.leases.proofs.FinishBackLemmas.{AreSteps, has_come_back, sound_ended, tells_here, tells_over}
use Rattle.leases.proofs.FinishLemmas.{below_of, is_at, to_later, wired_operators}
use Rattle.leases.proofs.LeaseLemmas.{any_last, out_of, some_slot, turn_out}
use Rattle.leases.proofs.LookLemmas.{asks_on, tells_on}
use Rattle.leases.proofs.StandLemmas.{over_stands, stands_in}
use Rattle.leases.proofs.UpdateLemmas.{changed_again}

-- A NUMBER is counted
abbrev pub counted : EngineState → EngineState
counted s = record s { next = s.next + 1 }

counted_lease : (e : PlainEngine) (l : Lease) → IsLease e l → IsLease (record e { next = e.next + 1 }) l
counted_lease e l is = record {
  numbered = omega (arith, is.numbered);
  query = is.query;
  registered = is.registered;
  plain = is.plain;
  running = is.running;
  within = is.within;
  first = is.first;
  near = is.near;
}

counted_slots : (e : PlainEngine) → HasSlots (slot_of e) e.slots → HasSlots (slot_of (record e { next = e.next + 1 })) e.slots
counted_slots e h =
    let same : (n k : ℕ) → slot_of (record e { next = e.next + 1 }) n k ≡ slot_of e n k = λ n k. same_slot_in e e.queries e.leases (e.next + 1) e.slots n k refl (query_at e n) (remains_at e n) in
    record { ordered = h.ordered; there = λ n k s is. h.there n k s (sym (same n k) ∙ is); only = λ s i. same s.query s.operator ∙ h.only s i }

counted_good : (e : PlainEngine) → GoodEngine e → GoodEngine (record e { next = e.next + 1 })
counted_good e g = record {
  machine = g.machine;
  rows = g.rows;
  many = g.many;
  queries = g.queries;
  leases = λ l i. counted_lease e l (g.leases l i);
  apart = g.apart;
  slots = counted_slots e g.slots;
}

pub counted_sound : (s : EngineState) → IsSound s → s.next < LEASE_NUMBERS → IsSound (counted s)
counted_sound s h lt = record {
  good = counted_good (engine_in s) h.good;
  kinds = h.kinds;
  few = h.few;
  numbers = omega (arith, lt);
  named = h.named;
  gone = h.gone;
  columns = h.columns;
  closed = h.closed;
  readers = h.readers;
}

-- ANOTHER OPERATOR is leased as before
any_push : (test : Lease → Bool) (ls : List Lease) (l : Lease) → test l ≡ false → list_any test (ls ++ l ∷ []) ≡ list_any test ls
any_push test [] l f = rw f refl
any_push test (x ∷ ls) l f = ap (λ b. test x || b) (any_push test ls l f)

other_operator : (n k : ℕ) (l : Lease) → l.operator ≢ k → is_of n k l ≡ false
other_operator n k l ne = let f : (l.operator == k) ≡ false = unequal l.operator k ne in by_test (l.query == n) (λ t. rw (t, f) refl) (λ g. rw g refl)

in_end : (ls : List Lease) (l : Lease) → IsIn (ls ++ l ∷ []) l
in_end [] l = inl refl
in_end (x ∷ ls) l = inr (in_end ls l)

above_same : (above : Option Slot) (A B : Type 0) (s t : Slot) → (B → s ≡ t) → MatchOption above A (λ z. B × (z ≡ s)) → MatchOption above A (λ z. B × (z ≡ t))
above_same None A B s t same h = h
above_same (Some z) A B s t same h = (h.0, h.1 ∙ same h.0)

-- THE FIRST SLOT is asked for before its turn runs
module _ (old : EngineState) (s : Slot) (sound : IsSound old) (first : first_of old.slots ≡ Some s) where
  top : IsOfSteepest (engine_in old) s
  top = (keeps_its_promises (engine_in old) sound.good).steepest s first

  -- by some lease of its operator
  abbrev any : Lease
  any = record { number = 0; query = s.query; operator = s.operator; side = s.side; item = Tick 0; excerpt = Nothing }

  of_any : IsOf (engine_in old) any top.query top.plain
  of_any = record { registered = top.registered; running = top.running; within = top.within }

  pub may_look_here : HasOperatorAt (engine_in old) s.query s.operator
  may_look_here = (top.query, (top.plain, is_at (engine_in old) any top.query top.plain sound.good of_any s.operator top.within))

  pub may_look_over : HasWiredOperators (engine_in old) s.query
  may_look_over = wired_operators (engine_in old) any top.query top.plain sound.good of_any

  -- IT STANDS in the list, and so does the one above, which is another operator's
  pub both_stand : (above : Option Slot) → IsAbove (engine_in old) s.query s.operator above → BothStand old.slots s above
  both_stand above over = (stands_in (engine_in old) sound.good s (sound.good.slots.only s (first_in old.slots s first).0), over_stands (engine_in old) any top.query top.plain sound.good of_any above (over top.query top.plain top.registered top.running))

-- ITS TURN, that was run
module _ (old : EngineState) (s : Slot) (rows : ℕ) (t : Turn) (sound : IsSound old) (first : first_of old.slots ≡ Some s) (allowed : lease_fault (engine_in old) rows ≡ None) (numbers : old.next < LEASE_NUMBERS) (made : IsTurnOn (engine_in old) s rows t) where
  abbrev d : Lease
  d = lease_of t

  -- THE ENGINE that has it out
  abbrev e1 : PlainEngine
  e1 = out_of (engine_in old) s t

  goes : IsTurnOf (engine_in old) rows t e1
  goes = turn_out (engine_in old) s rows sound.good first allowed t made

  good : GoodEngine e1
  good = subst GoodEngine (sym goes.after) (lease_good (engine_in old) d goes.query goes.plain goes.slot sound.good goes.leasable)

  out : IsOutAsIn e1 d
  out =
      let of : IsOf e1 d goes.query goes.plain = record { registered = goes.leasable.of.registered; running = goes.leasable.of.running; within = goes.leasable.of.within } in
      (goes.query, (goes.plain, record { out = in_end (engine_in old).leases d; of = of }))

  query_is : s.query ≡ d.query
  query_is = sym (ap (λ v. v.query) made.1.node)

  operator_is : s.operator ≡ d.operator
  operator_is = sym (ap (λ v. v.operator) made.1.node)

  number_is : d.number ≡ old.next
  number_is = made.1.number

  there : IsIn old.slots s
  there = (first_in old.slots s first).0

  running : remains_at e1 s.query ≡ Running out.1.0
  running = ap (remains_at e1) query_is ∙ out.1.1.of.running

  others_left : others d.number e1.leases ≡ (engine_in old).leases
  others_left = drain.all_left (engine_in old).leases d (λ a i. omega (arith, (sound.good.leases a i).numbered, number_is))

  few_left : length (others d.number e1.leases) ≤ length (engine_in old).leases
  few_left = let same : length (others d.number e1.leases) ≡ length (engine_in old).leases = ap (λ ls. length ls) others_left in omega (arith, same)

  -- ITS QUERY TAKES IT
  module _ (above : Option Slot) (over : IsAbove (engine_in old) s.query s.operator above) (e2 : PlainEngine) (applied : HasTakenIn (engine_in (counted old)) d e2) where
    -- the engine that has it out still, and the one where it is out no more
    abbrev still : PlainEngine
    still = record e2 { leases = e1.leases; slots = e1.slots }

    abbrev home : PlainEngine
    home = without_turn still d.number

    takes : HasTakenIn e1 d still
    takes p is = let a = applied p is in (a.0, (a.1.0, ap (λ (e : PlainEngine). record e { leases = e1.leases; slots = e1.slots }) a.1.1))

    leased_here : is_leased e1 s.query s.operator ≡ true
    leased_here =
        let same_query : (d.query == s.query) ≡ true = eq-eqb d.query s.query (sym query_is) in
        let same_operator : (d.operator == s.operator) ≡ true = eq-eqb d.operator s.operator (sym operator_is) in
        any_last (is_of s.query s.operator) (engine_in old).leases d (rw (same_query, same_operator) refl)

    slot_here : (q : Registered) (p : PlainQuery) → query_at e1 s.query ≡ Some q → remains_at e1 s.query ≡ Running p → with_next s None ≡ slot_at e1 s.query q p s.operator
    slot_here q p registered is =
        let here = may_look_here old s sound first in
        let same : here.0 ≡ q = same_query (sym here.1.1.registered ∙ registered) in
        let within : s.operator < length q.nodes = subst (λ (z : Registered). s.operator < length z.nodes) same here.1.1.within in
        let was : slot_at (engine_in old) s.query q p s.operator ≡ s = some_slot (sym (slot_is (engine_in old) s.query s.operator q p registered is within) ∙ sound.good.slots.only s there) in
        let none : next_at e1 s.query q p s.operator ≡ None = rw leased_here refl in
        ap (λ z. with_next z None) (sym was) ∙ ap (λ i. slot (slope_at q s.operator) i s.query s.operator) (sym none)

    later : (p : PlainQuery) → remains_at e1 s.query ≡ Running p → s.operator + 1 < length p.operators → s.operator < (wire_at p s.operator).to
    later p is =
        let same : out.1.0 ≡ p = same_plain (sym running ∙ is) in
        subst (λ (z : PlainQuery). s.operator + 1 < length z.operators → s.operator < (wire_at z s.operator).to) same
        (subst (λ k. k + 1 < length out.1.0.operators → k < (wire_at out.1.0 k).to) (sym operator_is)
        (λ lt. to_later e1 d out.0 out.1.0 good out.1.1.of d.operator (below_of e1 d out.0 out.1.0 good out.1.1.of lt)))

    over_still : IsAbove e1 s.query s.operator above
    over_still q p registered is =
        above_same above (length p.operators ≤ s.operator + 1) (s.operator + 1 < length p.operators) (slot_at (engine_in old) s.query q p (wire_at p s.operator).to) (slot_at e1 s.query q p (wire_at p s.operator).to)
        (λ lt.
        let apart : d.operator ≢ (wire_at p s.operator).to = λ z. absurd (omega (arith, later p is lt, operator_is, z)) in
        let leased : list_any (is_of s.query (wire_at p s.operator).to) e1.leases ≡ list_any (is_of s.query (wire_at p s.operator).to) (engine_in old).leases =
        any_push (is_of s.query (wire_at p s.operator).to) (engine_in old).leases d (other_operator s.query (wire_at p s.operator).to d apart) in
        sym (same_slot_at (engine_in old) e1.queries e1.leases e1.next e1.slots s.query (wire_at p s.operator).to leased q p p refl))
        (over q p registered is)

    steps : AreSteps e1 d s.query s.operator d.number (with_next s None) above still
    steps = record { query = query_is; operator = operator_is; number = refl; slot = slot_here; over = over_still; applied = takes }

    pub may_tell_here : HasOperatorAt e2 s.query s.operator
    may_tell_here = asks_on still e2.leases e2.next e2.slots s.query s.operator (tells_here e1 d s.query s.operator d.number (with_next s None) above still good out steps)

    pub may_tell_over : MayTell e2 above
    may_tell_over = tells_on still e2.leases e2.next e2.slots above (tells_over e1 d s.query s.operator d.number (with_next s None) above still good out steps)

    -- its slot is told once, and not first that nothing may be taken
    told_once : (e3 : PlainEngine) → IsUpdated e2 s e3 → IsUpdated home (with_next s None) e3
    told_once e3 told q p registered is =
        let took = applied out.1.0 out.1.1.of.running in
        let leases : e2.leases ≡ home.leases = ap (λ e. e.leases) took.1.1 ∙ sym others_left in
        let slots : e2.slots ≡ old.slots = ap (λ e. e.slots) took.1.1 in
        told q p registered is
        ∙ ap (λ ss. record e2 { slots = changed s (next_at e2 s.query q p s.operator) ss }) slots
        ∙ ap (λ ss. record e2 { slots = ss }) (sym (changed_again (engine_in old) s sound.good there (next_at e2 s.query q p s.operator)))
        ∙ ap (λ ls. with_slot (record e2 { leases = ls; slots = e1.slots }) (with_next s None) q p) leases

    -- no turn of its number is kept, so none need end
    ended : (new : PlainEngine) → HasTold e2 s above new → HasEnded still d.number (with_next s None) above new
    ended new h = (h.0, (told_once h.0 h.1.0, h.1.1))

    pub ran : (new : PlainEngine) → HasTold e2 s above new → OneTurnHasRun rows (engine_in old) new
    ran new h =
        let home = has_come_back e1 d s.query s.operator d.number (with_next s None) above still good out steps new (ended new h) in
        (t, (e1, (goes, (out.1.1.out, (home.0, (home.1.0, (home.1.1.0, home.1.1.1.1)))))))

    pub ran_sound : (new : EngineState) → HasTold e2 s above (engine_in new) → GivesNothing (counted old) new → IsSound new
    ran_sound new h r =
        sound_ended (counted old) e1.leases e1.slots d s.query s.operator d.number (with_next s None) above still (counted_sound old sound numbers) good few_left out steps new (ended (engine_in new) h) r
