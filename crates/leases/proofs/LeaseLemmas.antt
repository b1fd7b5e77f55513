-- A turn that goes out, and the engine after it.
use Rattle.std.proofs.Common.{◌≡◌, ℕ, ◌+◌, ◌<◌, ◌++◌, ◌||◌, ◌&&◌, ◌==◌, not, nat_le, is_some, Bool, cond, true, false, inl, inr, ◌⊎◌, ⊎_elim, Option, Some, None, Result, Ok, Err, List, [], ◌∷◌, length, map, min, refl, sym, ap, ◌∙◌, subst, arith, eq-eqb, length-append}
use Rattle.std.specs.List.{list_any}
use Rattle.std.proofs.lemmas.List.{map-append}
use Rattle.column.specs.declared.batch.Side.{Side}
use Rattle.op_queue.specs.declared.item.Item.{Item}
use Rattle.turn.specs.Nodes.{PlainNode}
use Rattle.turn.specs.declared.excerpts.Excerpt.{Excerpt}
use Rattle.turn.specs.declared.turns.Turn.{Turn}
use Rattle.operators.specs.Inboxes.{cut_of}
use Rattle.operators.specs.Ready.{inbox_of, ready}
use Rattle.names.specs.Faults as faults
use Rattle.reference.specs.World.{drain_fault}
use Rattle.reference.specs.declared.fault.Fault.{Fault}
use Rattle.reference.specs.declared.fault.Fault.TheVariants.{BadLimit, TooManyLeases}
use Rattle.reference.specs.declared.limits.TheConstants.{MAX_TURN}
use Rattle.leases.specs.Undropped.{undropped_of}
use Rattle.laws_queries.specs.Plain.{PlainQuery, log_at, operator_at}
use Rattle.laws_queries.specs.Registrations.{HaveColumnNames}
use Rattle.laws_queries.specs.Steps.{IsFirst}
use Rattle.run_queue.specs.Slots.{first_of}
use Rattle.run_queue.specs.Changes.{changed}
use Rattle.run_queue.specs.declared.slots.Slot.{Slot}
use Rattle.query_runtime.specs.Turns.{IsLeased, log_of}
use Rattle.laws_engine.specs.Asks.{IsOperator}
use Rattle.laws_engine.specs.Bounds.{HaveFewClosed}
use Rattle.laws_engine.specs.Calls.{IsLeasable, given_out, leased, slot_updated}
use Rattle.laws_engine.specs.Engines.{Lease, PlainEngine, Running, is_leased, is_of, next_at}
use Rattle.laws_engine.specs.Engines.{ready_in, remains_at, slot_at}
use Rattle.laws_engine.specs.Good.{GoodEngine, IsIn}
use Rattle.laws_engine.specs.Promises.{HasAllWaiting, IsOfSteepest}
use Rattle.laws_engine.proofs.AskLemmas.{may_ask}
use Rattle.laws_engine.proofs.IdleLemmas.{idle_waits}
use Rattle.laws_engine.proofs.LeaseLemmas.{lease_good}
use Rattle.laws_engine.proofs.PromiseLemmas.{first_in, keeps_its_promises, slot_is}
use Rattle.leases.specs.Leasing.{IsOfSlot, IsTurnOn, MayLeaseOn, node_on}
use Rattle.leases.specs.Readers.{readers_of}
use Rattle.leases.specs.Runs.{MayRunIn}
use Rattle.leases.specs.Shown.{engine_in}
use Rattle.leases.specs.Sound.{IsSound, is_gone}
use Rattle.leases.specs.Turns.{IsTurnOf, Leases, lease_fault}
use Rattle.leases.specs.Views.{HasKind, engine_of, lease_of}
use Rattle.leases.specs.declared.leased.Leased.{Leased}
use Rattle.leases.specs.declared.leased.Leased.TheVariants.{Idle}
use Rattle.leases.specs.declared.limits.TheConstants.{LEASE_NUMBERS, MAX_LEASES}
use Rattle.leases.specs.declared.state.EngineState.{EngineState}

-- WHAT A TURN OF A SLOT says of the query that runs
same_running : {p r : PlainQuery} → Running p ≡ Running r → p ≡ r
same_running e = cc

made_of : (e : PlainEngine) (s : Slot) (rows : ℕ) (g : Turn) (p : PlainQuery) → remains_at e s.query ≡ Running p → IsTurnOn e s rows g → IsOfSlot e s rows g p
made_of e s rows g p running made = subst (IsOfSlot e s rows g) (same_running (sym made.1.running ∙ running)) made.1

-- one with an item and an excerpt
abbrev pub turn_with : PlainEngine → PlainQuery → Slot → Item → Excerpt → Turn
turn_with e p s i near = record { lease = e.next; node = node_on p s; item = i; near = near }

abbrev with_number : ℕ → PlainNode → Item → Excerpt → Turn
with_number a node i near = record { lease = a; node = node; item = i; near = near }

is_turn_with : (e : PlainEngine) (s : Slot) (rows : ℕ) (g : Turn) (p : PlainQuery) → IsOfSlot e s rows g p → g ≡ turn_with e p s g.item g.near
is_turn_with e s rows g p of = ap (λ z. with_number z g.node g.item g.near) of.number ∙ ap (λ z. with_number e.next z g.item g.near) of.node

-- THE ENGINE after it
abbrev pub out_of : PlainEngine → Slot → Turn → PlainEngine
out_of e s g = record e { leases = e.leases ++ lease_of g ∷ []; next = e.next + 1; slots = changed s None e.slots }

pub any_last : (f : Lease → Bool) (ls : List Lease) (l : Lease) → f l ≡ true → list_any f (ls ++ l ∷ []) ≡ true
any_last f [] l t = rw t refl
any_last f (x ∷ ls) l t = let u : list_any f (ls ++ l ∷ []) ≡ true = any_last f ls l t in by_first (f x) u where
  by_first : (b : Bool) → list_any f (ls ++ l ∷ []) ≡ true → (b || list_any f (ls ++ l ∷ [])) ≡ true
  by_first true u = refl
  by_first false u = u

is_of_own : (l : Lease) → is_of l.query l.operator l ≡ true
is_of_own l = let u : (l.query == l.query) ≡ true = eq-eqb l.query l.query refl in let v : (l.operator == l.operator) ≡ true = eq-eqb l.operator l.operator refl in rw (u, v) refl

pub some_slot : {a b : Slot} → Some a ≡ Some b → a ≡ b
some_slot e = cc

-- what may be taken next of an operator of which no turn is out is what is ready
next_ready : (b : Bool) (o : Option (Side × ℕ)) (next : Side × ℕ) → cond b None o ≡ Some next → o ≡ Some next
next_ready true o next e = absurd (cc)
next_ready false o next e = e

module _ (e : PlainEngine) (s : Slot) (rows : ℕ) (good : GoodEngine e) (first : first_of e.slots ≡ Some s) where
  top : IsOfSteepest e s
  top = (keeps_its_promises e good).steepest s first

  operator_is : IsOperator e s.query s.operator top.query top.plain
  operator_is = record { registered = top.registered; running = top.running; within = top.within }

  first_slot : slot_at e s.query top.query top.plain s.operator ≡ s
  first_slot = some_slot (sym (slot_is e s.query s.operator top.query top.plain top.registered top.running top.within) ∙ good.slots.only s (first_in e.slots s first).0)

  log_is : log_of e.machine.streams top.plain s.operator ≡ log_at e.machine top.query s.operator
  log_is = (may_ask e good).logs s.query s.operator top.query top.plain operator_is

  takes : ready (operator_at top.plain.operators s.operator) (log_at e.machine top.query s.operator) ≡ Some (s.side, s.instant)
  takes = next_ready (is_leased e s.query s.operator) (ready_in e.machine top.query top.plain s.operator) (s.side, s.instant) top.next

  -- THE FIRST SLOT is of an operator that may be leased on its side
  pub first_leases : 0 < rows → MayLeaseOn e s rows
  first_leases some = (
    top.plain,
    record {
      running = top.running;
      operator = (may_ask e good).operators s.query s.operator top.query top.plain operator_is;
      may = (may_ask e good).leases s.query s.operator top.query top.plain s.side s.instant rows operator_is (ap (ready (operator_at top.plain.operators s.operator)) log_is ∙ takes) some;
    },
  )

  -- and may run its turn in place
  pub first_runs : 0 < rows → MayRunIn e s rows
  first_runs some = (
    top.plain,
    (
      top.running,
      record {
        here = (may_ask e good).operators s.query s.operator top.query top.plain operator_is;
        may = (may_ask e good).in_place s.query s.operator top.query top.plain s.side s.instant rows operator_is (ap (ready (operator_at top.plain.operators s.operator)) log_is ∙ takes) some;
      },
    ),
  )

  module _ (allowed : lease_fault e rows ≡ None) where
    module _ (i : Item) (near : Excerpt) (is : IsLeased (operator_at top.plain.operators s.operator) (log_of e.machine.streams top.plain s.operator) s.side rows i near) where
      abbrev made : Turn
      made = turn_with e top.plain s i near

      item_first : IsFirst (operator_at top.plain.operators s.operator) (log_at e.machine top.query s.operator) s.side i
      item_first = subst (λ z. IsFirst (operator_at top.plain.operators s.operator) z s.side i) log_is is.first

      out_leasable : IsLeasable e (lease_of made) top.query top.plain s
      out_leasable = record {
        first = first;
        query = refl;
        operator = refl;
        number = refl;
        of = record { registered = top.registered; running = top.running; within = top.within };
        item = item_first;
        near = is.near;
      }

      out_next : next_at (given_out e (lease_of made)) s.query top.query top.plain s.operator ≡ None
      out_next = let out : is_leased (given_out e (lease_of made)) s.query s.operator ≡ true = any_last (is_of s.query s.operator) e.leases (lease_of made) (is_of_own (lease_of made)) in rw out refl

      out_slots : changed s None e.slots ≡ slot_updated e (given_out e (lease_of made)) s.query top.query top.plain top.plain s.operator e.slots
      out_slots = ap (λ z. changed z None e.slots) (sym first_slot) ∙ ap (λ z. changed (slot_at e s.query top.query top.plain s.operator) z e.slots) (sym out_next)

      out_leased : out_of e s made ≡ leased e (lease_of made) top.query top.plain
      out_leased = ap (λ z. record (given_out e (lease_of made)) { slots = z }) out_slots

      out_made : IsTurnOf e rows made (out_of e s made)
      out_made = record {
        query = top.query;
        plain = top.plain;
        slot = s;
        allowed = allowed;
        leasable = out_leasable;
        steepest = top;
        takes = takes;
        kind = refl;
        fits = is.fits;
        cut = is.cut ∙ ap (cut_of (min rows 1024) (inbox_of (operator_at top.plain.operators s.operator) s.side)) log_is;
        after = out_leased;
      }

    pub turn_out : (g : Turn) → IsTurnOn e s rows g → IsTurnOf e rows g (out_of e s g)
    turn_out g made =
        let of : IsOfSlot e s rows g top.plain = made_of e s rows g top.plain top.running made in
        subst (λ z. IsTurnOf e rows z (out_of e s z)) (sym (is_turn_with e s rows g top.plain of)) (out_made g.item g.near of.leased)

-- THE STATE after it
pub record HasGone (old new : EngineState) (s : Slot) (g : Turn) : Type 0 where
  pub engine : engine_in new ≡ engine_of old.streams old.registered.items old.remains.items new.leases.items (old.next + 1) new.slots
  pub leases : new.leases.items ≡ old.leases.items ++ g ∷ []
  pub slots : new.slots ≡ changed s None old.slots
  pub next : new.next ≡ old.next + 1
  pub undropped : new.undropped ≡ old.undropped
  pub readers : new.readers ≡ old.readers

gone_engine : (old new : EngineState) (s : Slot) (g : Turn) → HasGone old new s g → engine_in new ≡ out_of (engine_in old) s g
gone_engine old new s g h =
    h.engine
    ∙ (ap (λ z. engine_of old.streams old.registered.items old.remains.items z (old.next + 1) new.slots) h.leases
    ∙ (ap (engine_of old.streams old.registered.items old.remains.items (old.leases.items ++ g ∷ []) (old.next + 1)) h.slots
    ∙ ap (λ z. record (engine_in old) { leases = z; next = old.next + 1; slots = changed s None old.slots }) (map-append lease_of old.leases.items (g ∷ []))))

in_last : (ls : List Turn) (g a : Turn) → IsIn (ls ++ g ∷ []) a → IsIn ls a ⊎ (g ≡ a)
in_last [] g a (inl e) = inr e
in_last [] g a (inr i) = absurd i
in_last (x ∷ ls) g a (inl e) = inl (inl e)
in_last (x ∷ ls) g a (inr i) = ⊎_elim (λ j. inl (inr j)) (λ e. inr e) (in_last ls g a i)

-- the turn of which this is, made of the first slot
module _ (old new : EngineState) (s : Slot) (rows : ℕ) (g : Turn) (sound : IsSound old) (first : first_of old.slots ≡ Some s) (allowed : lease_fault (engine_in old) rows ≡ None)
    (made : IsTurnOn (engine_in old) s rows g) (gone : HasGone old new s g) where
  is : engine_in new ≡ out_of (engine_in old) s g
  is = gone_engine old new s g gone

  turn_is : IsTurnOf (engine_in old) rows g (out_of (engine_in old) s g)
  turn_is = turn_out (engine_in old) s rows sound.good first allowed g made

  pub goes_out : IsTurnOf (engine_in old) rows g (engine_in new)
  goes_out = subst (IsTurnOf (engine_in old) rows g) (sym is) turn_is

  new_kind : HasKind (engine_in old) g
  new_kind p running = turn_is.kind ∙ ap (λ (z : PlainQuery). (operator_at z.operators g.node.operator).kind) (same_running (sym turn_is.leasable.of.running ∙ running))

  -- the engine is sound as it was
  pub sound_out : length old.leases.items < MAX_LEASES → old.next < LEASE_NUMBERS → IsSound new
  sound_out few numbers = record {
    good = subst GoodEngine (sym (is ∙ turn_is.after)) (lease_good (engine_in old) (lease_of g) turn_is.query turn_is.plain turn_is.slot sound.good turn_is.leasable);
    kinds = λ x i. subst (λ z. HasKind z x) (sym is)
        (⊎_elim (λ j. sound.kinds x j) (λ z. subst (HasKind (engine_in old)) z new_kind) (in_last old.leases.items g x (subst (λ z. IsIn z x) gone.leases i)));
    few = let many : length new.leases.items ≡ length old.leases.items + 1 = ap length gone.leases ∙ length-append old.leases.items (g ∷ []) in omega (arith, many, few);
    numbers = omega (arith, gone.next, numbers);
    named = gone.undropped ∙ (sound.named ∙ ap (λ (z : PlainEngine). undropped_of z.machine.queries) (sym is));
    gone = subst (λ (z : PlainEngine). map (λ q. q.is_dropped) z.machine.queries ≡ map is_gone z.queries) (sym is) sound.gone;
    columns = subst (λ (z : PlainEngine). HaveColumnNames z.machine) (sym is) sound.columns;
    closed = subst (λ (z : PlainEngine). HaveFewClosed z.machine) (sym is) sound.closed;
    readers = gone.readers ∙ sound.readers ∙ ap readers_of (sym is);
  }

-- THE TEST of the number of rows comes first, whatever the other tests are
test_fails : (b : Bool) (tests : List (Bool × Fault)) (f : Fault) → Some f ≡ faults.first_of ((b, BadLimit) ∷ []) → (f ≡ BadLimit) × (faults.first_of ((b, BadLimit) ∷ tests) ≡ Some BadLimit)
test_fails true tests f h = let same : f ≡ BadLimit = cc in (same, refl)
test_fails false tests f h = absurd (cc)

pub refused_lease : (e : PlainEngine) (rows : ℕ) (f : Fault) → Some f ≡ drain_fault rows → Leases e rows (Err f) e
refused_lease e rows f h =
    let fails =
    test_fails (not (nat_le 1 rows && nat_le rows MAX_TURN)) ((is_some (first_of e.slots) && (nat_le MAX_LEASES (length e.leases) || nat_le LEASE_NUMBERS e.next), TooManyLeases) ∷ []) f h in
    subst (λ z. Leases e rows (Err z) e) (sym fails.0) (fails.1, refl)

-- WHERE NOTHING WENT OUT there is nothing that may
pub idle_waits_for_all : (old new : PlainEngine) (rows : ℕ) (result : Result Leased Fault) → GoodEngine new → Leases old rows result new → result ≡ Ok Idle → HasAllWaiting new
idle_waits_for_all old new rows result good answers none =
    let is : Leases old rows (Ok Idle) new = subst (λ z. Leases old rows z new) none answers in
    idle_waits new good (ap (λ (z : PlainEngine). first_of z.slots) is.2 ∙ is.1)
