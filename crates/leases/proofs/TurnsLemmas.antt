-- Turns of the first slot that run one after the other, while the slots wait to be told: with these told, each is a turn of the first slot.
use Rattle.std.proofs.Common.{◌≡◌, ◌≢◌, ◌<◌, ◌≤◌, ◌+◌, ℕ, Bool, true, false, not, cond, nat_le, ◌&&◌, ◌||◌, inl, inr, ◌⊎◌, ⊎_elim, is_none, is_some, unwrap_or, MatchOption, Option, Some, None, List, [], ◌∷◌, length, refl, sym, ap, ap₂, ◌∙◌, subst, arith, eqb-true, leb-true}
use Rattle.std.specs.Prelude.{⊤}
use Rattle.std.proofs.lemmas.Bool.{le-leb}
use Rattle.std.specs.Option.{option_to_list}
use Rattle.std.specs.Ordering.{is_gt}
use Rattle.std.specs.declared.cmp.Ordering.TheVariants.{Less, Equal}
use Rattle.column.specs.declared.batch.Side.{Side}
use Rattle.column.specs.declared.batch.Side.TheVariants.{Left}
use Rattle.envelope.specs.Fraction.{fraction_cmp}
use Rattle.op_queue.specs.Items.{item_instant}
use Rattle.op_queue.specs.Logs.{Closed}
use Rattle.op_queue.specs.declared.item.Item.{Item}
use Rattle.op_queue.specs.declared.item.Item.TheVariants.{Tick}
use Rattle.turn.specs.Turns.{Answered, Outs, Put}
use Rattle.turn.specs.declared.excerpts.Excerpt.TheVariants.{Nothing}
use Rattle.operators.specs.Ready.{ready}
use Rattle.operators.specs.declared.runs.Refused.{Refused}
use Rattle.operators.specs.declared.runs.Refused.TheVariants.{Before, Within}
use Rattle.names.specs.Faults as faults
use Rattle.plan.proofs.Lists.{by_test}
use Rattle.reference.specs.Machine.{Registered, Stream}
use Rattle.reference.specs.declared.fault.Fault.{Fault}
use Rattle.reference.specs.declared.fault.Fault.TheVariants.{BadLimit, TooManyLeases}
use Rattle.reference.specs.declared.limits.TheConstants.{MAX_TURN}
use Rattle.laws_queries.specs.Queries.{change_at_first}
use Rattle.laws_queries.specs.Plain.{PlainQuery, log_at, operator_at}
use Rattle.laws_queries.specs.Steps.{IsFirst, outs_at_first}
use Rattle.query_runtime.specs.Turns.{CanPut, HasFinished, HasPut, log_of, wire_at}
use Rattle.run_queue.specs.Slots.{first_of, slot, slot_cmp}
use Rattle.run_queue.specs.Changes.{changed, goes_on, with_next}
use Rattle.run_queue.specs.declared.slots.Slot.{Slot}
use Rattle.run_queue.proofs.StandLemmas.{changed_nothing}
use Rattle.laws_engine.specs.Calls.{IsOf}
use Rattle.laws_engine.specs.Engines.{Lease, PlainEngine, Running, is_leased, next_at, query_at}
use Rattle.laws_engine.specs.Engines.{remains_at, slope_at, slot_at}
use Rattle.laws_engine.specs.Good.{IsIn, slot_of}
use Rattle.laws_engine.proofs.BackLemmas.{numbered, remains_here, same_plain, same_query}
use Rattle.laws_engine.proofs.PromiseLemmas.{first_in, is_slot, slot_is}
use Rattle.leases.specs.Applied.{BothStand, GivesNothing, HasTold, IsAbove, IsUpdated, MayTell, with_remains}
use Rattle.leases.specs.Asked.{HasOperatorAt}
use Rattle.leases.specs.Drains.{OneHasRun, OneOrMoreHaveRun, OneTurnHasRun, RanOutAfterTurns, RanOutBelow, RanOutOfMemory, SomeHaveRun}
use Rattle.leases.specs.Readers.{next_for, with_slots, with_update, with_updates}
use Rattle.leases.specs.Runs.{HasRunIn, HasRunOn, HasStoppedIn, MayRunIn}
use Rattle.leases.specs.Shown.{engine_in}
use Rattle.leases.specs.Sound.{IsSound}
use Rattle.leases.specs.Told.{GoesOn, IsNoSteeper, MayTellBoth, told, told_above, told_slot, told_slots, told_state}
use Rattle.leases.specs.Turns.{lease_fault}
use Rattle.leases.specs.declared.limits.TheConstants.{LEASE_NUMBERS, MAX_LEASES}
use Rattle.leases.specs.declared.state.EngineState.{EngineState}
use Rattle.leases.proofs.BeatLemmas.{next_is}
use Rattle.leases.proofs.DrainLemmas.{more_run, none_run, turn_has_run}
use Rattle.leases.proofs.FedLemmas.{HasNextOrAt, StartAt, item_at, outs_start, ready_fed}
use Rattle.leases.proofs.FinishLemmas.{below_of, to_later}
use Rattle.leases.proofs.InPlaceLemmas as one
use Rattle.leases.proofs.InPlaceLemmas.{given, sound_as, stopped_as, stopped_less}
use Rattle.leases.proofs.LeaseLemmas.{first_runs}
use Rattle.leases.proofs.LookLemmas.{asks_on}
use Rattle.leases.proofs.StandLemmas.{stands_in}
use Rattle.leases.proofs.StaysLemmas.{above_no_earlier, before_above, behind, comes_first, same_place}
use Rattle.leases.proofs.StepLemmas.{both_stand, may_look_here, may_look_over}
use Rattle.leases.proofs.ToldLemmas.{AreThere, IsToldAbove, above_in, told_again, told_from, told_in}

-- WHAT AN OPERATOR MAY TAKE, by its number and by its query
looked : (e : PlainEngine) (n k : ℕ) (next : Option (Side × ℕ)) → HasOperatorAt e n k → ((q : Registered) (p : PlainQuery) → query_at e n ≡ Some q → remains_at e n ≡ Running p → next ≡ next_at e n q p k) → next ≡ next_for e n k
looked e n k next here h = h here.0 here.1.0 here.1.1.registered here.1.1.running ∙ sym (next_is e n k here.0 here.1.0 here.1.1.registered here.1.1.running)

pub at_numbers : (e : PlainEngine) (s : Slot) (n k : ℕ) → n ≡ s.query → k ≡ s.operator → HasOperatorAt e s.query s.operator → HasOperatorAt e n k
at_numbers e s n k sn sk h = subst (λ z. HasOperatorAt e z k) (sym sn) (subst (HasOperatorAt e s.query) (sym sk) h)

pub over_numbers : (e : PlainEngine) (s : Slot) (n k : ℕ) (above : Option Slot) → n ≡ s.query → k ≡ s.operator → IsAbove e n k above → IsAbove e s.query s.operator above
over_numbers e s n k above sn sk is = subst (λ m. IsAbove e m s.operator above) sn (subst (λ j. IsAbove e n j above) sk is)

pub next_looked : (e : PlainEngine) (s : Slot) (n k : ℕ) (next : Option (Side × ℕ)) → n ≡ s.query → k ≡ s.operator → HasOperatorAt e s.query s.operator
    → ((q : Registered) (p : PlainQuery) → query_at e n ≡ Some q → remains_at e n ≡ Running p → next ≡ next_at e n q p k) → next ≡ next_for e s.query s.operator
next_looked e s n k next sn sk here h = looked e n k next (at_numbers e s n k sn sk here) h ∙ ap (λ m. next_for e m k) sn ∙ ap (next_for e s.query) sk

stopped_turn : (r r2 : Refused) (e : PlainEngine) (turn s : Slot) (rows : ℕ) (e2 : PlainEngine) → r ≡ r2 → turn ≡ s → HasStoppedIn r e turn rows e2 → HasStoppedIn r2 e s rows e2
stopped_turn r r2 e turn s rows e2 is same h = subst (λ z. HasStoppedIn z e s rows e2) is (subst (λ z. HasStoppedIn r e z rows e2) same h)

-- and it goes on where that is of the slot's instant
goes_with : (s : Slot) (next : Option (Side × ℕ)) → goes_on s next ≡ true → (x : Side × ℕ) × ((next ≡ Some x) × (x.1 ≡ s.instant))
goes_with s None h = absurd (cc)
goes_with s (Some x) h = (x, (refl, eqb-true x.1 s.instant h))

-- A SLOT of the engine says it already
as_told : (e : PlainEngine) (x : Slot) → slot_of e x.query x.operator ≡ Some x → told_slot e x ≡ x
as_told e x here =
    let o = is_slot e x.query x.operator x here in
    ap (λ z. with_next z (next_for e x.query x.operator)) (sym o.is)
    ∙ ap (λ t. slot (slope_at o.query x.operator) t x.query x.operator) (next_is e x.query x.operator o.query o.plain o.registered o.running)
    ∙ o.is

-- BOTH ARE TOLD
tells_one : (e : PlainEngine) (s : Slot) → IsUpdated e s (record e { slots = with_update e s e.slots })
tells_one e s q p r running = ap (λ n. record e { slots = changed s n e.slots }) (next_is e s.query s.operator q p r running)

pub tells : (e : PlainEngine) (s : Slot) (above : Option Slot) → HasTold e s above (told e s above)
tells e s None = (record e { slots = with_update e s e.slots }, (tells_one e s, refl))
tells e s (Some a) = (record e { slots = with_update e s e.slots }, (tells_one e s, tells_one (record e { slots = with_update e s e.slots }) a))

-- A TURN MAY GO OUT still
again_allowed : (bad ready full : Bool) → faults.first_of ((bad, BadLimit) ∷ (ready && full, TooManyLeases) ∷ []) ≡ None → ready ≡ true → (bad ≡ false) × (full ≡ false)
again_allowed true ready full h is = absurd (cc)
again_allowed false true true h is = absurd (cc)
again_allowed false true false h is = (refl, refl)
again_allowed false false full h is = absurd (cc)

or_left : (a b : Bool) → (a || b) ≡ false → a ≡ false
or_left true b h = absurd (cc)
or_left false b h = refl

no_number_gone : (n : ℕ) → n < LEASE_NUMBERS → nat_le LEASE_NUMBERS n ≡ false
no_number_gone n lt = by_test (nat_le LEASE_NUMBERS n) (λ t. let le : LEASE_NUMBERS ≤ n = leb-true LEASE_NUMBERS n t in absurd (omega (arith, le, lt))) (λ f. f)

allowed_again : (e e2 : PlainEngine) (rows : ℕ) (s : Slot) → lease_fault e rows ≡ None → first_of e.slots ≡ Some s → e2.leases ≡ e.leases → e2.next < LEASE_NUMBERS → lease_fault e2 rows ≡ None
allowed_again e e2 rows s allowed first same numbers =
    let was = again_allowed (not (nat_le 1 rows && nat_le rows MAX_TURN)) (is_some (first_of e.slots)) (nat_le MAX_LEASES (length e.leases) || nat_le LEASE_NUMBERS e.next) allowed (ap is_some first) in
    let few : nat_le MAX_LEASES (length e2.leases) ≡ false = ap (λ ls. nat_le MAX_LEASES (length ls)) same ∙ or_left (nat_le MAX_LEASES (length e.leases)) (nat_le LEASE_NUMBERS e.next) was.1 in
    let left : nat_le LEASE_NUMBERS e2.next ≡ false = no_number_gone e2.next numbers in
    let fine : not (nat_le 1 rows && nat_le rows MAX_TURN) ≡ false = was.0 in
    ap (λ b. faults.first_of ((b, BadLimit) ∷ (is_some (first_of e2.slots) && (nat_le MAX_LEASES (length e2.leases) || nat_le LEASE_NUMBERS e2.next), TooManyLeases) ∷ [])) fine
    ∙ ap₂ (λ b c. faults.first_of ((false, BadLimit) ∷ (is_some (first_of e2.slots) && (b || c), TooManyLeases) ∷ [])) few left
    ∙ nothing (is_some (first_of e2.slots))
  where
    nothing : (b : Bool) → faults.first_of ((false, BadLimit) ∷ (b && (false || false), TooManyLeases) ∷ []) ≡ None
    nothing true = refl
    nothing false = refl

-- and one of fewer rows may
first_none : (bad : Bool) (rest : List (Bool × Fault)) → faults.first_of ((bad, BadLimit) ∷ rest) ≡ None → (bad ≡ false) × (faults.first_of rest ≡ None)
first_none true rest h = absurd (cc)
first_none false rest h = (refl, h)

right_of : (a b : Bool) → not (a && b) ≡ false → b ≡ true
right_of true true h = refl
right_of true false h = absurd (cc)
right_of false b h = absurd (cc)

in_range : (n rows : ℕ) → 0 < n → n < rows → not (nat_le 1 rows && nat_le rows MAX_TURN) ≡ false → not (nat_le 1 n && nat_le n MAX_TURN) ≡ false
in_range n rows some fewer fine =
    let le : rows ≤ MAX_TURN = leb-true rows MAX_TURN (right_of (nat_le 1 rows) (nat_le rows MAX_TURN) fine) in
    ap₂ (λ a b. not (a && b)) (le-leb 1 n (omega (arith, some))) (le-leb n MAX_TURN (omega (arith, fewer, le)))

allowed_fewer : (e : PlainEngine) (n rows : ℕ) → 0 < n → n < rows → lease_fault e rows ≡ None → lease_fault e n ≡ None
allowed_fewer e n rows some fewer h =
    let was = first_none (not (nat_le 1 rows && nat_le rows MAX_TURN)) ((is_some (first_of e.slots) && (nat_le MAX_LEASES (length e.leases) || nat_le LEASE_NUMBERS e.next), TooManyLeases) ∷ []) h in
    ap (λ b. faults.first_of ((b, BadLimit) ∷ (is_some (first_of e.slots) && (nat_le MAX_LEASES (length e.leases) || nat_le LEASE_NUMBERS e.next), TooManyLeases) ∷ [])) (in_range n rows some fewer was.0) ∙ was.1

-- some lease of a slot's operator
abbrev any_of : Slot → Lease
any_of s = record { number = 0; query = s.query; operator = s.operator; side = s.side; item = Tick 0; excerpt = Nothing }

-- THE SLOT ABOVE is one of the engine, of a greater operator of the same query
pub record IsOver (e : PlainEngine) (s a : Slot) : Type 0 where
  pub here : slot_of e a.query a.operator ≡ Some a
  pub later : s.operator < a.operator
  pub query : a.query ≡ s.query
  pub asked : HasOperatorAt e a.query a.operator

over_is : (m : EngineState) (s : Slot) (sound : IsSound m) (first : first_of m.slots ≡ Some s) (above : Option Slot) → IsAbove (engine_in m) s.query s.operator above → MatchOption above ⊤ (IsOver (engine_in m) s)
over_is m s sound first None over = tt
over_is m s sound first (Some a) over =
    let e : PlainEngine = engine_in m in
    let top = may_look_here m s sound first in
    let is = over top.0 top.1.0 top.1.1.registered top.1.1.running in
    let of : IsOf e (any_of s) top.0 top.1.0 = record { registered = top.1.1.registered; running = top.1.1.running; within = top.1.1.within } in
    let k = (wire_at top.1.0 s.operator).to in
    let later : s.operator < k = to_later e (any_of s) top.0 top.1.0 sound.good of s.operator (below_of e (any_of s) top.0 top.1.0 sound.good of is.0) in
    let there = may_look_over m s sound first s.operator top.1.0 top.1.1.running is.0 in
    let same : there.0 ≡ top.0 = same_query (sym there.1.1.registered ∙ top.1.1.registered) in
    let within : k < length top.0.nodes = subst (λ (q : Registered). k < length q.nodes) same there.1.1.within in
    subst (IsOver e s) (sym is.1) (record { here = slot_is e s.query k top.0 top.1.0 top.1.1.registered top.1.1.running within; later = later; query = refl; asked = there })

-- WHAT IS PUT ABOVE is of the instant of the turn
put_next : (streams : List Stream) (p p2 : PlainQuery) (k : ℕ) (side : Side) (i : Item) (outs : Outs) (t : ℕ) (log : Closed) → CanPut streams p k side i (change_at_first (operator_at p.operators k) side i) outs
    → HasFinished streams p k side i (change_at_first (operator_at p.operators k) side i) p2 → HasPut p k outs p2 → StartAt t outs → (wire_at p k).to ≢ k
    → HasNextOrAt t (ready (operator_at p.operators (wire_at p k).to) log) (ready (operator_at p2.operators (wire_at p k).to) log)
put_next streams p p2 k side i (Put es) t log can finished put starts apart =
    ready_fed (operator_at p.operators (wire_at p k).to) (operator_at p2.operators (wire_at p k).to) log (wire_at p k).side es t put.fed (can.may (operator_at p2.operators k) finished.finished).fed starts
put_next streams p p2 k side i (Answered rows) t log can finished put starts apart = inl (ap (λ o. ready o log) (put.others (wire_at p k).to apart))

gain_unless : (b : Bool) (t : ℕ) (old new : Option (Side × ℕ)) → HasNextOrAt t old new → HasNextOrAt t (cond b None old) (cond b None new)
gain_unless true t old new h = inl refl
gain_unless false t old new h = h

some_next : {a b : Side × ℕ} → Some a ≡ Some b → a ≡ b
some_next e = cc

unless_out : (b : Bool) (o : Option (Side × ℕ)) (x : Side × ℕ) → cond b None o ≡ Some x → o ≡ Some x
unless_out true o x e = absurd (cc)
unless_out false o x e = e

some_if_busy : (o : Option (Side × ℕ)) → is_none o ≡ false → o ≡ Some (unwrap_or o (Left, 0))
some_if_busy None e = absurd (cc)
some_if_busy (Some x) e = refl

-- THE LOOK: the slot is the first, beside the one above, and turns may go out
pub record IsLook (start : EngineState) (s : Slot) (above : Option Slot) (rows : ℕ) : Type 0 where
  pub sound : IsSound start
  pub first : first_of start.slots ≡ Some s
  pub over : IsAbove (engine_in start) s.query s.operator above
  pub some : 0 < rows
  pub allowed : lease_fault (engine_in start) rows ≡ None
  pub numbers : start.next < LEASE_NUMBERS

-- BETWEEN TWO TURNS of one look: the slots are as they were at its start. Told, the engine is sound, the turns have run up to it, and the slot, which is that of
-- the next turn, stands first
pub record AreRunning (start now : EngineState) (s : Slot) (above : Option Slot) (rows : ℕ) (next : Slot) : Type 0 where
  pub look : IsLook start s above rows
  pub turn : next ≡ told_slot (engine_in now) s
  pub slots : now.slots ≡ start.slots
  pub sound : IsSound (told_state now s above)
  pub first : first_of (told_slots (engine_in now) s above) ≡ Some (told_slot (engine_in now) s)
  pub instant : (told_slot (engine_in now) s).instant ≡ s.instant
  pub over : IsAbove (told (engine_in now) s above) s.query s.operator (told_above (engine_in now) above)
  pub allowed : lease_fault (told (engine_in now) s above) rows ≡ None
  pub numbers : now.next < LEASE_NUMBERS
  pub ran : SomeHaveRun rows (engine_in start) (told (engine_in now) s above)

-- AT THE START
module _ {start : EngineState} {s : Slot} {above : Option Slot} {rows : ℕ} (look : IsLook start s above rows) where
  s_here : slot_of (engine_in start) s.query s.operator ≡ Some s
  s_here = look.sound.good.slots.only s (first_in start.slots s look.first).0

  busy : s.is_idle ≡ false
  busy = (first_in start.slots s look.first).1

  overs : MatchOption above ⊤ (IsOver (engine_in start) s)
  overs = over_is start s look.sound look.first above look.over

  there_over : (o : Option Slot) → MatchOption o ⊤ (IsOver (engine_in start) s) → MatchOption o ⊤ (λ a. (slot_of (engine_in start) a.query a.operator ≡ Some a) × (a.operator ≢ s.operator) × (a.query ≡ s.query))
  there_over None h = tt
  there_over (Some a) h = let lt : s.operator < a.operator = h.later in (h.here, (λ e. absurd (omega (arith, lt, e))), h.query)

  there : AreThere (slot_of (engine_in start)) start.slots s above
  there = record { has = look.sound.good.slots; named = numbered (engine_in start); here = s_here; over = there_over above overs }

  -- the slots are as they are told
  same_one : (x : Slot) → slot_of (engine_in start) x.query x.operator ≡ Some x → with_update (engine_in start) x start.slots ≡ start.slots
  same_one x here = changed_nothing start.slots x (next_for (engine_in start) x.query x.operator) look.sound.good.slots.ordered (stands_in (engine_in start) look.sound.good x here) (as_told (engine_in start) x here)

  same_both : (o : Option Slot) → MatchOption o ⊤ (IsOver (engine_in start) s) → with_updates (engine_in start) (s ∷ option_to_list o) start.slots ≡ start.slots
  same_both None h = same_one s s_here
  same_both (Some a) h = ap (with_update (engine_in start) a) (same_one s s_here) ∙ same_one a h.here

  as_it_is : told_slots (engine_in start) s above ≡ start.slots
  as_it_is = same_both above overs

  s_told : told_slot (engine_in start) s ≡ s
  s_told = as_told (engine_in start) s s_here

  above_told : (o : Option Slot) → MatchOption o ⊤ (IsOver (engine_in start) s) → told_above (engine_in start) o ≡ o
  above_told None h = refl
  above_told (Some a) h = ap Some (as_told (engine_in start) a h.here)

  pub begins : AreRunning start start s above rows s
  begins = record {
    look = look;
    turn = sym s_told;
    slots = refl;
    sound = subst (λ ss. IsSound (with_slots start ss)) (sym as_it_is) look.sound;
    first = ap first_of as_it_is ∙ look.first ∙ ap Some (sym s_told);
    instant = ap (λ z. z.instant) s_told;
    over = subst (λ ss. IsAbove (record (engine_in start) { slots = ss }) s.query s.operator (told_above (engine_in start) above)) (sym as_it_is)
        (subst (IsAbove (engine_in start) s.query s.operator) (sym (above_told above overs)) look.over);
    allowed = subst (λ ss. lease_fault (record (engine_in start) { slots = ss }) rows ≡ None) (sym as_it_is) look.allowed;
    numbers = look.numbers;
    ran = subst (λ ss. SomeHaveRun rows (engine_in start) (record (engine_in start) { slots = ss })) (sym as_it_is) (none_run rows (engine_in start));
  }

-- A TURN RUNS
module _ {start now : EngineState} {s : Slot} {above : Option Slot} {rows : ℕ} {went : Slot} (r : AreRunning start now s above rows went) where
  -- as it is told
  abbrev e : PlainEngine
  e = engine_in now

  abbrev t : EngineState
  t = told_state now s above

  abbrev turn : Slot
  turn = told_slot e s

  abbrev over : Option Slot
  over = told_above e above

  top : HasOperatorAt (engine_in t) s.query s.operator
  top = may_look_here t turn r.sound r.first

  abbrev q : Registered
  q = top.0

  abbrev p : PlainQuery
  p = top.1.0

  running : remains_at e s.query ≡ Running p
  running = top.1.1.running

  listed : AreThere (slot_of (engine_in start)) start.slots s above
  listed = there r.look

  both : BothStand start.slots s above
  both = both_stand start s r.look.sound r.look.first above r.look.over

  told_over : MatchOption over ⊤ (IsOver (engine_in t) turn)
  told_over = over_is t turn r.sound r.first over r.over

  -- it may
  may_run_here : MayRunIn e turn rows
  may_run_here = first_runs (engine_in t) turn rows r.sound.good r.first r.look.some

  pub may_run : MayRunIn e went rows
  may_run = subst (λ z. MayRunIn e z rows) (sym r.turn) may_run_here

  -- what both stand at
  may_tell_above : (o : Option Slot) → MatchOption (told_above e o) ⊤ (IsOver (engine_in t) turn) → MayTell e o
  may_tell_above None h = tt
  may_tell_above (Some a) h = asks_on (engine_in t) e.leases e.next e.slots a.query a.operator h.asked

  -- IT HAS RUN, of as many rows or of fewer
  module _ {m : EngineState} {n : ℕ} (rest : GivesNothing now m) (allowed : lease_fault (engine_in t) n ≡ None) (run : HasRunIn e went n (engine_in m)) where
    abbrev mt : EngineState
    mt = with_slots m t.slots

    abbrev m2 : EngineState
    m2 = given m now.next

    abbrev e2 : PlainEngine
    e2 = engine_in m2

    ran_here : HasRunIn e turn n (engine_in m)
    ran_here = subst (λ z. HasRunIn e z n (engine_in m)) r.turn run

    ran_told : HasRunIn (engine_in t) turn n (engine_in mt)
    ran_told p0 is = let h = ran_here p0 is in (h.0, (h.1.0, ap (λ (z : PlainEngine). record z { slots = t.slots }) h.1.1))

    took : (p2 : PlainQuery) × (HasRunOn e.machine.streams p turn n p2 × (engine_in m ≡ with_remains e s.query (Running p2)))
    took = ran_here p running

    slots_wait : m.slots ≡ start.slots
    slots_wait = ap (λ (z : PlainEngine). z.slots) took.1.1 ∙ r.slots

    -- its slots, as they are told
    tells_again : with_updates e2 (turn ∷ option_to_list over) t.slots ≡ told_slots e2 s above
    tells_again =
        ap (λ z. with_updates e2 (turn ∷ option_to_list over) (with_updates e (s ∷ option_to_list above) z)) r.slots
        ∙ told_again (slot_of (engine_in start)) start.slots s e e2 above listed
        ∙ ap (with_updates e2 (s ∷ option_to_list above)) (sym slots_wait)

    has_told : HasTold (engine_in (given mt now.next)) turn over (told e2 s above)
    has_told =
        subst (λ ss. HasTold (engine_in (given mt now.next)) turn over (record e2 { slots = ss })) tells_again
        (tells (engine_in (given mt now.next)) turn over)

    one_ran : OneTurnHasRun n (told e s above) (told e2 s above)
    one_ran = one.has_run t turn n r.sound r.first allowed r.numbers mt ran_told over r.over (told e2 s above) has_told

    -- it is sound then, and may be told
    pub sound_then : IsSound (told_state m2 s above)
    sound_then =
        one.run_sound t turn n r.sound r.first allowed r.numbers mt ran_told over r.over (told_state m2 s above) has_told
        (record { undropped = rest.undropped; readers = rest.readers; leases = rest.leases })
        (record { undropped = refl; readers = refl; leases = λ g i. i })

    tells_here_then : HasOperatorAt e2 s.query s.operator
    tells_here_then = asks_on (engine_in (given mt now.next)) e2.leases e2.next e2.slots s.query s.operator (one.tells_here t turn n r.sound r.first allowed r.numbers mt ran_told over r.over)

    tell_above_then : (o : Option Slot) → MayTell (engine_in (given mt now.next)) (told_above e o) → MayTell e2 o
    tell_above_then None h = tt
    tell_above_then (Some a) h = asks_on (engine_in (given mt now.next)) e2.leases e2.next e2.slots a.query a.operator h

    pub may_tell_then : MayTellBoth m2 s above
    may_tell_then = record {
      here = tells_here_then;
      over = tell_above_then above (one.tells_over t turn n r.sound r.first allowed r.numbers mt ran_told over r.over);
      stand = subst (λ ss. BothStand ss s above) (sym slots_wait) both;
    }

    -- THE QUERY that took it
    abbrev p2 : PlainQuery
    p2 = took.0

    within : s.query < length e.queries
    within = one.within t turn rows r.sound r.first r.allowed r.numbers

    running_then : remains_at e2 s.query ≡ Running p2
    running_then = ap (λ (z : PlainEngine). remains_at z s.query) took.1.1 ∙ remains_here e s.query (Running p2) within

    registered_then : query_at e2 s.query ≡ Some q
    registered_then = ap (λ (z : PlainEngine). query_at z s.query) took.1.1 ∙ top.1.1.registered

    leases_then : e2.leases ≡ e.leases
    leases_then = ap (λ (z : PlainEngine). z.leases) took.1.1

    -- the operator above stands where it stood
    over_there : (o : Option Slot) → MatchOption (told_above e o) (length p.operators ≤ s.operator + 1) (λ a. (s.operator + 1 < length p.operators) × (a ≡ slot_at (engine_in t) s.query q p (wire_at p s.operator).to))
        → MatchOption (told_above e2 o) (length p2.operators ≤ s.operator + 1) (λ a. (s.operator + 1 < length p2.operators) × (a ≡ slot_at e2 s.query q p2 (wire_at p2 s.operator).to))
    over_there None h = let many = took.1.0.finished.many in omega (arith, h, many)
    over_there (Some a) h =
        let many = took.1.0.finished.many in
        let k = (wire_at p s.operator).to in
        let same : (wire_at p2 s.operator).to ≡ k = ap (λ ws. (wire_at (record p2 { wires = ws }) s.operator).to) took.1.0.finished.wires in
        let lt : s.operator + 1 < length p.operators = h.0 in (
          omega (arith, lt, many),
          ap (λ (z : Slot). with_next z (next_for e2 z.query z.operator)) h.1
              ∙ ap (λ n. slot (slope_at q k) n s.query k) (next_is e2 s.query k q p2 registered_then running_then)
              ∙ ap (slot_at e2 s.query q p2) (sym same),
        )

    over_then : IsAbove (told e2 s above) s.query s.operator (told_above e2 above)
    over_then q0 p0 registered0 running0 =
        let is_q : q ≡ q0 = same_query (sym registered_then ∙ registered0) in
        let is_p : p2 ≡ p0 = same_plain (sym running_then ∙ running0) in
        subst (λ (z : Registered). MatchOption (told_above e2 above) (length p0.operators ≤ s.operator + 1) (λ a. (s.operator + 1 < length p0.operators) × (a ≡ slot_at (told e2 s above) s.query z p0 (wire_at p0 s.operator).to))) is_q
        (subst (λ (z : PlainQuery). MatchOption (told_above e2 above) (length z.operators ≤ s.operator + 1) (λ a. (s.operator + 1 < length z.operators) × (a ≡ slot_at (told e2 s above) s.query q z (wire_at z s.operator).to))) is_p
        (over_there above (r.over q p top.1.1.registered top.1.1.running)))

    -- WHAT IT MAY TAKE is what it could take, or of this turn's instant
    turn_busy : turn.is_idle ≡ false
    turn_busy = (first_in t.slots turn r.first).1

    next_turn : next_for e s.query s.operator ≡ Some (turn.side, turn.instant)
    next_turn = some_if_busy (next_for e s.query s.operator) turn_busy

    turn_ready : ready (operator_at p.operators s.operator) (log_of e.machine.streams p s.operator) ≡ Some (turn.side, turn.instant)
    turn_ready =
        ap (ready (operator_at p.operators s.operator)) top.1.1.log
        ∙ unless_out (is_leased e s.query s.operator) (ready (operator_at p.operators s.operator) (log_at e.machine q s.operator)) (turn.side, turn.instant)
        (sym (next_is e s.query s.operator q p top.1.1.registered running) ∙ next_turn)

    item_of_turn : item_instant took.1.0.item ≡ turn.instant
    item_of_turn =
        item_at (operator_at p.operators s.operator) (log_of e.machine.streams p s.operator) turn.side turn.instant took.1.0.item took.1.0.leased.first.rest turn_ready took.1.0.leased.first.some took.1.0.leased.first.is

    outs_of_turn : StartAt turn.instant (outs_at_first (operator_at p.operators s.operator) turn.side took.1.0.item)
    outs_of_turn =
        subst (λ z. StartAt z (outs_at_first (operator_at p.operators s.operator) turn.side took.1.0.item)) item_of_turn
        (outs_start (operator_at p.operators s.operator).kind (operator_at p.operators s.operator).state turn.side took.1.0.item)

    may_put : CanPut e.machine.streams p s.operator turn.side took.1.0.item (change_at_first (operator_at p.operators s.operator) turn.side took.1.0.item) (outs_at_first (operator_at p.operators s.operator) turn.side took.1.0.item)
    may_put =
        let same : may_run_here.0 ≡ p = same_plain (sym may_run_here.1.0 ∙ running) in
        let can = may_run_here.1.1.may in
        subst (λ (z : PlainQuery). CanPut e.machine.streams z s.operator turn.side took.1.0.item (change_at_first (operator_at z.operators s.operator) turn.side took.1.0.item) (outs_at_first (operator_at z.operators s.operator) turn.side took.1.0.item)) same
        (can.puts took.1.0.item (subst (λ (z : PlainQuery). first_item z took.1.0.item) (sym same) took.1.0.leased.first))
      where
        first_item : PlainQuery → Item → Type 0
        first_item z i = IsFirst (operator_at z.operators s.operator) (log_of e.machine.streams z s.operator) turn.side i

    above_gains : (a : Slot) → IsOver (engine_in t) turn (told_slot e a) → (told_slot e a ≡ slot_at (engine_in t) s.query q p (wire_at p s.operator).to) → HasNextOrAt turn.instant (next_for e a.query a.operator) (next_for e2 a.query a.operator)
    above_gains a is at =
        let k = (wire_at p s.operator).to in
        let later : s.operator < a.operator = is.later in
        let to : a.operator ≡ k = ap (λ (z : Slot). z.operator) at in
        let apart : k ≢ s.operator = λ z. absurd (omega (arith, later, to, z)) in
        let gain : HasNextOrAt turn.instant (ready (operator_at p.operators k) (log_at e.machine q k)) (ready (operator_at p2.operators k) (log_at e.machine q k)) =
        put_next e.machine.streams p p2 s.operator turn.side took.1.0.item (outs_at_first (operator_at p.operators s.operator) turn.side took.1.0.item) turn.instant (log_at e.machine q k) may_put took.1.0.finished took.1.0.put outs_of_turn apart in
        let before : next_for e s.query k ≡ next_at e s.query q p k = next_is e s.query k q p top.1.1.registered running in
        let after : next_for e2 s.query k ≡ cond (is_leased e s.query k) None (ready (operator_at p2.operators k) (log_at e.machine q k)) =
        next_is e2 s.query k q p2 registered_then running_then ∙ ap (λ (z : PlainEngine). next_at z s.query q p2 k) took.1.1 in
        let here : HasNextOrAt turn.instant (next_for e s.query k) (next_for e2 s.query k) =
        subst (λ o. HasNextOrAt turn.instant o (next_for e2 s.query k)) (sym before)
        (subst (HasNextOrAt turn.instant (next_at e s.query q p k)) (sym after)
        (gain_unless (is_leased e s.query k) turn.instant (ready (operator_at p.operators k) (log_at e.machine q k)) (ready (operator_at p2.operators k) (log_at e.machine q k)) gain)) in
        subst (λ n. HasNextOrAt turn.instant (next_for e n a.operator) (next_for e2 n a.operator)) (sym is.query)
        (subst (λ j. HasNextOrAt turn.instant (next_for e s.query j) (next_for e2 s.query j)) (sym to) here)

    -- IT GOES ON: there is something of the same instant, and the slot above is no steeper
    module _ (all : SomeHaveRun rows (engine_in start) (told e2 s above)) (x : Side × ℕ) (next : next_for e2 s.query s.operator ≡ Some x) (at : x.1 ≡ s.instant) (stays : IsNoSteeper above s) (numbers : m2.next < LEASE_NUMBERS) where
      start_busy : s.is_idle ≡ false
      start_busy = busy r.look

      new_turn : told_slot e2 s ≡ with_next s (Some x)
      new_turn = ap (with_next s) next

      -- the slot above stood behind the turn's, and so has nothing of an earlier instant where the slopes are the same
      above_later : (a : Slot) → (told_slot e a ≡ turn) ⊎ (slot_cmp turn (told_slot e a) ≡ Less) → s.operator < a.operator → fraction_cmp a.slope.0 s.slope.0 ≡ Equal → (z : Side × ℕ) → next_for e a.query a.operator ≡ Some z → x.1 ≤ z.1
      above_later a (inl same) later level z is = let one : a.operator ≡ s.operator = ap (λ (w : Slot). w.operator) same in absurd (omega (arith, later, one))
      above_later a (inr less) later level z is =
          let busy_less : slot_cmp (with_next s (Some (turn.side, turn.instant))) (with_next a (Some z)) ≡ Less =
          ap (λ o. slot_cmp (with_next s o) (with_next a (Some z))) (sym next_turn) ∙ ap (λ o. slot_cmp turn (with_next a o)) (sym is) ∙ less in
          let le : turn.instant ≤ z.1 = above_no_earlier s a (turn.side, turn.instant) z level busy_less in
          omega (arith, le, r.instant, at)

      above_behind : (a : Slot) → is_gt (fraction_cmp a.slope.0 s.slope.0) ≡ false → IsOver (engine_in t) turn (told_slot e a) → told_slot e a ≡ slot_at (engine_in t) s.query q p (wire_at p s.operator).to → IsIn t.slots (told_slot e a)
          → slot_cmp (with_next s (Some x)) (told_slot e2 a) ≡ Less
      above_behind a flat is wired i =
          before_above s a x (next_for e2 a.query a.operator) flat
          (λ level z has. ⊎_elim
          (λ same. above_later a (behind t.slots turn (told_slot e a) r.sound.good.slots.ordered r.first i) is.later level z (sym same ∙ has))
          (λ new. let of_turn : (new.0, turn.instant) ≡ z = some_next (sym new.1 ∙ has) in let same : turn.instant ≡ z.1 = ap (λ w. w.1) of_turn in omega (arith, same, r.instant, at))
          (above_gains a is wired))
          (sym is.query) is.later

      stood : (o : Option Slot) → AreThere (slot_of (engine_in start)) start.slots s o → MatchOption o ⊤ (λ a. IsIn (with_updates e (s ∷ option_to_list o) start.slots) (told_slot e a))
      stood None h = tt
      stood (Some a) h = above_in (slot_of (engine_in start)) start.slots s e a h

      behind_by : (o : Option Slot) → IsNoSteeper o s → MatchOption (told_above e o) ⊤ (IsOver (engine_in t) turn)
          → MatchOption (told_above e o) (length p.operators ≤ s.operator + 1) (λ a. (s.operator + 1 < length p.operators) × (a ≡ slot_at (engine_in t) s.query q p (wire_at p s.operator).to))
          → MatchOption o ⊤ (λ a. IsIn t.slots (told_slot e a)) → (w : Slot) → IsToldAbove e2 o w → slot_cmp (with_next s (Some x)) w ≡ Less
      behind_by None flat is wired i w same = absurd same
      behind_by (Some a) flat is wired i w same = ap (slot_cmp (with_next s (Some x))) same ∙ above_behind a flat is wired.1 i

      -- each other slot stands behind
      all_behind : (w : Slot) → IsIn (told_slots e2 s above) w → (w ≡ with_next s (Some x)) ⊎ (slot_cmp (with_next s (Some x)) w ≡ Less)
      all_behind w i =
          let here : IsIn (with_updates e2 (s ∷ option_to_list above) start.slots) w = subst (λ ss. IsIn (with_updates e2 (s ∷ option_to_list above) ss) w) slots_wait i in
          let stand : MatchOption above ⊤ (λ a. IsIn t.slots (told_slot e a)) =
          subst (λ ss. MatchOption above ⊤ (λ a. IsIn (with_updates e (s ∷ option_to_list above) ss) (told_slot e a))) (sym r.slots) (stood above listed) in
          ⊎_elim
          (λ same. inl (same ∙ new_turn))
          (λ rest. ⊎_elim
          (λ over_it. inr (behind_by above stays told_over (r.over q p top.1.1.registered top.1.1.running) stand w over_it))
          (λ other. ⊎_elim
          (λ same. absurd (⊎_elim (λ d. d (ap (λ z. z.query) same)) (λ d. d (ap (λ z. z.operator) same)) other.apart))
          (λ less. inr (same_place s w x start_busy at ∙ less))
          (behind start.slots s w r.look.sound.good.slots.ordered r.look.first other.there))
          rest)
          (told_from (slot_of (engine_in start)) start.slots s e2 above listed w here)

      first_then : first_of (told_slots e2 s above) ≡ Some (told_slot e2 s)
      first_then =
          let here : IsIn (told_slots e2 s above) (told_slot e2 s) =
          subst (λ ss. IsIn (with_updates e2 (s ∷ option_to_list above) ss) (told_slot e2 s)) (sym slots_wait) (told_in (slot_of (engine_in start)) start.slots s e2 above listed) in
          comes_first (told_slots e2 s above) (told_slot e2 s) sound_then.good.slots.ordered here (ap (λ z. z.is_idle) new_turn)
          (λ w i. ⊎_elim (λ same. inl (same ∙ sym new_turn)) (λ less. inr (ap (λ z. slot_cmp z w) new_turn ∙ less)) (all_behind w i))

      runs_on : (new : Slot) → new ≡ told_slot e2 s → AreRunning start m2 s above rows new
      runs_on new is = record {
        look = r.look;
        turn = is;
        slots = slots_wait;
        sound = sound_then;
        first = first_then;
        instant = ap (λ z. z.instant) new_turn ∙ at;
        over = over_then;
        allowed = allowed_again (told e s above) (told e2 s above) rows turn r.allowed r.first leases_then numbers;
        numbers = numbers;
        ran = all;
      }

    pub goes_again : SomeHaveRun rows (engine_in start) (told e2 s above) → (next : Option (Side × ℕ)) (stays : Bool) (until : ℕ) (new : Slot) → next ≡ next_for e2 s.query s.operator → GoesOn m2 s next stays until → until ≤ LEASE_NUMBERS → (stays ≡ true → IsNoSteeper above s)
        → new ≡ with_next s next → AreRunning start m2 s above rows new
    goes_again all next stays until new same goes few flat is =
        let with = goes_with s next goes.same in
        let left : m2.next < until = goes.numbers in
        runs_on all with.0 (sym same ∙ with.1.0) with.1.1 (flat goes.first) (omega (arith, left, few)) new (is ∙ ap (with_next s) same)

  -- where it had as many rows as it might, the turns go on
  module _ {m : EngineState} (rest : GivesNothing now m) (run : HasRunIn e went rows (engine_in m)) where
    one_then : OneHasRun rows (told e s above) (told (engine_in (given m now.next)) s above)
    one_then = turn_has_run rows (told e s above) (told (engine_in (given m now.next)) s above) (one_ran rest r.allowed run)

    pub ran_then : OneOrMoreHaveRun rows (engine_in start) (told (engine_in (given m now.next)) s above)
    ran_then = (told e s above, (r.ran, one_then))

    pub all_then : SomeHaveRun rows (engine_in start) (told (engine_in (given m now.next)) s above)
    all_then = more_run rows (engine_in start) (told e s above) (told (engine_in (given m now.next)) s above) r.ran one_then

  -- IT WAS REFUSED MEMORY before it took anything: with the slots told all is as it was told
  module _ {m : EngineState} (rest : GivesNothing now m) {refused : Refused} (is_before : refused ≡ Before) (stopped : HasStoppedIn refused e went rows (engine_in m)) where
    as_before : engine_in m ≡ e
    as_before = stopped_as e (engine_in m) turn rows p running (stopped_turn refused Before e went turn rows (engine_in m) is_before r.turn stopped)

    pub may_tell_before : MayTellBoth m s above
    may_tell_before = record {
      here = subst (λ z. HasOperatorAt z s.query s.operator) (sym as_before) (asks_on (engine_in t) e.leases e.next e.slots s.query s.operator top);
      over = subst (λ z. MayTell z above) (sym as_before) (may_tell_above above told_over);
      stand = subst (λ ss. BothStand ss s above) (sym (ap (λ (z : PlainEngine). z.slots) as_before ∙ r.slots)) both;
    }

    told_before : (new : EngineState) → new ≡ told_state m s above → engine_in new ≡ told e s above
    told_before new is = ap engine_in is ∙ ap (λ z. told z s above) as_before

    pub wanted_before : {new : EngineState} → new ≡ told_state m s above → RanOutAfterTurns rows (engine_in start) (engine_in new)
    wanted_before {new} is = (told e s above, (r.ran, inl (r.allowed, ap is_some r.first, told_before new is)))

    pub below_before : {until : ℕ} → now.next < until → {new : EngineState} → new ≡ told_state m s above → RanOutBelow rows until (engine_in start) (engine_in new)
    below_before left {new} is = (told e s above, (r.ran, (inl (r.allowed, ap is_some r.first, told_before new is), left)))

    pub before_next : {new : EngineState} → new ≡ told_state m s above → new.next ≡ now.next
    before_next {new} is = ap (λ (z : PlainEngine). z.next) (told_before new is)

    pub before_sound : {new : EngineState} → new ≡ told_state m s above → IsSound new
    before_sound {new} is = sound_as t new r.sound (told_before new is) (subst (GivesNothing t) (sym is) (record { undropped = rest.undropped; readers = rest.readers; leases = rest.leases }))

  -- or within: the turn had fewer rows
  module _ {m : EngineState} (rest : GivesNothing now m) {refused : Refused} (is_within : refused ≡ Within) (stopped : HasStoppedIn refused e went rows (engine_in m)) where
    less : (n : ℕ) × ((0 < n) × (n < rows) × HasRunIn e went n (engine_in m))
    less = stopped_less e (engine_in m) went rows p (ap (λ (z : Slot). remains_at e z.query) r.turn ∙ running) (subst (λ z. HasStoppedIn z e went rows (engine_in m)) is_within stopped)

    allowed_less : lease_fault (engine_in t) less.0 ≡ None
    allowed_less = allowed_fewer (engine_in t) less.0 rows less.1.0 less.1.1 r.allowed

    pub may_tell_less : MayTellBoth (given m now.next) s above
    may_tell_less = may_tell_then rest allowed_less less.1.2

    out_less : {new : EngineState} → new ≡ told_state (given m now.next) s above → RanOutOfMemory rows (told e s above) (engine_in new)
    out_less {new} is =
        inr (record {
          count = less.0;
          some = less.1.0;
          fewer = less.1.1;
          ran = subst (λ (z : EngineState). OneTurnHasRun less.0 (told e s above) (engine_in z)) (sym is) (one_ran rest allowed_less less.1.2);
        })

    pub wanted_within : {new : EngineState} → new ≡ told_state (given m now.next) s above → RanOutAfterTurns rows (engine_in start) (engine_in new)
    wanted_within {new} is = (told e s above, (r.ran, out_less is))

    pub below_within : {until : ℕ} → now.next < until → {new : EngineState} → new ≡ told_state (given m now.next) s above → RanOutBelow rows until (engine_in start) (engine_in new)
    below_within left {new} is = (told e s above, (r.ran, (out_less is, left)))

    pub within_next : {new : EngineState} → new ≡ told_state (given m now.next) s above → new.next ≡ now.next + 1
    within_next {new} is = ap (λ (z : EngineState). z.next) is

    pub within_sound : {new : EngineState} → new ≡ told_state (given m now.next) s above → IsSound new
    within_sound {new} is = subst IsSound (sym is) (sound_then rest allowed_less less.1.2)
