-- A heartbeat: with the slots of the windows over its stream told that had nothing to take, one after the other, all are what the engine's heartbeat makes of
-- them.
use Rattle.std.proofs.Common.{◌≡◌, ◌≢◌, ℕ, ℤ, ◌==◌, true, cond, inl, inr, ◌⊎◌, ⊎_elim, Option, Some, None, Ok, Err, Result, List, [], ◌∷◌, ◌++◌, refl, sym, ap, ◌∙◌, subst, eq-eqb}
use Rattle.std.specs.Prelude.{⊤}
use Rattle.std.specs.List.{AllByRecursion}
use Rattle.std.specs.Option.{option_to_list}
use Rattle.std.specs.Result.{IsErrAnd}
use Rattle.values.specs.Window.{Element}
use Rattle.reference.specs.Commands.{Heartbeat, after, change, closed_to, first_fault}
use Rattle.reference.specs.Machine.{Registered, Stream}
use Rattle.reference.specs.Places.{machine_of}
use Rattle.reference.specs.declared.fault.Fault.{Fault}
use Rattle.reference.specs.declared.fault.Fault.TheVariants.{Query, BadName, NameTaken, BadColumns, TooMany, UnknownStream, UnknownQuery, BadWidth, ValueRange, InstantRange, Late, Backward, Leap, StreamFull, BadLimit, Broken, UnknownLease, Stranger, TooManyLeases, HistoryFull, OutOfMemory, Foreign}
use Rattle.reference.specs.World.{Does, Looks, MayLackMemory, Step, World, heartbeat_step, unless}
use Rattle.reference.proofs.StepLemmas.{lacked}
use Rattle.stream_store.specs.Gains.{closing_at, closing_in, unless_faulty}
use Rattle.laws_queries.proofs.NewestLemmas.{registrations_stand}
use Rattle.laws_queries.specs.Plain.{PlainQuery}
use Rattle.run_queue.specs.Slots.{slot}
use Rattle.run_queue.specs.Changes.{with_next}
use Rattle.run_queue.specs.declared.slots.Slot.{Slot}
use Rattle.laws_engine.specs.Asks.{IsOperator}
use Rattle.laws_engine.specs.Calls.{IsHeartbeat, closed_over, heartbeat_taken}
use Rattle.laws_engine.specs.Engines.{PlainEngine, Running, next_at, query_at, remains_at, slope_at}
use Rattle.laws_engine.specs.Engines.{slot_at}
use Rattle.laws_engine.specs.Good.{GoodEngine, HasSlots, IsIn, slot_of}
use Rattle.laws_engine.specs.Resting.{IsResting}
use Rattle.laws_engine.proofs.InstantLemmas.{few_closed_stand}
use Rattle.laws_engine.proofs.AskLemmas.{may_ask}
use Rattle.laws_engine.proofs.BackLemmas.{numbered}
use Rattle.laws_engine.proofs.HeartbeatLemmas.{heartbeat_good}
use Rattle.laws_engine.proofs.PromiseLemmas.{is_slot, slot_is}
use Rattle.laws_engine.proofs.RestingLemmas.{beat_or_rest}
use Rattle.laws_engine.proofs.SlotLemmas.{AreNumbered, changed_slots, numbers, told_again}
use Rattle.laws_engine.proofs.TableLemmas.{updated, updated_here, updated_numbered, updated_there}
use Rattle.laws_engine.proofs.TakeLemmas.{equal_slots}
use Rattle.plan.proofs.Lists.{by_test}
use Rattle.leases.specs.Asked.{HasOperatorAt}
use Rattle.leases.specs.ByStream.{over_stream}
use Rattle.leases.specs.Readers.{next_for, next_in, reader, idle_slot, idle_slots, is_idle_at, with_update, with_updates, with_slots}
use Rattle.leases.specs.Shown.{engine_in, world_in}
use Rattle.leases.specs.Sound.{IsSound}
use Rattle.leases.specs.declared.reader.WindowReader.{WindowReader}
use Rattle.leases.specs.declared.state.EngineState.{EngineState}
use Rattle.leases.proofs.ListedLemmas.{resting_listed}
use Rattle.leases.proofs.ReaderLemmas.{resting_rests}
use Rattle.leases.proofs.UpdateLemmas.{same_slots}
use Rattle.leases.proofs.StreamLemmas.{at_streams}
use Rattle.leases.proofs.StandLemmas.{all_of}

-- LISTS OF SLOTS
pub in_left : {X : Type 0} (xs ys : List X) (x : X) → IsIn xs x → IsIn (xs ++ ys) x
in_left [] ys x h = absurd h
in_left (y ∷ xs) ys x (inl e) = inl e
in_left (y ∷ xs) ys x (inr i) = inr (in_left xs ys x i)

pub in_right : {X : Type 0} (xs ys : List X) (x : X) → IsIn ys x → IsIn (xs ++ ys) x
in_right [] ys x h = h
in_right (y ∷ xs) ys x h = inr (in_right xs ys x h)

pub in_either : {X : Type 0} (xs ys : List X) (x : X) → IsIn (xs ++ ys) x → IsIn xs x ⊎ IsIn ys x
in_either [] ys x h = inr h
in_either (y ∷ xs) ys x (inl e) = inl (inl e)
in_either (y ∷ xs) ys x (inr i) = ⊎_elim (λ j. inl (inr j)) (λ j. inr j) (in_either xs ys x i)

-- THE SLOTS that are told are slots of the engine
resting_is : (e : PlainEngine) (n k : ℕ) (x : Slot) → IsIn (idle_slot e n k) x → slot_of e x.query x.operator ≡ Some x
resting_is e n k x i = by_test (is_idle_at e n k)
    (λ t. let j : IsIn (option_to_list (slot_of e n k)) x = rw t at i in of_slot (slot_of e n k) refl j)
    (λ f. let j : IsIn [] x = rw f at i in absurd j)
  where
    of_slot : (o : Option Slot) → slot_of e n k ≡ o → IsIn (option_to_list o) x → slot_of e x.query x.operator ≡ Some x
    of_slot None same j = absurd j
    of_slot (Some y) same (inr j) = absurd j
    of_slot (Some y) same (inl is) =
        let here : slot_of e n k ≡ Some x = same ∙ ap Some is in
        let at = numbered e n k x here in
        ap (λ z. slot_of e z x.operator) at.0 ∙ ap (slot_of e n) at.1 ∙ here

slots_are : (e : PlainEngine) (rs : List WindowReader) (x : Slot) → IsIn (idle_slots e rs) x → slot_of e x.query x.operator ≡ Some x
slots_are e [] x i = absurd i
slots_are e (r ∷ rs) x i = ⊎_elim (λ j. resting_is e r.query r.operator x j) (λ j. slots_are e rs x j) (in_either (idle_slot e r.query r.operator) (idle_slots e rs) x i)

-- that of a window that rests is among them
slot_comes : (e : PlainEngine) (s n k : ℕ) (rs : List WindowReader) (x : Slot) → IsIn rs (reader s n k) → is_idle_at e n k ≡ true → slot_of e n k ≡ Some x → IsIn (idle_slots e rs) x
slot_comes e s n k [] x i r is = absurd i
slot_comes e s n k (y ∷ rs) x (inl same) r is =
    let here : IsIn (idle_slot e n k) x = rw (r, is) (inl refl) in
    in_left (idle_slot e y.query y.operator) (idle_slots e rs) x (subst (λ (z : WindowReader). IsIn (idle_slot e z.query z.operator) x) (sym same) here)
slot_comes e s n k (y ∷ rs) x (inr i) r is = in_right (idle_slot e y.query y.operator) (idle_slots e rs) x (slot_comes e s n k rs x i r is)

-- a window over the stream is among those over it
is_over : (s n k : ℕ) (rs : List WindowReader) → IsIn rs (reader s n k) → IsIn (over_stream s rs) (reader s n k)
is_over s n k [] i = absurd i
is_over s n k (y ∷ rs) (inl same) =
    let own : (y.stream == s) ≡ true = ap (λ (z : WindowReader). z.stream == s) same ∙ eq-eqb s s refl in
    rw own (inl same)
is_over s n k (y ∷ rs) (inr i) = by_test (y.stream == s)
    (λ t. rw t (inr (is_over s n k rs i)))
    (λ f. rw f (is_over s n k rs i))

-- WHAT IS TOLD: of each operator the slot is the one before or the one after, and it is the one before of those alone that are told still
abbrev HasOne : List Slot → ℕ → ℕ → Type 0
HasOne todo n k = (x : Slot) × (IsIn todo x × ((x.query ≡ n) × (x.operator ≡ k)))

record ArePartly (e e2 : PlainEngine) (todo slots : List Slot) : Type 0 where
  table : ℕ → ℕ → Option Slot
  named : AreNumbered table
  has : HasSlots table slots
  each : (n k : ℕ) → (table n k ≡ slot_of e2 n k) ⊎ ((table n k ≡ slot_of e n k) × HasOne todo n k)

pub next_is : (e : PlainEngine) (n k : ℕ) (q : Registered) (p : PlainQuery) → query_at e n ≡ Some q → remains_at e n ≡ Running p → next_for e n k ≡ next_at e n q p k
next_is e n k q p r running = ap (λ z. next_in e n k z (remains_at e n)) r ∙ ap (next_in e n k (Some q)) running

module _ (e : PlainEngine) (s : ℕ) (at : ℤ) where
  -- a slot with what its operator may take after the heartbeat
  new_slot : (x : Slot) → slot_of e x.query x.operator ≡ Some x → slot_of (closed_over e s at) x.query x.operator ≡ Some (with_next x (next_for (closed_over e s at) x.query x.operator))
  new_slot x is =
      let o = is_slot e x.query x.operator x is in
      slot_is (closed_over e s at) x.query x.operator o.query o.plain o.registered o.running o.within
      ∙ ap (λ t. Some (slot (slope_at o.query x.operator) t x.query x.operator)) (sym (next_is (closed_over e s at) x.query x.operator o.query o.plain o.registered o.running))
      ∙ ap (λ z. Some (with_next z (next_for (closed_over e s at) x.query x.operator))) o.is

  one_told : (x : Slot) (todo slots : List Slot) → slot_of e x.query x.operator ≡ Some x → ArePartly e (closed_over e s at) (x ∷ todo) slots → ArePartly e (closed_over e s at) todo (with_update (closed_over e s at) x slots)
  one_told x todo slots is p =
      let next = next_for (closed_over e s at) x.query x.operator in
      let new = with_next x next in
      let table2 : ℕ → ℕ → Option Slot = updated p.table x.query x.operator new in
      record {
        table = table2;
        named = updated_numbered p.table x.query x.operator new refl refl p.named;
        has = ⊎_elim
            (λ done.
            let here : p.table x.query x.operator ≡ Some new = done ∙ new_slot x is in
            equal_slots p.table table2 (with_update (closed_over e s at) x slots)
            (λ n k. ⊎_elim
            (λ same. ap (λ z. table2 z k) same.0 ∙ ap (table2 x.query) same.1 ∙ updated_here p.table x.query x.operator new ∙ sym here ∙ sym (ap (λ z. p.table z k) same.0 ∙ ap (p.table x.query) same.1))
            (λ ne. updated_there p.table x.query x.operator new n k ne)
            (numbers n k x.query x.operator))
            (told_again p.table slots x next p.has p.named here))
            (λ todo. changed_slots p.table table2 slots x next p.has p.named (todo.0 ∙ is) (updated_here p.table x.query x.operator new) (λ n k ne. updated_there p.table x.query x.operator new n k ne))
            (p.each x.query x.operator);
        each = λ n k. ⊎_elim
            (λ same. inl (ap (λ z. table2 z k) same.0 ∙ ap (table2 x.query) same.1 ∙ updated_here p.table x.query x.operator new ∙ sym (new_slot x is)
            ∙ sym (ap (λ z. slot_of (closed_over e s at) z k) same.0 ∙ ap (slot_of (closed_over e s at) x.query) same.1)))
            (λ ne. ⊎_elim
            (λ done. inl (updated_there p.table x.query x.operator new n k ne ∙ done))
            (λ left. inr (updated_there p.table x.query x.operator new n k ne ∙ left.0, still n k ne left.1))
            (p.each n k))
            (numbers n k x.query x.operator);
      }
    where
      still : (n k : ℕ) → (n ≢ x.query) ⊎ (k ≢ x.operator) → HasOne (x ∷ todo) n k → HasOne todo n k
      still n k ne one = by_place one.1.0 where
        by_place : IsIn (x ∷ todo) one.0 → HasOne todo n k
        by_place (inl same) = absurd (⊎_elim (λ d. d (sym one.1.1.0 ∙ ap (λ z. z.query) (sym same))) (λ d. d (sym one.1.1.1 ∙ ap (λ z. z.operator) (sym same))) ne)
        by_place (inr i) = (one.0, (i, one.1.1))

  each_told : (todo slots : List Slot) → ((x : Slot) → IsIn todo x → slot_of e x.query x.operator ≡ Some x) → ArePartly e (closed_over e s at) todo slots → HasSlots (slot_of (closed_over e s at)) (with_updates (closed_over e s at) todo slots)
  each_told [] slots are p = equal_slots p.table (slot_of (closed_over e s at)) slots (λ n k. ⊎_elim (λ done. sym done) (λ left. absurd left.1.1.0) (p.each n k)) p.has
  each_told (x ∷ todo) slots are p = each_told todo (with_update (closed_over e s at) x slots) (λ y i. are y (inr i)) (one_told x todo slots (are x (inl refl)) p)

module _ (e : PlainEngine) (s : ℕ) (at : ℤ) (g : GoodEngine e) (h : IsHeartbeat e s at) (rs : List WindowReader) where
  pub all_asked : AllByRecursion (λ slot. HasOperatorAt (closed_over e s at) slot.query slot.operator) (idle_slots e rs)
  all_asked = all_of (λ slot. HasOperatorAt (closed_over e s at) slot.query slot.operator) (idle_slots e rs)
      (λ x i.
      let o = is_slot e x.query x.operator x (slots_are e rs x i) in
      let is : IsOperator (heartbeat_taken e s at) x.query x.operator o.query o.plain = record { registered = o.registered; running = o.running; within = o.within } in
      let may = may_ask (heartbeat_taken e s at) (heartbeat_good e s at g h) in
      (o.query, (o.plain, record { registered = o.registered; running = o.running; within = o.within; operator = may.operators x.query x.operator o.query o.plain is; log = may.logs x.query x.operator o.query o.plain is })))

  module _ (lists : (n k : ℕ) → IsResting e s n k → IsIn rs (reader s n k)) where
    waking : (n k : ℕ) → IsResting e s n k → HasOne (idle_slots e rs) n k
    waking n k is =
        let here : slot_of e n k ≡ Some (slot_at e n is.query is.plain k) = slot_is e n k is.query is.plain is.registered is.running is.within in
        let idle : is_idle_at e n k ≡ true = resting_rests e g s n k is in (
          slot_at e n is.query is.plain k,
          (slot_comes e s n k rs (slot_at e n is.query is.plain k) (lists n k is) idle here, (refl, refl)),
        )

    pub all_told : with_updates (closed_over e s at) (idle_slots e rs) e.slots ≡ (heartbeat_taken e s at).slots
    all_told =
        let start : ArePartly e (closed_over e s at) (idle_slots e rs) e.slots = record {
          table = slot_of e;
          named = numbered e;
          has = g.slots;
          each = λ n k. ⊎_elim (λ is. inr (refl, waking n k is)) (λ same. inl (sym same)) (beat_or_rest e s at g h n k);
        } in
        same_slots (slot_of (closed_over e s at)) (with_updates (closed_over e s at) (idle_slots e rs) e.slots) (heartbeat_taken e s at).slots
        (each_told e s at (idle_slots e rs) e.slots (λ x i. slots_are e rs x i) start) (heartbeat_good e s at g h).slots

-- THE CALL: rows that the stream's heartbeat closes, the readers' slots, the streams closed, the slots told
module _ (s : EngineState) (streams : List Stream) (n : ℕ) (at : ℤ) (h : IsSound s) (beats : IsHeartbeat (engine_in s) n at) (closes : streams ≡ change n (closed_to at) s.streams) where
  pub readers_asked : (slots : List Slot) → slots ≡ idle_slots (engine_in s) (over_stream n s.readers) → AllByRecursion (λ slot. HasOperatorAt (engine_in (at_streams s streams)) slot.query slot.operator) slots
  readers_asked slots are =
      subst (λ z. AllByRecursion (λ slot. HasOperatorAt (engine_in (at_streams s z)) slot.query slot.operator) slots) (sym closes)
      (subst (AllByRecursion (λ slot. HasOperatorAt (closed_over (engine_in s) n at) slot.query slot.operator)) (sym are) (all_asked (engine_in s) n at h.good beats (over_stream n s.readers)))

  module _ (slots : List Slot) (are : slots ≡ idle_slots (engine_in s) (over_stream n s.readers)) (s2 : EngineState) (tells : s2 ≡ with_slots (at_streams s streams) (with_updates (engine_in (at_streams s streams)) slots s.slots)) where
    all_listed : (m k : ℕ) → IsResting (engine_in s) n m k → IsIn (over_stream n s.readers) (reader n m k)
    all_listed m k is = is_over n m k s.readers (subst (λ rs. IsIn rs (reader n m k)) (sym h.readers) (resting_listed (engine_in s) n m k is))

    state_is : s2 ≡ with_slots (at_streams s (change n (closed_to at) s.streams)) (heartbeat_taken (engine_in s) n at).slots
    state_is =
        tells
        ∙ ap (λ z. with_slots (at_streams s z) (with_updates (engine_in (at_streams s z)) slots s.slots)) closes
        ∙ ap (λ z. with_slots (at_streams s (change n (closed_to at) s.streams)) (with_updates (closed_over (engine_in s) n at) z s.slots)) are
        ∙ ap (with_slots (at_streams s (change n (closed_to at) s.streams))) (all_told (engine_in s) n at h.good beats (over_stream n s.readers) all_listed)

    pub beats_engine : engine_in s2 ≡ heartbeat_taken (engine_in s) n at
    beats_engine = ap engine_in state_is

    pub beats_sound : IsSound s2
    beats_sound = subst IsSound (sym state_is) (record {
      good = heartbeat_good (engine_in s) n at h.good beats;
      kinds = λ x i. h.kinds x i;
      few = h.few;
      numbers = h.numbers;
      named = h.named;
      gone = h.gone;
      columns = registrations_stand.goes_on (engine_in s).machine (Heartbeat n at) 0 beats.accepted h.columns;
      closed = few_closed_stand.goes_on (engine_in s).machine (Heartbeat n at) 0 beats.accepted h.closed;
      readers = h.readers;
    })

    pub beats_does : heartbeat_step (world_in s) n at ≡ (Ok tt, world_in s2)
    unfolding heartbeat_step
    beats_does =
        ap (λ o. unless o (world_in s) tt (record (world_in s) { machine = after (engine_in s).machine (Heartbeat n at) 0 })) beats.accepted
        ∙ sym (ap (λ (z : EngineState). (Ok tt, world_in z)) state_is)

-- A HEARTBEAT THAT IS REFUSED
abbrev step_at : World → World → Option Fault → Step ⊤
step_at w new first = unless first w tt new

module _ (w new : World) (es : List Element) where
  looked_step : (first : Option Fault) (f : Fault) → unless_faulty first es ≡ Err f → step_at w new first ≡ (Err f, w)
  looked_step None f h = absurd (cc)
  looked_step (Some g) f h = let same : g ≡ f = cc in ap (λ z. (Err z, w)) same

  short_step : (first : Option Fault) → MayLackMemory (unless_faulty first es) → MayLackMemory (step_at w new first).0
  short_step None h = tt
  short_step (Some (Query fault)) h = tt
  short_step (Some BadName) h = absurd h
  short_step (Some NameTaken) h = absurd h
  short_step (Some BadColumns) h = absurd h
  short_step (Some TooMany) h = absurd h
  short_step (Some UnknownStream) h = absurd h
  short_step (Some UnknownQuery) h = absurd h
  short_step (Some BadWidth) h = absurd h
  short_step (Some ValueRange) h = absurd h
  short_step (Some InstantRange) h = absurd h
  short_step (Some Late) h = absurd h
  short_step (Some Backward) h = absurd h
  short_step (Some Leap) h = absurd h
  short_step (Some StreamFull) h = absurd h
  short_step (Some BadLimit) h = absurd h
  short_step (Some Broken) h = absurd h
  short_step (Some UnknownLease) h = absurd h
  short_step (Some Stranger) h = absurd h
  short_step (Some HistoryFull) h = absurd h
  short_step (Some (Foreign entries)) h = absurd h
  short_step (Some TooManyLeases) h = absurd h
  short_step (Some OutOfMemory) h = absurd h

  looked : {A : Type 0} (view : A → List Element) (first : Option Fault) (f : Fault) → Looks view (unless_faulty first es) (Err f) → Does (λ (u : ⊤). u) w (step_at w new first) (Err f) w
  looked view first (Query fault) h = looked_step first (Query fault) h
  looked view first BadName h = looked_step first BadName h
  looked view first NameTaken h = looked_step first NameTaken h
  looked view first BadColumns h = looked_step first BadColumns h
  looked view first TooMany h = looked_step first TooMany h
  looked view first UnknownStream h = looked_step first UnknownStream h
  looked view first UnknownQuery h = looked_step first UnknownQuery h
  looked view first BadWidth h = looked_step first BadWidth h
  looked view first ValueRange h = looked_step first ValueRange h
  looked view first InstantRange h = looked_step first InstantRange h
  looked view first Late h = looked_step first Late h
  looked view first Backward h = looked_step first Backward h
  looked view first Leap h = looked_step first Leap h
  looked view first StreamFull h = looked_step first StreamFull h
  looked view first BadLimit h = looked_step first BadLimit h
  looked view first Broken h = looked_step first Broken h
  looked view first UnknownLease h = looked_step first UnknownLease h
  looked view first Stranger h = looked_step first Stranger h
  looked view first HistoryFull h = looked_step first HistoryFull h
  looked view first (Foreign entries) h = looked_step first (Foreign entries) h
  looked view first TooManyLeases h = looked_step first TooManyLeases h
  looked view first OutOfMemory h = (refl, short_step first h)

refused_at : {A : Type 0} (view : A → List Element) (s : EngineState) (n : ℕ) (at : ℤ) (f : Fault) → Looks view (closing_in s.streams n at) (Err f) → Does (λ (u : ⊤). u) (world_in s) (heartbeat_step (world_in s) n at) (Err f) (world_in s)
unfolding closing_in heartbeat_step
refused_at view s n at f h =
    looked (world_in s) (record (world_in s) { machine = after (engine_in s).machine (Heartbeat n at) 0 }) (closing_at s.streams n at) view (first_fault (machine_of s.streams) (Heartbeat n at)) f h

pub heartbeat_refused : {A : Type 0} (view : A → List Element) (s : EngineState) (n : ℕ) (at given : ℤ) (r : Result ⊤ Fault) (f : Fault) → given ≡ at → IsErrAnd r (λ g. g ≡ f) → Looks view (closing_in s.streams n given) (Err f)
    → Does (λ (u : ⊤). u) (world_in s) (heartbeat_step (world_in s) n at) r (world_in s)
heartbeat_refused view s n at given (Ok u) f same e h = absurd e
heartbeat_refused view s n at given (Err g) f same e h =
    subst (λ z. Does (λ (u : ⊤). u) (world_in s) (heartbeat_step (world_in s) n at) (Err z) (world_in s)) (sym e)
    (subst (λ z. Does (λ (u : ⊤). u) (world_in s) (heartbeat_step (world_in s) n z) (Err f) (world_in s)) same (refused_at view s n given f h))

-- and one for which memory is wanted
pub heartbeat_lacked : (s : EngineState) (streams : List Stream) (n : ℕ) (at : ℤ) → first_fault (machine_of s.streams) (Heartbeat n at) ≡ None → streams ≡ s.streams
    → Does (λ (u : ⊤). u) (world_in s) (heartbeat_step (world_in s) n at) (Err OutOfMemory) (world_in (at_streams s streams))
unfolding heartbeat_step
heartbeat_lacked s streams n at ok same =
    lacked (λ (u : ⊤). u) (world_in s) (record (world_in s) { machine = after (engine_in s).machine (Heartbeat n at) 0 }) tt (first_fault (machine_of s.streams) (Heartbeat n at)) (world_in (at_streams s streams)) (sym ok)
    (ap (λ z. world_in (at_streams s z)) same)
