-- What clients see of an engine that takes and drains.
use Rattle.std.proofs.Common.{◌≡◌, ℕ, zero, suc, ℤ, true, false, cond, Option, Some, None, option_and_then, Result, Ok, Err, IfOk, OnOk, List, [], ◌∷◌, ◌++◌, drop, get_or, length, map, max, min, nat_abs, take, refl, sym, ap, ap₂, subst, ◌∙◌, arith}
use Rattle.std.specs.Prelude.{⊤, slice_get}
use Rattle.values.specs.Row.{Row}
use Rattle.reference.specs.Commands.{Take, after, change, first_fault}
use Rattle.plan.proofs.Lists.{by_test}
use Rattle.reference.specs.Machine.{Machine, Registered, closed_answers, ends_at, unless_dropped, until_for}
use Rattle.reference.specs.Steps.{AreNext}
use Rattle.reference.proofs.CommandSteps.{take_is_step}
use Rattle.reference.specs.World.{Does, Drains, Looks, MayLackMemory, Step, StopsEarly, WaitingAreNext, World, drain_fault, drain_step, handed, peek_at, take_step, unless, untaken}
use Rattle.reference.specs.declared.fault.Fault.{Fault}
use Rattle.reference.specs.declared.fault.Fault.TheVariants as fault
use Rattle.reference.specs.declared.fault.Fault.TheVariants.{Query, BadName, NameTaken, BadColumns, TooMany, UnknownStream, UnknownQuery, BadWidth, ValueRange, InstantRange, Late, Backward, Leap, StreamFull, BadLimit, UnknownLease, Stranger, TooManyLeases, HistoryFull, OutOfMemory, Foreign}
use Rattle.run_queue.specs.Slots.{first_of}
use Rattle.laws_engine.specs.Calls.{remains_after, taken}
use Rattle.laws_engine.specs.Engines.{Broken, Dropped, IsExhausted, PlainEngine, PlainRemains}
use Rattle.laws_engine.specs.Engines.{Running, answers_in, query_at, remains_at, upto_by, upto_in}
use Rattle.laws_engine.specs.Engines.{world_of}
use Rattle.laws_engine.specs.Good.{GoodEngine}
use Rattle.laws_engine.specs.Promises.{GivesBeginnings, HasAllWaiting}
use Rattle.laws_engine.proofs.IdleLemmas.{idle_reached, idle_waits}
use Rattle.laws_engine.proofs.PromiseLemmas.{keeps_its_promises}
use Rattle.laws_engine.proofs.UptoLemmas.{upto_taken}
use Rattle.leases.specs.Sound.{is_gone}
use Rattle.leases.specs.Takes.{Peeks, Takes, after_take, count_of}
use Rattle.leases.specs.Whole.{IsWholeEngine}

-- WHAT WAITS AT EACH QUERY
some_same : {X : Type 0} {a b : X} → Some a ≡ Some b → a ≡ b
some_same e = cc

-- of a list of queries, and what is left of each
all_in : (m : Machine) (qs : List Registered) (ks : List PlainRemains) → length ks ≡ length qs → ((n : ℕ) (q : Registered) → slice_get qs n ≡ Some q → answers_in (get_or ks n Dropped) ≡ untaken m q)
    → map answers_in ks ≡ map (untaken m) qs
all_in m [] [] many h = refl
all_in m [] (k ∷ ks) many h = absurd (omega (arith, many))
all_in m (q ∷ qs) [] many h = absurd (omega (arith, many))
all_in m (q ∷ qs) (k ∷ ks) many h = ap₂ (λ y ys. y ∷ ys) (h 0 q refl) (all_in m qs ks (omega (arith, many)) (λ n r e. h (suc n) r e))

-- whether it was dropped is seen on both
gone_at : (qs : List Registered) (ks : List PlainRemains) (n : ℕ) (q : Registered) → map (λ r. r.is_dropped) qs ≡ map is_gone ks → slice_get qs n ≡ Some q → q.is_dropped ≡ is_gone (get_or ks n Dropped)
gone_at [] ks n q h e = absurd (cc)
gone_at (r ∷ qs) [] n q h e = absurd (cc)
gone_at (r ∷ qs) (k ∷ ks) zero q h e = let first : r.is_dropped ≡ is_gone k = cc in let same : r ≡ q = some_same e in ap (λ z. z.is_dropped) (sym same) ∙ first
gone_at (r ∷ qs) (k ∷ ks) (suc n) q h e = let rest : map (λ z. z.is_dropped) qs ≡ map is_gone ks = cc in gone_at qs ks n q rest e

untaken_dropped : (m : Machine) (q : Registered) → q.is_dropped ≡ true → [] ≡ untaken m q
untaken_dropped m q e = rw e refl

untaken_remains : (m : Machine) (q : Registered) → q.is_dropped ≡ false → drop q.taken (closed_answers m q) ≡ untaken m q
untaken_remains m q e = rw e refl

-- where a query ends that lives, and one that was dropped
ends_live : (m : Machine) (q : Registered) → q.is_dropped ≡ false → max q.first (until_for m.streams q.places) ≡ ends_at m q
ends_live m q e = rw e refl

ends_dropped : (m : Machine) (q : Registered) → q.is_dropped ≡ true → 0 ≡ ends_at m q
ends_dropped m q e = rw e refl

upto_all : (m : Machine) (qs : List Registered) (ks : List PlainRemains) → length ks ≡ length qs → ((n : ℕ) (q : Registered) → slice_get qs n ≡ Some q → upto_in q (get_or ks n Dropped) ≡ ends_at m q) → upto_by qs ks ≡ map (ends_at m) qs
upto_all m [] ks many h = refl
upto_all m (q ∷ qs) [] many h = absurd (omega (arith, many))
upto_all m (q ∷ qs) (k ∷ ks) many h = ap₂ (λ y ys. y ∷ ys) (h 0 q refl) (upto_all m qs ks (omega (arith, many)) (λ n r e. h (suc n) r e))

module _ (e : PlainEngine) (g : GoodEngine e) (whole : IsWholeEngine e) (idle : first_of e.slots ≡ None) (gone : map (λ q. q.is_dropped) e.machine.queries ≡ map is_gone e.queries) where
  all : HasAllWaiting e
  all = idle_waits e g idle

  waits_at : (n : ℕ) (q : Registered) (remains : PlainRemains) → query_at e n ≡ Some q → remains_at e n ≡ remains → q.is_dropped ≡ is_gone remains → answers_in remains ≡ untaken e.machine q
  waits_at n q (Running p) r k d = all n q p r k (λ j. rw whole.returned refl) ∙ untaken_remains e.machine q d
  waits_at n q (Broken answers upto) r k d = absurd (whole.unbroken n answers upto k)
  waits_at n q Dropped r k d = untaken_dropped e.machine q d

  pub all_wait : map answers_in e.queries ≡ map (untaken e.machine) e.machine.queries
  all_wait = all_in e.machine e.machine.queries e.queries g.many (λ n q r. waits_at n q (remains_at e n) r refl (gone_at e.machine.queries e.queries n q gone r))

  -- and each is complete up to the first instant that is not closed
  reached_at : (n : ℕ) (q : Registered) (remains : PlainRemains) → query_at e n ≡ Some q → remains_at e n ≡ remains → q.is_dropped ≡ is_gone remains → upto_in q remains ≡ ends_at e.machine q
  reached_at n q (Running p) r k d = idle_reached e g idle n q p r k (λ j. rw whole.returned refl) ∙ ends_live e.machine q d
  reached_at n q (Broken answers upto) r k d = absurd (whole.unbroken n answers upto k)
  reached_at n q Dropped r k d = ends_dropped e.machine q d

  pub all_reached : upto_by e.machine.queries e.queries ≡ map (ends_at e.machine) e.machine.queries
  all_reached = upto_all e.machine e.machine.queries e.queries g.many (λ n q r. reached_at n q (remains_at e n) r refl (gone_at e.machine.queries e.queries n q gone r))

-- A STEP that is done, or refused
step_done : {A : Type 0} (o : Option Fault) (w made new : World) (a b : A) → o ≡ None → a ≡ b → made ≡ new → unless o w a made ≡ (Ok b, new)
step_done None w made new a b none e f = cc
step_done (Some x) w made new a b none e f = absurd (cc)

step_refused : {A : Type 0} (o : Option Fault) (w made new : World) (a : A) (f : Fault) → o ≡ Some f → new ≡ w → unless o w a made ≡ (Err f, new)
step_refused None w made new a f some e = absurd (cc)
step_refused (Some x) w made new a f some e = cc

may_lack : {A : Type 0} (o : Option Fault) (w made : World) (a : A) → o ≡ None → MayLackMemory (unless o w a made).0
may_lack None w made a none = tt
may_lack (Some x) w made a none = absurd (cc)

-- WHAT WAITS comes next behind the answers that were taken
drop_front : {X : Type 0} (xs ys zs : List X) (n : ℕ) → length xs ≡ n → drop n ((xs ++ ys) ++ zs) ≡ ys ++ zs
drop_front [] ys zs zero e = refl
drop_front [] ys zs (suc n) e = absurd (cc)
drop_front (x ∷ xs) ys zs zero e = absurd (cc)
drop_front (x ∷ xs) ys zs (suc n) e = drop_front xs ys zs n (omega (arith, e))

waiting_same : (ks : List PlainRemains) (n : ℕ) → get_or (map answers_in ks) n [] ≡ answers_in (get_or ks n Dropped)
waiting_same [] n = refl
waiting_same (k ∷ ks) zero = refl
waiting_same (k ∷ ks) (suc n) = waiting_same ks n

remains_there : (r q : Registered) → unless_dropped r ≡ Some q → r ≡ q
remains_there r q e = by_test r.is_dropped
    (λ t. let none : None ≡ Some q = subst (λ b. cond b None (Some r) ≡ Some q) t e in absurd (cc))
    (λ f. some_same (subst (λ b. cond b None (Some r) ≡ Some q) f e))

there : (o : Option Registered) (q : Registered) → option_and_then unless_dropped o ≡ Some q → o ≡ Some q
there None q e = absurd (cc)
there (Some r) q e = ap Some (remains_there r q e)

pub waits_next : (e : PlainEngine) → GivesBeginnings e → WaitingAreNext (world_of e)
waits_next e begins n q at =
    let h = begins n q (there (slice_get e.machine.queries n) q at) in
    (h.rest, ap (drop q.taken) h.begins ∙ drop_front h.taken (answers_in (remains_at e n)) h.rest q.taken h.counted ∙ ap (λ ws. ws ++ h.rest) (sym (waiting_same e.queries n)))

-- A DRAIN
module _ (old new : PlainEngine) (rows : ℕ) (machine : new.machine ≡ old.machine) where
  pub drain_done : drain_fault rows ≡ None → map answers_in new.queries ≡ map (untaken new.machine) new.machine.queries → upto_by new.machine.queries new.queries ≡ map (ends_at new.machine) new.machine.queries
      → (u : ⊤) → drain_step (world_of old) rows ≡ (Ok u, world_of new)
  unfolding drain_step
  drain_done none all ends u =
      step_done (drain_fault rows) (world_of old) _ (world_of new) tt u none refl
      (let waits : map (untaken old.machine) old.machine.queries ≡ map answers_in new.queries = ap (λ m. map (untaken m) m.queries) (sym machine) ∙ sym all in
      let upto : map (ends_at old.machine) old.machine.queries ≡ upto_by new.machine.queries new.queries = ap (λ m. map (ends_at m) m.queries) (sym machine) ∙ sym ends in
      let m : old.machine ≡ new.machine = sym machine in cc)

  drain_lacks : drain_fault rows ≡ None → MayLackMemory (drain_step (world_of old) rows).0
  unfolding drain_step
  drain_lacks none = may_lack (drain_fault rows) (world_of old) _ tt none

  pub drain_refused : (f : Fault) → drain_fault rows ≡ Some f → new ≡ old → drain_step (world_of old) rows ≡ (Err f, world_of new)
  unfolding drain_step
  drain_refused f some same = step_refused (drain_fault rows) (world_of old) _ (world_of new) tt f some (ap world_of same)

  pub stops_early : GoodEngine new → drain_fault rows ≡ None → StopsEarly (world_of old) (drain_step (world_of old) rows) (world_of new)
  stops_early g none = record { machine = machine; lacks = drain_lacks none; next = λ before. waits_next new (keeps_its_promises new g).begins }

-- A TAKE
abbrev the_world : Machine → List (List (ℕ × Row)) → List ℕ → World
the_world m ws us = record { machine = m; waiting = ws; upto = us }

none_dropped : (count : ℕ) → [] ≡ drop {A = ℕ × Row} count []
none_dropped zero = refl
none_dropped (suc count) = refl

remains_dropped : (count : ℕ) (k : PlainRemains) → answers_in (remains_after count k) ≡ drop count (answers_in k)
remains_dropped count (Running p) = refl
remains_dropped count (Broken answers upto) = refl
remains_dropped count Dropped = none_dropped count

-- of one that is not broken
unexhausted : (k : PlainRemains) → ((answers : List (ℕ × Row)) (upto : ℕ) → k ≡ Broken answers upto → ⊥) → IsExhausted k → ⊥
unexhausted (Running p) h gone = gone
unexhausted (Broken answers upto) h gone = h answers upto refl
unexhausted Dropped h gone = gone

changed_waiting : (count n : ℕ) (ks : List PlainRemains) → change n (drop count) (map answers_in ks) ≡ map answers_in (change n (remains_after count) ks)
changed_waiting count n [] = refl
changed_waiting count zero (k ∷ ks) = ap (λ a. a ∷ map answers_in ks) (sym (remains_dropped count k))
changed_waiting count (suc n) (k ∷ ks) = ap (λ rest. answers_in k ∷ rest) (changed_waiting count n ks)

module _ {A : Type 0} (view : A → List (ℤ × Row)) (old : PlainEngine) (n : ℕ) (limit : ℤ) where
  abbrev waits : List (ℕ × Row)
  waits = get_or (map answers_in old.queries) n []

  here : waits ≡ answers_in (remains_at old n)
  here = waiting_same old.queries n

  abbrev count : ℕ
  count = min (nat_abs limit) (length waits)

  counted : count ≡ count_of old n limit
  counted = ap (λ ws. min (nat_abs limit) (length ws)) here

  abbrev World_of : ℕ → World
  World_of c = record { machine = after old.machine (Take n limit) c; waiting = change n (drop c) (map answers_in old.queries); upto = upto_by old.machine.queries old.queries }

  made_same : (c : ℕ) → World_of c ≡ world_of (taken old n limit c)
  made_same c = ap₂ (the_world (after old.machine (Take n limit) c)) (changed_waiting c n old.queries) (upto_taken c n old.machine.queries old.queries)

  take_done : (rows : A) (new : PlainEngine) → first_fault old.machine (Take n limit) ≡ None → view rows ≡ handed (take (count_of old n limit) (answers_in (remains_at old n))) → new ≡ taken old n limit (count_of old n limit)
      → take_step (world_of old) n limit ≡ (Ok (view rows), world_of new)
  unfolding take_step
  take_done rows new none hands is =
      step_done (first_fault old.machine (Take n limit)) (world_of old) _ (world_of new) (handed (take count waits)) (view rows) none
      (ap (λ c. handed (take c waits)) counted ∙ ap (λ ws. handed (take (count_of old n limit) ws)) here ∙ sym hands)
      (ap World_of counted ∙ made_same (count_of old n limit) ∙ ap world_of (sym is))

  take_refused : (new : PlainEngine) (f : Fault) → first_fault old.machine (Take n limit) ≡ Some f → new ≡ old → take_step (world_of old) n limit ≡ (Err f, world_of new)
  unfolding take_step
  take_refused new f some same = step_refused (first_fault old.machine (Take n limit)) (world_of old) _ (world_of new) _ f some (ap world_of same)

  take_lacks : first_fault old.machine (Take n limit) ≡ None → MayLackMemory (take_step (world_of old) n limit).0
  unfolding take_step
  take_lacks none = may_lack (first_fault old.machine (Take n limit)) (world_of old) _ _ none

  takes : IsWholeEngine old → (r : Result A Fault) (new : PlainEngine) → Takes view old n limit r new → Does view (world_of old) (take_step (world_of old) n limit) r (world_of new)
  takes whole (Ok rows) new h = take_done rows new h.0 h.1 h.2
  takes whole (Err OutOfMemory) new h = (ap world_of h.1, take_lacks h.0)
  takes whole (Err fault.Broken) new h = absurd (unexhausted (remains_at old n) (whole.unbroken n) h.1)
  takes whole (Err (Query x)) new h = take_refused new (Query x) h.0 h.1
  takes whole (Err BadName) new h = take_refused new BadName h.0 h.1
  takes whole (Err NameTaken) new h = take_refused new NameTaken h.0 h.1
  takes whole (Err BadColumns) new h = take_refused new BadColumns h.0 h.1
  takes whole (Err TooMany) new h = take_refused new TooMany h.0 h.1
  takes whole (Err UnknownStream) new h = take_refused new UnknownStream h.0 h.1
  takes whole (Err UnknownQuery) new h = take_refused new UnknownQuery h.0 h.1
  takes whole (Err BadWidth) new h = take_refused new BadWidth h.0 h.1
  takes whole (Err ValueRange) new h = take_refused new ValueRange h.0 h.1
  takes whole (Err InstantRange) new h = take_refused new InstantRange h.0 h.1
  takes whole (Err Late) new h = take_refused new Late h.0 h.1
  takes whole (Err Backward) new h = take_refused new Backward h.0 h.1
  takes whole (Err Leap) new h = take_refused new Leap h.0 h.1
  takes whole (Err StreamFull) new h = take_refused new StreamFull h.0 h.1
  takes whole (Err BadLimit) new h = take_refused new BadLimit h.0 h.1
  takes whole (Err UnknownLease) new h = take_refused new UnknownLease h.0 h.1
  takes whole (Err Stranger) new h = take_refused new Stranger h.0 h.1
  takes whole (Err HistoryFull) new h = take_refused new HistoryFull h.0 h.1
  takes whole (Err (Foreign entries)) new h = take_refused new (Foreign entries) h.0 h.1
  takes whole (Err TooManyLeases) new h = take_refused new TooManyLeases h.0 h.1

-- WHERE IT IS DONE all waits
pub drains_wait : (new : PlainEngine) (r : Result ⊤ Fault) → GoodEngine new → OnOk r (first_of new.slots ≡ None) → OnOk r (HasAllWaiting new)
drains_wait new (Ok u) g idle = idle_waits new g idle
drains_wait new (Err f) g idle = tt

pub takes_are : {A : Type 0} (view : A → List (ℤ × Row)) (old : PlainEngine) (n : ℕ) (limit : ℤ) (r : Result A Fault) (new : PlainEngine) → IsWholeEngine old → Takes view old n limit r new
    → Does view (world_of old) (take_step (world_of old) n limit) r (world_of new)
takes_are view old n limit r new whole h = takes view old n limit whole r new h

-- what is handed out comes next, behind what was taken
pub takes_next : {A : Type 0} (view : A → List (ℤ × Row)) (old : PlainEngine) (n : ℕ) (limit : ℤ) (r : Result A Fault) (new : PlainEngine) → GivesBeginnings old → Takes view old n limit r new → IfOk r (λ v. AreNext old.machine n limit (view v))
takes_next view old n limit (Ok rows) new begins h =
    (take_is_step (world_of old) (world_of new) n limit (view rows) (waits_next old begins) (take_done view old n limit rows new h.0 h.1 h.2)).gives
takes_next view old n limit (Err f) new begins h = tt

-- A LOOK at what a step answers
did_look : {A B : Type 0} (view : A → B) (old new : World) (step : Step B) (r : Result A Fault) → Does view old step r new → Looks view step.0 r
did_look view old new step (Ok a) d = ap (λ z. z.0) d
did_look view old new step (Err OutOfMemory) d = d.1
did_look view old new step (Err fault.Broken) d = ap (λ z. z.0) d
did_look view old new step (Err (Query x)) d = ap (λ z. z.0) d
did_look view old new step (Err (Foreign entries)) d = ap (λ z. z.0) d
did_look view old new step (Err BadName) d = ap (λ z. z.0) d
did_look view old new step (Err NameTaken) d = ap (λ z. z.0) d
did_look view old new step (Err BadColumns) d = ap (λ z. z.0) d
did_look view old new step (Err TooMany) d = ap (λ z. z.0) d
did_look view old new step (Err UnknownStream) d = ap (λ z. z.0) d
did_look view old new step (Err UnknownQuery) d = ap (λ z. z.0) d
did_look view old new step (Err BadWidth) d = ap (λ z. z.0) d
did_look view old new step (Err ValueRange) d = ap (λ z. z.0) d
did_look view old new step (Err InstantRange) d = ap (λ z. z.0) d
did_look view old new step (Err Late) d = ap (λ z. z.0) d
did_look view old new step (Err Backward) d = ap (λ z. z.0) d
did_look view old new step (Err Leap) d = ap (λ z. z.0) d
did_look view old new step (Err StreamFull) d = ap (λ z. z.0) d
did_look view old new step (Err BadLimit) d = ap (λ z. z.0) d
did_look view old new step (Err UnknownLease) d = ap (λ z. z.0) d
did_look view old new step (Err Stranger) d = ap (λ z. z.0) d
did_look view old new step (Err HistoryFull) d = ap (λ z. z.0) d
did_look view old new step (Err TooManyLeases) d = ap (λ z. z.0) d

pub peeks_are : {A : Type 0} (view : A → List (ℤ × Row)) (e : PlainEngine) (n : ℕ) (limit : ℤ) (r : Result A Fault) → IsWholeEngine e → Peeks view e n limit r → Looks view (peek_at (world_of e) n limit) r
unfolding peek_at
peeks_are view e n limit r whole h = did_look view (world_of e) (world_of (after_take e n limit r)) (take_step (world_of e) n limit) r (takes_are view e n limit r (after_take e n limit r) whole h)

pub peeks_next : {A : Type 0} (view : A → List (ℤ × Row)) (e : PlainEngine) (n : ℕ) (limit : ℤ) (r : Result A Fault) → GivesBeginnings e → Peeks view e n limit r → IfOk r (λ v. AreNext e.machine n limit (view v))
peeks_next view e n limit r begins h = takes_next view e n limit r (after_take e n limit r) begins h
