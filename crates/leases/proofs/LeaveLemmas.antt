-- Turns and queries that leave an engine: its code's lists, and those of the plain engine.
use Rattle.std.proofs.Common.{◌≡◌, ◌≤◌, ℕ, ◌==◌, not, Bool, Option, Some, None, Vec, List, [], ◌∷◌, filter, length, map, refl, sym, ap, ◌∙◌, subst, arith, eqb-true}
use Rattle.std.specs.Prelude.{Ok}
use Rattle.std.specs.Global.{Global}
use Rattle.std.specs.List.{find}
use Rattle.plan.proofs.Lists.{by_test}
use Rattle.reference.specs.Machine.{Registered}
use Rattle.laws_queries.specs.Plain.{PlainQuery}
use Rattle.run_queue.specs.Changes.{Stands}
use Rattle.run_queue.specs.declared.slots.Slot.{Slot}
use Rattle.laws_engine.specs.Calls.{IsOf, abandoned}
use Rattle.laws_engine.proofs.FinishLemmas.{abandon_good}
use Rattle.laws_engine.specs.Engines.{Lease, PlainEngine, Running, query_at, remains_at, slot_at}
use Rattle.laws_engine.specs.Good.{GoodEngine, IsIn, IsLease}
use Rattle.leases.specs.Applied.{GivesNothing, HasEnded, IsUpdated, without_turn}
use Rattle.leases.specs.Asked.{HasOperatorAt}
use Rattle.leases.specs.Readers.{readers_of}
use Rattle.leases.specs.Shown.{engine_in}
use Rattle.leases.specs.Told.{MayTellBoth}
use Rattle.leases.specs.Turns.{Abandons}
use Rattle.leases.specs.Sound.{IsSound}
use Rattle.leases.specs.Views.{HasKind, lease_of}
use Rattle.turn.specs.declared.turns.Turn.{Turn}
use Rattle.leases.specs.declared.state.EngineState.{EngineState}
use Rattle.leases.proofs.OutLemmas.{found_in, leases_left, left_in, turn_in}
use Rattle.leases.proofs.FinishSoundLemmas.{StaysBut, sound_from}
use Rattle.leases.proofs.LookLemmas.{asks, asks_on, tells_on}
use Rattle.leases.proofs.StandLemmas.{here_stands}

-- TURNS END
pub fewer : {X : Type 0} (p : X → Bool) (xs : List X) → length (filter p xs) ≤ length xs
fewer p [] = omega arith
fewer p (x ∷ xs) = let h : length (filter p xs) ≤ length xs = fewer p xs in by_test (p x) (λ t. rw t (omega (arith, h))) (λ f. rw f (omega (arith, h)))

pub turn_ended : (s : EngineState) (turns : Vec Turn Global) (n : ℕ) → turns.items ≡ filter (λ t. not (t.lease == n)) s.leases.items → engine_in (record s { leases = turns }) ≡ without_turn (engine_in s) n
turn_ended s turns n left = ap (λ ls. record (engine_in s) { leases = ls }) (ap (λ ts. map lease_of ts) left ∙ leases_left (λ (l : Lease). not (l.number == n)) s.leases.items)

pub turn_gives_nothing : (s : EngineState) (turns : Vec Turn Global) (n : ℕ) → turns.items ≡ filter (λ t. not (t.lease == n)) s.leases.items → GivesNothing s (record s { leases = turns })
turn_gives_nothing s turns n left = record { undropped = refl; readers = refl; leases = left_in (λ (t : Turn). not (t.lease == n)) s.leases.items turns.items left }

-- and the slots may be told what they might be told before
pub may_tell_left : (s : EngineState) (turns : Vec Turn Global) (a : Slot) (above : Option Slot) → MayTellBoth s a above → MayTellBoth (record s { leases = turns }) a above
may_tell_left s turns a above may = record {
  here = asks_on (engine_in s) (map lease_of turns.items) s.next s.slots a.query a.operator may.here;
  over = tells_on (engine_in s) (map lease_of turns.items) s.next s.slots above may.over;
  stand = may.stand;
}

-- THE TURN OF A NUMBER that the code found
pub record IsNumbered (e : PlainEngine) (n : ℕ) (l : Lease) : Type 0 where
  pub out : IsIn e.leases l
  pub number : l.number ≡ n

pub known : (s : EngineState) (n : ℕ) (g found : Turn) → g ≡ found → Some found ≡ find (λ z. z.lease == n) s.leases.items → IsNumbered (engine_in s) n (lease_of g)
known s n g found same is =
    let f = found_in (λ (z : Turn). z.lease == n) s.leases.items g (ap (λ (z : Turn). Some z) same ∙ is) in
    record { out = turn_in s.leases.items g f.0; number = eqb-true g.lease n f.1 }

-- its operator may be looked up
pub turn_asks : (e : PlainEngine) → GoodEngine e → (n : ℕ) (l : Lease) → IsNumbered e n l → HasOperatorAt e l.query l.operator
turn_asks e g n l t =
    let is : IsLease e l = g.leases l t.out in
    asks e g l.query l.operator is.query is.plain is.registered is.running is.within

-- THE TURN IS ABANDONED: it is not out any longer, and its slot is updated
module _ (e : PlainEngine) (g : GoodEngine e) (n : ℕ) (l : Lease) (t : IsNumbered e n l) (s : Slot)
    (before : (q : Registered) (p : PlainQuery) → query_at e l.query ≡ Some q → remains_at e l.query ≡ Running p → s ≡ slot_at e l.query q p l.operator) where
  abbrev is : IsLease e l
  is = g.leases l t.out

  abbrev of : IsOf e l is.query is.plain
  of = record { registered = is.registered; running = is.running; within = is.within }

  slot_is : s ≡ slot_at e l.query is.query is.plain l.operator
  slot_is = before is.query is.plain is.registered is.running

  pub may_end : HasOperatorAt e s.query s.operator
  may_end = subst (λ (z : Slot). HasOperatorAt e z.query z.operator) (sym slot_is) (turn_asks e g n l t)

  pub stands : Stands s e.slots
  stands = subst (λ (z : Slot). Stands z e.slots) (sym slot_is) (here_stands e l is.query is.plain g of)

  module _ (new : PlainEngine) (ended : HasEnded e n s None new) where
    is_abandoned : new ≡ abandoned e l is.query is.plain
    is_abandoned =
        let told : IsUpdated (without_turn e n) s new = subst (IsUpdated (without_turn e n) s) (sym ended.1.1) ended.1.0 in
        let here : IsUpdated (without_turn e l.number) (slot_at e l.query is.query is.plain l.operator) new =
        subst (λ z. IsUpdated (without_turn e z) (slot_at e l.query is.query is.plain l.operator) new) (sym t.number) (subst (λ z. IsUpdated (without_turn e n) z new) slot_is told) in
        here is.query is.plain is.registered is.running

    stays_good : GoodEngine new
    stays_good = subst GoodEngine (sym is_abandoned) (abandon_good e l is.query is.plain g t.out of)

    pub abandons : Abandons e n (Ok tt) new
    abandons = (l, (is.query, (is.plain, (t.out, (t.number, (of, is_abandoned))))))

-- and the engine knows of itself what it knew
pub stays_sound : (old new : EngineState) (sound : IsSound old) (n : ℕ) (l : Lease) (t : IsNumbered (engine_in old) n l) (s : Slot)
    → ((q : Registered) (p : PlainQuery) → query_at (engine_in old) l.query ≡ Some q → remains_at (engine_in old) l.query ≡ Running p → s ≡ slot_at (engine_in old) l.query q p l.operator)
    → HasEnded (engine_in old) n s None (engine_in new) → GivesNothing old new → IsSound new
stays_sound old new sound n l t s before ended r =
    let l_is : IsLease (engine_in old) l = sound.good.leases l t.out in
    let same : engine_in new ≡ abandoned (engine_in old) l l_is.query l_is.plain = is_abandoned (engine_in old) sound.good n l t s before (engine_in new) ended in
    let stays : StaysBut (engine_in old) (abandoned (engine_in old) l l_is.query l_is.plain) = record { machine = refl; next = refl; few = fewer (λ z. not (z.number == l.number)) (engine_in old).leases; gone = refl } in
    sound_from old new sound r.undropped (r.readers ∙ sound.readers ∙ ap readers_of (sym same)) r.leases (stays_good (engine_in old) sound.good n l t s before (engine_in new) ended) (subst (StaysBut (engine_in old)) (sym same) stays)
    (λ g i. subst (λ z. HasKind z g) (sym same) (sound.kinds g i))
