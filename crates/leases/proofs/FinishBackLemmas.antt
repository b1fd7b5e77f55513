-- The steps of a turn that comes back, one after the other.
use Rattle.std.proofs.Common.{◌≡◌, ◌==◌, ◌+◌, ◌<◌, ◌≤◌, ℕ, not, MatchOption, Option, Some, None, List, length, refl, sym, ap, ◌∙◌, subst}
use Rattle.turn.specs.Finished.{IsDone}
use Rattle.turn.specs.declared.parts.Parts.{Parts}
use Rattle.reference.specs.Machine.{Registered}
use Rattle.laws_queries.specs.Plain.{PlainQuery}
use Rattle.query_runtime.specs.Turns.{wire_at}
use Rattle.run_queue.specs.declared.slots.Slot.{Slot}
use Rattle.laws_engine.specs.Calls.{answered, given_back, others}
use Rattle.laws_engine.specs.Engines.{Lease, PlainEngine, Running, query_at, remains_at, slot_at}
use Rattle.laws_engine.specs.Good.{GoodEngine}
use Rattle.laws_engine.specs.Histories.{ComesBack}
use Rattle.laws_engine.proofs.BackLemmas.{same_plain}
use Rattle.leases.specs.Applied.{BothStand, Forgets, GivesNothing, HasApplied, HasEnded, HasTaken, HasTakenIn, HasWiredOperators, IsAbove, IsBroken, IsOutAs, IsOutAsIn, IsOutIn, IsUpdated, MayApplyIn, MayTell, with_remains, without_turn}
use Rattle.leases.specs.Asked.{HasOperatorAt}
use Rattle.leases.specs.Shown.{engine_in}
use Rattle.leases.specs.Sound.{IsSound}
use Rattle.leases.specs.Told.{MayTellBoth}
use Rattle.leases.specs.Turns.{HasPutOut, IsOut, lease_of_parts}
use Rattle.leases.specs.declared.state.EngineState.{EngineState}
use Rattle.leases.proofs.FinishLemmas as plain
use Rattle.leases.proofs.FinishSoundLemmas.{out_with, sound_back, sound_broken}
use Rattle.leases.proofs.LeaveLemmas.{fewer}
use Rattle.leases.proofs.LookLemmas.{asks_on}
use Rattle.leases.proofs.StandLemmas.{both_stand}

-- ONE CALL AFTER THE OTHER gives nothing
pub gives_on : (a b c : EngineState) → GivesNothing a b → GivesNothing b c → GivesNothing a c
gives_on a b c r t = record { undropped = t.undropped ∙ r.undropped; readers = t.readers ∙ r.readers; leases = λ g i. r.leases g (t.leases g i) }

-- IT IS THERE, of an operator whose numbers are spelt in two ways
pub may_look : (e : PlainEngine) (d : Lease) (n k : ℕ) → GoodEngine e → IsOutAsIn e d → n ≡ d.query → k ≡ d.operator → HasOperatorAt e n k
may_look e d n k g out sn sk =
    subst (λ z. HasOperatorAt e z k) (sym sn)
    (subst (λ z. HasOperatorAt e d.query z) (sym sk) (out.0, (out.1.0, plain.is_at e d out.0 out.1.0 g out.1.1.of d.operator out.1.1.of.within)))

pub wired_operators : (e : PlainEngine) (d : Lease) (n : ℕ) → GoodEngine e → IsOutAsIn e d → n ≡ d.query → HasWiredOperators e n
wired_operators e d n g out sn = subst (λ z. HasWiredOperators e z) (sym sn) (plain.wired_operators e d out.0 out.1.0 g out.1.1.of)

pub may_apply : (e : PlainEngine) (d : Parts) → GoodEngine e → IsOutIn e d → IsDone d → MayApplyIn e d
may_apply e d g out done = plain.may_apply_in e d out.0 out.1.0 g out.1.1 done

-- IT HAS BROKEN its query
pub broken_sound : (old new : EngineState) (d : Lease) → IsSound old → IsOutAsIn (engine_in old) d → IsBroken (engine_in old) d.query (engine_in new) → Forgets d.query old new → IsSound new
broken_sound old new d s out is r =
    sound_broken old new (engine_in old).leases old.slots d out.0 out.1.0 s s.good out.1.1 r (fewer (λ l. not (l.query == d.query)) (engine_in old).leases) (is out.1.0 out.1.1.of.running)

-- WHAT THE STEPS have looked up: the slots before, and the query that took the turn
pub record AreSteps (e : PlainEngine) (d : Lease) (n k lease : ℕ) (s : Slot) (above : Option Slot) (e1 : PlainEngine) : Type 0 where
  pub query : n ≡ d.query
  pub operator : k ≡ d.operator
  pub number : lease ≡ d.number
  pub slot : (q : Registered) (p : PlainQuery) → query_at e n ≡ Some q → remains_at e n ≡ Running p → s ≡ slot_at e n q p k
  pub over : IsAbove e n k above
  pub applied : HasTakenIn e d e1

-- it has come back
abbrev pub HasComeBackAs : PlainEngine → Lease → PlainEngine → Type 0
HasComeBackAs e d new = (q : Registered) × ((p : PlainQuery) × ((p2 : PlainQuery) × (IsOutAs e d q p × ComesBack e d q p p2 new)))

abbrev pub HasComeBack : PlainEngine → Parts → PlainEngine → Type 0
HasComeBack e d new = (q : Registered) × ((p : PlainQuery) × ((p2 : PlainQuery) × (IsOut e d q p × ComesBack e (lease_of_parts d) q p p2 new × HasPutOut d p p2)))

module _ (e : PlainEngine) (d : Lease) (n k lease : ℕ) (s : Slot) (above : Option Slot) (e1 : PlainEngine) (g : GoodEngine e) (q : Registered) (p : PlainQuery) (out : IsOutAs e d q p)
    (st : AreSteps e d n k lease s above e1) where
  registered : query_at e n ≡ Some q
  registered = ap (query_at e) st.query ∙ out.of.registered

  running : remains_at e n ≡ Running p
  running = ap (remains_at e) st.query ∙ out.of.running

  slot_is : s ≡ slot_at e d.query q p d.operator
  slot_is = st.slot q p registered running ∙ ap (λ z. slot_at e z q p k) st.query ∙ ap (λ z. slot_at e d.query q p z) st.operator

  above_is : MatchOption above (length p.operators ≤ d.operator + 1) (λ t. (d.operator + 1 < length p.operators) × (t ≡ slot_at e d.query q p (wire_at p d.operator).to))
  above_is =
      let is : IsAbove e d.query d.operator above = subst (λ z. IsAbove e z d.operator above) st.query (subst (λ z. IsAbove e n z above) st.operator st.over) in
      is q p out.of.registered out.of.running

  stand : BothStand e.slots s above
  stand = both_stand e d q p g out.of s above slot_is above_is

  is_root : above ≡ None → length p.operators ≤ d.operator + 1
  is_root none =
      subst (λ o. MatchOption o (length p.operators ≤ d.operator + 1) (λ t. (d.operator + 1 < length p.operators) × (t ≡ slot_at e d.query q p (wire_at p d.operator).to))) none above_is

  is_below : (t : Slot) → above ≡ Some t → (d.operator + 1 < length p.operators) × (t ≡ slot_at e d.query q p (wire_at p d.operator).to)
  is_below t some =
      subst (λ o. MatchOption o (length p.operators ≤ d.operator + 1) (λ t. (d.operator + 1 < length p.operators) × (t ≡ slot_at e d.query q p (wire_at p d.operator).to))) some above_is

  module _ (p2 : PlainQuery) (a : HasTaken e.machine.streams p d p2) (at : e1 ≡ with_remains e d.query (Running p2)) where
    abbrev home : PlainEngine
    home = without_turn e1 lease

    back : home ≡ given_back e d p2
    back = plain.ended e d q p g out.of p2 a e1 home at (ap (without_turn e1) st.number)

    tell_here : HasOperatorAt e1 s.query s.operator
    tell_here = asks_on home e1.leases e1.next e1.slots s.query s.operator (plain.may_update e d q p g out.of p2 a home s back slot_is)

    tell_over : (t : Slot) → above ≡ Some t → HasOperatorAt e1 t.query t.operator
    tell_over t some =
        let told = answered e d q p p2 in
        let gave = given_back e d p2 in
        let is = is_below t some in
        let over : HasOperatorAt gave t.query t.operator = asks_on told gave.leases gave.next gave.slots t.query t.operator (plain.may_update_above e d q p g out.of p2 a told t refl is.1 is.0) in
        asks_on home e1.leases e1.next e1.slots t.query t.operator (subst (λ z. HasOperatorAt z t.query t.operator) (sym back) over)

    module _ (e3 : PlainEngine) (told : IsUpdated home s e3) where
      third : e3 ≡ answered e d q p p2
      third = plain.told e d q p g out.of p2 a home s back slot_is e3 told

      come_back : (new : PlainEngine) (o : Option Slot) → above ≡ o → MatchOption o (new ≡ e3) (λ t. IsUpdated e3 t new) → ComesBack e d q p p2 new
      come_back new None none same = plain.comes_back_root e d q p g out.of p2 a new (is_root none) (same ∙ third)
      come_back new (Some t) some again =
          let is = is_below t some in
          plain.comes_back_below e d q p g out.of p2 a new is.0 (plain.told_above e d q p g out.of p2 a e3 t third is.1 new again)

-- WHERE IT IS OUT
module _ (e : PlainEngine) (d : Lease) (n k lease : ℕ) (s : Slot) (above : Option Slot) (e1 : PlainEngine) (good : GoodEngine e) (out : IsOutAsIn e d) (st : AreSteps e d n k lease s above e1) where
  took : (p2 : PlainQuery) × (HasTaken e.machine.streams out.1.0 d p2 × (e1 ≡ with_remains e d.query (Running p2)))
  took = st.applied out.1.0 out.1.1.of.running

  pub tells_here : HasOperatorAt e1 s.query s.operator
  tells_here = tell_here e d n k lease s above e1 good out.0 out.1.0 out.1.1 st took.0 took.1.0 took.1.1

  tells_in : (o : Option Slot) → above ≡ o → MayTell e1 o
  tells_in None none = tt
  tells_in (Some t) some = tell_over e d n k lease s above e1 good out.0 out.1.0 out.1.1 st took.0 took.1.0 took.1.1 t some

  pub tells_over : MayTell e1 above
  tells_over = tells_in above refl

  tells_stand : BothStand e1.slots s above
  tells_stand = subst (λ ss. BothStand ss s above) (sym (ap (λ (z : PlainEngine). z.slots) took.1.1)) (stand e d n k lease s above e1 good out.0 out.1.0 out.1.1 st)

  comes : (new : PlainEngine) → HasEnded e1 lease s above new → ComesBack e d out.0 out.1.0 took.0 new
  comes new h = come_back e d n k lease s above e1 good out.0 out.1.0 out.1.1 st took.0 took.1.0 took.1.1 h.0 h.1.0 new above refl h.1.1

  pub has_come_back : (new : PlainEngine) → HasEnded e1 lease s above new → HasComeBackAs e d new
  has_come_back new h = (out.0, (out.1.0, (took.0, (out.1.1, comes new h))))

-- so both may be told
pub may_tell : (e : PlainEngine) (d : Lease) (n k lease : ℕ) (s : Slot) (above : Option Slot) (m : EngineState) → GoodEngine e → IsOutAsIn e d → AreSteps e d n k lease s above (engine_in m) → MayTellBoth m s above
may_tell e d n k lease s above m good out st = record {
  here = tells_here e d n k lease s above (engine_in m) good out st;
  over = tells_over e d n k lease s above (engine_in m) good out st;
  stand = tells_stand e d n k lease s above (engine_in m) good out st;
}

-- A TURN THAT WAS RUN is, by its lease, such a turn
pub out_as_in : (e : PlainEngine) (d : Parts) → GoodEngine e → IsOutIn e d → IsOutAsIn e (lease_of_parts d)
out_as_in e d g out = (out.0, (out.1.0, plain.out_as e d out.0 out.1.0 g out.1.1))

pub taken_in : (e : PlainEngine) (d : Parts) (e1 : PlainEngine) → GoodEngine e → IsDone d → IsOutIn e d → HasApplied e d e1 → HasTakenIn e (lease_of_parts d) e1
taken_in e d e1 g done out applied p running =
    let same : out.1.0 ≡ p = same_plain (sym out.1.1.of.running ∙ running) in
    let a = applied out.1.0 out.1.1.of.running in
    subst (λ (z : PlainQuery). (p2 : PlainQuery) × (HasTaken e.machine.streams z (lease_of_parts d) p2 × (e1 ≡ with_remains e d.node.query (Running p2)))) same
    (a.0, (plain.taken e d out.0 out.1.0 g out.1.1 done a.0 a.1.0, a.1.1))

pub parts_come_back : (e : PlainEngine) (d : Parts) (n k lease : ℕ) (s : Slot) (above : Option Slot) (e1 : PlainEngine) (good : GoodEngine e) (done : IsDone d) (out : IsOutIn e d) → AreSteps e (lease_of_parts d) n k lease s above e1
    → HasApplied e d e1 → (new : PlainEngine) → HasEnded e1 lease s above new → HasComeBack e d new
parts_come_back e d n k lease s above e1 good done out st applied new h =
    let t = applied out.1.0 out.1.1.of.running in
    let a = plain.taken e d out.0 out.1.0 good out.1.1 done t.0 t.1.0 in
    let home = come_back e (lease_of_parts d) n k lease s above e1 good out.0 out.1.0 (plain.out_as e d out.0 out.1.0 good out.1.1) st t.0 a t.1.1 h.0 h.1.0 new above refl h.1.1 in
    (out.0, (out.1.0, (t.0, (out.1.1, home, record { put = t.1.0.put; batches = t.1.0.batches }))))

-- THE STATE knows of itself what it knew, also where not all turns that are out are kept
module _ (old : EngineState) (ls : List Lease) (slots : List Slot) (d : Lease) (n k lease : ℕ) (s : Slot) (above : Option Slot) (e1 : PlainEngine) (sound : IsSound old) (good : GoodEngine (out_with old ls slots))
    (few : length (others d.number ls) ≤ length (engine_in old).leases) (out : IsOutAsIn (out_with old ls slots) d) (st : AreSteps (out_with old ls slots) d n k lease s above e1) where
  pub sound_ended : (new : EngineState) → HasEnded e1 lease s above (engine_in new) → GivesNothing old new → IsSound new
  sound_ended new h r =
      let e = out_with old ls slots in
      let t = took e d n k lease s above e1 good out st in
      sound_back old new ls slots d out.0 out.1.0 sound good out.1.1 r t.0 t.1.0 few (comes e d n k lease s above e1 good out st (engine_in new) h)
