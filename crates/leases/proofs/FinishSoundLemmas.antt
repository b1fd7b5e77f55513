-- An engine knows of itself, after a turn has come back or has broken its query, what it knew.
use Rattle.std.proofs.Common.{◌≡◌, ◌<◌, ◌≤◌, ◌==◌, ℕ, true, false, not, filter, inl, inr, List, length, map, refl, sym, ap, ◌∙◌, subst, arith, eqb-true, eq-eqb}
use Rattle.std.proofs.Math.Seq.{map-set_same}
use Rattle.std.proofs.lemmas.List.{length-map, map-set}
use Rattle.std.proofs.lemmas.Option.{slice_get_within}
use Rattle.column.specs.declared.batch.Side.{Side}
use Rattle.op_queue.specs.declared.item.Item.{Item}
use Rattle.turn.specs.Nodes.{PlainNode}
use Rattle.turn.specs.Turns.{Answered, Outs, Put}
use Rattle.turn.specs.declared.excerpts.Excerpt.{Excerpt}
use Rattle.turn.specs.declared.kinds.Kind.{Kind}
use Rattle.turn.specs.declared.parts.Parts.{Parts}
use Rattle.plan.proofs.Lists.{by_test}
use Rattle.reference.specs.Machine.{Registered}
use Rattle.leases.specs.Undropped.{undropped_of}
use Rattle.laws_queries.specs.Plain.{PlainQuery, operator_at}
use Rattle.laws_queries.specs.Registrations.{HaveColumnNames}
use Rattle.laws_queries.specs.Steps.{outs_at_first}
use Rattle.query_runtime.specs.Turns.{HasPut, wire_at}
use Rattle.run_queue.specs.declared.slots.Slot.{Slot}
use Rattle.laws_engine.specs.Bounds.{HaveFewClosed}
use Rattle.laws_engine.specs.Calls.{answered, broken, finished, given_back, of_others, others}
use Rattle.laws_engine.specs.Engines.{Broken, Dropped, Lease, PlainEngine, Running, remains_at}
use Rattle.laws_engine.specs.Good.{GoodEngine, IsIn, IsLease, upto_at}
use Rattle.laws_engine.specs.Histories.{ComesBack}
use Rattle.laws_engine.proofs.BackLemmas.{remains_here, remains_there, same_plain}
use Rattle.laws_engine.proofs.FinishLemmas.{answer_good, finish_good}
use Rattle.laws_engine.proofs.LeaseLemmas.{break_good}
use Rattle.leases.specs.Applied.{Forgets, GivesNothing, HasTaken, IsOutAs, IsOutIn, IsTurn}
use Rattle.leases.specs.Readers.{readers_from, readers_of, runs}
use Rattle.leases.specs.Shown.{engine_in}
use Rattle.laws_engine.specs.Bounds.{HaveFewClosed}
use Rattle.leases.specs.Sound.{IsSound, is_gone}
use Rattle.leases.specs.Turns.{IsOut, IsStranger, lease_of_parts}
use Rattle.leases.specs.Views.{HasKind, lease_of}
use Rattle.turn.specs.declared.turns.Turn.{Turn}
use Rattle.leases.specs.declared.reader.WindowReader.{WindowReader}
use Rattle.leases.specs.declared.state.EngineState.{EngineState}
use Rattle.leases.proofs.OutLemmas.{turn_in}
use Rattle.leases.proofs.ListedLemmas.{readers_left}

-- THE REST of what an engine knows, where its machine and its next number are as they were, no turn has gone out, and no query was dropped
pub record StaysBut (old new : PlainEngine) : Type 0 where
  pub machine : new.machine ≡ old.machine
  pub next : new.next ≡ old.next
  pub few : length new.leases ≤ length old.leases
  pub gone : map is_gone new.queries ≡ map is_gone old.queries

pub sound_from : (old new : EngineState) → IsSound old → new.undropped ≡ old.undropped → new.readers ≡ readers_of (engine_in new) → ((g : Turn) → IsIn new.leases.items g → IsIn old.leases.items g) → GoodEngine (engine_in new) → StaysBut (engine_in old) (engine_in new)
    → ((g : Turn) → IsIn old.leases.items g → HasKind (engine_in new) g) → IsSound new
sound_from old new s undropped readers leases good st kinds = record {
  good = good;
  kinds = λ g i. kinds g (leases g i);
  few =
      let a : length (engine_in new).leases ≡ length new.leases.items = length-map new.leases.items lease_of in
      let b : length (engine_in old).leases ≡ length old.leases.items = length-map old.leases.items lease_of in
      omega (arith, a, b, st.few, s.few);
  numbers = let n : new.next ≡ old.next = st.next in omega (arith, n, s.numbers);
  named = undropped ∙ s.named ∙ ap (λ m. undropped_of m.queries) (sym st.machine);
  gone = ap (λ m. map (λ (q : Registered). q.is_dropped) m.queries) st.machine ∙ s.gone ∙ sym st.gone;
  columns = subst HaveColumnNames (sym st.machine) s.columns;
  closed = subst HaveFewClosed (sym st.machine) s.closed;
  readers = readers;
}

-- KINDS stay
kinds_put : (p p2 : PlainQuery) (k : ℕ) (o : Outs) → (operator_at p2.operators k).kind ≡ (operator_at p.operators k).kind → HasPut p k o p2 → (j : ℕ) → (operator_at p2.operators j).kind ≡ (operator_at p.operators j).kind
kinds_put p p2 k (Put es) h put j = by_test (j == k)
    (λ t. let e : j ≡ k = eqb-true j k t in ap (λ z. (operator_at p2.operators z).kind) e ∙ h ∙ ap (λ z. (operator_at p.operators z).kind) (sym e))
    (λ f. by_test (j == (wire_at p k).to)
    (λ t. let e : j ≡ (wire_at p k).to = eqb-true j (wire_at p k).to t in ap (λ z. (operator_at p2.operators z).kind) e ∙ put.fed.kind ∙ ap (λ z. (operator_at p.operators z).kind) (sym e))
    (λ m. ap (λ o. o.kind) (put.others j (λ z. absurd (let b : (j == k) ≡ true = eq-eqb j k z in cc)) (λ z. absurd (let b : (j == (wire_at p k).to) ≡ true = eq-eqb j (wire_at p k).to z in cc)))))
kinds_put p p2 k (Answered rows) h put j = by_test (j == k)
    (λ t. let e : j ≡ k = eqb-true j k t in ap (λ z. (operator_at p2.operators z).kind) e ∙ h ∙ ap (λ z. (operator_at p.operators z).kind) (sym e))
    (λ f. ap (λ o. o.kind) (put.others j (λ z. absurd (let b : (j == k) ≡ true = eq-eqb j k z in cc))))

-- THE ENGINE of a state, with other turns out and other slots
abbrev pub out_with : EngineState → List Lease → List Slot → PlainEngine
out_with s ls slots = record (engine_in s) { leases = ls; slots = slots }

-- A TURN THAT IS OUT
module _ (old new : EngineState) (ls : List Lease) (slots : List Slot) (d : Lease) (q : Registered) (p : PlainQuery) (s : IsSound old) (good : GoodEngine (out_with old ls slots)) (out : IsOutAs (out_with old ls slots) d q p) where
  abbrev e : PlainEngine
  e = out_with old ls slots

  within : d.query < length e.queries
  within = omega (arith, s.good.many, slice_get_within e.machine.queries d.query q out.of.registered)

  running_gone : is_gone (remains_at e d.query) ≡ false
  running_gone = ap is_gone out.of.running

  running_runs : runs (remains_at e d.query) ≡ true
  running_runs = ap runs out.of.running

  -- comes back
  module _ (r : GivesNothing old new) (p2 : PlainQuery) (a : HasTaken e.machine.streams p d p2) (few : length (others d.number ls) ≤ length (engine_in old).leases) where
    kinds_back : (after : List Slot) (g : Turn) → IsIn old.leases.items g → HasKind (record (given_back e d p2) { slots = after }) g
    kinds_back after g i p3 running = by_test (g.node.query == d.query)
        (λ t.
        let same : g.node.query ≡ d.query = eqb-true g.node.query d.query t in
        let is : p2 ≡ p3 = same_plain (sym (remains_here e d.query (Running p2) within) ∙ ap (remains_at (given_back e d p2)) (sym same) ∙ running) in
        s.kinds g i p (ap (remains_at e) same ∙ out.of.running)
        ∙ sym (kinds_put p p2 d.operator (outs_at_first (operator_at p.operators d.operator) d.side d.item) a.finished.finished.kind a.put g.node.operator)
        ∙ ap (λ (z : PlainQuery). (operator_at z.operators g.node.operator).kind) is)
        (λ f. s.kinds g i p3 (sym (remains_there e d.query g.node.query (Running p2) (λ z. absurd (let h : (g.node.query == d.query) ≡ true = eq-eqb g.node.query d.query z in cc))) ∙ running))

    stays_back : (after : List Slot) → StaysBut (engine_in old) (record (given_back e d p2) { slots = after })
    stays_back after = record {
      machine = refl;
      next = refl;
      few = few;
      gone = map-set_same is_gone e.queries d.query (Running p2) Dropped (sym running_gone);
    }

    sound_at : (after : List Slot) → engine_in new ≡ record (given_back e d p2) { slots = after } → GoodEngine (engine_in new) → IsSound new
    sound_at after is stays =
        sound_from old new s r.undropped (r.readers ∙ s.readers ∙ ap (readers_from 0 e.machine.queries) (sym (map-set_same runs e.queries d.query (Running p2) Dropped (sym running_runs))) ∙ ap readers_of (sym is)) r.leases stays (subst (StaysBut (engine_in old)) (sym is) (stays_back after)) (λ g i. subst (λ z. HasKind z g) (sym is) (kinds_back after g i))

    pub sound_back : ComesBack e d q p p2 (engine_in new) → IsSound new
    sound_back (inl t) = sound_at (finished e d q p p2).slots t.1 (subst GoodEngine (sym t.1) (finish_good e d q p p2 good out.out t.0))
    sound_back (inr t) = sound_at (answered e d q p p2).slots t.1 (subst GoodEngine (sym t.1) (answer_good e d q p p2 good out.out t.0))

  -- breaks its query
  kinds_broken : (g : Turn) → IsIn old.leases.items g → HasKind (broken e d.query p) g
  kinds_broken g i p3 running = by_test (g.node.query == d.query)
      (λ t.
      let same : g.node.query ≡ d.query = eqb-true g.node.query d.query t in
      let bad : Broken p.answers (upto_at e d.query) ≡ Running p3 = sym (remains_here e d.query (Broken p.answers (upto_at e d.query)) within) ∙ ap (remains_at (broken e d.query p)) (sym same) ∙ running in
      absurd (cc))
      (λ f. s.kinds g i p3 (sym (remains_there e d.query g.node.query (Broken p.answers (upto_at e d.query)) (λ z. absurd (let h : (g.node.query == d.query) ≡ true = eq-eqb g.node.query d.query z in cc))) ∙ running))

  pub sound_broken : Forgets d.query old new → length (of_others d.query ls) ≤ length (engine_in old).leases → engine_in new ≡ broken e d.query p → IsSound new
  sound_broken f few is =
      let stays : StaysBut (engine_in old) (broken e d.query p) = record {
        machine = refl;
        next = refl;
        few = few;
        gone = map-set_same is_gone e.queries d.query (Broken p.answers (upto_at e d.query)) Dropped (sym running_gone);
      } in
      let readers : new.readers ≡ readers_of (engine_in new) =
      f.readers ∙ ap (λ rs. filter (λ (r : WindowReader). not (r.query == d.query)) rs) s.readers
      ∙ readers_left d.query 0 d.query e.machine.queries (map runs e.queries) (omega arith)
      ∙ ap (readers_from 0 e.machine.queries) (sym (map-set runs e.queries d.query (Broken p.answers (upto_at e d.query)))) ∙ ap readers_of (sym is) in
      sound_from old new s f.undropped readers f.leases (subst GoodEngine (sym is) (break_good e d.query q p good out.of.registered out.of.running)) (subst (StaysBut (engine_in old)) (sym is) stays)
      (λ g i. subst (λ z. HasKind z g) (sym is) (kinds_broken g i))

-- THE TURN OF A NUMBER that is out
abbrev lease_with : ℕ → PlainNode → Item → Excerpt → Lease
lease_with n v i x = record { number = n; query = v.query; operator = v.operator; side = v.side; item = i; excerpt = x }

abbrev node_with : ℕ → ℕ → Side → Kind → PlainNode
node_with n k side kind = record { query = n; operator = k; side = side; kind = kind }

module _ (s : EngineState) (d : Parts) (g : Turn) (sound : IsSound s) (known : IsIn s.leases.items g) (numbered : g.lease ≡ d.lease) where
  there : IsIn (engine_in s).leases (lease_of g)
  there = turn_in s.leases.items g known

  -- is this one
  pub turn_out : IsTurn g d → IsOutIn (engine_in s) d
  turn_out t =
      let is : lease_of g ≡ lease_of_parts d =
      ap (λ n. lease_with n g.node g.item g.near) numbered ∙ ap (λ v. lease_with d.lease v g.item g.near) t.node ∙ ap (λ i. lease_with d.lease d.node i g.near) t.item ∙ ap (λ x. lease_with d.lease d.node d.item x) t.near in
      let l : IsLease (engine_in s) (lease_of_parts d) = subst (IsLease (engine_in s)) is (sound.good.leases (lease_of g) there) in (
        l.query,
        (
          l.plain,
          record {
            out = subst (IsIn (engine_in s).leases) is there;
            of = record { registered = l.registered; running = l.running; within = l.within };
            kind = sym (ap (λ (v : PlainNode). v.kind) t.node) ∙ sound.kinds g known l.plain (ap (λ (v : PlainNode). remains_at (engine_in s) v.query) t.node ∙ l.running)
                ∙ ap (λ (v : PlainNode). (operator_at l.plain.operators v.operator).kind) t.node;
          },
        ),
      )

  -- is another
  turn_of : (q : Registered) (p : PlainQuery) → IsOut (engine_in s) d q p → IsTurn g d
  turn_of q p o =
      let same : lease_of g ≡ lease_of_parts d = sound.good.apart.numbers (lease_of g) (lease_of_parts d) there o.out numbered in
      let query : g.node.query ≡ d.node.query = ap (λ (l : Lease). l.query) same in
      let operator : g.node.operator ≡ d.node.operator = ap (λ (l : Lease). l.operator) same in
      let side : g.node.side ≡ d.node.side = ap (λ (l : Lease). l.side) same in
      let kind : g.node.kind ≡ d.node.kind = sound.kinds g known p (ap (remains_at (engine_in s)) query ∙ o.of.running) ∙ ap (λ k. (operator_at p.operators k).kind) operator ∙ sym o.kind in
      record {
        node =
            ap (λ n. node_with n g.node.operator g.node.side g.node.kind) query ∙ ap (λ k. node_with d.node.query k g.node.side g.node.kind) operator
            ∙ ap (λ z. node_with d.node.query d.node.operator z g.node.kind) side ∙ ap (λ z. node_with d.node.query d.node.operator d.node.side z) kind;
        item = ap (λ (l : Lease). l.item) same;
        near = ap (λ (l : Lease). l.excerpt) same;
      }

  pub stranger : (IsTurn g d → ⊥) → IsStranger (engine_in s) d
  stranger differs = record { out = lease_of g; known = there; numbered = numbered; another = λ q p o. differs (turn_of q p o) }
