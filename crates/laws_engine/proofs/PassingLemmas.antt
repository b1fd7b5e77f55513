-- A query that passes instants at which it has nothing to do leaves an engine good.
use Rattle.std.proofs.Common.{◌≡◌, ◌≢◌, ℕ, ◌<◌, ◌++◌, ◌==◌, inl, inr, Bool, false, true, Some, List, [], ◌∷◌, length, refl, sym, ap, ◌∙◌, subst, arith, eqb-true, eq-eqb}
use Rattle.std.specs.List.{list_any}
use Rattle.std.proofs.lemmas.List.{length-set}
use Rattle.std.proofs.lemmas.Option.{slice_get_within}
use Rattle.plan.proofs.Lists.{by_test}
use Rattle.reference.specs.Machine.{Registered}
use Rattle.laws_queries.specs.Machines.{widths_of}
use Rattle.laws_queries.specs.Queries.{IsRunning}
use Rattle.laws_queries.specs.Plain.{PlainQuery}
use Rattle.laws_queries.proofs.StillLemmas.{query_runs_on}
use Rattle.run_queue.specs.declared.slots.Slot.{Slot}
use Rattle.laws_engine.specs.Engines.{Lease, PlainEngine, Running, is_of, query_at, remains_at}
use Rattle.laws_engine.specs.Good.{AreRemains, Goes, GoodEngine, HasSlots, IsIn, IsLease, slot_of}
use Rattle.laws_engine.specs.Passing.{HasPassed, with_passed}
use Rattle.laws_engine.proofs.BackLemmas.{remains_here, remains_there, same_query}
use Rattle.laws_engine.proofs.FinishLemmas.{query_bounded}

module _ (e : PlainEngine) (n b : ℕ) (e2 : PlainEngine) (g : GoodEngine e) (h : HasPassed e n b e2) where
  abbrev q : Registered
  q = h.query

  abbrev p : PlainQuery
  p = h.plain

  abbrev p2 : PlainQuery
  p2 = h.after

  few : n < length e.queries
  few = omega (arith, g.many, slice_get_within e.machine.queries n q h.registered)

  here : remains_at (with_passed e n p2) n ≡ Running p2
  here = remains_here e n (Running p2) few

  goes : Goes e.machine q p
  goes = subst (AreRemains e.machine q) h.running (g.queries n q h.registered)

  -- IT GOES ON, with the same answers
  goes2 : Goes e.machine q p2
  goes2 = record {
    lives = goes.lives;
    widths = goes.widths;
    sources = goes.sources;
    taken = goes.taken;
    counted = goes.counted;
    runs = record {
      wires = h.wires ∙ goes.runs.wires;
      sources = h.sources ∙ goes.runs.sources;
      runs = subst (λ z. IsRunning (widths_of e.machine.streams q) goes.widths e.machine q p2.operators (goes.taken ++ z)) (sym h.answers)
          (query_runs_on (widths_of e.machine.streams q) goes.widths e.machine q (query_bounded e g n q h.registered goes.lives) p.operators p2.operators (goes.taken ++ p.answers) b goes.runs.runs h.passes);
    };
  }

  all_queries : (j : ℕ) (r : Registered) → query_at (with_passed e n p2) j ≡ Some r → AreRemains e.machine r (remains_at (with_passed e n p2) j)
  all_queries j r at = by_test (j == n)
      (λ t. let same : j ≡ n = eqb-true j n t in
      let is : q ≡ r = same_query (sym h.registered ∙ ap (query_at e) (sym same) ∙ at) in
      subst (λ z. AreRemains e.machine r (remains_at (with_passed e n p2) z)) (sym same) (subst (AreRemains e.machine r) (sym here) (subst (λ z. Goes e.machine z p2) is goes2)))
      (λ f. subst (AreRemains e.machine r) (sym (remains_there e n j (Running p2) (λ z. absurd (let k : (j == n) ≡ true = eq-eqb j n z in cc)))) (g.queries j r at))

  -- no turn that is out is of it
  not_one : (ls : List Lease) (a : Lease) → IsIn ls a → ((k : ℕ) → list_any (is_of n k) ls ≡ false) → a.query ≢ n
  not_one [] a i none z = absurd i
  not_one (x ∷ ls) a (inl same) none z = absurd (let is : (a.query == n) ≡ true = eq-eqb a.query n z in let op : (a.operator == a.operator) ≡ true = eq-eqb a.operator a.operator refl in let bad : list_any (is_of n a.operator) (a ∷ ls) ≡ false = subst (λ y. list_any (is_of n a.operator) (y ∷ ls) ≡ false) same (none a.operator) in let worse : true ≡ false = rw (is, op) at bad in cc)
  not_one (x ∷ ls) a (inr i) none z = not_one ls a i (λ k. later (is_of n k x) (list_any (is_of n k) ls) (none k)) z
    where
      later : (c d : Bool) → (Rattle.std.specs.Prelude.◌||◌ c d) ≡ false → d ≡ false
      later true d f = absurd (cc)
      later false d f = f

  kept_lease : (slots : List Slot) (a : Lease) → IsIn e.leases a → IsLease e a → IsLease (record (with_passed e n p2) { slots = slots }) a
  kept_lease slots a i is = record {
    numbered = omega (arith, is.numbered);
    query = is.query;
    registered = is.registered;
    plain = is.plain;
    running = remains_there e n a.query (Running p2) (not_one e.leases a i h.returned) ∙ is.running;
    within = is.within;
    first = is.first;
    near = is.near;
  }

  abbrev passed : PlainEngine
  passed = record (with_passed e n p2) { slots = e2.slots }

  pub pass_good : GoodEngine e2
  pass_good = subst GoodEngine (sym h.is) (let done : GoodEngine passed = record {
    machine = g.machine;
    rows = g.rows;
    many = length-set e.queries n (Running p2) ∙ g.many;
    queries = all_queries;
    leases = λ a i. kept_lease e2.slots a i (g.leases a i);
    apart = g.apart;
    slots = subst (λ z. HasSlots (slot_of z) z.slots) h.is h.slots;
  } in done)
