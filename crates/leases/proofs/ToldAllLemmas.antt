-- A query has gone on, and all its slots are told: they are the slots of its engine.
use Rattle.std.proofs.Common.{◌≡◌, ◌≢◌, ◌<◌, ◌≤◌, ◌==◌, ◌⊎◌, ⊎_elim, inl, inr, ℕ, zero, suc, true, false, cond, nat_lt, Some, None, List, [], ◌∷◌, length, set, refl, sym, ap, ◌∙◌, subst, arith, eq-eqb, eqb-true}
use Rattle.std.proofs.lemmas.Bool.{cases_lt}
use Rattle.std.proofs.lemmas.Bool.Decides.{nat_tests}
use Rattle.std.proofs.lemmas.Option.{slice_get_within}
use Rattle.plan.proofs.Lists.{by_test}
use Rattle.reference.specs.Machine.{Registered}
use Rattle.laws_queries.specs.Plain.{PlainQuery}
use Rattle.run_queue.specs.Slots.{slot}
use Rattle.run_queue.specs.Changes.{with_next}
use Rattle.run_queue.specs.declared.slots.Slot.{Slot}
use Rattle.laws_engine.specs.Engines.{PlainEngine, Running, query_at, remains_at, slope_at, slot_at}
use Rattle.laws_engine.specs.Good.{AreRemains, Goes, GoodEngine, HasSlots, IsIn, slot_in, slot_of}
use Rattle.laws_engine.proofs.BackLemmas.{numbered, remains_here, remains_there}
use Rattle.laws_engine.proofs.PromiseLemmas.{is_slot, slot_is}
use Rattle.laws_engine.proofs.TableLemmas.{running_slot, same_slot_in}
use Rattle.laws_engine.proofs.TakeLemmas.{equal_slots}
use Rattle.leases.specs.Passing.{slots_below}
use Rattle.leases.specs.Readers.{next_for, with_updates}
use Rattle.leases.proofs.BeatLemmas.{in_either, in_left, in_right, next_is}
use Rattle.leases.proofs.EachLemmas.{HasOne, each_told}

not_equal : (j n : ℕ) → (j == n) ≡ false → j ≢ n
not_equal j n f z = absurd (let t : (j == n) ≡ true = eq-eqb j n z in cc)

-- THE SLOTS of a query's operators
pub below_are : (e : PlainEngine) (n : ℕ) (q : Registered) (p : PlainQuery) (k : ℕ) (y : Slot) → IsIn (slots_below e n q p k) y → (i : ℕ) × ((i < k) × (y ≡ slot_at e n q p i))
below_are e n q p zero y i = absurd i
below_are e n q p (suc k) y i = ⊎_elim
    (λ left. let r = below_are e n q p k y left in (r.0, (omega (arith, r.1.0), r.1.1)))
    (λ last. ⊎_elim (λ same. (k, (omega arith, sym same))) (λ no_more. absurd no_more) last)
    (in_either (slots_below e n q p k) (slot_at e n q p k ∷ []) y i)

below_has : (e : PlainEngine) (n : ℕ) (q : Registered) (p : PlainQuery) (k i : ℕ) → i < k → IsIn (slots_below e n q p k) (slot_at e n q p i)
below_has e n q p zero i lt = absurd (omega (arith, lt))
below_has e n q p (suc k) i lt = ⊎_elim
    (λ (less : i < k). in_left (slots_below e n q p k) (slot_at e n q p k ∷ []) (slot_at e n q p i) (below_has e n q p k i less))
    (λ (most : k ≤ i).
    let same : k ≡ i = omega (arith, lt, most) in
    in_right (slots_below e n q p k) (slot_at e n q p k ∷ []) (slot_at e n q p i) (inl (ap (slot_at e n q p) same)))
    (cases_lt i k)

-- THE QUERY n GOES ON, with as many operators
module _ (e : PlainEngine) (n : ℕ) (q : Registered) (p p2 : PlainQuery) (good : GoodEngine e) (registered : query_at e n ≡ Some q) (running : remains_at e n ≡ Running p) (next : ℕ) where
  goes : Goes e.machine q p
  goes = subst (AreRemains e.machine q) running (good.queries n q registered)

  many : length p.operators ≡ length q.nodes
  many = goes.runs.runs.many

  few : n < length e.queries
  few = omega (arith, good.many, slice_get_within e.machine.queries n q registered)

  abbrev pub gone_on : PlainEngine
  gone_on = record e { queries = set e.queries n (Running p2); next = next }

  running2 : remains_at gone_on n ≡ Running p2
  running2 = remains_here e n (Running p2) few

  still : (j : ℕ) (r : PlainQuery) → remains_at e j ≡ Running r → (r2 : PlainQuery) × (remains_at gone_on j ≡ Running r2)
  still j r is = by_test (j == n)
      (λ t. (p2, ap (remains_at gone_on) (eqb-true j n t) ∙ running2))
      (λ f. (r, remains_there e n j (Running p2) (not_equal j n f) ∙ is))

  new_slot : (y : Slot) → slot_of e y.query y.operator ≡ Some y → slot_of gone_on y.query y.operator ≡ Some (with_next y (next_for gone_on y.query y.operator))
  new_slot y is =
      let o = is_slot e y.query y.operator y is in
      let r = still y.query o.plain o.running in
      slot_is gone_on y.query y.operator o.query r.0 o.registered r.1 o.within
      ∙ ap (λ t. Some (slot (slope_at o.query y.operator) t y.query y.operator)) (sym (next_is gone_on y.query y.operator o.query r.0 o.registered r.1))
      ∙ ap (λ z. Some (with_next z (next_for gone_on y.query y.operator))) o.is

  abbrev pub all_slots : List Slot
  all_slots = slots_below e n q p (length p.operators)

  slot_here : (k : ℕ) → k < length p.operators → slot_of e n k ≡ Some (slot_at e n q p k)
  slot_here k lt = slot_is e n k q p registered running (omega (arith, lt, many))

  all_are : (y : Slot) → IsIn all_slots y → slot_of e y.query y.operator ≡ Some y
  all_are y i =
      let r = below_are e n q p (length p.operators) y i in
      subst (λ (z : Slot). slot_of e z.query z.operator ≡ Some z) (sym r.1.1) (slot_here r.0 r.1.0)

  none_there : (k : ℕ) → length p.operators ≤ k → slot_of e n k ≡ slot_of gone_on n k
  none_there k le =
      let no_lt : nat_lt k (length q.nodes) ≡ false = grind (arith, nat_tests, many) in
      running_slot e n k q p registered running
      ∙ ap (λ t. cond t (Some (slot_at e n q p k)) None) no_lt
      ∙ sym (running_slot gone_on n k q p2 registered running2 ∙ ap (λ t. cond t (Some (slot_at gone_on n q p2 k)) None) no_lt)

  other_there : (j k : ℕ) → j ≢ n → slot_of e j k ≡ slot_of gone_on j k
  other_there j k ne = sym (ap (slot_in gone_on j k (query_at e j)) (remains_there e n j (Running p2) ne) ∙ same_slot_in e gone_on.queries e.leases next e.slots j k refl (query_at e j) (remains_at e j))

  one_of : (j k : ℕ) → (slot_of e j k ≡ slot_of gone_on j k) ⊎ ((slot_of e j k ≡ slot_of e j k) × HasOne all_slots j k)
  one_of j k = by_test (j == n)
      (λ t. ⊎_elim
      (λ (lt : k < length p.operators). inr (refl, (slot_at e n q p k, (below_has e n q p (length p.operators) k lt, (sym (eqb-true j n t), refl)))))
      (λ (le : length p.operators ≤ k). inl (subst (λ i. slot_of e i k ≡ slot_of gone_on i k) (sym (eqb-true j n t)) (none_there k le)))
      (cases_lt k (length p.operators)))
      (λ f. inl (other_there j k (not_equal j n f)))

  -- with its slots told they are those of the engine
  pub all_told : HasSlots (slot_of gone_on) (with_updates gone_on all_slots e.slots)
  all_told = each_told e gone_on new_slot all_slots e.slots all_are (record { table = slot_of e; named = numbered e; has = good.slots; each = one_of })

  -- whatever the slots of the engine are said to be
  pub told_as : (slots : List Slot) → HasSlots (slot_of (record gone_on { slots = slots })) slots → HasSlots (slot_of gone_on) slots
  told_as slots h = equal_slots (slot_of (record gone_on { slots = slots })) (slot_of gone_on) slots
      (λ j k. sym (same_slot_in gone_on gone_on.queries gone_on.leases next slots j k refl (query_at gone_on j) (remains_at gone_on j))) h
