-- Slots that stand, each of another operator, stand on when one of them is told.
use Rattle.std.proofs.Common.{◌≡◌, ◌≢◌, ◌<◌, ◌≤◌, ◌+◌, ◌∙◌, ◌++◌, ℕ, zero, suc, Some, List, [], ◌∷◌, Option, length, drop, get_or, sym, ap, subst, arith, drop-cons}
use Rattle.std.specs.List.{AllByRecursion}
use Rattle.column.specs.declared.batch.Side.{Side}
use Rattle.reference.specs.Machine.{Registered}
use Rattle.laws_queries.specs.Plain.{PlainQuery}
use Rattle.run_queue.specs.Changes.{Stands, changed}
use Rattle.run_queue.specs.declared.slots.Slot.{Slot}
use Rattle.run_queue.proofs.StandLemmas.{stands_on}
use Rattle.laws_engine.specs.Engines.{PlainEngine, Running, query_at, remains_at, slot_at}
use Rattle.laws_engine.specs.Good.{GoodEngine}
use Rattle.laws_engine.proofs.PromiseLemmas.{slot_is}
use Rattle.leases.specs.Applied.{AllStand}
use Rattle.leases.specs.Passing.{slots_below}
use Rattle.leases.proofs.StandLemmas.{all_of, stands_in}
use Rattle.leases.proofs.ToldAllLemmas.{below_are}

-- THE OTHERS stand when one is told
pub rest_stand : (s : Slot) (next : Option (Side × ℕ)) (slots ss : List Slot) → AllByRecursion (λ t. t.operator ≢ s.operator) ss → AllStand slots ss → AllStand (changed s next slots) ss
rest_stand s next slots [] apart h = tt
rest_stand s next slots (t ∷ ss) apart h = (stands_on s t next slots apart.0 h.0, h.1, rest_stand s next slots ss apart.1 h.2)

-- the first of those that are left
pub stand_next : (slots ss : List Slot) (k : ℕ) (s : Slot) → k < length ss → s ≡ get_or ss k s → AllStand slots (drop k ss) → AllStand slots (s ∷ drop (k + 1) ss)
stand_next slots ss k s lt is h =
    let one : suc k ≡ k + 1 = omega arith in
    subst (AllStand slots) (drop-cons ss k s lt ∙ ap (λ x. x ∷ drop (suc k) ss) (sym is) ∙ ap (λ i. s ∷ drop i ss) one) h

-- ALL SLOTS OF A QUERY stand
apart_last : (x y : Slot) (xs : List Slot) → AllByRecursion (λ t. t.operator ≢ x.operator) xs → y.operator ≢ x.operator → AllByRecursion (λ t. t.operator ≢ x.operator) (xs ++ y ∷ [])
apart_last x y [] h last = (last, tt)
apart_last x y (z ∷ xs) h last = (h.0, apart_last x y xs h.1 last)

stand_last : (slots xs : List Slot) (y : Slot) → AllStand slots xs → Stands y slots → AllByRecursion (λ t. y.operator ≢ t.operator) xs → AllStand slots (xs ++ y ∷ [])
stand_last slots [] y h last apart = (last, tt, tt)
stand_last slots (x ∷ xs) y h last apart = (h.0, apart_last x y xs h.1 apart.0, stand_last slots xs y h.2 last apart.1)

module _ (e : PlainEngine) (g : GoodEngine e) (n : ℕ) (q : Registered) (p : PlainQuery) (registered : query_at e n ≡ Some q) (running : remains_at e n ≡ Running p) where
  pub below_stand : (k : ℕ) → k ≤ length q.nodes → AllStand e.slots (slots_below e n q p k)
  below_stand zero few = tt
  below_stand (suc k) few =
      let y = slot_at e n q p k in
      let within : k < length q.nodes = omega (arith, few) in
      stand_last e.slots (slots_below e n q p k) y (below_stand k (omega (arith, few)))
      (stands_in e g y (slot_is e n k q p registered running within))
      (all_of (λ t. y.operator ≢ t.operator) (slots_below e n q p k) (λ x i.
      let r = below_are e n q p k x i in
      λ z. let same : k ≡ r.0 = z ∙ ap (λ (t : Slot). t.operator) r.1.1 in absurd (omega (arith, r.1.0, same))))
