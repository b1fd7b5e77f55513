-- The slots of a good engine are as they stand in its list.
use Rattle.std.proofs.Common.{◌≡◌, ◌≢◌, ◌<◌, ◌≤◌, ◌+◌, inl, inr, MatchOption, Option, Some, None, List, [], ◌∷◌, length, refl, sym, ap, ◌∙◌, subst, arith}
use Rattle.std.specs.Prelude.{⊤}
use Rattle.std.specs.List.{AllByRecursion}
use Rattle.std.specs.declared.cmp.Ordering.TheVariants.{Equal}
use Rattle.reference.specs.Machine.{Registered}
use Rattle.laws_queries.specs.Plain.{PlainQuery}
use Rattle.query_runtime.specs.Turns.{wire_at}
use Rattle.run_queue.specs.Slots.{slot_cmp}
use Rattle.run_queue.specs.Changes.{Stands}
use Rattle.run_queue.specs.declared.slots.Slot.{Slot}
use Rattle.run_queue.proofs.StandLemmas.{same_operator}
use Rattle.laws_engine.specs.Calls.{IsOf}
use Rattle.laws_engine.specs.Engines.{Lease, PlainEngine, slot_at}
use Rattle.laws_engine.specs.Good.{GoodEngine, IsIn, slot_of}
use Rattle.laws_engine.proofs.PromiseLemmas.{slot_is}
use Rattle.leases.specs.Applied.{BothStand}
use Rattle.leases.proofs.FinishLemmas.{below_of, to_later, to_within}
use Rattle.leases.proofs.LeaseLemmas.{some_slot}

-- what each has
pub all_of : (P : Slot → Type 0) (xs : List Slot) → ((x : Slot) → IsIn xs x → P x) → AllByRecursion P xs
all_of P [] h = tt
all_of P (x ∷ xs) h = (h x (inl refl), all_of P xs (λ y i. h y (inr i)))

-- one that the engine has for an operator is the one that stands there
pub stands_in : (e : PlainEngine) → GoodEngine e → (s : Slot) → slot_of e s.query s.operator ≡ Some s → Stands s e.slots
stands_in e g s here = all_of (λ t. slot_cmp t s ≡ Equal → t ≡ s) e.slots
    (λ t i same.
    let n = same_operator t s same in
    let there : slot_of e s.query s.operator ≡ Some t = sym (ap (λ z. slot_of e z t.operator) n.0 ∙ ap (slot_of e s.query) n.1) ∙ g.slots.only t i in
    some_slot (sym there ∙ here))

-- THE SLOT OF AN OPERATOR stands, and so does the one above, which is another operator's
module _ (e : PlainEngine) (d : Lease) (q : Registered) (p : PlainQuery) (g : GoodEngine e) (of : IsOf e d q p) where
  pub here_stands : Stands (slot_at e d.query q p d.operator) e.slots
  here_stands = stands_in e g (slot_at e d.query q p d.operator) (slot_is e d.query d.operator q p of.registered of.running of.within)

  pub over_stands : (above : Option Slot) → MatchOption above (length p.operators ≤ d.operator + 1) (λ t. (d.operator + 1 < length p.operators) × (t ≡ slot_at e d.query q p (wire_at p d.operator).to))
      → MatchOption above ⊤ (λ a. Stands a e.slots × (a.operator ≢ d.operator))
  over_stands None is = tt
  over_stands (Some a) is =
      let k = (wire_at p d.operator).to in
      let later : d.operator < k = to_later e d q p g of d.operator (below_of e d q p g of is.0) in
      let within : k < length q.nodes = to_within e d q p g of d.operator (below_of e d q p g of is.0) in
      let stands : Stands (slot_at e d.query q p k) e.slots = stands_in e g (slot_at e d.query q p k) (slot_is e d.query k q p of.registered of.running within) in
      subst (λ (z : Slot). Stands z e.slots × (z.operator ≢ d.operator)) (sym is.1) (stands, λ z. absurd (omega (arith, later, z)))

  pub both_stand : (s : Slot) (above : Option Slot) → s ≡ slot_at e d.query q p d.operator → MatchOption above (length p.operators ≤ d.operator + 1) (λ t. (d.operator + 1 < length p.operators) × (t ≡ slot_at e d.query q p (wire_at p d.operator).to))
      → BothStand e.slots s above
  both_stand s above is over = subst (λ z. BothStand e.slots z above) (sym is) (here_stands, over_stands above over)
