-- The tables of slots of two engines.
use Rattle.std.proofs.Common.{◌≡◌, ◌≢◌, ℕ, ◌==◌, ◌&&◌, nat_lt, true, false, cond, inl, inr, ◌⊎◌, Option, Some, None, List, length, refl, sym, ap, ◌∙◌, eqb-true, eq-eqb}
use Rattle.std.specs.List.{list_any}
use Rattle.plan.proofs.Lists.{by_test}
use Rattle.run_queue.specs.Slots.{slot}
use Rattle.operators.specs.Ready.{ready}
use Rattle.reference.specs.Machine.{Registered}
use Rattle.laws_queries.specs.Plain.{PlainQuery, log_at, operator_at}
use Rattle.run_queue.specs.declared.slots.Slot.{Slot}
use Rattle.laws_engine.specs.Engines.{Broken, Dropped, Lease, PlainEngine, PlainRemains, Running}
use Rattle.laws_engine.specs.Engines.{is_leased, is_of, query_at, ready_in, remains_at, slope_at}
use Rattle.laws_engine.specs.Engines.{slot_at}
use Rattle.laws_engine.specs.Good.{slot_in, slot_of}
use Rattle.laws_engine.proofs.BackLemmas.{unequal}
use Rattle.laws_engine.proofs.SlotLemmas.{AreNumbered}

-- A TABLE with one slot put in
pub updated : (ℕ → ℕ → Option Slot) → ℕ → ℕ → Slot → ℕ → ℕ → Option Slot
updated table a b s n k = cond ((n == a) && (k == b)) (Some s) (table n k)

pub updated_here : (table : ℕ → ℕ → Option Slot) (a b : ℕ) (s : Slot) → updated table a b s a b ≡ Some s
unfolding updated
updated_here table a b s = let t : (a == a) ≡ true = eq-eqb a a refl in let u : (b == b) ≡ true = eq-eqb b b refl in rw (t, u) refl

pub updated_there : (table : ℕ → ℕ → Option Slot) (a b : ℕ) (s : Slot) (n k : ℕ) → (n ≢ a) ⊎ (k ≢ b) → updated table a b s n k ≡ table n k
unfolding updated
updated_there table a b s n k (inl ne) = let f : (n == a) ≡ false = unequal n a ne in rw f refl
updated_there table a b s n k (inr ne) = let f : (k == b) ≡ false = unequal k b ne in by_test (n == a) (λ t. rw (t, f) refl) (λ g. rw g refl)

some_slot : {a b : Slot} → Some a ≡ Some b → a ≡ b
some_slot e = cc

pub updated_numbered : (table : ℕ → ℕ → Option Slot) (a b : ℕ) (s : Slot) → s.query ≡ a → s.operator ≡ b → AreNumbered table → AreNumbered (updated table a b s)
unfolding updated
updated_numbered table a b s q o h n k t e = by_test (n == a)
    (λ u. by_test (k == b)
    (λ v. let f : Some s ≡ Some t = rw (u, v) at e in let is : s ≡ t = some_slot f in (ap (λ z. z.query) (sym is) ∙ q ∙ sym (eqb-true n a u), ap (λ z. z.operator) (sym is) ∙ o ∙ sym (eqb-true k b v)))
    (λ w. let f : table n k ≡ Some t = rw (u, w) at e in h n k t f))
    (λ w. let f : table n k ≡ Some t = rw w at e in h n k t f)

-- THE SLOTS of a running query's operators
pub running_slot : (e : PlainEngine) (n k : ℕ) (q : Registered) (p : PlainQuery) → query_at e n ≡ Some q → remains_at e n ≡ Running p → slot_of e n k ≡ cond (nat_lt k (length q.nodes)) (Some (slot_at e n q p k)) None
running_slot e n k q p r remains = ap (λ z. slot_in e n k z (remains_at e n)) r ∙ ap (slot_in e n k (Some q)) remains

-- another engine over the same machine
abbrev pub over : PlainEngine → List PlainRemains → List Lease → ℕ → List Slot → PlainEngine
over e queries leases next slots = record { machine = e.machine; queries = queries; leases = leases; next = next; slots = slots }

module _ (e : PlainEngine) (queries : List PlainRemains) (leases : List Lease) (next : ℕ) (slots : List Slot) (n k : ℕ) (leased : list_any (is_of n k) leases ≡ list_any (is_of n k) e.leases) where
  -- of an operator that is as it was
  pub same_slot_at : (q : Registered) (p p2 : PlainQuery) → operator_at p2.operators k ≡ operator_at p.operators k → slot_at (over e queries leases next slots) n q p2 k ≡ slot_at e n q p k
  same_slot_at q p p2 o =
      ap (λ b. slot (slope_at q k) (cond b None (ready_in e.machine q p2 k)) n k) leased
      ∙ ap (λ x. slot (slope_at q k) (cond (is_leased e n k) None (ready x (log_at e.machine q k))) n k) o

  pub same_slot_in : (o : Option Registered) (remains : PlainRemains) → slot_in (over e queries leases next slots) n k o remains ≡ slot_in e n k o remains
  same_slot_in None remains = refl
  same_slot_in (Some q) (Running p) = ap (λ s. cond (nat_lt k (length q.nodes)) (Some s) None) (same_slot_at q p p refl)
  same_slot_in (Some q) (Broken answers upto) = refl
  same_slot_in (Some q) Dropped = refl
