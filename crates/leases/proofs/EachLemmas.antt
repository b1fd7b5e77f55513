-- Slots that are told one after the other, over an engine whose operators take other things next.
use Rattle.std.proofs.Common.{◌≡◌, ◌≢◌, ℕ, inl, inr, ◌⊎◌, ⊎_elim, Option, Some, List, [], ◌∷◌, refl, sym, ap, ◌∙◌}
use Rattle.run_queue.specs.Changes.{with_next}
use Rattle.run_queue.specs.declared.slots.Slot.{Slot}
use Rattle.laws_engine.specs.Engines.{PlainEngine}
use Rattle.laws_engine.specs.Good.{HasSlots, IsIn, slot_of}
use Rattle.laws_engine.proofs.SlotLemmas.{AreNumbered, changed_slots, numbers, told_again}
use Rattle.laws_engine.proofs.TableLemmas.{updated, updated_here, updated_numbered, updated_there}
use Rattle.laws_engine.proofs.TakeLemmas.{equal_slots}
use Rattle.leases.specs.Readers.{next_for, with_update, with_updates}

-- WHAT IS TOLD: of each operator the slot is the one before or the one after, and it is the one before of those alone that are told still
abbrev pub HasOne : List Slot → ℕ → ℕ → Type 0
HasOne todo n k = (x : Slot) × (IsIn todo x × ((x.query ≡ n) × (x.operator ≡ k)))

pub record ArePartly (e e2 : PlainEngine) (todo slots : List Slot) : Type 0 where
  pub table : ℕ → ℕ → Option Slot
  pub named : AreNumbered table
  pub has : HasSlots table slots
  pub each : (n k : ℕ) → (table n k ≡ slot_of e2 n k) ⊎ ((table n k ≡ slot_of e n k) × HasOne todo n k)

-- a slot of the engine before, with what its operator may take after
module _ (e e2 : PlainEngine) (new_slot : (x : Slot) → slot_of e x.query x.operator ≡ Some x → slot_of e2 x.query x.operator ≡ Some (with_next x (next_for e2 x.query x.operator))) where
  one_told : (x : Slot) (todo slots : List Slot) → slot_of e x.query x.operator ≡ Some x → ArePartly e e2 (x ∷ todo) slots → ArePartly e e2 todo (with_update e2 x slots)
  one_told x todo slots is p =
      let next = next_for e2 x.query x.operator in
      let new = with_next x next in
      let table2 : ℕ → ℕ → Option Slot = updated p.table x.query x.operator new in
      record {
        table = table2;
        named = updated_numbered p.table x.query x.operator new refl refl p.named;
        has = ⊎_elim
            (λ done.
            let here : p.table x.query x.operator ≡ Some new = done ∙ new_slot x is in
            equal_slots p.table table2 (with_update e2 x slots)
            (λ n k. ⊎_elim
            (λ same. ap (λ z. table2 z k) same.0 ∙ ap (table2 x.query) same.1 ∙ updated_here p.table x.query x.operator new ∙ sym here ∙ sym (ap (λ z. p.table z k) same.0 ∙ ap (p.table x.query) same.1))
            (λ ne. updated_there p.table x.query x.operator new n k ne)
            (numbers n k x.query x.operator))
            (told_again p.table slots x next p.has p.named here))
            (λ todo. changed_slots p.table table2 slots x next p.has p.named (todo.0 ∙ is) (updated_here p.table x.query x.operator new) (λ n k ne. updated_there p.table x.query x.operator new n k ne))
            (p.each x.query x.operator);
        each = λ n k. ⊎_elim
            (λ same. inl (ap (λ z. table2 z k) same.0 ∙ ap (table2 x.query) same.1 ∙ updated_here p.table x.query x.operator new ∙ sym (new_slot x is)
            ∙ sym (ap (λ z. slot_of e2 z k) same.0 ∙ ap (slot_of e2 x.query) same.1)))
            (λ ne. ⊎_elim
            (λ done. inl (updated_there p.table x.query x.operator new n k ne ∙ done))
            (λ left. inr (updated_there p.table x.query x.operator new n k ne ∙ left.0, still n k ne left.1))
            (p.each n k))
            (numbers n k x.query x.operator);
      }
    where
      still : (n k : ℕ) → (n ≢ x.query) ⊎ (k ≢ x.operator) → HasOne (x ∷ todo) n k → HasOne todo n k
      still n k ne one = by_place one.1.0 where
        by_place : IsIn (x ∷ todo) one.0 → HasOne todo n k
        by_place (inl same) = absurd (⊎_elim (λ d. d (sym one.1.1.0 ∙ ap (λ z. z.query) (sym same))) (λ d. d (sym one.1.1.1 ∙ ap (λ z. z.operator) (sym same))) ne)
        by_place (inr i) = (one.0, (i, one.1.1))

  pub each_told : (todo slots : List Slot) → ((x : Slot) → IsIn todo x → slot_of e x.query x.operator ≡ Some x) → ArePartly e e2 todo slots → HasSlots (slot_of e2) (with_updates e2 todo slots)
  each_told [] slots are p = equal_slots p.table (slot_of e2) slots (λ n k. ⊎_elim (λ done. sym done) (λ left. absurd left.1.1.0) (p.each n k)) p.has
  each_told (x ∷ todo) slots are p = each_told todo (with_update e2 x slots) (λ y i. are y (inr i)) (one_told x todo slots (are x (inl refl)) p)
