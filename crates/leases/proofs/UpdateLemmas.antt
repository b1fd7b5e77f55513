-- Slots that are updated twice: the last counts.
use Rattle.std.proofs.Common.{◌≡◌, ◌≢◌, ℕ, inl, inr, ◌⊎◌, Option, Some, None, List, [], ◌∷◌, refl, sym, ap, ◌∙◌, subst}
use Rattle.std.specs.List.{AllByRecursion}
use Rattle.std.specs.List.Sorted.{IsStrictlySortedBy}
use Rattle.std.specs.Ordering.{ordering_reverse}
use Rattle.std.specs.declared.cmp.Ordering.TheVariants.{Less, Greater}
use Rattle.column.specs.declared.batch.Side.{Side}
use Rattle.run_queue.specs.Slots.{slot_cmp}
use Rattle.run_queue.specs.Changes.{changed, with_next}
use Rattle.run_queue.specs.declared.slots.Slot.{Slot}
use Rattle.run_queue.proofs.SlotLemmas.{slots_total}
use Rattle.laws_engine.specs.Engines.{PlainEngine}
use Rattle.laws_engine.specs.Good.{GoodEngine, HasSlots, IsIn, slot_of}
use Rattle.laws_engine.proofs.BackLemmas.{numbered}
use Rattle.laws_engine.proofs.SlotLemmas.{AreNumbered, changed_slots}
use Rattle.laws_engine.proofs.TableLemmas.{updated, updated_here, updated_numbered, updated_there}

-- A TABLE has one list of slots
pub all_in : (P : Slot → Type 0) (xs : List Slot) (x : Slot) → AllByRecursion P xs → IsIn xs x → P x
all_in P [] x h i = absurd i
all_in P (y ∷ xs) x h (inl e) = subst P e h.0
all_in P (y ∷ xs) x h (inr i) = all_in P xs x h.1 i

pub not_both : (x y : Slot) → slot_cmp x y ≡ Less → slot_cmp y x ≡ Less → ⊥
not_both x y a b = let bad : Less ≡ Greater = sym a ∙ slots_total.antisymm x y ∙ ap ordering_reverse b in cc

-- of two slots that are each first in its list, and in the other's, neither is lower
same_first : (x y : Slot) (a b : List Slot) → AllByRecursion (λ z. slot_cmp x z ≡ Less) a → AllByRecursion (λ z. slot_cmp y z ≡ Less) b → (y ≡ x) ⊎ IsIn b x → (x ≡ y) ⊎ IsIn a y → x ≡ y
same_first x y a b above_x above_y (inl e) there = sym e
same_first x y a b above_x above_y (inr i) (inl e) = e
same_first x y a b above_x above_y (inr i) (inr j) = absurd (not_both x y (all_in (λ z. slot_cmp x z ≡ Less) a y above_x j) (all_in (λ z. slot_cmp y z ≡ Less) b x above_y i))

-- one that stands behind the first is another
in_rest : (x z : Slot) (a b : List Slot) → AllByRecursion (λ z. slot_cmp x z ≡ Less) a → IsIn a z → (x ≡ z) ⊎ IsIn b z → IsIn b z
in_rest x z a b above i (inl e) = let low : slot_cmp x x ≡ Less = ap (slot_cmp x) e ∙ all_in (λ z. slot_cmp x z ≡ Less) a z above i in absurd (not_both x x low low)
in_rest x z a b above i (inr j) = j

same_sorted : (a b : List Slot) → IsStrictlySortedBy slot_cmp a → IsStrictlySortedBy slot_cmp b → ((x : Slot) → IsIn a x → IsIn b x) → ((x : Slot) → IsIn b x → IsIn a x) → a ≡ b
unfolding IsStrictlySortedBy
same_sorted [] [] sa sb to back = refl
same_sorted [] (y ∷ b) sa sb to back = absurd (back y (inl refl))
same_sorted (x ∷ a) [] sa sb to back = absurd (to x (inl refl))
same_sorted (x ∷ a) (y ∷ b) sa sb to back =
    let first : x ≡ y = same_first x y a b sa.0 sb.0 (to x (inl refl)) (back y (inl refl)) in
    let rest : a ≡ b = same_sorted a b sa.1 sb.1
    (λ z i. in_rest x z a b sa.0 i (subst (λ s. (s ≡ z) ⊎ IsIn b z) (sym first) (to z (inr i))))
    (λ z i. in_rest y z b a sb.0 i (subst (λ s. (s ≡ z) ⊎ IsIn a z) first (back z (inr i)))) in
    ap (λ z. z ∷ a) first ∙ ap (λ zs. y ∷ zs) rest

pub same_slots : (table : ℕ → ℕ → Option Slot) (a b : List Slot) → HasSlots table a → HasSlots table b → a ≡ b
same_slots table a b h g = same_sorted a b h.ordered g.ordered (λ x i. g.there x.query x.operator x (h.only x i)) (λ x i. h.there x.query x.operator x (g.only x i))

-- A SLOT of a good engine
module _ (e : PlainEngine) (s : Slot) (g : GoodEngine e) (there : IsIn e.slots s) where
  before : slot_of e s.query s.operator ≡ Some s
  before = g.slots.only s there

  -- is told that nothing may be taken
  told : ℕ → ℕ → Option Slot
  told = updated (slot_of e) s.query s.operator (with_next s None)

  told_here : told s.query s.operator ≡ Some (with_next s None)
  unfolding told
  told_here = updated_here (slot_of e) s.query s.operator (with_next s None)

  told_there : (n k : ℕ) → (n ≢ s.query) ⊎ (k ≢ s.operator) → told n k ≡ slot_of e n k
  unfolding told
  told_there n k ne = updated_there (slot_of e) s.query s.operator (with_next s None) n k ne

  told_numbered : AreNumbered told
  unfolding told
  told_numbered = updated_numbered (slot_of e) s.query s.operator (with_next s None) refl refl (numbered e)

  told_slots : HasSlots told (changed s None e.slots)
  told_slots = changed_slots (slot_of e) told e.slots s None g.slots (numbered e) before told_here told_there

  -- and then something else
  pub changed_again : (next : Option (Side × ℕ)) → changed (with_next s None) next (changed s None e.slots) ≡ changed s next e.slots
  changed_again next =
      let here : updated told s.query s.operator (with_next s next) s.query s.operator ≡ Some (with_next s next) = updated_here told s.query s.operator (with_next s next) in
      let there : (n k : ℕ) → (n ≢ s.query) ⊎ (k ≢ s.operator) → updated told s.query s.operator (with_next s next) n k ≡ told n k = λ n k ne.
      updated_there told s.query s.operator (with_next s next) n k ne in
      same_slots (updated told s.query s.operator (with_next s next)) (changed (with_next s None) next (changed s None e.slots)) (changed s next e.slots)
      (changed_slots told (updated told s.query s.operator (with_next s next)) (changed s None e.slots) (with_next s None) next told_slots told_numbered told_here here there)
      (changed_slots (slot_of e) (updated told s.query s.operator (with_next s next)) e.slots s next g.slots (numbered e) before here (λ n k ne. there n k ne ∙ told_there n k ne))
