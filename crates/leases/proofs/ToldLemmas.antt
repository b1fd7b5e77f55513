-- Slots that are told once behind several turns, and in a list in which they are told behind each turn: the last counts.
use Rattle.std.proofs.Common.{◌≡◌, ◌≢◌, ℕ, inl, inr, ◌⊎◌, ⊎_elim, MatchOption, Option, Some, None, List, [], ◌∷◌, refl, sym, ap, ◌∙◌}
use Rattle.std.specs.Prelude.{⊤}
use Rattle.std.specs.Option.{option_to_list}
use Rattle.column.specs.declared.batch.Side.{Side}
use Rattle.run_queue.specs.Changes.{changed, with_next}
use Rattle.run_queue.specs.declared.slots.Slot.{Slot}
use Rattle.laws_engine.specs.Engines.{PlainEngine}
use Rattle.laws_engine.specs.Good.{HasSlots, IsIn}
use Rattle.laws_engine.proofs.SlotLemmas.{AreNumbered, changed_slots, numbers}
use Rattle.laws_engine.proofs.TableLemmas.{updated, updated_here, updated_numbered, updated_there}
use Rattle.leases.specs.Readers.{next_for, with_updates}
use Rattle.leases.specs.Told.{told_above, told_slot}
use Rattle.leases.proofs.UpdateLemmas.{same_slots}

-- THE LIST has a slot as it stands
module _ (table : ℕ → ℕ → Option Slot) (slots : List Slot) (s : Slot) (has : HasSlots table slots) (named : AreNumbered table) (here : table s.query s.operator ≡ Some s) where
  pub one_table : Option (Side × ℕ) → ℕ → ℕ → Option Slot
  one_table x = updated table s.query s.operator (with_next s x)

  one_here : (x : Option (Side × ℕ)) → one_table x s.query s.operator ≡ Some (with_next s x)
  unfolding one_table
  one_here x = updated_here table s.query s.operator (with_next s x)

  one_there : (x : Option (Side × ℕ)) (n k : ℕ) → (n ≢ s.query) ⊎ (k ≢ s.operator) → one_table x n k ≡ table n k
  unfolding one_table
  one_there x n k ne = updated_there table s.query s.operator (with_next s x) n k ne

  pub one_numbered : (x : Option (Side × ℕ)) → AreNumbered (one_table x)
  unfolding one_table
  one_numbered x = updated_numbered table s.query s.operator (with_next s x) refl refl named

  pub one_slots : (x : Option (Side × ℕ)) → HasSlots (one_table x) (changed s x slots)
  one_slots x = changed_slots table (one_table x) slots s x has named here (one_here x) (one_there x)

  -- that is told twice
  pub one_again : (x y : Option (Side × ℕ)) → changed (with_next s x) y (changed s x slots) ≡ changed s y slots
  one_again x y =
      same_slots (one_table y) (changed (with_next s x) y (changed s x slots)) (changed s y slots)
      (changed_slots (one_table x) (one_table y) (changed s x slots) (with_next s x) y (one_slots x) (one_numbered x) (one_here x) (one_here y) (λ n k ne. one_there y n k ne ∙ sym (one_there x n k ne)))
      (one_slots y)

  -- AND ANOTHER of another operator
  module _ (a : Slot) (over : table a.query a.operator ≡ Some a) (apart : a.operator ≢ s.operator) where
    over_still : (x : Option (Side × ℕ)) → one_table x a.query a.operator ≡ Some a
    over_still x = one_there x a.query a.operator (inr apart) ∙ over

    pub two_table : (x y : Option (Side × ℕ)) → ℕ → ℕ → Option Slot
    two_table x y = updated (one_table x) a.query a.operator (with_next a y)

    pub two_over : (x y : Option (Side × ℕ)) → two_table x y a.query a.operator ≡ Some (with_next a y)
    unfolding two_table
    two_over x y = updated_here (one_table x) a.query a.operator (with_next a y)

    pub two_there : (x y : Option (Side × ℕ)) (n k : ℕ) → (n ≢ a.query) ⊎ (k ≢ a.operator) → two_table x y n k ≡ one_table x n k
    unfolding two_table
    two_there x y n k ne = updated_there (one_table x) a.query a.operator (with_next a y) n k ne

    pub two_here : (x y : Option (Side × ℕ)) → two_table x y s.query s.operator ≡ Some (with_next s x)
    two_here x y = two_there x y s.query s.operator (inr (λ e. apart (sym e))) ∙ one_here x

    two_numbered : (x y : Option (Side × ℕ)) → AreNumbered (two_table x y)
    unfolding two_table
    two_numbered x y = updated_numbered (one_table x) a.query a.operator (with_next a y) refl refl (one_numbered x)

    pub two_slots : (x y : Option (Side × ℕ)) → HasSlots (two_table x y) (changed a y (changed s x slots))
    two_slots x y = changed_slots (one_table x) (two_table x y) (changed s x slots) a y (one_slots x) (one_numbered x) (over_still x) (two_over x y) (two_there x y)

    -- the first is told again
    mid_table : (x y u : Option (Side × ℕ)) → ℕ → ℕ → Option Slot
    mid_table x y u = updated (two_table x y) s.query s.operator (with_next s u)

    mid_here : (x y u : Option (Side × ℕ)) → mid_table x y u s.query s.operator ≡ Some (with_next s u)
    unfolding mid_table
    mid_here x y u = updated_here (two_table x y) s.query s.operator (with_next s u)

    mid_there : (x y u : Option (Side × ℕ)) (n k : ℕ) → (n ≢ s.query) ⊎ (k ≢ s.operator) → mid_table x y u n k ≡ two_table x y n k
    unfolding mid_table
    mid_there x y u n k ne = updated_there (two_table x y) s.query s.operator (with_next s u) n k ne

    mid_numbered : (x y u : Option (Side × ℕ)) → AreNumbered (mid_table x y u)
    unfolding mid_table
    mid_numbered x y u = updated_numbered (two_table x y) s.query s.operator (with_next s u) refl refl (two_numbered x y)

    mid_slots : (x y u : Option (Side × ℕ)) → HasSlots (mid_table x y u) (changed (with_next s x) u (changed a y (changed s x slots)))
    mid_slots x y u =
        changed_slots (two_table x y) (mid_table x y u) (changed a y (changed s x slots)) (with_next s x) u (two_slots x y) (two_numbered x y) (two_here x y) (mid_here x y u) (mid_there x y u)

    -- and then the other is
    last_there : (x y u v : Option (Side × ℕ)) (n k : ℕ) → (n ≢ a.query) ⊎ (k ≢ a.operator) → two_table u v n k ≡ mid_table x y u n k
    last_there x y u v n k ne =
        two_there u v n k ne
        ∙ ⊎_elim
        (λ at. ap (λ z. one_table u z k) at.0 ∙ ap (one_table u s.query) at.1 ∙ one_here u ∙ sym (ap (λ z. mid_table x y u z k) at.0 ∙ ap (mid_table x y u s.query) at.1 ∙ mid_here x y u))
        (λ far. one_there u n k far ∙ sym (mid_there x y u n k far ∙ two_there x y n k ne ∙ one_there x n k far))
        (numbers n k s.query s.operator)

    pub two_again : (x y u v : Option (Side × ℕ)) → changed (with_next a y) v (changed (with_next s x) u (changed a y (changed s x slots))) ≡ changed a v (changed s u slots)
    two_again x y u v =
        same_slots (two_table u v) (changed (with_next a y) v (changed (with_next s x) u (changed a y (changed s x slots)))) (changed a v (changed s u slots))
        (changed_slots (mid_table x y u) (two_table u v) (changed (with_next s x) u (changed a y (changed s x slots))) (with_next a y) v (mid_slots x y u) (mid_numbered x y u)
        (mid_there x y u a.query a.operator (inr apart) ∙ two_over x y) (two_over u v) (last_there x y u v))
        (two_slots u v)

-- THE SLOT OF AN OPERATOR, and that of the one above, if there is one, stand in the list
pub record AreThere (table : ℕ → ℕ → Option Slot) (slots : List Slot) (s : Slot) (above : Option Slot) : Type 0 where
  pub has : HasSlots table slots
  pub named : AreNumbered table
  pub here : table s.query s.operator ≡ Some s
  pub over : MatchOption above ⊤ (λ a. (table a.query a.operator ≡ Some a) × (a.operator ≢ s.operator) × (a.query ≡ s.query))

module _ (table : ℕ → ℕ → Option Slot) (slots : List Slot) (s : Slot) where
  -- told again
  pub told_again : (e1 e2 : PlainEngine) (above : Option Slot) → AreThere table slots s above
      → with_updates e2 (told_slot e1 s ∷ option_to_list (told_above e1 above)) (with_updates e1 (s ∷ option_to_list above) slots) ≡ with_updates e2 (s ∷ option_to_list above) slots
  told_again e1 e2 None h = one_again table slots s h.has h.named h.here (next_for e1 s.query s.operator) (next_for e2 s.query s.operator)
  told_again e1 e2 (Some a) h =
      two_again table slots s h.has h.named h.here a h.over.0 h.over.1 (next_for e1 s.query s.operator) (next_for e1 a.query a.operator) (next_for e2 s.query s.operator) (next_for e2 a.query a.operator)

-- WHAT STANDS IN THE LIST THEN: the two as they are told, and each other one as it stood
pub record IsAnother (slots : List Slot) (s t : Slot) : Type 0 where
  pub there : IsIn slots t
  pub apart : (t.query ≢ s.query) ⊎ (t.operator ≢ s.operator)

some_slot : {a b : Slot} → Some a ≡ Some b → a ≡ b
some_slot e = cc

abbrev pub IsToldAbove : PlainEngine → Option Slot → Slot → Type 0
IsToldAbove e above t = MatchOption above ⊥ (λ a. t ≡ told_slot e a)

-- of a table one entry
at_entry : (table : ℕ → ℕ → Option Slot) (s t x : Slot) → table t.query t.operator ≡ Some t → (t.query ≡ s.query) × (t.operator ≡ s.operator) → table s.query s.operator ≡ Some x → t ≡ x
at_entry table s t x here same there = some_slot (sym here ∙ ap (λ z. table z t.operator) same.0 ∙ ap (table s.query) same.1 ∙ there)

module _ (table : ℕ → ℕ → Option Slot) (slots : List Slot) (s : Slot) where
  pub told_in : (e : PlainEngine) (above : Option Slot) → AreThere table slots s above → IsIn (with_updates e (s ∷ option_to_list above) slots) (told_slot e s)
  told_in e None h =
      let x = next_for e s.query s.operator in
      (one_slots table slots s h.has h.named h.here x).there s.query s.operator (told_slot e s) (one_here table slots s h.has h.named h.here x)
  told_in e (Some a) h =
      let x = next_for e s.query s.operator in
      let y = next_for e a.query a.operator in
      (two_slots table slots s h.has h.named h.here a h.over.0 h.over.1 x y).there s.query s.operator (told_slot e s) (two_here table slots s h.has h.named h.here a h.over.0 h.over.1 x y)

  pub above_in : (e : PlainEngine) (a : Slot) → AreThere table slots s (Some a) → IsIn (with_updates e (s ∷ a ∷ []) slots) (told_slot e a)
  above_in e a h =
      let x = next_for e s.query s.operator in
      let y = next_for e a.query a.operator in
      (two_slots table slots s h.has h.named h.here a h.over.0 h.over.1 x y).there a.query a.operator (told_slot e a) (two_over table slots s h.has h.named h.here a h.over.0 h.over.1 x y)

  pub told_from : (e : PlainEngine) (above : Option Slot) → AreThere table slots s above → (t : Slot) → IsIn (with_updates e (s ∷ option_to_list above) slots) t → (t ≡ told_slot e s) ⊎ (IsToldAbove e above t ⊎ IsAnother slots s t)
  told_from e None h t i =
      let x = next_for e s.query s.operator in
      let here : one_table table slots s h.has h.named h.here x t.query t.operator ≡ Some t = (one_slots table slots s h.has h.named h.here x).only t i in
      ⊎_elim
      (λ same. inl (at_entry (one_table table slots s h.has h.named h.here x) s t (told_slot e s) here same (one_here table slots s h.has h.named h.here x)))
      (λ far. inr (inr (record { there = h.has.there t.query t.operator t (sym (one_there table slots s h.has h.named h.here x t.query t.operator far) ∙ here); apart = far })))
      (numbers t.query t.operator s.query s.operator)
  told_from e (Some a) h t i =
      let x = next_for e s.query s.operator in
      let y = next_for e a.query a.operator in
      let here : two_table table slots s h.has h.named h.here a h.over.0 h.over.1 x y t.query t.operator ≡ Some t = (two_slots table slots s h.has h.named h.here a h.over.0 h.over.1 x y).only t i in
      ⊎_elim
      (λ same. inl (at_entry (two_table table slots s h.has h.named h.here a h.over.0 h.over.1 x y) s t (told_slot e s) here same (two_here table slots s h.has h.named h.here a h.over.0 h.over.1 x y)))
      (λ far. ⊎_elim
      (λ same. inr (inl (at_entry (two_table table slots s h.has h.named h.here a h.over.0 h.over.1 x y) a t (told_slot e a) here same (two_over table slots s h.has h.named h.here a h.over.0 h.over.1 x y))))
      (λ other. inr (inr (record {
        there = h.has.there t.query t.operator t (sym (two_there table slots s h.has h.named h.here a h.over.0 h.over.1 x y t.query t.operator other ∙ one_there table slots s h.has h.named h.here x t.query t.operator far) ∙ here);
        apart = far;
      })))
      (numbers t.query t.operator a.query a.operator))
      (numbers t.query t.operator s.query s.operator)
