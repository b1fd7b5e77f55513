-- Queries with their marks, one after the other.
use Rattle.std.proofs.Common.{◌≡◌, ◌+◌, ◌-◌, ◌≤◌, ◌⊎◌, inl, inr, ℕ, suc, max, Option, Some, None, List, [], ◌∷◌, ◌++◌, length, map, refl, sym, ap, ap₂, ◌∙◌, subst, append-nil, append_assoc, arith}
use Rattle.std.specs.Prelude.{slice_get}
use Rattle.std.proofs.lemmas.List.{map-append}
use Rattle.operators.specs.Ready.{last_in}
use Rattle.reference.specs.Machine.{Registered}
use Rattle.reference.specs.Opening.{all_instants}
use Rattle.laws_dataflow.specs.Roots.{behind}
use Rattle.laws_queries.specs.Plain.{PlainQuery, operator_at}
use Rattle.laws_engine.specs.Engines.{PlainRemains, Running}
use Rattle.laws_engine.specs.Openings.{mark_in, marks_by}
use Rattle.leases.specs.Forgets.{AreMarkable, IsMarkable, going_of}
use Rattle.leases.specs.Keeping.{going_over}
use Rattle.leases.specs.Views.{query_of, remains_of}
use Rattle.leases.specs.declared.registered.Registration.{Registration}
use Rattle.leases.specs.declared.remains.Remains.{Remains}
use Rattle.leases.specs.declared.state.forget.Going.{Going}

-- THE INSTANT after a mark is a number of the code
pub next_small : (q : Registered) (k : PlainRemains) (p : PlainQuery) (last : Option ℕ) → IsMarkable q k → k ≡ Running p → last ≡ last_in (operator_at p.operators (length p.operators - 1)).state → (at : ℕ) → last ≡ Some at → at + 1 ≤ max q.first all_instants
next_small q k p last h is e at told =
    let m : IsMarkable q (Running p) = subst (IsMarkable q) is h in
    subst (λ (o : Option ℕ). behind q.first o ≤ max q.first all_instants) (ap (λ (n : ℕ). last_in (operator_at p.operators n).state) m.1.0 ∙ sym e ∙ told) m.1.1

-- THE QUERIES that run, one after the other
abbrev going_among : List Registration → List Remains → List (Registered × ℕ)
going_among qs ks = going_over (map query_of qs) (marks_by (map query_of qs) (map remains_of ks))

-- the first of those that are left
pub first_markable : (qs qs2 : List Registration) (ks ks2 : List Remains) (q : Registration) (k : Remains) → qs ≡ q ∷ qs2 → ks ≡ k ∷ ks2 → AreMarkable qs ks → IsMarkable (query_of q) (remains_of k)
first_markable qs qs2 ks ks2 q k a b h = h.1 0 q k (ap (λ l. slice_get l 0) a) (ap (λ l. slice_get l 0) b)

pub later_markable : (qs qs2 : List Registration) (ks ks2 : List Remains) (q : Registration) (k : Remains) → qs ≡ q ∷ qs2 → ks ≡ k ∷ ks2 → AreMarkable qs ks → AreMarkable qs2 ks2
later_markable qs qs2 ks ks2 q k a b h = (
  omega (arith, ap (λ l. length l) a, ap (λ l. length l) b, h.0),
  λ n r m here left. h.1 (suc n) r m (ap (λ l. slice_get l (suc n)) a ∙ here) (ap (λ l. slice_get l (suc n)) b ∙ left),
)

module _ (all : List (Registered × ℕ)) where
  -- one that runs
  pub more_going : (gs gs2 : List Going) (qs qs2 : List Registration) (ks ks2 : List Remains) (q : Registration) (k : Remains) (g : Going) (next : ℕ) → qs ≡ q ∷ qs2 → ks ≡ k ∷ ks2 → mark_in (query_of q) (remains_of k) ≡ Some next
      → going_of g ≡ (query_of q, next) → gs2 ≡ gs ++ g ∷ [] → map going_of gs ++ going_among qs ks ≡ all → map going_of gs2 ++ going_among qs2 ks2 ≡ all
  more_going gs gs2 qs qs2 ks ks2 q k g next a b mark is made h =
      let later : List (Registered × ℕ) = going_among qs2 ks2 in
      ap (λ l. map going_of l ++ later) made ∙ ap (λ l. l ++ later) (map-append going_of gs (g ∷ [])) ∙ append_assoc (map going_of gs) (going_of g ∷ []) later
      ∙ ap (λ x. map going_of gs ++ x ∷ later) is
      ∙ ap (λ m. map going_of gs ++ going_over (query_of q ∷ map query_of qs2) (m ∷ marks_by (map query_of qs2) (map remains_of ks2))) (sym mark)
      ∙ ap₂ (λ x y. map going_of gs ++ going_among x y) (sym a) (sym b) ∙ h

  -- one that does not
  pub other_going : (gs : List Going) (qs qs2 : List Registration) (ks ks2 : List Remains) (q : Registration) (k : Remains) → qs ≡ q ∷ qs2 → ks ≡ k ∷ ks2 → mark_in (query_of q) (remains_of k) ≡ None
      → map going_of gs ++ going_among qs ks ≡ all → map going_of gs ++ going_among qs2 ks2 ≡ all
  other_going gs qs qs2 ks ks2 q k a b mark h =
      ap (λ m. map going_of gs ++ going_over (query_of q ∷ map query_of qs2) (m ∷ marks_by (map query_of qs2) (map remains_of ks2))) (sym mark)
      ∙ ap₂ (λ x y. map going_of gs ++ going_among x y) (sym a) (sym b) ∙ h

  none_going : (qs : List Registration) (ks : List Remains) → length ks ≡ length qs → (length qs ≡ 0) ⊎ (length ks ≡ 0) → going_among qs ks ≡ []
  none_going [] ks e z = refl
  none_going (q ∷ qs) ks e (inl z) = absurd (omega (arith, z))
  none_going (q ∷ qs) ks e (inr z) = absurd (omega (arith, z, e))

  -- all have come
  pub all_going : (gs : List Going) (qs : List Registration) (ks : List Remains) → AreMarkable qs ks → (length qs ≡ 0) ⊎ (length ks ≡ 0) → map going_of gs ++ going_among qs ks ≡ all → map going_of gs ≡ all
  all_going gs qs ks m z h = sym (append-nil (map going_of gs)) ∙ ap (λ l. map going_of gs ++ l) (sym (none_going qs ks m.0 z)) ∙ h
