-- An entry that comes behind all others.
use Rattle.std.proofs.Common.{◌≡◌, ℕ, List, [], ◌∷◌, ◌++◌, refl, ap, sym, subst, append_assoc, ◌∙◌}
use Rattle.std.specs.declared.cmp.Ordering.{Ordering}
use Rattle.std.specs.declared.cmp.Ordering.TheVariants.{Less, Greater}
use Rattle.std.specs.Ordering.{match_ordering, ordering_reverse}
use Rattle.std.specs.List.Sorted.{IsStrictlySortedBy}
use Rattle.std.specs.Map.{keys_of}
use Rattle.std.specs.BTreeMap.{insert_entry}
use Rattle.values.specs.Orders.{IsExactOrder}
use Rattle.row_bags.proofs.SpreadLemmas.{first_two, sorted-tail}

module _ {K : Type 0} (cmp : K → K → Ordering) (o : IsExactOrder cmp) where
  -- the first of a sorted list is below each behind it
  first-below : (x : K) (es rest : List (K × ℕ)) (e : K × ℕ) → IsStrictlySortedBy cmp (x ∷ keys_of (es ++ e ∷ rest)) → cmp x e.0 ≡ Less
  first-below x [] rest e s = (first_two cmp x e.0 (keys_of rest) s).0
  first-below x (f ∷ es) rest e s =
      let t = first_two cmp x f.0 (keys_of (es ++ e ∷ rest)) s in
      o.total.trans x f.0 e.0 t.0 (first-below f.0 es rest e t.1)

  pub insert-last : (es rest : List (K × ℕ)) (e : K × ℕ) → IsStrictlySortedBy cmp (keys_of (es ++ e ∷ rest)) → insert_entry cmp es e.0 e.1 ≡ es ++ e ∷ []
  insert-last [] rest e s = refl
  insert-last (f ∷ es) rest e s =
      let above : cmp e.0 f.0 ≡ Greater = o.total.antisymm e.0 f.0 ∙ ap ordering_reverse (first-below f.0 es rest e s) in
      ap (λ a. match_ordering a ((e.0, e.1) ∷ f ∷ es) ((f.0, e.1) ∷ es) (f ∷ insert_entry cmp es e.0 e.1)) above
      ∙ ap (λ l. f ∷ l) (insert-last es rest e (sorted-tail cmp o f.0 (keys_of (es ++ e ∷ rest)) s))

  -- an entry goes over from the list of those that are left
  pub moved : (ws news xs rest : List (K × ℕ)) (e : K × ℕ) → xs ≡ e ∷ rest → news ≡ insert_entry cmp ws e.0 e.1 → IsStrictlySortedBy cmp (keys_of (ws ++ xs)) → news ++ rest ≡ ws ++ xs
  moved ws news xs rest e split put s =
      let behind : news ≡ ws ++ e ∷ [] = put ∙ insert-last ws rest e (subst (λ (ys : List (K × ℕ)). IsStrictlySortedBy cmp (keys_of (ws ++ ys))) split s) in
      ap (λ (ys : List (K × ℕ)). ys ++ rest) behind
      ∙ append_assoc ws (e ∷ []) rest
      ∙ ap (λ (ys : List (K × ℕ)). ws ++ ys) (sym split)
