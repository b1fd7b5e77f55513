-- A change of one count is a change of one item.
use Rattle.std.proofs.Common.{◌≡◌, ℕ, suc, ◌-◌, ◌<◌, ◌≤◌, Bool, true, false, cond, ◌||◌, Option, Some, None, unwrap_or, List, [], ◌∷◌, ◌++◌, length, replicate, refl, ap, sym, ◌∙◌, arith, length-append}
use Prim.Native.Nat.{zero}
use Rattle.std.specs.declared.cmp.Ordering.{Ordering}
use Rattle.std.specs.declared.cmp.Ordering.TheVariants.{Less, Equal, Greater}
use Rattle.std.specs.Ordering.{is_eq, is_gt, match_ordering}
use Rattle.std.specs.List.{All}
use Rattle.std.specs.List.Sorted.{IsStrictlySortedBy}
use Rattle.std.specs.Option.{IsSome, is_some}
use Rattle.std.specs.Map.{lookup, remove_entry, set_value, keys_of, values_of}
use Rattle.std.specs.BTreeMap.{insert_entry, is_at}
use Rattle.std.proofs.lemmas.List.{length-replicate}
use Rattle.std.proofs.lemmas.List.Elements.{All-head, All-tail}
use Rattle.values.specs.Bag.{insert_in_order, without}
use Rattle.values.specs.Orders.{IsExactOrder}
use Rattle.row_bags.specs.Bags.{spread, is_in}

pub by_ordering : {P : Type 0} (o : Ordering) → (o ≡ Less → P) → (o ≡ Equal → P) → (o ≡ Greater → P) → P
by_ordering Less l e g = l refl
by_ordering Equal l e g = e refl
by_ordering Greater l e g = g refl

pub first_two : {K : Type 0} (cmp : K → K → Ordering) (x y : K) (xs : List K) → IsStrictlySortedBy cmp (x ∷ y ∷ xs) → (cmp x y ≡ Less) × IsStrictlySortedBy cmp (y ∷ xs)
unfolding IsStrictlySortedBy
first_two cmp x y xs s = (s.0.0, s.1)

sorted-none : {K : Type 0} (cmp : K → K → Ordering) → IsStrictlySortedBy cmp []
unfolding IsStrictlySortedBy
sorted-none cmp = tt

or_twice : (a b : Bool) → (a || (a || b)) ≡ (a || b)
or_twice true b = refl
or_twice false b = refl

pub by_bool : {P : Type 0} (b : Bool) → (b ≡ true → P) → (b ≡ false → P) → P
by_bool true y n = y refl
by_bool false y n = n refl

abbrev pub Counted : {K : Type 0} → List (K × ℕ) → Type 0
Counted es = All (λ n. 0 < n) (values_of es)

module _ {K : Type 0} (cmp : K → K → Ordering) (o : IsExactOrder cmp) where
  -- past items that are below
  insert-below : (k x : K) (m : ℕ) (xs : List K) → cmp k x ≡ Greater → insert_in_order cmp k (replicate m x ++ xs) ≡ replicate m x ++ insert_in_order cmp k xs
  insert-below k x zero xs h = refl
  insert-below k x (suc m) xs h =
      ap (λ a. cond (is_gt a) (x ∷ insert_in_order cmp k (replicate m x ++ xs)) (k ∷ x ∷ (replicate m x ++ xs))) h
      ∙ ap (λ ys. x ∷ ys) (insert-below k x m xs h)

  without-other : (k x : K) (m : ℕ) (xs : List K) → is_eq (cmp k x) ≡ false → without cmp k (replicate m x ++ xs) ≡ replicate m x ++ without cmp k xs
  without-other k x zero xs h = refl
  without-other k x (suc m) xs h =
      ap (λ b. cond b (replicate m x ++ xs) (x ∷ without cmp k (replicate m x ++ xs))) h
      ∙ ap (λ ys. x ∷ ys) (without-other k x m xs h)

  -- before an item that is not below
  insert-here : (k x : K) (m : ℕ) (xs : List K) → 0 < m → is_gt (cmp k x) ≡ false → insert_in_order cmp k (replicate m x ++ xs) ≡ k ∷ (replicate m x ++ xs)
  insert-here k x zero xs some h = absurd (omega arith)
  insert-here k x (suc m) xs some h =
      ap (λ b. cond b (x ∷ insert_in_order cmp k (replicate m x ++ xs)) (k ∷ x ∷ (replicate m x ++ xs))) h

  -- a key below the first is not among the keys
  pub lookup-below : (k : K) (e : K × ℕ) (es : List (K × ℕ)) → IsStrictlySortedBy cmp (keys_of (e ∷ es)) → cmp k e.0 ≡ Less → lookup (is_at (cmp k)) (e ∷ es) ≡ None
  lookup-below k e [] s h = ap (λ a. cond (is_eq a) (Some e.1) None) h
  lookup-below k e (f ∷ es) s h =
      let t = first_two cmp e.0 f.0 (keys_of es) s in
      ap (λ a. cond (is_eq a) (Some e.1) (lookup (is_at (cmp k)) (f ∷ es))) h
      ∙ lookup-below k f es t.1 (o.total.trans k e.0 f.0 h t.0)

  pub sorted-tail : (x : K) (xs : List K) → IsStrictlySortedBy cmp (x ∷ xs) → IsStrictlySortedBy cmp xs
  sorted-tail x [] s = sorted-none cmp
  sorted-tail x (y ∷ xs) s = (first_two cmp x y xs s).1

  -- one more of the key
  pub spread-more : (k : K) (es : List (K × ℕ)) → IsStrictlySortedBy cmp (keys_of es) → Counted es → spread (insert_entry cmp es k (suc (unwrap_or (lookup (is_at (cmp k)) es) 0))) ≡ insert_in_order cmp k (spread es)
  spread-more k [] s c = refl
  spread-more k (e ∷ es) s c =
      let some = All-head (λ (n : ℕ). 0 < n) e.1 (values_of es) c in
      let n = unwrap_or (lookup (is_at (cmp k)) (e ∷ es)) 0 in
      let v = suc n in
      by_ordering (cmp k e.0)
      (λ less.
      let none : v ≡ 1 = ap (λ (r : Option ℕ). suc (unwrap_or r 0)) (lookup-below k e es s less) in
      ap (λ a. spread (match_ordering a ((k, v) ∷ e ∷ es) ((e.0, v) ∷ es) (e ∷ insert_entry cmp es k v))) less
      ∙ ap (λ m. replicate m k ++ spread (e ∷ es)) none
      ∙ sym (insert-here k e.0 e.1 (spread es) some (ap is_gt less)))
      (λ same.
      let found : v ≡ suc e.1 = ap (λ a. suc (unwrap_or (cond (is_eq a) (Some e.1) (lookup (is_at (cmp k)) es)) 0)) same in
      ap (λ a. spread (match_ordering a ((k, v) ∷ e ∷ es) ((e.0, v) ∷ es) (e ∷ insert_entry cmp es k v))) same
      ∙ ap (λ m. replicate m e.0 ++ spread es) found
      ∙ ap (λ x. x ∷ (replicate e.1 e.0 ++ spread es)) (sym (o.exact k e.0 same))
      ∙ sym (insert-here k e.0 e.1 (spread es) some (ap is_gt same)))
      (λ above.
      let rest : v ≡ suc (unwrap_or (lookup (is_at (cmp k)) es) 0) = ap (λ a. suc (unwrap_or (cond (is_eq a) (Some e.1) (lookup (is_at (cmp k)) es)) 0)) above in
      ap (λ a. spread (match_ordering a ((k, v) ∷ e ∷ es) ((e.0, v) ∷ es) (e ∷ insert_entry cmp es k v))) above
      ∙ ap (λ w. replicate e.1 e.0 ++ spread (insert_entry cmp es k w)) rest
      ∙ ap (λ xs. replicate e.1 e.0 ++ xs) (spread-more k es (sorted-tail e.0 (keys_of es) s) (All-tail (λ (n : ℕ). 0 < n) e.1 (values_of es) c))
      ∙ sym (insert-below k e.0 e.1 (spread es) above))

  some_same : (a b : ℕ) → Some a ≡ Some b → a ≡ b
  some_same a b h = cc

  -- the last one of the key, if there is one
  pub spread-removed : (k : K) (es : List (K × ℕ)) → Counted es → unwrap_or (lookup (is_at (cmp k)) es) 0 ≤ 1 → spread (remove_entry (is_at (cmp k)) es) ≡ without cmp k (spread es)
  spread-removed k [] c h = refl
  spread-removed k (e ∷ es) c h =
      let some = All-head (λ (n : ℕ). 0 < n) e.1 (values_of es) c in
      by_bool (is_eq (cmp k e.0))
      (λ yes.
      let found : unwrap_or (cond (is_eq (cmp k e.0)) (Some e.1) (lookup (is_at (cmp k)) es)) 0 ≡ e.1 = ap (λ b. unwrap_or (cond b (Some e.1) (lookup (is_at (cmp k)) es)) 0) yes in
      let one : e.1 ≡ 1 = omega arith in
      ap (λ b. spread (cond b es (e ∷ remove_entry (is_at (cmp k)) es))) yes
      ∙ ap (λ b. cond b (spread es) (e.0 ∷ without cmp k (spread es))) (sym yes)
      ∙ ap (λ m. without cmp k (replicate m e.0 ++ spread es)) (sym one))
      (λ no.
      let rest : unwrap_or (cond (is_eq (cmp k e.0)) (Some e.1) (lookup (is_at (cmp k)) es)) 0 ≡ unwrap_or (lookup (is_at (cmp k)) es) 0 = ap (λ b. unwrap_or (cond b (Some e.1) (lookup (is_at (cmp k)) es)) 0) no in
      ap (λ b. spread (cond b es (e ∷ remove_entry (is_at (cmp k)) es))) no
      ∙ ap (λ xs. replicate e.1 e.0 ++ xs) (spread-removed k es (All-tail (λ (n : ℕ). 0 < n) e.1 (values_of es) c) (omega arith))
      ∙ sym (without-other k e.0 e.1 (spread es) no))

  is_in-some : (k x : K) (m : ℕ) (xs : List K) → 0 < m → is_in cmp k (replicate m x ++ xs) ≡ (is_eq (cmp k x) || is_in cmp k xs)
  is_in-some k x zero xs some = absurd (omega arith)
  is_in-some k x (suc zero) xs some = refl
  is_in-some k x (suc (suc m)) xs some =
      ap (λ b. is_eq (cmp k x) || b) (is_in-some k x (suc m) xs (omega arith)) ∙ or_twice (is_eq (cmp k x)) (is_in cmp k xs)

  -- an item is in the bag exactly if its key has an entry
  pub is_in-spread : (k : K) (es : List (K × ℕ)) → Counted es → is_in cmp k (spread es) ≡ is_some (lookup (is_at (cmp k)) es)
  is_in-spread k [] c = refl
  is_in-spread k (e ∷ es) c =
      let i = is_in-spread k es (All-tail (λ (n : ℕ). 0 < n) e.1 (values_of es) c) in
      is_in-some k e.0 e.1 (spread es) (All-head (λ (n : ℕ). 0 < n) e.1 (values_of es) c)
      ∙ by_bool (is_eq (cmp k e.0))
      (λ yes. ap (λ b. b || is_in cmp k (spread es)) yes ∙ ap (λ b. is_some (cond b (Some e.1) (lookup (is_at (cmp k)) es))) (sym yes))
      (λ no. ap (λ b. b || is_in cmp k (spread es)) no ∙ i ∙ ap (λ b. is_some (cond b (Some e.1) (lookup (is_at (cmp k)) es))) (sym no))

  pub count-le : (k : K) (es : List (K × ℕ)) → unwrap_or (lookup (is_at (cmp k)) es) 0 ≤ length (spread es)
  count-le k [] = omega arith
  count-le k (e ∷ es) =
      let whole = length-append (replicate e.1 e.0) (spread es) in
      let l = length-replicate e.1 e.0 in
      by_bool (is_eq (cmp k e.0))
      (λ yes.
      let found = ap (λ b. unwrap_or (cond b (Some e.1) (lookup (is_at (cmp k)) es)) 0) yes in
      omega arith)
      (λ no.
      let rest = ap (λ b. unwrap_or (cond b (Some e.1) (lookup (is_at (cmp k)) es)) 0) no in
      let i = count-le k es in
      omega arith)

  -- one of several of the key
  pub spread-fewer : (k : K) (n : ℕ) (es : List (K × ℕ)) → lookup (is_at (cmp k)) es ≡ Some (suc n) → spread (set_value (is_at (cmp k)) es n) ≡ without cmp k (spread es)
  spread-fewer k n [] h = cc
  spread-fewer k n (e ∷ es) h =
      by_bool (is_eq (cmp k e.0))
      (λ yes.
      let one : e.1 ≡ suc n = some_same e.1 (suc n) (ap (λ b. cond b (Some e.1) (lookup (is_at (cmp k)) es)) (sym yes) ∙ h) in
      ap (λ b. spread (cond b ((e.0, n) ∷ es) (e ∷ set_value (is_at (cmp k)) es n))) yes
      ∙ ap (λ b. cond b (replicate n e.0 ++ spread es) (e.0 ∷ without cmp k (replicate n e.0 ++ spread es))) (sym yes)
      ∙ ap (λ m. without cmp k (replicate m e.0 ++ spread es)) (sym one))
      (λ no.
      let rest = ap (λ b. cond b (Some e.1) (lookup (is_at (cmp k)) es)) (sym no) ∙ h in
      ap (λ b. spread (cond b ((e.0, n) ∷ es) (e ∷ set_value (is_at (cmp k)) es n))) no
      ∙ ap (λ xs. replicate e.1 e.0 ++ xs) (spread-fewer k n es rest)
      ∙ sym (without-other k e.0 e.1 (spread es) no))

pub some_above : (r : Option ℕ) → 1 < unwrap_or r 0 → IsSome r × (r ≡ Some (suc (unwrap_or r 0 - 1)))
some_above None h = absurd (omega arith)
some_above (Some n) h = (refl, ap (λ m. Some m) (omega arith))
