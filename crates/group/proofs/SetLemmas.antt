-- Keys in order, each once.
use Rattle.std.proofs.Common.{◌≡◌, ◌==◌, ℕ, zero, suc, ◌<◌, Bool, true, false, List, [], ◌∷◌, ◌++◌, length, fold, slice_index_or, ◌⊎◌, ⊎_elim, inl, inr, refl, sym, ap, ap₂, ◌∙◌, subst, arith}
use Rattle.std.specs.declared.cmp.Ordering.{Ordering}
use Rattle.std.specs.declared.cmp.Ordering.TheVariants.{Less, Equal, Greater}
use Rattle.std.specs.Ordering.{match_ordering, ordering_reverse}
use Rattle.std.specs.BTreeSet.{insert_key}
use Rattle.std.specs.List.{Contains, dedup}
use Rattle.std.specs.List.Sorted.{IsPermutation, IsSorted, IsStrictlySortedBy}
use Rattle.std.proofs.lemmas.Bool.{eq-eqb, ne_eqb}
use Rattle.std.proofs.lemmas.Cmp.{tied_itself}
use Rattle.std.proofs.lemmas.List.Elements.{All-contains, All-from_recursion}
use Rattle.std.proofs.lemmas.List.Kept.{Contains-dedup, Contains-from_dedup, IsStrictlySortedBy-dedup}
use Rattle.std.proofs.lemmas.List.Sorted.{Contains-permutation, IsPermutation-sym}
use Rattle.std.proofs.lemmas.Map.Keys.{sorted_head, sorted_tail}
use Rattle.group.specs.Cells.{Held, held_cmp}
use Rattle.group.specs.Keys.{in_set}
use Rattle.group.specs.Same.{held_eq, held_equiv, held_ties}
use Rattle.group.proofs.KeyLemmas.{held_order, same_key}
use Rattle.group.proofs.StateLemmas.{sorted-insert_key}

-- WHAT STANDS IN A LIST
in-cons : (x z : Held) (xs : List Held) (k : ℕ) → k < length (x ∷ xs) → slice_index_or (x ∷ xs) k z ≡ z → (x ≡ z) ⊎ Contains xs z
in-cons x z xs zero l e = inl e
in-cons x z xs (suc k) l e = inr (k, omega (arith, l), e)

pub in-head : (x z : Held) (xs : List Held) → x ≡ z → Contains (x ∷ xs) z
in-head x z xs e = (0, omega arith, e)

pub in-tail : (x z : Held) (xs : List Held) → Contains xs z → Contains (x ∷ xs) z
in-tail x z xs c = (suc c.0, omega (arith, c.1), c.2)

by-cons : (x z : Held) (xs : List Held) → Contains (x ∷ xs) z → (x ≡ z) ⊎ Contains xs z
by-cons x z xs c = in-cons x z xs c.0 c.1 c.2

-- ONE KEY MORE
pub in-insert : (k z : Held) (ks : List Held) → Contains (insert_key held_cmp ks k) z → (k ≡ z) ⊎ Contains ks z
in-insert k z [] c = by-cons k z [] c
in-insert k z (j ∷ ks) c = here (held_cmp k j) c (in-insert k z ks)
  where
    here : (o : Ordering) → Contains (match_ordering o (k ∷ j ∷ ks) (j ∷ ks) (j ∷ insert_key held_cmp ks k)) z → (Contains (insert_key held_cmp ks k) z → (k ≡ z) ⊎ Contains ks z) → (k ≡ z) ⊎ Contains (j ∷ ks) z
    here Less c ih = by-cons k z (j ∷ ks) c
    here Equal c ih = inr c
    here Greater c ih = ⊎_elim (λ e. inr (in-head j z ks e)) (λ t. ⊎_elim inl (λ u. inr (in-tail j z ks u)) (ih t)) (by-cons j z (insert_key held_cmp ks k) c)

pub has-insert : (k : Held) (ks : List Held) → Contains (insert_key held_cmp ks k) k
has-insert k [] = in-head k k [] refl
has-insert k (j ∷ ks) = here (held_cmp k j) refl (has-insert k ks)
  where
    here : (o : Ordering) → held_cmp k j ≡ o → Contains (insert_key held_cmp ks k) k → Contains (match_ordering o (k ∷ j ∷ ks) (j ∷ ks) (j ∷ insert_key held_cmp ks k)) k
    here Less e ih = in-head k k (j ∷ ks) refl
    here Equal e ih = in-head j k ks (sym (held_order.exact k j e))
    here Greater e ih = in-tail j k (insert_key held_cmp ks k) ih

pub keeps-insert : (k z : Held) (ks : List Held) → Contains ks z → Contains (insert_key held_cmp ks k) z
keeps-insert k z [] c = absurd (omega (arith, c.1))
keeps-insert k z (j ∷ ks) c = here (held_cmp k j) (keeps-insert k z ks)
  where
    here : (o : Ordering) → (Contains ks z → Contains (insert_key held_cmp ks k) z) → Contains (match_ordering o (k ∷ j ∷ ks) (j ∷ ks) (j ∷ insert_key held_cmp ks k)) z
    here Less ih = in-tail k z (j ∷ ks) c
    here Equal ih = c
    here Greater ih = ⊎_elim (λ e. in-head j z (insert_key held_cmp ks k) e) (λ t. in-tail j z (insert_key held_cmp ks k) (ih t)) (by-cons j z ks c)

-- MANY KEYS MORE
pub keeps-fold : (z : Held) (acc ks : List Held) → Contains acc z → Contains (fold (insert_key held_cmp) acc ks) z
keeps-fold z acc [] c = c
keeps-fold z acc (k ∷ ks) c = keeps-fold z (insert_key held_cmp acc k) ks (keeps-insert k z acc c)

pub has-fold : (z : Held) (acc ks : List Held) → Contains ks z → Contains (fold (insert_key held_cmp) acc ks) z
has-fold z acc [] c = absurd (omega (arith, c.1))
has-fold z acc (k ∷ ks) c =
    ⊎_elim
    (λ e. keeps-fold z (insert_key held_cmp acc k) ks (subst (λ (x : Held). Contains (insert_key held_cmp acc k) x) e (has-insert k acc)))
    (λ t. has-fold z (insert_key held_cmp acc k) ks t)
    (by-cons k z ks c)

in-fold : (z : Held) (acc ks : List Held) → Contains (fold (insert_key held_cmp) acc ks) z → Contains acc z ⊎ Contains ks z
in-fold z acc [] c = inl c
in-fold z acc (k ∷ ks) c =
    ⊎_elim
    (λ a. ⊎_elim (λ e. inr (in-head k z ks e)) (λ b. inl b) (in-insert k z acc a))
    (λ t. inr (in-tail k z ks t))
    (in-fold z (insert_key held_cmp acc k) ks c)

pub sorted-fold : (acc ks : List Held) → IsStrictlySortedBy held_cmp acc → IsStrictlySortedBy held_cmp (fold (insert_key held_cmp) acc ks)
sorted-fold acc [] s = s
sorted-fold acc (k ∷ ks) s = sorted-fold (insert_key held_cmp acc k) ks (sorted-insert_key k acc s)

none-sorted : IsStrictlySortedBy held_cmp []
unfolding IsStrictlySortedBy
none-sorted = tt

pub sorted-in_set : (ks : List Held) → IsStrictlySortedBy held_cmp (in_set ks)
sorted-in_set ks = sorted-fold [] ks none-sorted

pub in_set-in : (z : Held) (ks : List Held) → Contains (in_set ks) z → Contains ks z
in_set-in z ks c = ⊎_elim (λ n. absurd (omega (arith, n.1))) (λ t. t) (in-fold z [] ks c)

-- LISTS IN ORDER WITH THE SAME KEYS
pub above : (x z : Held) (xs : List Held) → IsStrictlySortedBy held_cmp (x ∷ xs) → Contains xs z → held_cmp x z ≡ Less
above x z xs s c = All-contains (λ q. held_cmp x q ≡ Less) xs z (All-from_recursion (λ q. held_cmp x q ≡ Less) xs (sorted_head held_cmp x xs s)) c

not_itself : (x z : Held) → x ≡ z → held_cmp x z ≡ Less → ⊥
not_itself x z e l = let t : held_cmp x x ≡ Equal = tied_itself held_order.total x in let u : held_cmp x x ≡ Less = subst (λ (q : Held). held_cmp x q ≡ Less) (sym e) l in cc

not_both : (x y : Held) → held_cmp x y ≡ Less → held_cmp y x ≡ Less → ⊥
not_both x y l m = let t : held_cmp x y ≡ Greater = held_order.total.antisymm x y ∙ ap ordering_reverse m in cc

same_head : (x y : Held) (xs ys : List Held) → IsStrictlySortedBy held_cmp (x ∷ xs) → IsStrictlySortedBy held_cmp (y ∷ ys) → Contains (y ∷ ys) x → Contains (x ∷ xs) y → x ≡ y
same_head x y xs ys s t c d = ⊎_elim (λ e. sym e) (λ i. ⊎_elim (λ e. e) (λ j. absurd (not_both x y (above x y xs s j) (above y x ys t i))) (by-cons x y xs d)) (by-cons y x ys c)

-- a key behind the first one stands behind the first one of the other list
in_rest : (x y z : Held) (xs ys : List Held) → IsStrictlySortedBy held_cmp (x ∷ xs) → x ≡ y → Contains xs z → Contains (y ∷ ys) z → Contains ys z
in_rest x y z xs ys s e c d = ⊎_elim (λ f. absurd (not_itself x z (e ∙ f) (above x z xs s c))) (λ t. t) (by-cons y z ys d)

pub same_sets : (xs ys : List Held) → IsStrictlySortedBy held_cmp xs → IsStrictlySortedBy held_cmp ys → ((z : Held) → Contains xs z → Contains ys z) → ((z : Held) → Contains ys z → Contains xs z) → xs ≡ ys
same_sets [] [] s t f g = refl
same_sets [] (y ∷ ys) s t f g = absurd (omega (arith, (g y (in-head y y ys refl)).1))
same_sets (x ∷ xs) [] s t f g = absurd (omega (arith, (f x (in-head x x xs refl)).1))
same_sets (x ∷ xs) (y ∷ ys) s t f g =
    let e : x ≡ y = same_head x y xs ys s t (f x (in-head x x xs refl)) (g y (in-head y y ys refl)) in
    ap₂ (λ (k : Held) (ks : List Held). k ∷ ks) e
    (same_sets xs ys (sorted_tail held_cmp x xs s) (sorted_tail held_cmp y ys t)
    (λ z c. in_rest x y z xs ys s e c (f z (in-tail x z xs c)))
    (λ z c. in_rest y x z ys xs t (sym e) c (g z (in-tail y z ys c))))

-- a sort and a `dedup` leave each key once, in order
pub settled : (xs ys : List Held) → IsPermutation xs ys → IsSorted held_cmp ys → dedup held_eq ys ≡ in_set xs
settled xs ys moved sorted =
    same_sets (dedup held_eq ys) (in_set xs) (IsStrictlySortedBy-dedup held_order.total held_ties ys sorted) (sorted-in_set xs)
    (λ z c. has-fold z [] xs (Contains-permutation ys xs z (IsPermutation-sym xs ys moved) (Contains-from_dedup held_eq ys z c)))
    (λ z c. Contains-dedup held_equiv (λ x y h. same_key held_cmp held_order x y (sym (held_ties x y) ∙ h)) ys z (Contains-permutation xs ys z moved (in_set-in z xs c)))

-- and once more changes nothing
pub in_set-again : (ks : List Held) → in_set (in_set ks) ≡ in_set ks
in_set-again ks = same_sets (in_set (in_set ks)) (in_set ks) (sorted-in_set (in_set ks)) (sorted-in_set ks) (λ z c. in_set-in z (in_set ks) c) (λ z c. has-fold z [] (in_set ks) c)

pub in_set-more : (ks : List Held) (k : Held) → in_set (ks ++ k ∷ []) ≡ insert_key held_cmp (in_set ks) k
in_set-more ks k = more [] ks
  where
    more : (acc js : List Held) → fold (insert_key held_cmp) acc (js ++ k ∷ []) ≡ insert_key held_cmp (fold (insert_key held_cmp) acc js) k
    more acc [] = refl
    more acc (j ∷ js) = more (insert_key held_cmp acc j) js

-- a list of which the set is empty has no keys
none-in_set : (ks : List Held) → in_set ks ≡ [] → ks ≡ []
none-in_set [] h = refl
none-in_set (k ∷ ks) h =
    absurd (omega (arith, (subst (λ s. Contains s k) h (has-fold k [] (k ∷ ks) (in-head k k ks refl))).1))

apart : true ≡ false → ⊥
apart e = absurd (cc)

filled : (k : Held) (ks : List Held) → k ∷ ks ≡ [] → ⊥
filled k ks e = absurd (cc)

-- two lists, of which the first is empty, have an empty set where the second is empty too
pub are_none : (ts qs : List Held) (n m : ℕ) (a b : Bool) (set : List Held) → length ts ≡ n → length qs ≡ m → a ≡ (n == 0) → a ≡ true → b ≡ (m == 0) → in_set (ts ++ qs) ≡ set
    → (b ≡ true → set ≡ []) × (set ≡ [] → b ≡ true)
are_none [] [] n m a b set len more first is second same = (λ e. sym same, λ e. second ∙ eq-eqb m 0 (sym more))
are_none [] (q ∷ qs) n m a b set len more first is second same =
    let none : b ≡ false = second ∙ ne_eqb m 0 (λ e. omega (arith, e, more)) in
    (λ e. absurd (apart (sym e ∙ none)), λ e. absurd (filled q qs (none-in_set (q ∷ qs) (same ∙ e))))
are_none (t ∷ ts) qs n m a b set len more first is second same =
    let none : a ≡ false = first ∙ ne_eqb n 0 (λ e. omega (arith, e, len)) in
    absurd (apart (sym is ∙ none))

-- and where the first is not, it has a key
pub are_some : (ts qs : List Held) (n : ℕ) (a : Bool) (set : List Held) → length ts ≡ n → a ≡ (n == 0) → a ≡ false → in_set (ts ++ qs) ≡ set
    → (false ≡ true → set ≡ []) × (set ≡ [] → false ≡ true)
are_some [] qs n a set len first is same =
    let all : a ≡ true = first ∙ eq-eqb n 0 (sym len) in
    absurd (apart (sym all ∙ is))
are_some (t ∷ ts) qs n a set len first is same =
    (λ e. absurd (apart (sym e)), λ e. absurd (filled t (ts ++ qs) (none-in_set (t ∷ ts ++ qs) (same ∙ e))))
