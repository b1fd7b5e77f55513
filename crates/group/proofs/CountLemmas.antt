-- What is kept of a group counts its rows, through each row that enters or leaves.
use Rattle.std.proofs.Common.{◌≡◌, ℕ, ℤ, zero, suc, ◌+◌, ◌-◌, ◌<◌, ◌≤◌, pos, negsuc, neg_ℤ, ◌+ℤ◌, ◌-ℤ◌, Bool, true, false, cond, nat_lt, Option, Some, None, unwrap_or, List, [], ◌∷◌, length, replicate, refl, sym, ap, ap₂, ◌∙◌, subst, arith, ltb-true, ltb-false}
use Rattle.std.specs.declared.cmp.Ordering.{Ordering}
use Rattle.std.specs.declared.cmp.Ordering.TheVariants.{Less, Equal, Greater}
use Rattle.std.specs.Ordering.{is_eq, match_ordering, ordering_reverse}
use Rattle.std.specs.Map.{lookup, set_value, remove_entry, keys_of}
use Rattle.std.specs.BTreeMap.{is_at, insert_entry}
use Rattle.std.specs.Option.{is_some}
use Rattle.std.specs.Cmp.{eq_by_cmp_equiv}
use Rattle.std.specs.List.{AllByRecursion}
use Rattle.std.specs.List.Sorted.{IsStrictlySortedBy}
use Rattle.std.proofs.lemmas.Map.{lookup-set_value, lookup-remove_entry, keys-set_value}
use Rattle.std.proofs.lemmas.Map.Keys.{IsDistinct-from_sorted}
use Rattle.std.proofs.lemmas.Int.{ints}
use Rattle.values.specs.Orders.{IsExactOrder}
use Rattle.values.specs.Row.{Row, same_row, value_cmp}
use Rattle.values.proofs.Order.{value_order}
use Rattle.values.specs.declared.resolved.ListItem.{ListItem}
use Rattle.op_queue.specs.Signed.{weigh, Same, Adds}
use Rattle.group.specs.Groups.{GroupBy, key_in}
use Rattle.group.specs.Cells.{Values, count_of, one_more, one_less, values_by, TallyState, tally_zero, tally_by, tally_after, tallies_after, number_of, keeps, CellState, cell_zero, cell_after}
use Rattle.group.specs.Laws.{members, some_by, over_by, under_by, copy_by, some_count, HoldsNumbers, Tallies, AllTally, Counts}
use Rattle.group.proofs.KeyLemmas.{lookup-insert_entry, same_test, same_turned, same_key, key_itself}
use Rattle.group.proofs.BagLemmas.{weigh-filter}

-- ORDER OF KEYS
module _ {K : Type 0} (cmp : K → K → Ordering) (order : IsExactOrder cmp) where
  pub above_all : (k j : K) (ks : List K) → cmp k j ≡ Less → AllByRecursion (λ y. cmp j y ≡ Less) ks → AllByRecursion (λ y. cmp k y ≡ Less) ks
  above_all k j [] h a = tt
  above_all k j (y ∷ ks) h a = (order.total.trans k j y h a.0, above_all k j ks h a.1)

module _ {K V : Type 0} (cmp : K → K → Ordering) (order : IsExactOrder cmp) where
  insert_all : (P : K → Type 0) (k : K) (v : V) (es : List (K × V)) → P k → AllByRecursion P (keys_of es) → AllByRecursion P (keys_of (insert_entry cmp es k v))
  insert_all P k v [] p a = (p, tt)
  insert_all P k v (e ∷ es) p a = here (cmp k e.0) (insert_all P k v es p a.1)
    where
      here : (o : Ordering) → AllByRecursion P (keys_of (insert_entry cmp es k v)) → AllByRecursion P (keys_of (match_ordering o ((k, v) ∷ e ∷ es) ((e.0, v) ∷ es) (e ∷ insert_entry cmp es k v)))
      here Less i = (p, a)
      here Equal i = a
      here Greater i = (a.0, i)

  pub sorted-insert_entry : (k : K) (v : V) (es : List (K × V)) → IsStrictlySortedBy cmp (keys_of es) → IsStrictlySortedBy cmp (keys_of (insert_entry cmp es k v))
  unfolding IsStrictlySortedBy
  sorted-insert_entry k v [] s = (tt, tt)
  sorted-insert_entry k v (e ∷ es) s = here (cmp k e.0) refl (sorted-insert_entry k v es s.1)
    where
      here : (o : Ordering) → cmp k e.0 ≡ o → IsStrictlySortedBy cmp (keys_of (insert_entry cmp es k v)) → IsStrictlySortedBy cmp (keys_of (match_ordering o ((k, v) ∷ e ∷ es) ((e.0, v) ∷ es) (e ∷ insert_entry cmp es k v)))
      here Less h i = ((h, above_all cmp order k e.0 (keys_of es) h s.0), s)
      here Equal h i = s
      here Greater h i = (insert_all (λ y. cmp e.0 y ≡ Less) k v es (order.total.antisymm e.0 k ∙ ap ordering_reverse h) s.0, i)

  remove_all : (P : K → Type 0) (t : K → Bool) (es : List (K × V)) → AllByRecursion P (keys_of es) → AllByRecursion P (keys_of (remove_entry t es))
  remove_all P t [] a = tt
  remove_all P t (e ∷ es) a = here (t e.0) (remove_all P t es a.1)
    where
      here : (b : Bool) → AllByRecursion P (keys_of (remove_entry t es)) → AllByRecursion P (keys_of (cond b es (e ∷ remove_entry t es)))
      here true i = a.1
      here false i = (a.0, i)

  pub sorted-remove_entry : (t : K → Bool) (es : List (K × V)) → IsStrictlySortedBy cmp (keys_of es) → IsStrictlySortedBy cmp (keys_of (remove_entry t es))
  unfolding IsStrictlySortedBy
  sorted-remove_entry t [] s = tt
  sorted-remove_entry t (e ∷ es) s = here (t e.0) (sorted-remove_entry t es s.1)
    where
      here : (b : Bool) → IsStrictlySortedBy cmp (keys_of (remove_entry t es)) → IsStrictlySortedBy cmp (keys_of (cond b es (e ∷ remove_entry t es)))
      here true i = s.1
      here false i = (remove_all (λ y. cmp e.0 y ≡ Less) t es s.0, i)

  pub sorted-set_value : (t : K → Bool) (v : V) (es : List (K × V)) → IsStrictlySortedBy cmp (keys_of es) → IsStrictlySortedBy cmp (keys_of (set_value t es v))
  sorted-set_value t v es s = subst (IsStrictlySortedBy cmp) (sym (keys-set_value t es v)) s

-- HOW OFTEN EACH VALUE STANDS
counted_is : (n : ℕ) → unwrap_or (some_count n) 0 ≡ n
counted_is zero = refl
counted_is (suc n) = refl

-- one more of the number z, where the rows have one more
more_counts : (z : ℤ) (es : Values) (before after : Option ℤ → ℕ) → ((v : Option ℤ) → lookup (is_at (value_cmp v)) es ≡ some_count (before v)) → ((v : Option ℤ) → after v ≡ copy_by v (Some z) + before v) → (v : Option ℤ) → lookup (is_at (value_cmp v)) (one_more (Some z) es) ≡ some_count (after v)
more_counts z es before after h a v = lookup-insert_entry value_cmp value_order (Some z) v (count_of (Some z) es + 1) es ∙ here (is_eq (value_cmp v (Some z))) refl
  where
    here : (b : Bool) → is_eq (value_cmp v (Some z)) ≡ b → cond b (Some (count_of (Some z) es + 1)) (lookup (is_at (value_cmp v)) es) ≡ some_count (after v)
    here false e = h v ∙ ap some_count (omega (arith, a v, ap {B = ℕ} (λ (c : Bool). cond c 1 0) e))
    here true e =
        let s : v ≡ Some z = same_key value_cmp value_order v (Some z) e in
        let n : count_of (Some z) es ≡ before v = ap (λ (r : Option ℕ). unwrap_or r 0) (h (Some z)) ∙ counted_is (before (Some z)) ∙ ap before (sym s) in
        let m : after v ≡ suc (before v) = omega (arith, a v, ap {B = ℕ} (λ (c : Bool). cond c 1 0) e) in
        let k : count_of (Some z) es + 1 ≡ suc (before v) = omega (arith, n) in
        ap (λ (c : ℕ). Some c) k ∙ sym (ap some_count m)

-- one less
less_counts : (z : ℤ) (es : Values) (before after : Option ℤ → ℕ) → IsStrictlySortedBy value_cmp (keys_of es) → ((v : Option ℤ) → lookup (is_at (value_cmp v)) es ≡ some_count (before v)) → ((v : Option ℤ) → before v ≡ copy_by v (Some z) + after v) → (v : Option ℤ) → lookup (is_at (value_cmp v)) (one_less (Some z) es) ≡ some_count (after v)
less_counts z es before after sorted h a v = by_count (nat_lt 1 (count_of (Some z) es)) refl
  where
    k : Option ℤ
    k = Some z

    n_is : count_of k es ≡ before k
    n_is = ap (λ (r : Option ℕ). unwrap_or r 0) (h k) ∙ counted_is (before k)

    one : before k ≡ suc (after k)
    one = omega (arith, a k, ap {B = ℕ} (λ (c : Bool). cond c 1 0) (key_itself value_cmp value_order k))

    some_at : (n : ℕ) → before k ≡ suc n → is_some (lookup (is_at (value_cmp k)) es) ≡ true
    some_at n e = ap is_some (h k ∙ ap some_count e)

    other : is_eq (value_cmp v k) ≡ false → lookup (is_at (value_cmp v)) es ≡ some_count (after v)
    other e = h v ∙ ap some_count (omega (arith, a v, ap {B = ℕ} (λ (c : Bool). cond c 1 0) e))

    set_at : (b : Bool) → is_eq (value_cmp v k) ≡ b → 1 < count_of k es → cond b (Some (count_of k es - 1)) (lookup (is_at (value_cmp v)) es) ≡ some_count (after v)
    set_at false e g = other e
    set_at true e g =
        let s : v ≡ k = same_key value_cmp value_order v k e in
        some_of (after v) (count_of k es - 1) (omega (arith, n_is, one, ap after s, g)) (omega (arith, g))
      where
        some_of : (m n : ℕ) → n ≡ m → 0 < n → Some n ≡ some_count m
        some_of zero n e g = absurd (omega (arith, e, g))
        some_of (suc m) n e g = ap (λ (c : ℕ). Some c) e

    gone_at : (b : Bool) → is_eq (value_cmp v k) ≡ b → count_of k es ≤ 1 → cond b None (lookup (is_at (value_cmp v)) es) ≡ some_count (after v)
    gone_at false e g = other e
    gone_at true e g =
        let s : v ≡ k = same_key value_cmp value_order v k e in
        let n : after v ≡ zero = omega (arith, n_is, one, ap after s, g) in
        sym (ap some_count n)

    by_count : (b : Bool) → nat_lt 1 (count_of k es) ≡ b → lookup (is_at (value_cmp v)) (cond b (set_value (is_at (value_cmp k)) es (count_of k es - 1)) (remove_entry (is_at (value_cmp k)) es)) ≡ some_count (after v)
    by_count true g =
        lookup-set_value (eq_by_cmp_equiv value_order.total) (is_at (value_cmp k)) (same_test value_cmp value_order k) v (count_of k es - 1) es (some_at (after k) one)
        ∙ ap (λ (b : Bool). cond b (Some (count_of k es - 1)) (lookup (is_at (value_cmp v)) es)) (same_turned value_cmp value_order k v)
        ∙ set_at (is_eq (value_cmp v k)) refl (ltb-true 1 (count_of k es) g)
    by_count false g =
        lookup-remove_entry (eq_by_cmp_equiv value_order.total) (is_at (value_cmp k)) (same_test value_cmp value_order k) v es (IsDistinct-from_sorted value_cmp (keys_of es) sorted)
        ∙ ap (λ (b : Bool). cond b None (lookup (is_at (value_cmp v)) es)) (same_turned value_cmp value_order k v)
        ∙ gone_at (is_eq (value_cmp v k)) refl (ltb-false 1 (count_of k es) g)

sorted_less : (v : Option ℤ) (es : Values) → IsStrictlySortedBy value_cmp (keys_of es) → IsStrictlySortedBy value_cmp (keys_of (one_less v es))
sorted_less v es s = here (nat_lt 1 (count_of v es))
  where
    here : (b : Bool) → IsStrictlySortedBy value_cmp (keys_of (cond b (set_value (is_at (value_cmp v)) es (count_of v es - 1)) (remove_entry (is_at (value_cmp v)) es)))
    here true = sorted-set_value value_cmp value_order (is_at (value_cmp v)) (count_of v es - 1) es s
    here false = sorted-remove_entry value_cmp value_order (is_at (value_cmp v)) es s

-- A TALLY
numbers_more : (m n : ℕ) → n ≡ 1 + m → pos m +ℤ pos 1 ≡ pos n
numbers_more m n h = omega (arith, ints, h)

numbers_less : (m n : ℕ) → m ≡ 1 + n → pos m +ℤ neg_ℤ (pos 1) ≡ pos n
numbers_less m n h = omega (arith, ints, h)

pub total_more : (z : ℤ) (m n o u : ℕ) → o ≡ over_by (Some z) + m → u ≡ under_by (Some z) + n → pos m -ℤ pos n +ℤ z ≡ pos o -ℤ pos u
total_more (pos k) m n o u h g = omega (arith, ints, h, g)
total_more (negsuc k) m n o u h g = omega (arith, ints, h, g)

total_less : (z : ℤ) (m n o u : ℕ) → m ≡ over_by (Some z) + o → n ≡ under_by (Some z) + u → pos m -ℤ pos n +ℤ neg_ℤ z ≡ pos o -ℤ pos u
total_less (pos k) m n o u h g = omega (arith, ints, h, g)
total_less (negsuc k) m n o u h g = omega (arith, ints, h, g)

-- the same weights: a tally of one bag is one of the other
tally_same : (i : ListItem) (t : TallyState) (xs ys : List Row) → Same xs ys → Tallies i t xs → Tallies i t ys
tally_same i t xs ys s h = record {
  numbers = h.numbers ∙ ap pos (s.weighs (λ x. some_by (number_of i x)));
  total = h.total ∙ ap₂ (λ (m n : ℕ). pos m -ℤ pos n) (s.weighs (λ x. over_by (number_of i x))) (s.weighs (λ x. under_by (number_of i x)));
  values = λ k. let v = h.values k in record { counts = λ q. v.counts q ∙ ap some_count (s.weighs (λ x. copy_by q (number_of i x))); sorted = v.sorted };
}

none_same : (i : ListItem) (t : TallyState) (r : Row) (xs ys : List Row) → number_of i r ≡ None → ((w : Row → ℕ) → w r ≡ 0 → weigh w ys ≡ weigh w xs) → Tallies i t xs → Tallies i t ys
none_same i t r xs ys e s h = record {
  numbers = h.numbers ∙ ap pos (sym (s (λ x. some_by (number_of i x)) (ap some_by e)));
  total = h.total ∙ ap₂ (λ (m n : ℕ). pos m -ℤ pos n) (sym (s (λ x. over_by (number_of i x)) (ap over_by e))) (sym (s (λ x. under_by (number_of i x)) (ap under_by e)));
  values = λ k. let v = h.values k in record { counts = λ q. v.counts q ∙ ap some_count (sym (s (λ x. copy_by q (number_of i x)) (ap (copy_by q) e))); sorted = v.sorted };
}

tally_enters : (i : ListItem) (t : TallyState) (r : Row) (xs ys : List Row) (o : Option ℤ) → number_of i r ≡ o → ((w : Row → ℕ) → weigh w ys ≡ w r + weigh w xs) → Tallies i t xs → Tallies i (tally_by true (keeps i) o t) ys
tally_enters i t r xs ys None e s h = none_same i t r xs ys e (λ w z. omega (arith, s w, z)) h
tally_enters i t r xs ys (Some z) e s h = record {
  numbers = ap (λ (n : ℤ). n +ℤ pos 1) h.numbers ∙ numbers_more (weigh (λ x. some_by (number_of i x)) xs) (weigh (λ x. some_by (number_of i x)) ys) (omega (arith, s (λ x. some_by (number_of i x)), ap some_by e));
  total = ap (λ (n : ℤ). n +ℤ z) h.total ∙ total_more z (weigh (λ x. over_by (number_of i x)) xs) (weigh (λ x. under_by (number_of i x)) xs) (weigh (λ x. over_by (number_of i x)) ys) (weigh (λ x. under_by (number_of i x)) ys) (omega (arith, s (λ x. over_by (number_of i x)), ap over_by e)) (omega (arith, s (λ x. under_by (number_of i x)), ap under_by e));
  values = λ k. kept (keeps i) k (h.values k);
}
  where
    kept : (b : Bool) → b ≡ true → HoldsNumbers i t.values xs → HoldsNumbers i (cond b (values_by true (Some z) t.values) t.values) ys
    kept false k v = cc
    kept true k v = record {
      counts = more_counts z t.values (λ q. weigh (λ x. copy_by q (number_of i x)) xs) (λ q. weigh (λ x. copy_by q (number_of i x)) ys) v.counts (λ q. omega (arith, s (λ x. copy_by q (number_of i x)), ap (copy_by q) e));
      sorted = sorted-insert_entry value_cmp value_order (Some z) (count_of (Some z) t.values + 1) t.values v.sorted;
    }

tally_leaves : (i : ListItem) (t : TallyState) (r : Row) (xs ys : List Row) (o : Option ℤ) → number_of i r ≡ o → ((w : Row → ℕ) → weigh w xs ≡ w r + weigh w ys) → Tallies i t xs → Tallies i (tally_by false (keeps i) o t) ys
tally_leaves i t r xs ys None e s h = none_same i t r xs ys e (λ w z. omega (arith, s w, z)) h
tally_leaves i t r xs ys (Some z) e s h = record {
  numbers = ap (λ (n : ℤ). n +ℤ neg_ℤ (pos 1)) h.numbers ∙ numbers_less (weigh (λ x. some_by (number_of i x)) xs) (weigh (λ x. some_by (number_of i x)) ys) (omega (arith, s (λ x. some_by (number_of i x)), ap some_by e));
  total = ap (λ (n : ℤ). n +ℤ neg_ℤ z) h.total ∙ total_less z (weigh (λ x. over_by (number_of i x)) xs) (weigh (λ x. under_by (number_of i x)) xs) (weigh (λ x. over_by (number_of i x)) ys) (weigh (λ x. under_by (number_of i x)) ys) (omega (arith, s (λ x. over_by (number_of i x)), ap over_by e)) (omega (arith, s (λ x. under_by (number_of i x)), ap under_by e));
  values = λ k. kept (keeps i) k (h.values k);
}
  where
    kept : (b : Bool) → b ≡ true → HoldsNumbers i t.values xs → HoldsNumbers i (cond b (values_by false (Some z) t.values) t.values) ys
    kept false k v = cc
    kept true k v = record {
      counts = less_counts z t.values (λ q. weigh (λ x. copy_by q (number_of i x)) xs) (λ q. weigh (λ x. copy_by q (number_of i x)) ys) v.sorted v.counts (λ q. omega (arith, s (λ x. copy_by q (number_of i x)), ap (copy_by q) e));
      sorted = sorted_less (Some z) t.values v.sorted;
    }

-- what a signed row does to each weight
plus_weighs : {xs ys : List Row} {r : Row} → Adds xs ((true, r) ∷ []) ys → (w : Row → ℕ) → weigh w ys ≡ w r + weigh w xs
unfolding weigh
plus_weighs a w = omega (arith, a.weighs w)

minus_weighs : {xs ys : List Row} {r : Row} → Adds xs ((false, r) ∷ []) ys → (w : Row → ℕ) → weigh w xs ≡ w r + weigh w ys
unfolding weigh
minus_weighs a w = omega (arith, a.weighs w)

tally_row : (i : ListItem) (t : TallyState) (s : Bool × Row) (xs ys : List Row) → Adds xs (s ∷ []) ys → Tallies i t xs → Tallies i (tally_after s i t) ys
tally_row i t (true, r) xs ys a h = tally_enters i t r xs ys (number_of i r) refl (plus_weighs a) h
tally_row i t (false, r) xs ys a h = tally_leaves i t r xs ys (number_of i r) refl (minus_weighs a) h

-- A GROUP
tallies_row : (is : List ListItem) (ts : List TallyState) (s : Bool × Row) (xs ys : List Row) → Adds xs (s ∷ []) ys → AllTally is ts xs → AllTally is (tallies_after s is ts) ys
tallies_row [] [] s xs ys a h = tt
tallies_row [] (t ∷ ts) s xs ys a h = absurd h
tallies_row (i ∷ is) [] s xs ys a h = absurd h
tallies_row (i ∷ is) (t ∷ ts) s xs ys a h = (tally_row i t s xs ys a h.0, tallies_row is ts s xs ys a h.1)

tallies_same : (is : List ListItem) (ts : List TallyState) (xs ys : List Row) → Same xs ys → AllTally is ts xs → AllTally is ts ys
tallies_same [] [] xs ys a h = tt
tallies_same [] (t ∷ ts) xs ys a h = absurd h
tallies_same (i ∷ is) [] xs ys a h = absurd h
tallies_same (i ∷ is) (t ∷ ts) xs ys a h = (tally_same i t xs ys a h.0, tallies_same is ts xs ys a h.1)

pub counts_same : (is : List ListItem) (c : CellState) (xs ys : List Row) → Same xs ys → Counts is c xs → Counts is c ys
counts_same is c xs ys s h = record { rows = h.rows ∙ ap pos (s.weighs (λ x. 1)); tallies = tallies_same is c.tallies xs ys s h.tallies }

counts_row : (is : List ListItem) (c : CellState) (s : Bool × Row) (xs ys : List Row) → Adds xs (s ∷ []) ys → Counts is c xs → Counts is (cell_after is c s) ys
counts_row is c (true, r) xs ys a h = record { rows = ap (λ (n : ℤ). n +ℤ pos 1) h.rows ∙ numbers_more (weigh (λ x. 1) xs) (weigh (λ x. 1) ys) (plus_weighs a (λ x. 1)); tallies = tallies_row is c.tallies (true, r) xs ys a h.tallies }
counts_row is c (false, r) xs ys a h = record { rows = ap (λ (n : ℤ). n +ℤ neg_ℤ (pos 1)) h.rows ∙ numbers_less (weigh (λ x. 1) xs) (weigh (λ x. 1) ys) (minus_weighs a (λ x. 1)); tallies = tallies_row is c.tallies (false, r) xs ys a h.tallies }

no_values : IsStrictlySortedBy value_cmp (keys_of tally_zero.values)
unfolding IsStrictlySortedBy
no_values = tt

zero_tallies : (is : List ListItem) → AllTally is (replicate (length is) tally_zero) []
unfolding weigh
zero_tallies [] = tt
zero_tallies (i ∷ is) = (record { numbers = refl; total = refl; values = λ k. record { counts = λ q. refl; sorted = no_values } }, zero_tallies is)

pub counts_zero : (is : List ListItem) → Counts is (cell_zero (length is)) []
unfolding weigh
counts_zero is = record { rows = refl; tallies = zero_tallies is }

-- THE ROWS OF A GROUP
pub members_same : (g : GroupBy) (k : Row) (b d : List Row) → Same b d → Same (members g k b) (members g k d)
members_same g k b d s = record { weighs = λ w. weigh-filter w (λ r. same_row k (key_in g.by r)) b ∙ s.weighs (λ x. cond (same_row k (key_in g.by x)) (w x) 0) ∙ sym (weigh-filter w (λ r. same_row k (key_in g.by r)) d) }

pub members_other : (g : GroupBy) (k : Row) (s : Bool × Row) (b d : List Row) → same_row k (key_in g.by s.1) ≡ false → Adds b (s ∷ []) d → Same (members g k b) (members g k d)
members_other g k (true, r) b d e a = record { weighs = λ w. let p : Row → ℕ = λ x. cond (same_row k (key_in g.by x)) (w x) 0 in omega (arith, weigh-filter w (λ r. same_row k (key_in g.by r)) b, weigh-filter w (λ r. same_row k (key_in g.by r)) d, plus_weighs a p, ap {B = ℕ} (λ (c : Bool). cond c (w r) 0) e) }
members_other g k (false, r) b d e a = record { weighs = λ w. let p : Row → ℕ = λ x. cond (same_row k (key_in g.by x)) (w x) 0 in omega (arith, weigh-filter w (λ r. same_row k (key_in g.by r)) b, weigh-filter w (λ r. same_row k (key_in g.by r)) d, minus_weighs a p, ap {B = ℕ} (λ (c : Bool). cond c (w r) 0) e) }

members_row : (g : GroupBy) (k : Row) (s : Bool × Row) (b d : List Row) → same_row k (key_in g.by s.1) ≡ true → Adds b (s ∷ []) d → Adds (members g k b) (s ∷ []) (members g k d)
unfolding weigh
members_row g k (true, r) b d e a = record { weighs = λ w. let p : Row → ℕ = λ x. cond (same_row k (key_in g.by x)) (w x) 0 in omega (arith, weigh-filter w (λ r. same_row k (key_in g.by r)) b, weigh-filter w (λ r. same_row k (key_in g.by r)) d, plus_weighs a p, ap {B = ℕ} (λ (c : Bool). cond c (w r) 0) e) }
members_row g k (false, r) b d e a = record { weighs = λ w. let p : Row → ℕ = λ x. cond (same_row k (key_in g.by x)) (w x) 0 in omega (arith, weigh-filter w (λ r. same_row k (key_in g.by r)) b, weigh-filter w (λ r. same_row k (key_in g.by r)) d, minus_weighs a p, ap {B = ℕ} (λ (c : Bool). cond c (w r) 0) e) }

-- the group k after a row of any group
pub counts_at : (g : GroupBy) (k : Row) (c : CellState) (s : Bool × Row) (b d : List Row) → Adds b (s ∷ []) d → Counts g.items c (members g k b) → Counts g.items (cond (same_row k (key_in g.by s.1)) (cell_after g.items c s) c) (members g k d)
counts_at g k c s b d a h = here (same_row k (key_in g.by s.1)) refl
  where
    here : (t : Bool) → same_row k (key_in g.by s.1) ≡ t → Counts g.items (cond t (cell_after g.items c s) c) (members g k d)
    here true e = counts_row g.items c s (members g k b) (members g k d) (members_row g k s b d e a) h
    here false e = counts_same g.items c (members g k b) (members g k d) (members_other g k s b d e a) h
