-- The figures of a group are the values of the list's items.
use Rattle.std.proofs.Common.{◌≡◌, ℕ, ℤ, zero, suc, ◌+◌, ◌-◌, ◌<◌, ◌≤◌, ◌^◌, pos, negsuc, ◌+ℤ◌, ◌-ℤ◌, ◌≤ℤ◌, ◌<ℤ◌, Bool, true, false, cond, Option, Some, None, unwrap_or, List, [], ◌∷◌, map, length, fold, ◌⊎◌, ⊎_elim, inl, inr, refl, sym, ap, ap₂, ◌∙◌, subst, arith}
use Rattle.std.specs.declared.cmp.Ordering.TheVariants.{Less, Greater}
use Rattle.std.specs.Ordering.{is_eq, int_cmp, int_eq, ordering_reverse}
use Rattle.std.specs.Map.{lookup, keys_of}
use Rattle.std.specs.BTreeMap.{is_at}
use Rattle.std.specs.List.{AllByRecursion, reduce, slice_get, cons_option, All, Contains}
use Rattle.std.specs.List.Sorted.{IsStrictlySortedBy}
use Rattle.std.specs.Int.{int_min, int_max}
use Rattle.std.specs.Option.{option_map}
use Rattle.std.specs.Cmp.{int_cmp_is}
use Rattle.std.proofs.lemmas.Cmp.{int_ranked}
use Rattle.std.proofs.lemmas.Int.{ints, clamps, fold-int_min_bounds, fold-int_min_reached, fold-int_max_bounds, fold-int_max_reached}
use Rattle.values.specs.Row.{Row, value_cmp}
use Rattle.values.specs.Value.{clamp_answer}
use Rattle.values.specs.Condition.{field}
use Rattle.values.specs.Relation.{numbers, item_value}
use Rattle.values.specs.Resolved.{column_of, item_of, items_of}
use Rattle.values.specs.declared.resolved.SourceColumn.{SourceColumn}
use Rattle.values.specs.declared.resolved.ListItem.{ListItem}
use Rattle.values.specs.declared.resolved.ListItem.TheVariants.{Key, CountAll, Of}
use Rattle.values.specs.declared.resolved.Aggregate.TheVariants.{Count, Sum, Min, Max}
use Rattle.values.proofs.Order.{value_order}
use Rattle.op_queue.specs.Signed.{weigh}
use Rattle.group.specs.Cells.{Values, TallyState, number_of, figure, figures, sum_figure, least, greatest, key_or_null, shown_figure}
use Rattle.group.specs.Laws.{some_by, over_by, under_by, copy_by, some_count, HoldsNumbers, Tallies, AllTally}
use Rattle.group.proofs.KeyLemmas.{same_key, key_itself}
use Rattle.group.proofs.CountLemmas.{total_more}

-- NUMBERS
abbrev of_rows : List Row → List (List Row)
of_rows xs = map (λ r. r ∷ []) xs

abbrev numbers_at : SourceColumn → List Row → List ℤ
numbers_at c xs = numbers (column_of c) (of_rows xs)

-- a weight of the numbers that a column has in the rows, nulls weighing nothing
numbers-weigh : (c : SourceColumn) (w : Option ℤ → ℕ) → w None ≡ 0 → (xs : List Row) → weigh (λ x. w (field (x ∷ []) (column_of c))) xs ≡ weigh (λ z. w (Some z)) (numbers_at c xs)
unfolding weigh
numbers-weigh c w n [] = refl
numbers-weigh c w n (x ∷ xs) = here (field (x ∷ []) (column_of c)) (numbers-weigh c w n xs)
  where
    here : (o : Option ℤ) → weigh (λ x. w (field (x ∷ []) (column_of c))) xs ≡ weigh (λ z. w (Some z)) (numbers_at c xs) → w o + weigh (λ x. w (field (x ∷ []) (column_of c))) xs ≡ weigh (λ z. w (Some z)) (cons_option o (numbers_at c xs))
    here None i = omega (arith, n, i)
    here (Some z) i = omega (arith, i)

weigh-one : (ns : List ℤ) → weigh (λ z. 1) ns ≡ length ns
unfolding weigh
weigh-one [] = refl
weigh-one (z ∷ ns) = omega (arith, weigh-one ns)

length-rows : (xs : List Row) → length (of_rows xs) ≡ weigh (λ x. 1) xs
unfolding weigh
length-rows [] = refl
length-rows (x ∷ xs) = omega (arith, length-rows xs)

pub numbers_le : (w : Row → ℕ) → ((x : Row) → w x ≤ 1) → (xs : List Row) → weigh w xs ≤ weigh (λ x. 1) xs
unfolding weigh
numbers_le w h [] = omega arith
numbers_le w h (x ∷ xs) = omega (arith, h x, numbers_le w h xs)

some_le : (o : Option ℤ) → some_by o ≤ 1
some_le None = omega arith
some_le (Some z) = omega arith

clamp_small : (n : ℕ) → n ≤ 2 ^ 62 → clamp_answer (pos n) ≡ pos n
clamp_small n h = omega (arith, ints, clamps, h)

weigh-ext : (w u : Row → ℕ) → ((x : Row) → w x ≡ u x) → (xs : List Row) → weigh w xs ≡ weigh u xs
unfolding weigh
weigh-ext w u e [] = refl
weigh-ext w u e (x ∷ xs) = omega (arith, e x, weigh-ext w u e xs)

first_too : (P : ℤ → Type 0) (z : ℤ) (ns : List ℤ) → P z → All P ns → All P (z ∷ ns)
first_too P z ns p a zero d lt = p
first_too P z ns p a (suc k) d lt = a k d (omega (arith, lt))

-- SUMS
fold_total : (ns : List ℤ) (a : ℤ) (m n : ℕ) → a ≡ pos m -ℤ pos n → fold ◌+ℤ◌ a ns ≡ pos (m + weigh (λ z. over_by (Some z)) ns) -ℤ pos (n + weigh (λ z. under_by (Some z)) ns)
unfolding weigh
fold_total [] a m n e =
    let x : m ≡ m + 0 = omega arith in
    let y : n ≡ n + 0 = omega arith in
    e ∙ ap₂ (λ (x y : ℕ). pos x -ℤ pos y) x y
fold_total (z ∷ ns) a m n e =
    let o = over_by (Some z) + m in
    let u = under_by (Some z) + n in
    let f : a +ℤ z ≡ pos o -ℤ pos u = ap (λ (b : ℤ). b +ℤ z) e ∙ total_more z m n o u refl refl in
    let x : o + weigh (λ z. over_by (Some z)) ns ≡ m + weigh (λ z. over_by (Some z)) (z ∷ ns) = omega arith in
    let y : u + weigh (λ z. under_by (Some z)) ns ≡ n + weigh (λ z. under_by (Some z)) (z ∷ ns) = omega arith in
    fold_total ns (a +ℤ z) o u f ∙ ap₂ (λ (x y : ℕ). pos x -ℤ pos y) x y

one_total : (z : ℤ) → z ≡ pos (over_by (Some z)) -ℤ pos (under_by (Some z))
one_total (pos n) = omega (arith, ints)
one_total (negsuc n) = omega (arith, ints)

is_nought : (n : ℕ) → int_eq (pos (suc n)) (pos 0) ≡ false
is_nought n = ap is_eq (sym (int_cmp_is (pos (suc n)) (pos 0) Greater (omega (arith, ints))))

sum_shown : (ns : List ℤ) (n t : ℤ) → n ≡ pos (length ns) → t ≡ pos (weigh (λ z. over_by (Some z)) ns) -ℤ pos (weigh (λ z. under_by (Some z)) ns) → shown_figure (sum_figure n t) ≡ option_map clamp_answer (reduce ◌+ℤ◌ ns)
unfolding weigh
sum_shown [] n t e f = subst (λ k. shown_figure (sum_figure k t) ≡ None) (sym e) refl
sum_shown (z ∷ ns) n t e f =
    ap (λ k. shown_figure (sum_figure k t)) e
    ∙ ap (λ (b : Bool). shown_figure (cond b (record { number = None; value = None }) (record { number = Some t; value = None }))) (is_nought (length ns))
    ∙ ap (λ k. Some (clamp_answer k)) (f ∙ sym (fold_total ns z (over_by (Some z)) (under_by (Some z)) (one_total z)))

-- THE LEAST AND THE GREATEST
some_count-is : (m n : ℕ) → some_count m ≡ Some n → m ≡ n
some_count-is zero n h = cc
some_count-is (suc m) n h = cc

some_count-none : (m : ℕ) → some_count m ≡ None → m ≡ 0
some_count-none zero h = refl
some_count-none (suc m) h = cc

count_some : (m : ℕ) → 0 < m → some_count m ≡ Some m
count_some zero h = absurd (omega (arith, h))
count_some (suc m) h = refl

-- how often a number stands among some
abbrev times : Option ℤ → List ℤ → ℕ
times v ns = weigh (λ z. copy_by v (Some z)) ns

times_self : (z : ℤ) → copy_by (Some z) (Some z) ≡ 1
times_self z = ap {B = ℕ} (λ (b : Bool). cond b 1 0) (key_itself value_cmp value_order (Some z))

times_first : (z : ℤ) (ns : List ℤ) → 0 < times (Some z) (z ∷ ns)
unfolding weigh
times_first z ns = omega (arith, times_self z)

times_there : (z : ℤ) (ns : List ℤ) → Contains ns z → 0 < times (Some z) ns
unfolding weigh
times_there z [] (k, l, e) = absurd (omega (arith, l))
times_there z (a ∷ ns) (zero, l, e) = subst (λ b. 0 < times (Some b) (a ∷ ns)) e (times_first a ns)
times_there z (a ∷ ns) (suc k, l, e) = let h : Contains ns z = (k, omega (arith, l), e) in omega (arith, times_there z ns h)

times_none : (ns : List ℤ) → times None ns ≡ 0
unfolding weigh
times_none [] = refl
times_none (z ∷ ns) = omega (arith, times_none ns)

some_is : (a z : ℤ) → Some a ≡ Some z → a ≡ z
some_is a z h = ap (λ (o : Option ℤ). unwrap_or o a) h

-- what holds of each of the numbers holds of one that stands among them
among : (P : ℤ → Type 0) (a : ℤ) (ns : List ℤ) → All P ns → 0 < times (Some a) ns → P a
unfolding weigh
among P a [] h t = absurd (omega (arith, t))
among P a (z ∷ ns) h t = here (is_eq (value_cmp (Some a) (Some z))) refl t (among P a ns (λ k d lt. h (suc k) d (omega (arith, lt))))
  where
    here : (b : Bool) → is_eq (value_cmp (Some a) (Some z)) ≡ b → 0 < cond b 1 0 + times (Some a) ns → (0 < times (Some a) ns → P a) → P a
    here true e t i = subst P (sym (some_is a z (same_key value_cmp value_order (Some a) (Some z) e))) (h 0 z (omega arith))
    here false e t i = i (omega (arith, t))

-- a number that stands among some and is not above any is their least
least_among : (a : ℤ) (ns : List ℤ) → 0 < times (Some a) ns → ((z : ℤ) → 0 < times (Some z) ns → a ≤ℤ z) → reduce int_min ns ≡ Some a
unfolding weigh
least_among a [] t h = absurd (omega (arith, t))
least_among a (z ∷ ns) t h =
    let r = fold int_min z ns in
    let b = fold-int_min_bounds z ns r refl in
    let low : a ≤ℤ r = ⊎_elim (λ e. subst (λ q. a ≤ℤ q) (sym e) (h z (times_first z ns))) (λ c. h r (omega (arith, times_there r ns c))) (fold-int_min_reached z ns r refl) in
    let high : r ≤ℤ a = among (λ q. r ≤ℤ q) a (z ∷ ns) (first_too (λ q. r ≤ℤ q) z ns b.0 b.1) t in
    let same : r ≡ a = omega (arith, ints, low, high) in
    ap (λ (q : ℤ). Some q) same

greatest_among : (a : ℤ) (ns : List ℤ) → 0 < times (Some a) ns → ((z : ℤ) → 0 < times (Some z) ns → z ≤ℤ a) → reduce int_max ns ≡ Some a
unfolding weigh
greatest_among a [] t h = absurd (omega (arith, t))
greatest_among a (z ∷ ns) t h =
    let r = fold int_max z ns in
    let b = fold-int_max_bounds z ns r refl in
    let high : r ≤ℤ a = ⊎_elim (λ e. subst (λ q. q ≤ℤ a) (sym e) (h z (times_first z ns))) (λ c. h r (omega (arith, times_there r ns c))) (fold-int_max_reached z ns r refl) in
    let low : a ≤ℤ r = among (λ q. q ≤ℤ r) a (z ∷ ns) (first_too (λ q. q ≤ℤ r) z ns b.0 b.1) t in
    let same : r ≡ a = omega (arith, ints, low, high) in
    ap (λ (q : ℤ). Some q) same

some_positive : (m n : ℕ) → some_count m ≡ Some n → 0 < m
some_positive zero n h = cc
some_positive (suc m) n h = omega arith

-- the keys of a map in order
found_above : (k q : Option ℤ) (es : Values) (m : ℕ) → AllByRecursion (λ y. value_cmp k y ≡ Less) (keys_of es) → lookup (is_at (value_cmp q)) es ≡ Some m → value_cmp k q ≡ Less
found_above k q [] m a h = cc
found_above k q (e ∷ es) m a h = here (is_eq (value_cmp q e.0)) refl h (found_above k q es m a.1)
  where
    here : (b : Bool) → is_eq (value_cmp q e.0) ≡ b → cond b (Some e.1) (lookup (is_at (value_cmp q)) es) ≡ Some m → (lookup (is_at (value_cmp q)) es ≡ Some m → value_cmp k q ≡ Less) → value_cmp k q ≡ Less
    here true e h i = subst (λ z. value_cmp k z ≡ Less) (sym (same_key value_cmp value_order q _ e)) a.0
    here false e h i = i h

less_le : (a z : ℤ) → int_cmp a z ≡ Less → a ≤ℤ z
less_le a z h = let l : a <ℤ z = int_ranked a z Less (sym h) in omega (arith, ints, l)

abbrev HoldsTimes : Values → List ℤ → Type 0
HoldsTimes es ns = (v : Option ℤ) → lookup (is_at (value_cmp v)) es ≡ some_count (times v ns)

no_times : (ns : List ℤ) → HoldsTimes [] ns → ns ≡ []
no_times [] h = refl
no_times (z ∷ ns) h = let n : times (Some z) (z ∷ ns) ≡ 0 = some_count-none (times (Some z) (z ∷ ns)) (sym (h (Some z))) in absurd (omega (arith, n, times_first z ns))

-- a key of the map is a number that stands there
key_there : (es : Values) (ns : List ℤ) (v : Option ℤ) (n : ℕ) → HoldsTimes es ns → lookup (is_at (value_cmp v)) es ≡ Some n → (a : ℤ) × (v ≡ Some a) × (0 < times (Some a) ns)
key_there es ns None n h l = let z : 0 < times None ns = some_positive (times None ns) n (sym (h None) ∙ l) in absurd (omega (arith, z, times_none ns))
key_there es ns (Some a) n h l = (a, refl, some_positive (times (Some a) ns) n (sym (h (Some a)) ∙ l))

least_is : (es : Values) (ns : List ℤ) → HoldsTimes es ns → IsStrictlySortedBy value_cmp (keys_of es) → least es ≡ reduce int_min ns
unfolding IsStrictlySortedBy
least_is [] ns h s = sym (ap (reduce int_min) (no_times ns h))
least_is (e ∷ es) ns h s =
    let first : lookup (is_at (value_cmp e.0)) (e ∷ es) ≡ Some e.1 = ap (λ (b : Bool). cond b (Some e.1) (lookup (is_at (value_cmp e.0)) es)) (key_itself value_cmp value_order e.0) in
    let k = key_there (e ∷ es) ns e.0 e.1 h first in
    k.1 ∙ sym (least_among k.0 ns k.2 (λ z t. at_least z (is_eq (value_cmp (Some z) e.0)) refl (h (Some z) ∙ count_some (times (Some z) ns) t) k.0 k.1))
  where
    at_least : (z : ℤ) (b : Bool) → is_eq (value_cmp (Some z) e.0) ≡ b → cond b (Some e.1) (lookup (is_at (value_cmp (Some z))) es) ≡ Some (times (Some z) ns) → (a : ℤ) → e.0 ≡ Some a → a ≤ℤ z
    at_least z true i l a k = let same : z ≡ a = some_is z a (same_key value_cmp value_order (Some z) e.0 i ∙ k) in omega (arith, ints, same)
    at_least z false i l a k = less_le a z (subst (λ v. value_cmp v (Some z) ≡ Less) k (found_above e.0 (Some z) es (times (Some z) ns) s.0 l))

abbrev last_key : Values → Option ℤ
last_key [] = None
last_key (e ∷ []) = e.0
last_key (e ∷ f ∷ es) = last_key (f ∷ es)

last_at : (e : Option ℤ × ℕ) (es : Values) (i : ℕ) → i ≡ length es → key_or_null (slice_get (e ∷ es) i) ≡ last_key (e ∷ es)
last_at e [] zero h = refl
last_at e [] (suc i) h = absurd (omega (arith, h))
last_at e (f ∷ es) zero h = absurd (omega (arith, h))
last_at e (f ∷ es) (suc i) h = last_at f es i (omega (arith, h))

last_holds : (P : Option ℤ → Type 0) (e : Option ℤ × ℕ) (es : Values) → AllByRecursion P (keys_of (e ∷ es)) → P (last_key (e ∷ es))
last_holds P e [] a = a.0
last_holds P e (f ∷ es) a = last_holds P f es a.1

not_same : (k q : Option ℤ) → value_cmp k q ≡ Less → is_eq (value_cmp q k) ≡ false
not_same k q h = ap is_eq (value_order.total.antisymm q k ∙ ap ordering_reverse h)

last_found : (e : Option ℤ × ℕ) (es : Values) → IsStrictlySortedBy value_cmp (keys_of (e ∷ es)) → (n : ℕ) × (lookup (is_at (value_cmp (last_key (e ∷ es)))) (e ∷ es) ≡ Some n)
unfolding IsStrictlySortedBy
last_found e [] s = (e.1, ap (λ (b : Bool). cond b (Some e.1) None) (key_itself value_cmp value_order e.0))
last_found e (f ∷ es) s =
    let r = last_found f es s.1 in
    let v = last_key (f ∷ es) in
    let apart : is_eq (value_cmp v e.0) ≡ false = not_same e.0 v (last_holds (λ y. value_cmp e.0 y ≡ Less) f es s.0) in
    (r.0, ap (λ (b : Bool). cond b (Some e.1) (lookup (is_at (value_cmp v)) (f ∷ es))) apart ∙ r.1)

found_below : (e : Option ℤ × ℕ) (es : Values) → IsStrictlySortedBy value_cmp (keys_of (e ∷ es)) → (q : Option ℤ) (m : ℕ) → lookup (is_at (value_cmp q)) (e ∷ es) ≡ Some m → (q ≡ last_key (e ∷ es)) ⊎ (value_cmp q (last_key (e ∷ es)) ≡ Less)
unfolding IsStrictlySortedBy
found_below e [] s q m l = here (is_eq (value_cmp q e.0)) refl l
  where
    here : (b : Bool) → is_eq (value_cmp q e.0) ≡ b → cond b (Some e.1) None ≡ Some m → (q ≡ e.0) ⊎ (value_cmp q e.0 ≡ Less)
    here true i l = inl (same_key value_cmp value_order q e.0 i)
    here false i l = cc
found_below e (f ∷ es) s q m l = here (is_eq (value_cmp q e.0)) refl l (found_below f es s.1 q m)
  where
    here : (b : Bool) → is_eq (value_cmp q e.0) ≡ b → cond b (Some e.1) (lookup (is_at (value_cmp q)) (f ∷ es)) ≡ Some m → (lookup (is_at (value_cmp q)) (f ∷ es) ≡ Some m → (q ≡ last_key (f ∷ es)) ⊎ (value_cmp q (last_key (f ∷ es)) ≡ Less)) → (q ≡ last_key (f ∷ es)) ⊎ (value_cmp q (last_key (f ∷ es)) ≡ Less)
    here true i l k = inr (subst (λ v. value_cmp v (last_key (f ∷ es)) ≡ Less) (sym (same_key value_cmp value_order q e.0 i)) (last_holds (λ y. value_cmp e.0 y ≡ Less) f es s.0))
    here false i l k = k l

greatest_is : (es : Values) (ns : List ℤ) → HoldsTimes es ns → IsStrictlySortedBy value_cmp (keys_of es) → greatest es ≡ reduce int_max ns
greatest_is [] ns h s = sym (ap (reduce int_max) (no_times ns h))
greatest_is (e ∷ es) ns h s =
    let f = last_found e es s in
    let k = key_there (e ∷ es) ns (last_key (e ∷ es)) f.0 h f.1 in
    last_at e es (length (e ∷ es) - 1) (omega arith)
    ∙ k.1
    ∙ sym (greatest_among k.0 ns k.2 (λ z t. ⊎_elim
    (λ i. at_most z k.0 (some_is z k.0 (i ∙ k.1)))
    (λ i. less_le z k.0 (subst (λ v. value_cmp (Some z) v ≡ Less) k.1 i))
    (found_below e es s (Some z) (times (Some z) ns) (h (Some z) ∙ count_some (times (Some z) ns) t))))
  where
    at_most : (z a : ℤ) → z ≡ a → z ≤ℤ a
    at_most z a e = omega (arith, ints, e)

-- THE VALUE OF AN ITEM
holds_times : (i : ListItem) (c : SourceColumn) → ((x : Row) → number_of i x ≡ field (x ∷ []) (column_of c)) → (es : Values) (xs : List Row) → HoldsNumbers i es xs → HoldsTimes es (numbers_at c xs)
holds_times i c e es xs h v = h.counts v ∙ ap some_count (weigh-ext (λ x. copy_by v (number_of i x)) (λ x. copy_by v (field (x ∷ []) (column_of c))) (λ x. ap (copy_by v) (e x)) xs ∙ numbers-weigh c (copy_by v) refl xs)

pub figure_is : (k : Row) (n : ℤ) (i : ListItem) (t : TallyState) (xs : List Row) → n ≡ pos (weigh (λ x. 1) xs) → weigh (λ x. 1) xs ≤ 2 ^ 62 → Tallies i t xs → shown_figure (figure k n i t) ≡ item_value k (of_rows xs) (item_of i)
figure_is k n (Key j) t xs e l h = refl
figure_is k n CountAll t xs e l h = ap (λ (z : ℤ). Some (clamp_answer z)) e ∙ ap (λ (z : ℤ). Some z) (clamp_small _ l) ∙ ap (λ (m : ℕ). Some (pos m)) (sym (length-rows xs))
figure_is k n (Of Count c) t xs e l h =
    let m = numbers-weigh c some_by refl xs ∙ weigh-one (numbers_at c xs) in
    ap (λ (z : ℤ). Some (clamp_answer z)) h.numbers
    ∙ ap (λ (z : ℤ). Some z) (clamp_small _ (omega (arith, l, numbers_le (λ x. some_by (field (x ∷ []) (column_of c))) (λ x. some_le (field (x ∷ []) (column_of c))) xs)))
    ∙ ap (λ (m : ℕ). Some (pos m)) m
figure_is k n (Of Sum c) t xs e l h = sum_shown (numbers_at c xs) t.numbers t.total
    (h.numbers ∙ ap pos (numbers-weigh c some_by refl xs ∙ weigh-one (numbers_at c xs)))
    (h.total ∙ ap₂ (λ (a b : ℕ). pos a -ℤ pos b) (numbers-weigh c over_by refl xs) (numbers-weigh c under_by refl xs))
figure_is k n (Of Min c) t xs e l h = let v = h.values refl in least_is t.values (numbers_at c xs) (holds_times (Of Min c) c (λ x. refl) t.values xs v) v.sorted
figure_is k n (Of Max c) t xs e l h = let v = h.values refl in greatest_is t.values (numbers_at c xs) (holds_times (Of Max c) c (λ x. refl) t.values xs v) v.sorted

pub figures_are : (k : Row) (n : ℤ) (is : List ListItem) (ts : List TallyState) (xs : List Row) → n ≡ pos (weigh (λ x. 1) xs) → weigh (λ x. 1) xs ≤ 2 ^ 62 → AllTally is ts xs → map shown_figure (figures k n is ts) ≡ map (item_value k (of_rows xs)) (items_of is)
figures_are k n [] [] xs e l h = refl
figures_are k n [] (t ∷ ts) xs e l h = absurd h
figures_are k n (i ∷ is) [] xs e l h = absurd h
figures_are k n (i ∷ is) (t ∷ ts) xs e l h = ap₂ (λ (v : Option ℤ) (vs : List (Option ℤ)). v ∷ vs) (figure_is k n i t xs e l h.0) (figures_are k n is ts xs e l h.1)
