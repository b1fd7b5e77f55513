-- What groups put out: how wide the rows are, and how many.
use Rattle.std.proofs.Common.{◌≡◌, ℕ, ℤ, zero, suc, ◌+◌, ◌^◌, ◌<◌, ◌≤◌, ◌≤ℤ◌, ◌+ℤ◌, neg_ℤ, pos, max, Bool, true, false, cond, Option, Some, None, List, [], ◌∷◌, ◌++◌, map, filter, fold, length, replicate, refl, sym, ap, subst, ◌≢◌, ◌∙◌, arith, true≢false}
use Rattle.std.specs.List.{All, flat_map, list_any, range_with_len, reduce, cons_option}
use Rattle.std.specs.Int.{int_min, int_max}
use Rattle.std.specs.Option.{option_map}
use Rattle.std.specs.Ordering.{is_eq}
use Rattle.std.proofs.lemmas.Cmp.{eq_by_cmp_equiv}
use Rattle.std.proofs.lemmas.Map.Views.{All-from_any}
use Rattle.std.proofs.lemmas.Int.{ints, clamps}
use Rattle.std.proofs.lemmas.List.{length-map}
use Rattle.std.proofs.lemmas.List.FromFn.{length-map-range_with_len}
use Rattle.std.proofs.lemmas.List.Elements.{All-nil, All-cons, All-head, All-tail, All-append, All-filter, All-map}
use Rattle.values.specs.Bag.{is_same, distinct, without}
use Rattle.values.specs.Row.{Row, row_cmp, same_row, value_at}
use Rattle.values.specs.Value.{answer_max, clamp_answer}
use Rattle.values.specs.Ranges.{IsAnswerValue, IsAnswerNumber}
use Rattle.values.specs.Condition.{SourceColumn, field}
use Rattle.values.specs.Relation as relations
use Rattle.values.specs.Relation.{item_value, numbers, key_of, keys_of as keys_in, group_row}
use Rattle.values.specs.Resolved.{columns_of, item_of, items_of}
use Rattle.values.specs.declared.resolved.Aggregate.TheVariants.{Count, Sum, Min, Max}
use Rattle.values.specs.declared.resolved.ListItem.{ListItem}
use Rattle.values.proofs.Order.{row_order}
use Rattle.op_queue.specs.Signed.{weigh, gain, up}
use Rattle.op_queue.proofs.SignedLemmas.{weigh-append, weigh-map}
use Rattle.row_bags.proofs.OrderLemmas.{copies-weigh, weigh-without}
use Rattle.group.specs.Cells.{Held, held, held_cmp, TallyState, tally_zero, tally_by, tallies_after, keeps, number_of, CellState, cell_after}
use Rattle.group.specs.Groups.{GroupBy, grouped}
use Rattle.group.specs.Turns.{GroupState, beginning, cell_of, row_key, row_after, rows_after, near_at, excerpt, row_now, fitted, same_shown, signed_row, swap_of, outputs, shown_now, shown_after, closed_state}
use Rattle.group.specs.Laws.{count as times, shown_list, shown_rows, touched_keys, Stands}
use Rattle.group.proofs.BagLemmas.{row_is, row_itself, weigh-flat_map}
use Rattle.group.proofs.KeyLemmas.{held_order, cell-taken_in}
use Rattle.group.proofs.StateLemmas.{closed, cell-closing, changes-showns}
use Rattle.laws_queries.specs.Counts.{count}
use Rattle.laws_queries.specs.Runs.{AreLean, KeepsFew}
use Rattle.laws_queries.specs.Widths.{AreRows, IsRow}
use Rattle.laws_queries.proofs.RoomLemmas.{InRange, field_in, value_in}
use Rattle.laws_queries.proofs.WideLemmas.{AreSigned, all_same}

-- NUMBERS THAT ARE KEPT
lean_tally : (enters kept : Bool) (v : Option ℤ) (t : TallyState) → (kept ≡ false → t.values ≡ []) → kept ≡ false → (tally_by enters kept v t).values ≡ []
lean_tally enters true v t h e = absurd (true≢false e)
lean_tally enters false None t h e = h refl
lean_tally enters false (Some z) t h e = h refl

lean_tallies : (s : Bool × Row) (is : List ListItem) (ts : List TallyState) → AreLean is ts → AreLean is (tallies_after s is ts)
lean_tallies s [] ts h = tt
lean_tallies s (i ∷ is) [] h = tt
lean_tallies s (i ∷ is) (t ∷ ts) h = (lean_tally s.0 (keeps i) (number_of i s.1) t h.0, lean_tallies s is ts h.1)

lean_zero : (is : List ListItem) → AreLean is (replicate (length is) tally_zero)
lean_zero [] = tt
lean_zero (i ∷ is) = (λ e. refl, lean_zero is)

-- at the beginning nothing is kept
pub lean_begins : (g : GroupBy) → KeepsFew (beginning g)
lean_begins g k = lean_zero g.items

lean_row : (s : GroupState) (r : Bool × Row) → KeepsFew s → KeepsFew (row_after s r)
lean_row s r h k =
    subst (λ (c : CellState). AreLean s.group.items c.tallies) (sym (cell-taken_in s.group.items (row_key s.group r) (held k) r s.cells))
    (here (is_eq (held_cmp (row_key s.group r) (held k))))
  where
    here : (b : Bool)
        → AreLean s.group.items
        (cond b (cell_after s.group.items (cell_of (length s.group.items) (row_key s.group r) s.cells) r) (cell_of (length s.group.items) (held k) s.cells)).tallies
    here true = lean_tallies r s.group.items _ (h (row_key s.group r).items)
    here false = h k

pub lean_rows : (rs : List (Bool × Row)) (s : GroupState) → KeepsFew s → KeepsFew (rows_after s rs)
lean_rows [] s h = h
lean_rows (r ∷ rs) s h = lean_rows rs (row_after s r) (lean_row s r h)

pub group_stays : (rs : List (Bool × Row)) (s : GroupState) → (rows_after s rs).group ≡ s.group
group_stays [] s = refl
group_stays (r ∷ rs) s = group_stays rs (row_after s r)

-- after a tick
abbrev pub ticked : GroupState → GroupState
ticked s = closed_state s (map (shown_now s.group) (near_at s.group.items s.cells s.touched))

abbrev cell_at : GroupState → Row → CellState
cell_at s k = cell_of (length s.group.items) (held k) s.cells

abbrev is_touched : GroupState → Row → Bool
is_touched s k = list_any (λ j. is_eq (held_cmp (held k) j)) s.touched

abbrev now_of : GroupState → Row → Option Held
now_of s k = row_now s.group (excerpt s.group.items (held k) (cell_at s k))

cell_ticked : (s : GroupState) (o b : List Row) → Stands s o b → (k : Row)
    → cell_of (length s.group.items) (held k) (ticked s).cells ≡ cond (is_touched s k) (closed (length s.group.items) (cell_at s k) (now_of s k)) (cell_at s k)
cell_ticked s o b h k =
    ap (λ cs. cell_of (length s.group.items) (held k) (fold (shown_after (length s.group.items)) s.cells cs)) (changes-showns s.group s.cells s.touched)
    ∙ cell-closing (length s.group.items) (λ j. row_now s.group (excerpt s.group.items j (cell_of (length s.group.items) j s.cells))) s.touched s.cells h.sorted
    (held k)

pub lean_ticked : (s : GroupState) (o b : List Row) → Stands s o b → KeepsFew s → KeepsFew (ticked s)
lean_ticked s o b h f k = subst (λ (c : CellState). AreLean s.group.items c.tallies) (sym (cell_ticked s o b h k)) (here (is_touched s k) (now_of s k))
  where
    here : (t : Bool) (now : Option Held)
        → AreLean s.group.items
        (cond t (closed (length s.group.items) (cell_of (length s.group.items) (held k) s.cells) now) (cell_of (length s.group.items) (held k) s.cells)).tallies
    here true None = lean_zero s.group.items
    here true (Some r) = f k
    here false now = f k

-- a touched group shows its row from the tick on
closed_shown : (n : ℕ) (c : CellState) (now : Option Held) → shown_list (closed n c now).shown ≡ shown_list now
closed_shown n c None = refl
closed_shown n c (Some r) = refl

now_shown : (s : GroupState) (o b : List Row) → Stands s o b → (k : Row) → is_touched s k ≡ true → shown_list (now_of s k) ≡ shown_rows (ticked s) k
now_shown s o b h k e =
    sym (ap (λ (c : CellState). shown_list c.shown) (cell_ticked s o b h k)
    ∙ ap (λ (t : Bool). shown_list (cond t (closed (length s.group.items) (cell_of (length s.group.items) (held k) s.cells) (now_of s k)) (cell_of (length s.group.items) (held k) s.cells)).shown) e
    ∙ closed_shown (length s.group.items) (cell_of (length s.group.items) (held k) s.cells) (now_of s k))

-- ROWS OF PARTS
all_front : (P : Row → Type 0) (xs ys : List Row) → All P (xs ++ ys) → All P xs
all_front P [] ys a = All-nil P
all_front P (x ∷ xs) ys a = All-cons P x xs (All-head P x (xs ++ ys) a) (all_front P xs ys (All-tail P x (xs ++ ys) a))

all_back : (P : Row → Type 0) (xs ys : List Row) → All P (xs ++ ys) → All P ys
all_back P [] ys a = a
all_back P (x ∷ xs) ys a = all_back P xs ys (All-tail P x (xs ++ ys) a)

part_in : (P : Row → Type 0) (f : Row → List Row) (k : Row) (ks : List Row) → 0 < times k ks → All P (flat_map f ks) → All P (f k)
unfolding weigh
part_in P f k [] l a = absurd (omega (arith, l))
part_in P f k (j ∷ ks) l a = here (is_same row_cmp k j) refl l (part_in P f k ks)
  where
    here : (b : Bool) → is_same row_cmp k j ≡ b → 0 < cond b 1 0 + times k ks → (0 < times k ks → All P (flat_map f ks) → All P (f k)) → All P (f k)
    here true e m rest = subst (λ i. All P (f i)) (sym (row_is k j e)) (all_front P (f j) (flat_map f ks) a)
    here false e m rest = rest (omega (arith, m)) (all_back P (f j) (flat_map f ks) a)

pub shown_all : (P : Row → Type 0) (s : GroupState) (o b : List Row) → Stands s o b → All P o → (k : Row) → All P (shown_rows s k)
shown_all P s o b h a k = here (times k h.keys) refl
  where
    here : (n : ℕ) → times k h.keys ≡ n → All P (shown_rows s k)
    here zero e = subst (All P) (sym (h.others k e)) (All-nil P)
    here (suc n) e = part_in P (shown_rows s) k h.keys (omega (arith, e)) (all_same P o (flat_map (shown_rows s) h.keys) h.was a)

-- a weight of some keys, each there once, is no more than that of keys among which are all that weigh anything
pub part_le : (u : Row → ℕ) (ks js : List Row) → ((k : Row) → times k ks ≤ 1) → ((k : Row) → 0 < times k ks → times k js ≡ 0 → u k ≡ 0)
    → weigh u ks ≤ weigh u js
unfolding weigh
part_le u [] js once h = omega arith
part_le u (k ∷ ks) js once h = here (times k js) refl (λ us g. part_le u ks us less g)
  where
    less : (j : Row) → times j ks ≤ 1
    less j = omega (arith, once j)

    gone : times k js ≢ 0 → (w : Row → ℕ) → weigh w js ≡ w k + weigh w (without row_cmp k js)
    gone e w = weigh-without row_cmp row_order w k js (omega (arith, e, copies-weigh row_cmp row_order k js))

    other : times k js ≢ 0 → (j : Row) → 0 < times j ks → times j (without row_cmp k js) ≡ 0 → (b : Bool) → is_same row_cmp j k ≡ b → u j ≡ 0
    other e j l z true f = absurd (omega (arith, l, once j, ap {B = ℕ} (λ (b : Bool). cond b 1 0) f))
    other e j l z false f = h j (omega (arith, l)) (omega (arith, z, gone e (λ y. cond (is_same row_cmp j y) 1 0), ap {B = ℕ} (λ (b : Bool). cond b 1 0) f))

    here : (n : ℕ) → times k js ≡ n → ((us : List Row) → ((j : Row) → 0 < times j ks → times j us ≡ 0 → u j ≡ 0) → weigh u ks ≤ weigh u us)
        → u k + weigh u ks ≤ weigh u js
    here zero e rest = omega (arith, h k (omega (arith, ap {B = ℕ} (λ (b : Bool). cond b 1 0) (row_itself k))) e, rest js (λ j l z. h j (omega (arith, l)) z))
    here (suc n) e rest =
        let some : times k js ≢ 0 = λ z. absurd (omega (arith, e, z)) in
        omega (arith, gone some u, rest (without row_cmp k js) (λ j l z. other some j l z (is_same row_cmp j k) refl))

-- THE OUTPUTS OF A TICK
fitted_row : (n : ℕ) (r : Held) → InRange r.items → IsRow n (fitted n r)
fitted_row n r a =
    record { wide = length-map-range_with_len (value_at r.items) 0 n; values = All-map IsAnswerValue (value_at r.items) (range_with_len 0 n) (λ i d l. value_in r.items _ a) }

signed_wide : (enters : Bool) (n : ℕ) (o : Option Held) → All InRange (shown_list o) → AreSigned n (signed_row enters n o)
signed_wide enters n None a = All-nil (λ (s : Bool × Row). IsRow n s.1)
signed_wide enters n (Some r) a =
    All-cons (λ (s : Bool × Row). IsRow n s.1) (enters, fitted n r) [] (fitted_row n r (All-head InRange r.items [] a))
    (All-nil (λ (s : Bool × Row). IsRow n s.1))

swap_wide : (n : ℕ) (old now : Option Held) → All InRange (shown_list old) → All InRange (shown_list now) → AreSigned n (swap_of n old now)
swap_wide n old now a b = here (same_shown old now)
  where
    here : (t : Bool) → AreSigned n (cond t [] (signed_row false n old ++ signed_row true n now))
    here true = All-nil (λ (s : Bool × Row). IsRow n s.1)
    here false =
        All-append (λ (s : Bool × Row). IsRow n s.1) (signed_row false n old) (signed_row true n now) (signed_wide false n old a) (signed_wide true n now b)

-- of a key that was touched
record IsShown (s : GroupState) (k : Held) : Type 0 where
  old : All InRange (shown_rows s k.items)
  new : All InRange (shown_rows (ticked s) k.items)
  is : shown_list (now_of s k.items) ≡ shown_rows (ticked s) k.items

all_wide : (s : GroupState) (ks : List Held) → All (IsShown s) ks → AreSigned (length s.group.items) (outputs s.group (near_at s.group.items s.cells ks))
all_wide s [] a = All-nil (λ (x : Bool × Row). IsRow (length s.group.items) x.1)
all_wide s (k ∷ ks) a =
    let h : IsShown s k = All-head (IsShown s) k ks a in
    All-append (λ (x : Bool × Row). IsRow (length s.group.items) x.1) _ _
    (swap_wide (length s.group.items) _ (now_of s k.items) h.old (subst (All InRange) (sym h.is) h.new))
    (all_wide s ks (All-tail (IsShown s) k ks a))

pub outputs_wide : (s : GroupState) (o b : List Row) → Stands s o b → Stands (ticked s) (grouped s.group b) b → All InRange o → All InRange (grouped s.group b)
    → AreSigned (length s.group.items) (outputs s.group (near_at s.group.items s.cells s.touched))
outputs_wide s o b h h2 a a2 =
    all_wide s s.touched
    (All-from_any (eq_by_cmp_equiv held_order.total) (IsShown s) s.touched (λ k e. record {
      old = shown_all InRange s o b h a k.items;
      new = shown_all InRange (ticked s) (grouped s.group b) b h2 a2 k.items;
      is = now_shown s o b h k.items e;
    }))

signed_few : (n : ℕ) (old now : Option Held) → up (λ x. 1) (signed_row false n old ++ signed_row true n now) ≤ count (shown_list now)
unfolding weigh
signed_few n None None = omega arith
signed_few n None (Some r) = omega arith
signed_few n (Some q) None = omega arith
signed_few n (Some q) (Some r) = omega arith

swap_few : (n : ℕ) (old now : Option Held) → up (λ x. 1) (swap_of n old now) ≤ count (shown_list now)
unfolding weigh
swap_few n old now = here (same_shown old now)
  where
    here : (t : Bool) → up (λ x. 1) (cond t [] (signed_row false n old ++ signed_row true n now)) ≤ count (shown_list now)
    here true = omega arith
    here false = signed_few n old now

all_few : (s : GroupState) (ks : List Held) → All (λ k. shown_list (now_of s k.items) ≡ shown_rows (ticked s) k.items) ks
    → up (λ x. 1) (outputs s.group (near_at s.group.items s.cells ks)) ≤ weigh (λ r. count (shown_rows (ticked s) r)) (map (λ k. k.items) ks)
unfolding weigh
all_few s [] a = omega arith
all_few s (k ∷ ks) a =
    let P : Held → Type 0 = λ k. shown_list (now_of s k.items) ≡ shown_rows (ticked s) k.items in
    let old : Option Held = (cell_of (length s.group.items) k s.cells).shown in
    omega (
      arith,
      weigh-append (gain (λ x. 1)) (swap_of (length s.group.items) old (now_of s k.items)) (outputs s.group (near_at s.group.items s.cells ks)),
      swap_few (length s.group.items) old (now_of s k.items),
      ap count (All-head P k ks a),
      all_few s ks (All-tail P k ks a),
    )

none_count : count [] ≡ 0
unfolding weigh
none_count = refl

pub outputs_few : (s : GroupState) (o b : List Row) → Stands s o b → Stands (ticked s) (grouped s.group b) b
    → up (λ x. 1) (outputs s.group (near_at s.group.items s.cells s.touched)) ≤ count (grouped s.group b)
outputs_few s o b h h2 =
    let few : up (λ x. 1) (outputs s.group (near_at s.group.items s.cells s.touched)) ≤ weigh (λ r. count (shown_rows (ticked s) r)) (touched_keys s) =
    all_few s s.touched (All-from_any (eq_by_cmp_equiv held_order.total) (λ k. shown_list (now_of s k.items) ≡ shown_rows (ticked s) k.items) s.touched (λ k e. now_shown s o b h k.items e)) in
    let most : weigh (λ r. count (shown_rows (ticked s) r)) (touched_keys s) ≤ weigh (λ r. count (shown_rows (ticked s) r)) h2.keys =
    part_le (λ r. count (shown_rows (ticked s) r)) (touched_keys s) h2.keys h.touched (λ k l z. ap count (h2.others k z) ∙ none_count) in
    omega (arith, few, most, h2.was.weighs (λ x. 1), weigh-flat_map (λ x. 1) (shown_rows (ticked s)) h2.keys)

-- THE RELATION OF THE GROUPS
abbrev Fields : List Row → Type 0
Fields rows = (c : SourceColumn) → IsAnswerValue (field rows c)

min_in : (a b : ℤ) → IsAnswerNumber a → IsAnswerNumber b → IsAnswerNumber (int_min a b)
min_in a b h k =
    let l : neg_ℤ answer_max ≤ℤ a = h.0 in let u : a ≤ℤ answer_max = h.1 in let m : neg_ℤ answer_max ≤ℤ b = k.0 in let v : b ≤ℤ answer_max = k.1 in
    (omega (arith, ints, clamps), omega (arith, ints, clamps))

max_in : (a b : ℤ) → IsAnswerNumber a → IsAnswerNumber b → IsAnswerNumber (int_max a b)
max_in a b h k =
    let l : neg_ℤ answer_max ≤ℤ a = h.0 in let u : a ≤ℤ answer_max = h.1 in let m : neg_ℤ answer_max ≤ℤ b = k.0 in let v : b ≤ℤ answer_max = k.1 in
    (omega (arith, ints, clamps), omega (arith, ints, clamps))

fold_in : (op : ℤ → ℤ → ℤ) → ((a b : ℤ) → IsAnswerNumber a → IsAnswerNumber b → IsAnswerNumber (op a b)) → (ns : List ℤ) (z : ℤ) → IsAnswerNumber z
    → All IsAnswerNumber ns → IsAnswerNumber (fold op z ns)
fold_in op h [] z a b = a
fold_in op h (n ∷ ns) z a b = fold_in op h ns (op z n) (h z n a (All-head IsAnswerNumber n ns b)) (All-tail IsAnswerNumber n ns b)

reduce_in : (op : ℤ → ℤ → ℤ) → ((a b : ℤ) → IsAnswerNumber a → IsAnswerNumber b → IsAnswerNumber (op a b)) → (ns : List ℤ) → All IsAnswerNumber ns
    → IsAnswerValue (reduce op ns)
reduce_in op h [] a = tt
reduce_in op h (n ∷ ns) a = fold_in op h ns n (All-head IsAnswerNumber n ns a) (All-tail IsAnswerNumber n ns a)

sum_in : (o : Option ℤ) → IsAnswerValue (option_map clamp_answer o)
sum_in None = tt
sum_in (Some z) = (omega (arith, ints, clamps), omega (arith, ints, clamps))

count_in : (n : ℕ) → n ≤ 2 ^ 62 → IsAnswerValue (Some (pos n))
count_in n h = (omega (arith, ints, h), omega (arith, ints, h))

numbers_in : (c : SourceColumn) (group : List (List Row)) → All Fields group → All IsAnswerNumber (numbers c group)
numbers_in c [] a = All-nil IsAnswerNumber
numbers_in c (rows ∷ group) a = here (field rows c) (All-head Fields rows group a c) (numbers_in c group (All-tail Fields rows group a))
  where
    here : (o : Option ℤ) → IsAnswerValue o → All IsAnswerNumber (numbers c group) → All IsAnswerNumber (cons_option o (numbers c group))
    here None h i = i
    here (Some z) h i = All-cons IsAnswerNumber z (numbers c group) h i

numbers_length : (c : SourceColumn) (group : List (List Row)) → length (numbers c group) ≤ length group
numbers_length c [] = omega arith
numbers_length c (rows ∷ group) = here (field rows c) (numbers_length c group)
  where
    here : (o : Option ℤ) → length (numbers c group) ≤ length group → length (cons_option o (numbers c group)) ≤ suc (length group)
    here None i = omega (arith, i)
    here (Some z) i = omega (arith, i)

item_in : (key : Row) (group : List (List Row)) → InRange key → length group ≤ 2 ^ 62 → All Fields group → (i : relations.ListItem)
    → IsAnswerValue (item_value key group i)
item_in key group k l a (relations.Key j) = value_in key j k
item_in key group k l a relations.CountAll = count_in (length group) l
item_in key group k l a (relations.Of Count c) = count_in (length (numbers c group)) (omega (arith, l, numbers_length c group))
item_in key group k l a (relations.Of Sum c) = sum_in (reduce ◌+ℤ◌ (numbers c group))
item_in key group k l a (relations.Of Min c) = reduce_in int_min min_in (numbers c group) (numbers_in c group a)
item_in key group k l a (relations.Of Max c) = reduce_in int_max max_in (numbers c group) (numbers_in c group a)

kept_length : {X : Type 0} (p : X → Bool) (xs : List X) → length (filter p xs) ≤ length xs
kept_length p [] = omega arith
kept_length {X = X} p (x ∷ xs) = here (p x) (kept_length p xs)
  where
    here : (t : Bool) → length (filter p xs) ≤ length xs → length (cond {A = List X} t (x ∷ filter p xs) (filter p xs)) ≤ suc (length xs)
    here true i = omega (arith, i)
    here false i = omega (arith, i)

group_wide : (by : List SourceColumn) (items : List relations.ListItem) (kept : List (List Row)) (key : Row) → length kept ≤ 2 ^ 62 → All Fields kept → InRange key
    → IsRow (length items) (group_row by items kept key)
group_wide by items kept key l a k =
    let mine : List Row → Bool = λ rows. same_row key (key_of by rows) in
    record {
      wide = length-map items (item_value key (filter mine kept));
      values =
          All-map IsAnswerValue (item_value key (filter mine kept)) items
          (λ i d lt. item_in key (filter mine kept) k (omega (arith, l, kept_length mine kept)) (All-filter mine Fields kept a) _);
    }

all_distinct : (P : Row → Type 0) (xs : List Row) → All P xs → All P (distinct row_cmp xs)
all_distinct P [] a = a
all_distinct P (x ∷ xs) a = here (list_any (is_same row_cmp x) xs) (all_distinct P xs (All-tail P x xs a))
  where
    here : (t : Bool) → All P (distinct row_cmp xs) → All P (cond t (distinct row_cmp xs) (x ∷ distinct row_cmp xs))
    here true i = i
    here false i = All-cons P x (distinct row_cmp xs) (All-head P x xs a) i

keys_wide : (by : List SourceColumn) (kept : List (List Row)) → All Fields kept → All InRange (keys_in by kept)
keys_wide [] kept a = All-cons InRange [] [] (All-nil IsAnswerValue) (All-nil InRange)
keys_wide (c ∷ by) kept a =
    all_distinct InRange (map (key_of (c ∷ by)) kept)
    (All-map InRange (key_of (c ∷ by)) kept (λ k d l. All-map IsAnswerValue (field _) (c ∷ by) (λ i e m. a k d l _)))

alone_length : (b : List Row) → length (map {B = List Row} (λ r. r ∷ []) b) ≡ count b
unfolding weigh
alone_length [] = refl
alone_length (r ∷ b) = omega (arith, alone_length b)

pub grouped_wide : (g : GroupBy) (b : List Row) → count b ≤ 2 ^ 62 → All InRange b → AreRows (length g.items) (grouped g b)
grouped_wide g b l a =
    let kept : List (List Row) = map (λ r. r ∷ []) b in
    let fields : All Fields kept = All-map Fields (λ r. r ∷ []) b (λ k d lt c. field_in _ c (a k d lt)) in
    subst (λ n. AreRows n (grouped g b)) (length-map g.items item_of)
    (All-map (IsRow (length (items_of g.items))) (group_row (columns_of g.by) (items_of g.items) kept) (keys_in (columns_of g.by) kept)
    (λ k d lt. group_wide (columns_of g.by) (items_of g.items) kept _ (omega (arith, l, alone_length b)) fields (keys_wide (columns_of g.by) kept fields k d lt)))

pub distinct_few : (xs : List Row) → count (distinct row_cmp xs) ≤ count xs
unfolding weigh
distinct_few [] = omega arith
distinct_few (x ∷ xs) = here (list_any (is_same row_cmp x) xs) (distinct_few xs)
  where
    here : (t : Bool) → count (distinct row_cmp xs) ≤ count xs → count (cond t (distinct row_cmp xs) (x ∷ distinct row_cmp xs)) ≤ 1 + count xs
    here true i = omega (arith, i)
    here false i = omega (arith, i)

keys_few : (by : List SourceColumn) (b : List Row) → count (keys_in by (map (λ r. r ∷ []) b)) ≤ max 1 (count b)
unfolding weigh
keys_few [] b = omega arith
keys_few (c ∷ by) b =
    omega (arith, distinct_few (map (key_of (c ∷ by)) (map (λ r. r ∷ []) b)), weigh-map (λ r. 1) (key_of (c ∷ by)) (map (λ r. r ∷ []) b), weigh-map (λ r. 1) (λ (r : Row). r ∷ []) b)

pub grouped_few : (g : GroupBy) (b : List Row) → count (grouped g b) ≤ max 1 (count b)
grouped_few g b =
    let kept : List (List Row) = map (λ r. r ∷ []) b in
    omega (arith, weigh-map (λ r. 1) (group_row (columns_of g.by) (items_of g.items) kept) (keys_in (columns_of g.by) kept), keys_few (columns_of g.by) b)
