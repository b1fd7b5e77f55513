-- The law of one step: rows, and ticks.
use Rattle.std.proofs.Common.{◌≡◌, ℕ, ℤ, zero, suc, ◌+◌, ◌<◌, ◌≤◌, ◌^◌, pos, Bool, true, false, cond, not, nat_lt, ◌||◌, Option, Some, None, List, [], ◌∷◌, ◌++◌, map, filter, length, ⊎_elim, refl, sym, ap, ap₂, ◌∙◌, subst, arith, true≢false, lt-ltb, ltb-false}
use Rattle.std.specs.declared.cmp.Ordering.TheVariants.{Less, Equal}
use Rattle.std.specs.Ordering.{is_eq, is_lt, int_cmp}
use Rattle.std.specs.Cmp.{int_cmp_is}
use Rattle.std.specs.List.{flat_map, list_any}
use Rattle.std.specs.List.Sorted.{IsStrictlySortedBy}
use Rattle.std.proofs.lemmas.Int.{ints}
use Rattle.std.proofs.lemmas.List.{ext_get_or, length-map}
use Rattle.std.proofs.lemmas.List.FromFn.{length-map-range_with_len, get_or-map-range_with_len}
use Rattle.values.specs.Row.{Row, row_cmp, same_row, value_at}
use Rattle.values.specs.Bag.{is_same}
use Rattle.values.specs.declared.resolved.SourceColumn.{SourceColumn}
use Rattle.values.specs.declared.resolved.ListItem.{ListItem}
use Rattle.op_queue.specs.Signed.{weigh, Same, Adds, Legal, Turns}
use Rattle.op_queue.proofs.SignedLemmas.{weigh-append, Same-refl, Same-sym, Same-trans, Same-from_none, Adds-rest, Legal-front, Legal-rest, Turns-none, Turns-append, Turns-same}
use Rattle.group.specs.Groups.{GroupBy, grouped, key_in, no_columns}
use Rattle.group.specs.Cells.{Held, held, held_cmp, TallyState, CellState, cell_zero, cell_after, figures, shown_figure}
use Rattle.group.specs.Turns.{GroupState, cell_of, row_key, row_after, rows_after, excerpt, near_at, row_now, fitted, same_shown, signed_row, swap_of, outputs, shown_now, first_touched, beginning, closed_state}
use Rattle.group.specs.Laws.{count, members, keys_at, row_of, AllTally, Counts, shown_list, shown_rows, touched_keys, IsWide, Stands}
use Rattle.group.proofs.KeyLemmas.{held_order, same_key, same_turned, cell-taken_in}
use Rattle.group.proofs.BagLemmas.{row_is, row_itself, any_count, count_any, weigh-filter, count-filter, reread, flat_map-append, flat_map-chosen, turns_leave, turns_enter, turns_parts, after_row}
use Rattle.group.proofs.CountLemmas.{counts_same, counts_at, counts_zero, members_same, members_other}
use Rattle.group.proofs.FigureLemmas.{figures_are, numbers_le}
use Rattle.group.proofs.ValueLemmas.{has_group, group_of, row_from, row_of-members, row_of-same, keys_once, not_key, grouped_rows}
use Rattle.group.proofs.StateLemmas.{rows_of, sorted-insert_key, sorted_once, touch_not, touch_some, sorted-taken_in, closed, showns, sorted-closing, cell-closing, changes-showns, output_of, outputs-keys}

-- ROWS
cell_at : (s : GroupState) (r : Bool × Row) (k : Row) → cell_of (length s.group.items) (held k) (row_after s r).cells ≡ cond (same_row k (key_in s.group.by r.1)) (cell_after s.group.items (cell_of (length s.group.items) (held k) s.cells) r) (cell_of (length s.group.items) (held k) s.cells)
cell_at s r k =
    cell-taken_in s.group.items (row_key s.group r) (held k) r s.cells
    ∙ here (is_eq (held_cmp (row_key s.group r) (held k))) refl
    ∙ ap (λ (b : Bool). cond b (cell_after s.group.items (cell_of (length s.group.items) (held k) s.cells) r) (cell_of (length s.group.items) (held k) s.cells)) (same_turned held_cmp held_order (row_key s.group r) (held k))
  where
    here : (b : Bool) → is_eq (held_cmp (row_key s.group r) (held k)) ≡ b → cond b (cell_after s.group.items (cell_of (length s.group.items) (row_key s.group r) s.cells) r) (cell_of (length s.group.items) (held k) s.cells) ≡ cond b (cell_after s.group.items (cell_of (length s.group.items) (held k) s.cells) r) (cell_of (length s.group.items) (held k) s.cells)
    here true e = ap (λ (j : Held). cell_after s.group.items (cell_of (length s.group.items) j s.cells) r) (same_key held_cmp held_order (row_key s.group r) (held k) e)
    here false e = refl

shown_stays : (s : GroupState) (r : Bool × Row) (k : Row) → (cell_of (length s.group.items) (held k) (row_after s r).cells).shown ≡ (cell_of (length s.group.items) (held k) s.cells).shown
shown_stays s r k = ap (λ (c : CellState). c.shown) (cell_at s r k) ∙ here (same_row k (key_in s.group.by r.1))
  where
    here : (b : Bool) → (cond b (cell_after s.group.items (cell_of (length s.group.items) (held k) s.cells) r) (cell_of (length s.group.items) (held k) s.cells)).shown ≡ (cell_of (length s.group.items) (held k) s.cells).shown
    here true = refl
    here false = refl

flat_map-ext : (f h : Row → List Row) → ((k : Row) → f k ≡ h k) → (ks : List Row) → flat_map f ks ≡ flat_map h ks
flat_map-ext f h e [] = refl
flat_map-ext f h e (k ∷ ks) = ap₂ (λ x y. x ++ y) (e k) (flat_map-ext f h e ks)

no_key : (by : List SourceColumn) (r : Row) → no_columns by ≡ true → key_in by r ≡ []
no_key [] r h = refl
no_key (c ∷ by) r h = cc

row_law : (s : GroupState) (r : Bool × Row) (o b d : List Row) → Stands s o b → Adds b (r ∷ []) d → Stands (row_after s r) o d
row_law s r o b d h a = record {
  keys = h.keys;
  once = h.once;
  was = subst (λ z. Same o z) (flat_map-ext (shown_rows s) (shown_rows (row_after s r)) (λ k. ap shown_list (sym (shown_stays s r k))) h.keys) h.was;
  others = λ k z. ap shown_list (shown_stays s r k) ∙ h.others k z;
  wide = λ k. subst (IsWide (length s.group.items)) (sym (shown_stays s r k)) (h.wide k);
  counts = λ k. subst (λ c. Counts s.group.items c (members s.group k d)) (sym (cell_at s r k)) (counts_at s.group k (cell_of (length s.group.items) (held k) s.cells) r b d a (h.counts k));
  quiet = λ k z.
      let t = touch_not (row_key s.group r) s.touched k z in
      ap shown_list (shown_stays s r k) ∙ h.quiet k t.0 ∙ row_of-same s.group k b d (members_other s.group k r b d t.1 a);
  touched = λ k. sorted_once _ (sorted-insert_key (row_key s.group r) s.touched h.ordered) k;
  ordered = sorted-insert_key (row_key s.group r) s.touched h.ordered;
  whole = λ w k l. ⊎_elim (λ m. h.whole w k m) (λ e. e ∙ no_key s.group.by r.1 w) (touch_some (row_key s.group r) s.touched k l);
  sorted = sorted-taken_in s.group.items (row_key s.group r) r s.cells h.sorted;
}

stands_same : (s : GroupState) (o b d : List Row) → Stands s o b → Same b d → Stands s o d
stands_same s o b d h e = record {
  keys = h.keys;
  once = h.once;
  was = h.was;
  others = h.others;
  wide = h.wide;
  counts = λ k. counts_same s.group.items _ (members s.group k b) (members s.group k d) (members_same s.group k b d e) (h.counts k);
  quiet = λ k z. h.quiet k z ∙ row_of-same s.group k b d (members_same s.group k b d e);
  touched = h.touched;
  ordered = h.ordered;
  whole = h.whole;
  sorted = h.sorted;
}

-- whatever bags the state stands for, after legal rows it stands for the bag with them
pub rows_law : (rs : List (Bool × Row)) (s : GroupState) (o b d : List Row) → Stands s o b → Legal b rs → Adds b rs d → Stands (rows_after s rs) o d
rows_law [] s o b d h l a = stands_same s o b d h (Same-from_none a)
rows_law (r ∷ rs) s o b d h l a =
    let m : Legal b (r ∷ []) = Legal-front (r ∷ []) rs l in
    let e : (z : List Row) × Adds b (r ∷ []) z = after_row b r m in
    rows_law rs (row_after s r) o e.0 d (row_law s r o b e.0 h e.1) (Legal-rest e.1 l) (Adds-rest e.1 a)

-- THE ROW OF A GROUP
positive_test : (n : ℕ) → is_lt (int_cmp (pos 0) (pos n)) ≡ nat_lt 0 n
positive_test zero = ap is_lt (sym (int_cmp_is (pos 0) (pos 0) Equal refl))
positive_test (suc n) = ap is_lt (sym (int_cmp_is (pos 0) (pos (suc n)) Less (omega (arith, ints)))) ∙ sym (lt-ltb 0 (suc n) (omega arith))

has_is : (by : List SourceColumn) (k : Row) (rows : ℤ) (xs : List Row) → rows ≡ pos (weigh (λ x. 1) xs) → (no_columns by ≡ true → k ≡ []) → (no_columns by || is_lt (int_cmp (pos 0) rows)) ≡ has_group by k xs
has_is [] k rows xs e w = sym (subst (λ j. is_same row_cmp j [] ≡ true) (sym (w refl)) (row_itself []))
has_is (c ∷ by) k rows xs e w = ap (λ (z : ℤ). is_lt (int_cmp (pos 0) z)) e ∙ positive_test (weigh (λ x. 1) xs)

shown_cond : (t : Bool) (r : Row) → shown_list (cond t (Some (held r)) None) ≡ cond t (r ∷ []) []
shown_cond true r = refl
shown_cond false r = refl

row_now_is : (g : GroupBy) (k : Row) (c : CellState) (xs : List Row) → Counts g.items c xs → weigh (λ x. 1) xs ≤ 2 ^ 62 → (no_columns g.by ≡ true → k ≡ []) → shown_list (row_now g (excerpt g.items (held k) c)) ≡ row_from g k xs
row_now_is g k c xs h l w =
    shown_cond (no_columns g.by || is_lt (int_cmp (pos 0) c.rows)) (map shown_figure (figures k c.rows g.items c.tallies))
    ∙ ap₂ (λ (t : Bool) (r : Row). cond t (r ∷ []) []) (has_is g.by k c.rows xs h.rows w) (figures_are k c.rows g.items c.tallies xs h.rows l h.tallies)

members_le : (g : GroupBy) (k : Row) (b : List Row) → weigh (λ x. 1) (members g k b) ≤ weigh (λ x. 1) b
members_le g k b = omega (arith, weigh-filter (λ x. 1) (λ r. same_row k (key_in g.by r)) b, numbers_le (λ x. cond (same_row k (key_in g.by x)) 1 0) (λ x. at_most (same_row k (key_in g.by x))) b)
  where
    at_most : (t : Bool) → cond t 1 0 ≤ 1
    at_most true = omega arith
    at_most false = omega arith

figures_len : (k : Row) (n : ℤ) (is : List ListItem) (ts : List TallyState) (xs : List Row) → AllTally is ts xs → length (figures k n is ts) ≡ length is
figures_len k n [] [] xs h = refl
figures_len k n [] (t ∷ ts) xs h = absurd h
figures_len k n (i ∷ is) [] xs h = absurd h
figures_len k n (i ∷ is) (t ∷ ts) xs h = ap suc (figures_len k n is ts xs h.1)

wide_cond : (n : ℕ) (t : Bool) (r : Row) → length r ≡ n → IsWide n (cond t (Some (held r)) None)
wide_cond n true r e = e
wide_cond n false r e = tt

wide_now : (g : GroupBy) (k : Row) (c : CellState) (xs : List Row) → Counts g.items c xs → IsWide (length g.items) (row_now g (excerpt g.items (held k) c))
wide_now g k c xs h = wide_cond (length g.items) (no_columns g.by || is_lt (int_cmp (pos 0) c.rows)) (map shown_figure (figures k c.rows g.items c.tallies)) (length-map (figures k c.rows g.items c.tallies) shown_figure ∙ figures_len k c.rows g.items c.tallies xs h.tallies)

-- ONE GROUP'S OUTPUTS
fitted_is : (n : ℕ) (r : Row) → length r ≡ n → fitted n (held r) ≡ r
fitted_is n r e =
    ext_get_or None (fitted n (held r)) r (length-map-range_with_len (value_at r) 0 n ∙ sym e)
    (λ i l. get_or-map-range_with_len (value_at r) 0 n i i None (omega (arith, l, length-map-range_with_len (value_at r) 0 n)) (omega arith))

leaves : (n : ℕ) (old : Option Held) → IsWide n old → Turns (shown_list old) (signed_row false n old) []
leaves n None w = Turns-none (Same-refl [])
leaves n (Some r) w = subst (λ x. Turns (r.items ∷ []) ((false, x) ∷ []) []) (sym (fitted_is n r.items w)) (turns_leave r.items)

enters : (n : ℕ) (now : Option Held) → IsWide n now → Turns [] (signed_row true n now) (shown_list now)
enters n None w = Turns-none (Same-refl [])
enters n (Some r) w = subst (λ x. Turns [] ((true, x) ∷ []) (r.items ∷ [])) (sym (fitted_is n r.items w)) (turns_enter r.items)

same_list : (old now : Option Held) → same_shown old now ≡ true → shown_list old ≡ shown_list now
same_list None None h = refl
same_list None (Some r) h = cc
same_list (Some r) None h = cc
same_list (Some r) (Some q) h = ap (λ (x : Row). x ∷ []) (row_is r.items q.items h)

swap_turns : (n : ℕ) (old now : Option Held) → IsWide n old → IsWide n now → Turns (shown_list old) (swap_of n old now) (shown_list now)
swap_turns n old now v w = here (same_shown old now) refl
  where
    here : (t : Bool) → same_shown old now ≡ t → Turns (shown_list old) (cond t [] (signed_row false n old ++ signed_row true n now)) (shown_list now)
    here true e = Turns-none (subst (λ z. Same (shown_list old) z) (same_list old now e) (Same-refl (shown_list old)))
    here false e = Turns-append (leaves n old v) (enters n now w)

-- THE TICK
row_is_now : (s : GroupState) (o b : List Row) → Stands s o b → weigh (λ x. 1) b ≤ 2 ^ 62 → (k : Row) → 0 < count k (touched_keys s) → shown_list (row_now s.group (excerpt s.group.items (held k) (cell_of (length s.group.items) (held k) s.cells))) ≡ row_of s.group b k
row_is_now s o b h small k l =
    row_now_is s.group k (cell_of (length s.group.items) (held k) s.cells) (members s.group k b) (h.counts k) (omega (arith, small, members_le s.group k b)) (λ w. h.whole w k l)
    ∙ sym (row_of-members s.group k b)

pub outputs_turn : (s : GroupState) (o b : List Row) → Stands s o b → weigh (λ x. 1) b ≤ 2 ^ 62 → Turns o (outputs s.group (near_at s.group.items s.cells s.touched)) (grouped s.group b)
outputs_turn s o b h small =
    subst (λ rs. Turns o rs (grouped s.group b)) (sym (outputs-keys s.group s.cells s.touched))
    (Turns-same (Same-sym start) finish (turns_parts f r (output_of s.group s.cells) tk (flat_map f rest) (λ k l. one k l)))
  where
    f : Row → List Row
    f = shown_rows s

    r : Row → List Row
    r = row_of s.group b

    tk : List Row
    tk = touched_keys s

    other : Row → Bool
    other k = not (list_any (is_same row_cmp k) tk)

    rest : List Row
    rest = filter other h.keys

    one : (k : Row) → 0 < count k tk → Turns (f k) (output_of s.group s.cells k) (r k)
    one k l = subst (λ z. Turns (f k) (output_of s.group s.cells k) z) (row_is_now s o b h small k l) (swap_turns (length s.group.items) _ _ (h.wide k) (wide_now s.group k (cell_of (length s.group.items) (held k) s.cells) (members s.group k b) (h.counts k)))

    not_touched : (k : Row) → other k ≡ true → count k tk ≡ 0
    not_touched k e = here (list_any (is_same row_cmp k) tk) refl e
      where
        here : (t : Bool) → list_any (is_same row_cmp k) tk ≡ t → not t ≡ true → count k tk ≡ 0
        here true i e = absurd (true≢false (sym e))
        here false i e = any_count k tk i

    count_all : (k : Row) → count k (tk ++ rest) ≡ count k tk + cond (other k) (count k h.keys) 0
    count_all k = weigh-append (λ y. cond (is_same row_cmp k y) 1 0) tk rest ∙ ap (λ n. count k tk + n) (count-filter other k h.keys)

    once_all : (k : Row) → count k (tk ++ rest) ≤ 1
    once_all k = here (list_any (is_same row_cmp k) tk) refl
      where
        here : (t : Bool) → list_any (is_same row_cmp k) tk ≡ t → count k (tk ++ rest) ≤ 1
        here true i = omega (arith, count_all k, ap {B = ℕ} (λ (t : Bool). cond (not t) (count k h.keys) 0) i, h.touched k)
        here false i = omega (arith, count_all k, ap {B = ℕ} (λ (t : Bool). cond (not t) (count k h.keys) 0) i, any_count k tk i, h.once k)

    none_all : (k : Row) → count k (tk ++ rest) ≡ 0 → (count k tk ≡ 0) × (count k h.keys ≡ 0)
    none_all k z = here (list_any (is_same row_cmp k) tk) refl
      where
        here : (t : Bool) → list_any (is_same row_cmp k) tk ≡ t → (count k tk ≡ 0) × (count k h.keys ≡ 0)
        here true i = absurd (omega (arith, z, count_all k, count_any k tk i))
        here false i = (any_count k tk i, omega (arith, z, count_all k, ap {B = ℕ} (λ (t : Bool). cond (not t) (count k h.keys) 0) i))

    f_none : (k : Row) → count k (tk ++ rest) ≡ 0 → f k ≡ []
    f_none k z = h.others k (none_all k z).1

    start : Same o (flat_map f tk ++ flat_map f rest)
    start = subst (λ z. Same o z) (flat_map-append f tk rest) (Same-trans h.was (reread f h.keys (tk ++ rest) h.once once_all h.others f_none))

    all_rows : Same (flat_map r (tk ++ rest)) (grouped s.group b)
    all_rows = subst (λ z. Same (flat_map r (tk ++ rest)) z) (grouped_rows s.group b) (reread r (tk ++ rest) (keys_at s.group b) once_all (keys_once s.group b) (λ k z. sym (h.quiet k (none_all k z).0) ∙ f_none k z) (not_key s.group b))

    finish : Same (flat_map r tk ++ flat_map f rest) (grouped s.group b)
    finish = subst (λ z. Same (flat_map r tk ++ z) (grouped s.group b)) (sym (flat_map-chosen other f r (λ k e. h.quiet k (not_touched k e)) h.keys)) (subst (λ z. Same z (grouped s.group b)) (flat_map-append r tk rest) all_rows)

-- AFTER THE TICK
any_keys : (k : Row) (ks : List Held) → list_any (λ j. is_eq (held_cmp (held k) j)) ks ≡ list_any (is_same row_cmp k) (rows_of ks)
any_keys k [] = refl
any_keys k (j ∷ ks) = ap (λ (t : Bool). is_same row_cmp k j.items || t) (any_keys k ks)

closed_shows : (n : ℕ) (c : CellState) (o : Option Held) → shown_list (closed n c o).shown ≡ shown_list o
closed_shows n c None = refl
closed_shows n c (Some r) = refl

closed_wide : (n : ℕ) (c : CellState) (o : Option Held) → IsWide n o → IsWide n (closed n c o).shown
closed_wide n c None w = tt
closed_wide n c (Some r) w = w

nothing : (xs : List Row) → weigh (λ x. 1) xs ≡ 0 → xs ≡ []
unfolding weigh
nothing [] h = refl
nothing (x ∷ xs) h = absurd (omega (arith, h))

-- a group that shows nothing has no rows
no_rows : (by : List SourceColumn) (k : Row) (rows : ℤ) (xs : List Row) → rows ≡ pos (weigh (λ x. 1) xs) → (no_columns by || is_lt (int_cmp (pos 0) rows)) ≡ false → xs ≡ []
no_rows [] k rows xs e f = cc
no_rows (c ∷ by) k rows xs e f = nothing xs (omega (arith, ltb-false 0 (weigh (λ x. 1) xs) (sym (positive_test (weigh (λ x. 1) xs)) ∙ sym (ap (λ (z : ℤ). is_lt (int_cmp (pos 0) z)) e) ∙ f)))

closed_counts : (g : GroupBy) (k : Row) (c : CellState) (xs : List Row) → Counts g.items c xs → Counts g.items (closed (length g.items) c (row_now g (excerpt g.items (held k) c))) xs
closed_counts g k c xs h = here (no_columns g.by || is_lt (int_cmp (pos 0) c.rows)) refl
  where
    here : (t : Bool) → (no_columns g.by || is_lt (int_cmp (pos 0) c.rows)) ≡ t → Counts g.items (closed (length g.items) c (cond t (Some (held (map shown_figure (figures k c.rows g.items c.tallies)))) None)) xs
    here true e = record { rows = h.rows; tallies = h.tallies }
    here false e = subst (λ ys. Counts g.items (cell_zero (length g.items)) ys) (sym (no_rows g.by k c.rows xs h.rows e)) (counts_zero g.items)

no_counts : (k : Row) → count k [] ≡ 0
unfolding weigh
no_counts k = refl

none_sorted : IsStrictlySortedBy held_cmp []
unfolding IsStrictlySortedBy
none_sorted = tt

closed_stands : (s : GroupState) (o b : List Row) → Stands s o b → weigh (λ x. 1) b ≤ 2 ^ 62 → Stands (closed_state s (showns (λ k. row_now s.group (excerpt s.group.items k (cell_of (length s.group.items) k s.cells))) s.touched)) (grouped s.group b) b
closed_stands s o b h small = record {
  keys = keys_at s.group b;
  once = keys_once s.group b;
  was = subst (λ z. Same z (flat_map (shown_rows t) (keys_at s.group b))) (grouped_rows s.group b) (subst (λ z. Same (flat_map (row_of s.group b) (keys_at s.group b)) z) (flat_map-ext (row_of s.group b) (shown_rows t) (λ k. sym (shows k)) (keys_at s.group b)) (Same-refl _));
  others = λ k z. shows k ∙ not_key s.group b k z;
  wide = λ k. subst (λ c. IsWide n c.shown) (sym (cell_is k)) (wide_if k (list_any (is_same row_cmp k) (touched_keys s)));
  counts = λ k. subst (λ c. Counts s.group.items c (members s.group k b)) (sym (cell_is k)) (counts_if k (list_any (is_same row_cmp k) (touched_keys s)));
  quiet = λ k z. shows k;
  touched = λ k. omega (arith, no_counts k);
  ordered = none_sorted;
  whole = λ w k l. absurd (omega (arith, l, no_counts k));
  sorted = sorted-closing n row s.touched s.cells h.sorted;
}
  where
    n : ℕ
    n = length s.group.items

    cell : Row → CellState
    cell k = cell_of (length s.group.items) (held k) s.cells

    row : Held → Option Held
    row k = row_now s.group (excerpt s.group.items k (cell_of (length s.group.items) k s.cells))

    t : GroupState
    t = closed_state s (showns (λ k. row_now s.group (excerpt s.group.items k (cell_of (length s.group.items) k s.cells))) s.touched)

    cell_is : (k : Row) → cell_of n (held k) t.cells ≡ cond (list_any (is_same row_cmp k) (touched_keys s)) (closed n (cell k) (row (held k))) (cell k)
    cell_is k = cell-closing n row s.touched s.cells h.sorted (held k) ∙ ap (λ (b : Bool). cond b (closed n (cell k) (row (held k))) (cell k)) (any_keys k s.touched)

    shows : (k : Row) → shown_rows t k ≡ row_of s.group b k
    shows k = ap (λ (c : CellState). shown_list c.shown) (cell_is k) ∙ here (list_any (is_same row_cmp k) (touched_keys s)) refl
      where
        here : (u : Bool) → list_any (is_same row_cmp k) (touched_keys s) ≡ u → shown_list (cond u (closed n (cell k) (row (held k))) (cell k)).shown ≡ row_of s.group b k
        here true e = closed_shows n (cell k) (row (held k)) ∙ row_is_now s o b h small k (count_any k (touched_keys s) e)
        here false e = h.quiet k (any_count k (touched_keys s) e)

    wide_if : (k : Row) (u : Bool) → IsWide n (cond u (closed n (cell k) (row (held k))) (cell k)).shown
    wide_if k true = closed_wide n (cell k) (row (held k)) (wide_now s.group k (cell k) (members s.group k b) (h.counts k))
    wide_if k false = h.wide k

    counts_if : (k : Row) (u : Bool) → Counts s.group.items (cond u (closed n (cell k) (row (held k))) (cell k)) (members s.group k b)
    counts_if k true = closed_counts s.group k (cell k) (members s.group k b) (h.counts k)
    counts_if k false = h.counts k

pub tick_stands : (s : GroupState) (o b : List Row) → Stands s o b → weigh (λ x. 1) b ≤ 2 ^ 62 → Stands (closed_state s (map (shown_now s.group) (near_at s.group.items s.cells s.touched))) (grouped s.group b) b
tick_stands s o b h small = subst (λ cs. Stands (closed_state s cs) (grouped s.group b) b) (sym (changes-showns s.group s.cells s.touched)) (closed_stands s o b h small)

-- THE BEGINNING
abbrev first_by : Bool → List Held
first_by t = cond t (held [] ∷ []) []

first_sorted : (t : Bool) → IsStrictlySortedBy held_cmp (first_by t)
unfolding IsStrictlySortedBy
first_sorted true = (tt, tt)
first_sorted false = tt

first_some : (t : Bool) (k : Row) → 0 < count k (rows_of (first_by t)) → k ≡ []
unfolding weigh
first_some false k l = absurd (omega (arith, l))
first_some true k l = here (is_same row_cmp k []) refl l
  where
    here : (u : Bool) → is_same row_cmp k [] ≡ u → 0 < cond u 1 0 + 0 → k ≡ []
    here true e l = row_is k [] e
    here false e l = absurd (omega (arith, l))

first_quiet : (by : List SourceColumn) (k : Row) → count k (rows_of (first_by (no_columns by))) ≡ 0 → has_group by k [] ≡ false
unfolding weigh
first_quiet [] k z = here (is_same row_cmp k []) z
  where
    here : (u : Bool) → cond u 1 0 + 0 ≡ 0 → u ≡ false
    here true z = absurd (omega (arith, z))
    here false z = refl
first_quiet (c ∷ by) k z = refl

pub begins : (g : GroupBy) → Stands (beginning g) [] []
unfolding IsStrictlySortedBy
begins g = record {
  keys = [];
  once = λ k. omega (arith, no_counts k);
  was = Same-refl [];
  others = λ k z. refl;
  wide = λ k. tt;
  counts = λ k. counts_zero g.items;
  quiet = λ k z. sym (row_of-members g k [] ∙ ap (λ (t : Bool). cond t (group_of g k [] ∷ []) []) (first_quiet g.by k z));
  touched = λ k. sorted_once (first_touched g.by) (first_sorted (no_columns g.by)) k;
  ordered = first_sorted (no_columns g.by);
  whole = λ w k l. first_some (no_columns g.by) k l;
  sorted = tt;
}
