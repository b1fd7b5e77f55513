-- The state after a row and after a tick, key by key.
use Rattle.std.proofs.Common.{◌≡◌, ℕ, zero, ◌+◌, ◌<◌, ◌≤◌, Bool, true, false, cond, ◌||◌, Option, Some, None, List, [], ◌∷◌, ◌++◌, map, length, fold, ◌⊎◌, ⊎_elim, inl, inr, refl, sym, ap, ◌∙◌, subst, arith}
use Rattle.std.specs.declared.cmp.Ordering.{Ordering}
use Rattle.std.specs.declared.cmp.Ordering.TheVariants.{Less, Equal, Greater}
use Rattle.std.specs.Ordering.{is_eq, match_ordering, ordering_reverse}
use Rattle.std.specs.Map.{set_value, keys_of}
use Rattle.std.specs.BTreeMap.{is_at, insert_entry}
use Rattle.std.specs.BTreeSet.{insert_key}
use Rattle.std.specs.List.{AllByRecursion, flat_map, list_any}
use Rattle.std.specs.List.Sorted.{IsStrictlySortedBy}
use Rattle.values.specs.Row.{Row, row_cmp}
use Rattle.values.specs.Bag.{is_same}
use Rattle.values.specs.declared.resolved.ListItem.{ListItem}
use Rattle.op_queue.specs.Signed.{weigh}
use Rattle.group.specs.Groups.{GroupBy}
use Rattle.group.specs.Cells.{Held, held, held_cmp, CellState, cell_zero, cell_after, showing}
use Rattle.group.specs.Turns.{has_key, cell_of, with_cell, taken_in, shown_at, shown_after, ShownState, excerpt, near_at, row_now, shown_now, swap_of, outputs}
use Rattle.group.specs.Laws.{count}
use Rattle.group.proofs.KeyLemmas.{held_order, same_key, same_turned, at-remove_entry, cell-shown_in}
use Rattle.group.proofs.BagLemmas.{row_is}
use Rattle.group.proofs.CountLemmas.{above_all, sorted-insert_entry, sorted-remove_entry, sorted-set_value}

-- TOUCHED KEYS
abbrev pub rows_of : List Held → List Row
rows_of ks = map (λ k. k.items) ks

insert_all : (P : Held → Type 0) (k : Held) (ks : List Held) → P k → AllByRecursion P ks → AllByRecursion P (insert_key held_cmp ks k)
insert_all P k [] p a = (p, tt)
insert_all P k (j ∷ ks) p a = here (held_cmp k j) (insert_all P k ks p a.1)
  where
    here : (o : Ordering) → AllByRecursion P (insert_key held_cmp ks k) → AllByRecursion P (match_ordering o (k ∷ j ∷ ks) (j ∷ ks) (j ∷ insert_key held_cmp ks k))
    here Less i = (p, a)
    here Equal i = a
    here Greater i = (a.0, i)

pub sorted-insert_key : (k : Held) (ks : List Held) → IsStrictlySortedBy held_cmp ks → IsStrictlySortedBy held_cmp (insert_key held_cmp ks k)
unfolding IsStrictlySortedBy
sorted-insert_key k [] s = (tt, tt)
sorted-insert_key k (j ∷ ks) s = here (held_cmp k j) refl (sorted-insert_key k ks s.1)
  where
    here : (o : Ordering) → held_cmp k j ≡ o → IsStrictlySortedBy held_cmp (insert_key held_cmp ks k) → IsStrictlySortedBy held_cmp (match_ordering o (k ∷ j ∷ ks) (j ∷ ks) (j ∷ insert_key held_cmp ks k))
    here Less h i = ((h, above_all held_cmp held_order k j ks h s.0), s)
    here Equal h i = s
    here Greater h i = (insert_all (λ y. held_cmp j y ≡ Less) k ks (held_order.total.antisymm j k ∙ ap ordering_reverse h) s.0, i)

none_after : (j : Held) (ks : List Held) → AllByRecursion (λ y. held_cmp j y ≡ Less) ks → count j.items (rows_of ks) ≡ 0
unfolding weigh
none_after j [] a = refl
none_after j (k ∷ ks) a = omega (arith, none_after j ks a.1, ap {B = ℕ} (λ (o : Ordering). cond (is_eq o) 1 0) a.0)

-- keys in order are there once
pub sorted_once : (ks : List Held) → IsStrictlySortedBy held_cmp ks → (x : Row) → count x (rows_of ks) ≤ 1
unfolding weigh IsStrictlySortedBy
sorted_once [] s x = omega arith
sorted_once (k ∷ ks) s x = here (is_same row_cmp x k.items) refl (sorted_once ks s.1 x)
  where
    here : (b : Bool) → is_same row_cmp x k.items ≡ b → count x (rows_of ks) ≤ 1 → cond b 1 0 + count x (rows_of ks) ≤ 1
    here true e i = let same : x ≡ k.items = row_is x k.items e in omega (arith, subst (λ z. count z (rows_of ks) ≡ 0) (sym same) (none_after k ks s.0))
    here false e i = omega (arith, i)

-- what is not touched after a row was not before, and is no key of it
pub touch_not : (k : Held) (ks : List Held) (x : Row) → count x (rows_of (insert_key held_cmp ks k)) ≡ 0 → (count x (rows_of ks) ≡ 0) × (is_same row_cmp x k.items ≡ false)
unfolding weigh
touch_not k [] x h = here (is_same row_cmp x k.items) h
  where
    here : (b : Bool) → cond b 1 0 + 0 ≡ 0 → (zero ≡ 0) × (b ≡ false)
    here true h = absurd (omega (arith, h))
    here false h = (refl, refl)
touch_not k (j ∷ ks) x h = here (held_cmp k j) refl h (touch_not k ks x)
  where
    first : (b : Bool) → is_same row_cmp x k.items ≡ b → cond b 1 0 + (cond (is_same row_cmp x j.items) 1 0 + count x (rows_of ks)) ≡ 0 → (cond (is_same row_cmp x j.items) 1 0 + count x (rows_of ks) ≡ 0) × (is_same row_cmp x k.items ≡ false)
    first true e h = absurd (omega (arith, h))
    first false e h = (omega (arith, h), e)

    tied : (b : Bool) → is_same row_cmp x j.items ≡ b → k ≡ j → cond b 1 0 + count x (rows_of ks) ≡ 0 → is_same row_cmp x k.items ≡ false
    tied true e s h = absurd (omega (arith, h))
    tied false e s h = subst (λ z. is_same row_cmp x z.items ≡ false) (sym s) e

    here : (o : Ordering) → held_cmp k j ≡ o → count x (rows_of (match_ordering o (k ∷ j ∷ ks) (j ∷ ks) (j ∷ insert_key held_cmp ks k))) ≡ 0 → (count x (rows_of (insert_key held_cmp ks k)) ≡ 0 → (count x (rows_of ks) ≡ 0) × (is_same row_cmp x k.items ≡ false)) → (count x (rows_of (j ∷ ks)) ≡ 0) × (is_same row_cmp x k.items ≡ false)
    here Less e h i = first (is_same row_cmp x k.items) refl h
    here Equal e h i = (h, tied (is_same row_cmp x j.items) refl (held_order.exact k j e) h)
    here Greater e h i = let r = i (omega (arith, h)) in (omega (arith, h, r.0), r.1)

-- what is touched after a row was before, or is its key
pub touch_some : (k : Held) (ks : List Held) (x : Row) → 0 < count x (rows_of (insert_key held_cmp ks k)) → (0 < count x (rows_of ks)) ⊎ (x ≡ k.items)
unfolding weigh
touch_some k [] x h = here (is_same row_cmp x k.items) refl h
  where
    here : (b : Bool) → is_same row_cmp x k.items ≡ b → 0 < cond b 1 0 + 0 → (0 < zero) ⊎ (x ≡ k.items)
    here true e h = inr (row_is x k.items e)
    here false e h = absurd (omega (arith, h))
touch_some k (j ∷ ks) x h = here (held_cmp k j) h (touch_some k ks x)
  where
    first : (b : Bool) → is_same row_cmp x k.items ≡ b → 0 < cond b 1 0 + count x (rows_of (j ∷ ks)) → (0 < count x (rows_of (j ∷ ks))) ⊎ (x ≡ k.items)
    first true e h = inr (row_is x k.items e)
    first false e h = inl (omega (arith, h))

    second : (b : Bool) → 0 < cond b 1 0 + count x (rows_of (insert_key held_cmp ks k)) → (0 < count x (rows_of (insert_key held_cmp ks k)) → (0 < count x (rows_of ks)) ⊎ (x ≡ k.items)) → (0 < cond b 1 0 + count x (rows_of ks)) ⊎ (x ≡ k.items)
    second true h i = inl (omega arith)
    second false h i = ⊎_elim (λ l. inl (omega (arith, l))) (λ e. inr e) (i (omega (arith, h)))

    here : (o : Ordering) → 0 < count x (rows_of (match_ordering o (k ∷ j ∷ ks) (j ∷ ks) (j ∷ insert_key held_cmp ks k))) → (0 < count x (rows_of (insert_key held_cmp ks k)) → (0 < count x (rows_of ks)) ⊎ (x ≡ k.items)) → (0 < count x (rows_of (j ∷ ks))) ⊎ (x ≡ k.items)
    here Less h i = first (is_same row_cmp x k.items) refl h
    here Equal h i = inl h
    here Greater h i = second (is_same row_cmp x j.items) h i

-- THE ORDER OF THE GROUPS
sorted-with_cell : (k : Held) (c d : CellState) (es : List (Held × CellState)) → IsStrictlySortedBy held_cmp (keys_of es) → IsStrictlySortedBy held_cmp (keys_of (with_cell k c d es))
sorted-with_cell k c d es s = here (has_key k es)
  where
    here : (b : Bool) → IsStrictlySortedBy held_cmp (keys_of (cond b (set_value (is_at (held_cmp k)) es c) (insert_entry held_cmp es k d)))
    here true = sorted-set_value held_cmp held_order (is_at (held_cmp k)) c es s
    here false = sorted-insert_entry held_cmp held_order k d es s

pub sorted-taken_in : (is : List ListItem) (k : Held) (r : Bool × Row) (es : List (Held × CellState)) → IsStrictlySortedBy held_cmp (keys_of es) → IsStrictlySortedBy held_cmp (keys_of (taken_in is k r es))
sorted-taken_in is k r es s = sorted-with_cell k (cell_after is (cell_of (length is) k es) r) (cell_after is (cell_zero (length is)) r) es s

sorted-shown_at : (n : ℕ) (k : Held) (o : Option Held) (es : List (Held × CellState)) → IsStrictlySortedBy held_cmp (keys_of es) → IsStrictlySortedBy held_cmp (keys_of (shown_at n k o es))
sorted-shown_at n k None es s = sorted-remove_entry held_cmp held_order (is_at (held_cmp k)) es s
sorted-shown_at n k (Some r) es s = sorted-with_cell k (showing (cell_of n k es) (Some r)) (showing (cell_zero n) (Some r)) es s

-- A TICK
-- what is kept of a group that shows this from now on
abbrev pub closed : ℕ → CellState → Option Held → CellState
closed n c None = cell_zero n
closed n c (Some r) = showing c (Some r)

closed-twice : (n : ℕ) (c : CellState) (o : Option Held) → closed n (closed n c o) o ≡ closed n c o
closed-twice n c None = refl
closed-twice n c (Some r) = refl

cell-shown_at : (n : ℕ) (k q : Held) (o : Option Held) (es : List (Held × CellState)) → IsStrictlySortedBy held_cmp (keys_of es) → cell_of n q (shown_at n k o es) ≡ cond (is_eq (held_cmp k q)) (closed n (cell_of n k es) o) (cell_of n q es)
cell-shown_at n k q None es s = at-remove_entry held_cmp held_order (cell_zero n) k q es s
cell-shown_at n k q (Some r) es s = cell-shown_in n k q r es

-- the rows that some groups show
abbrev pub showns : (Held → Option Held) → List Held → List ShownState
showns row ks = map (λ k. record { key = k; row = row k }) ks

pub sorted-closing : (n : ℕ) (row : Held → Option Held) (ks : List Held) (es : List (Held × CellState)) → IsStrictlySortedBy held_cmp (keys_of es) → IsStrictlySortedBy held_cmp (keys_of (fold (shown_after n) es (showns row ks)))
sorted-closing n row [] es s = s
sorted-closing n row (k ∷ ks) es s = sorted-closing n row ks (shown_at n k (row k) es) (sorted-shown_at n k (row k) es s)

pub cell-closing : (n : ℕ) (row : Held → Option Held) (ks : List Held) (es : List (Held × CellState)) → IsStrictlySortedBy held_cmp (keys_of es) → (q : Held) → cell_of n q (fold (shown_after n) es (showns row ks)) ≡ cond (list_any (λ k. is_eq (held_cmp q k)) ks) (closed n (cell_of n q es) (row q)) (cell_of n q es)
cell-closing n row [] es s q = refl
cell-closing n row (k ∷ ks) es s q =
    cell-closing n row ks (shown_at n k (row k) es) (sorted-shown_at n k (row k) es s) q
    ∙ ap (λ (c : CellState). cond (list_any (λ j. is_eq (held_cmp q j)) ks) (closed n c (row q)) c) (cell-shown_at n k q (row k) es s)
    ∙ ap (λ (b : Bool). cond (list_any (λ j. is_eq (held_cmp q j)) ks) (closed n (cond b (closed n (cell_of n k es) (row k)) (cell_of n q es)) (row q)) (cond b (closed n (cell_of n k es) (row k)) (cell_of n q es))) (same_turned held_cmp held_order k q)
    ∙ here (is_eq (held_cmp q k)) refl (list_any (λ j. is_eq (held_cmp q j)) ks)
  where
    tied : q ≡ k → closed n (cell_of n k es) (row k) ≡ closed n (cell_of n q es) (row q)
    tied e = ap (λ (j : Held). closed n (cell_of n j es) (row j)) (sym e)

    here : (b : Bool) → is_eq (held_cmp q k) ≡ b → (t : Bool) → cond t (closed n (cond b (closed n (cell_of n k es) (row k)) (cell_of n q es)) (row q)) (cond b (closed n (cell_of n k es) (row k)) (cell_of n q es)) ≡ cond (b || t) (closed n (cell_of n q es) (row q)) (cell_of n q es)
    here false e true = refl
    here false e false = refl
    here true e false = tied (same_key held_cmp held_order q k e)
    here true e true = ap (λ (c : CellState). closed n c (row q)) (tied (same_key held_cmp held_order q k e)) ∙ closed-twice n (cell_of n q es) (row q)

pub changes-showns : (g : GroupBy) (es : List (Held × CellState)) (ks : List Held) → map (shown_now g) (near_at g.items es ks) ≡ showns (λ k. row_now g (excerpt g.items k (cell_of (length g.items) k es))) ks
changes-showns g es [] = refl
changes-showns g es (k ∷ ks) = ap (λ (cs : List ShownState). shown_now g (excerpt g.items k (cell_of (length g.items) k es)) ∷ cs) (changes-showns g es ks)

-- the outputs, key by key
abbrev pub output_of : GroupBy → List (Held × CellState) → Row → List (Bool × Row)
output_of g es k = swap_of (length g.items) (cell_of (length g.items) (held k) es).shown (row_now g (excerpt g.items (held k) (cell_of (length g.items) (held k) es)))

pub outputs-keys : (g : GroupBy) (es : List (Held × CellState)) (ks : List Held) → outputs g (near_at g.items es ks) ≡ flat_map (output_of g es) (rows_of ks)
outputs-keys g es [] = refl
outputs-keys g es (k ∷ ks) = ap (λ (rs : List (Bool × Row)). output_of g es k.items ++ rs) (outputs-keys g es ks)
