-- What a window holds after a turn, what it puts out, and how many rows that makes.
use Rattle.std.proofs.Common.{◌≡◌, ℕ, ◌+◌, ◌-◌, ◌<◌, ◌≤◌, Bool, true, false, cond, not, nat_lt, Option, None, Some, List, [], ◌∷◌, ◌++◌, filter, get_or, length, map, take, drop, refl, ap, ◌∙◌, sym, subst, arith, append-nil, length-drop, ltb-true}
use Rattle.std.specs.List.{All}
use Rattle.std.proofs.lemmas.List.{length-append, length-map, length-take-le}
use Rattle.std.proofs.lemmas.List.Elements.{All-append, All-cons, All-drop, All-filter, All-head, All-map, All-nil, All-tail, All-take}
use Rattle.values.specs.Row.{Row, same_row}
use Rattle.values.specs.Window.{Element}
use Rattle.values.specs.Plain.{plain}
use Rattle.op_queue.specs.Entries.{Entry, RowAt, TickAt}
use Rattle.op_queue.specs.Items.{entries_of, item_instant}
use Rattle.op_queue.specs.Paths.{rows_in}
use Rattle.op_queue.specs.Signed.{weigh, up}
use Rattle.op_queue.specs.declared.item.Item.{Item}
use Rattle.op_queue.specs.declared.item.Item.TheVariants.{Rows, Tick}
use Rattle.windows.specs.Laws.{IsPart, Stands, coming, rows_in_order, shown_by}
use Rattle.windows.specs.Windows.{WindowState, near, out}
use Rattle.windows.specs.Widths.{IsItemWide}
use Rattle.windows.proofs.OutLemmas.{item_rows, outs_all, outs_few}
use Rattle.laws_dataflow.specs.Windows.{Brings}
use Rattle.laws_dataflow.specs.Nets.{World, Node, Cell, at_window, at_unary, at_join, batch, Turn, window_rows_turn, window_tick_turn, rows_turn, tick_turn, left_rows, right_rows, left_first, right_first, left_last, right_last}
use Rattle.laws_dataflow.proofs.FrontLemmas.{brought_instant}
use Rattle.laws_queries.specs.Widths.{IsRow, AreRows, AreEntries, IsSideWide}
use Rattle.laws_queries.specs.Counts.{StaysWithin, count}
use Rattle.laws_queries.proofs.FirstLemmas.{batch_entries, batch_some, batch_wide, batch_width, behind_wide, wide_batch}

-- THE ITEM at the front of a window
pub item_now : (i : Item) (n c : ℕ) (rest : List (Entry Row)) (waiting : List Element) → 0 < length (entries_of i)
    → Brings n (entries_of i ++ rest) waiting c → item_instant i ≡ n
item_now (Rows t b) n c rest waiting some h = brought_instant n t c b rest waiting (batch_some t b some) h
item_now (Tick t) n c rest waiting some h = h.0

pub item_wide : (w : ℕ) (i : Item) (rest : List (Entry Row)) → 0 < length (entries_of i) → AreEntries w (entries_of i ++ rest) → IsItemWide w i
item_wide w (Rows t b) rest some h = batch_width w t b rest (batch_some t b some) h
item_wide w (Tick t) rest some h = tt

pub brought_few : (n t c : ℕ) (b : List (Bool × Row)) (q : List (Entry Row)) (waiting : List Element) → Brings n (batch t b ++ q) waiting c
    → length b ≤ length waiting
brought_few n t c [] q waiting h = omega arith
brought_few n t c (s ∷ b) q [] h = absurd h
brought_few n t c (s ∷ b) q (e ∷ waiting) h = omega (arith, brought_few n t c b q waiting h.3)

-- THE ROWS OF ELEMENTS
pub rows_all : (P : Row → Type 0) (es : List Element) → All P (rows_in_order es) → All (λ e. P e.row) es
rows_all P [] h = All-nil (λ (e : Element). P e.row)
rows_all P (e ∷ es) h = All-cons (λ (x : Element). P x.row) e es (All-head P e.row (rows_in_order es) h) (rows_all P es (All-tail P e.row (rows_in_order es) h))

pub coming_all : (P : Row → Type 0) (es : List Element) → All (λ s. P s.1) (coming es) → All (λ e. P e.row) es
coming_all P [] h = All-nil (λ (e : Element). P e.row)
coming_all P (e ∷ es) h =
    All-cons (λ (x : Element). P x.row) e es (All-head (λ s. P s.1) (true, e.row) (coming es) h)
    (coming_all P es (All-tail (λ s. P s.1) (true, e.row) (coming es) h))

pub count_elements : (es : List Element) → count (rows_in_order es) ≡ length es
unfolding weigh
count_elements [] = refl
count_elements (e ∷ es) = omega (arith, count_elements es)

filter_few : (p : Element → Bool) (es : List Element) → length (filter p es) ≤ length es
filter_few p [] = omega arith
filter_few p (e ∷ es) = here (p e) (filter_few p es)
  where
    here : (b : Bool) → length (filter p es) ≤ length es → length (cond b (e ∷ filter p es) (filter p es)) ≤ length (e ∷ es)
    here true h = omega (arith, h)
    here false h = omega (arith, h)

-- AFTER A TURN it holds and awaits no more elements, and rows as wide

pub record HeldKept (w : ℕ) (h e : List Element) (q : List (Entry Row)) (h2 e2 : List Element) (q2 : List (Entry Row)) : Type 0 where
  pub few : length h2 + length e2 ≤ length h + length e
  pub wide : IsSideWide w (rows_in_order h) q → IsSideWide w (rows_in_order h2) q2

part_rows : (w : ℕ) (h h2 : List Element) → IsPart h2 h → All (λ e. IsRow w e.row) h → AreRows w (rows_in_order h2)
part_rows w h h2 part rows =
    subst (λ l. AreRows w (rows_in_order l)) (sym part.is) (All-map (IsRow w) (λ (e : Element). e.row) (filter part.test h)
    (All-filter part.test (λ (e : Element). IsRow w e.row) h rows))

part_few : (h h2 : List Element) → IsPart h2 h → length h2 ≤ length h
part_few h h2 part = subst (λ l. length l ≤ length h) (sym part.is) (filter_few part.test h)

abbrev pub WindowKept : Cell → Cell → Type 0
WindowKept (at_window h e b q n) (at_window h2 e2 b2 q2 n2) = (w : ℕ) → HeldKept w h e q h2 e2 q2
WindowKept (at_window h e b q n) (at_unary r i o m) = Unit {0}
WindowKept (at_window h e b q n) (at_join r s l m o k x y) = Unit {0}
WindowKept (at_unary q i o n) d = Unit {0}
WindowKept (at_join q r l m o n a b) d = Unit {0}

pub window_kept : (w : World) (node : Node) (c c2 : Cell) (outs : List (Entry Row)) → Turn w node c outs c2 → WindowKept c c2
window_kept w node c c2 outs (window_rows_turn k n es ys h h2 e o o2 q law part) = λ wide. record {
  few = omega (arith, part_few (h ++ es) h2 part, length-append h es, length-append es e);
  wide = λ s. record {
    taken = part_rows wide (h ++ es) h2 part (All-append (λ (x : Element). IsRow wide x.row) h es (rows_all (IsRow wide) h s.taken)
        (coming_all (IsRow wide) es (batch_wide wide n (coming es) q s.queue)));
    queue = behind_wide wide n (coming es) q s.queue;
  };
}
window_kept w node c c2 outs (window_tick_turn k n ys h h2 e o o2 q law part) = λ wide. record {
  few = omega (arith, part_few h h2 part);
  wide = λ s. record { taken = part_rows wide h h2 part (rows_all (IsRow wide) h s.taken); queue = s.queue };
}
window_kept w node c c2 outs (rows_turn f x n xs ys q i i2 o o2 law) = tt
window_kept w node c c2 outs (tick_turn f x n ys q i o o2 law) = tt
window_kept w node c c2 outs (left_rows f x y n xs ys q r l l2 m o b law) = tt
window_kept w node c c2 outs (right_rows f x y n xs ys q r l m m2 o a law) = tt
window_kept w node c c2 outs (left_first f x y n q r l m o) = tt
window_kept w node c c2 outs (right_first f x y n q r l m o) = tt
window_kept w node c c2 outs (left_last f x y n q r l m o) = tt
window_kept w node c c2 outs (right_last f x y n q r l m o) = tt

-- WHAT IT PUTS OUT, by what it holds and what comes
item_all : (w : ℕ) (i : Item) (rest : List (Entry Row)) → AreEntries w (entries_of i ++ rest) → All (λ (s : Bool × Row). IsRow w s.1) (item_rows i)
item_all w (Rows t b) rest h = batch_wide w t b rest h
item_all w (Tick t) rest h = All-nil (λ (s : Bool × Row). IsRow w s.1)

item_few : (n c : ℕ) (i : Item) (rest : List (Entry Row)) (waiting : List Element) → Brings n (entries_of i ++ rest) waiting c → length (item_rows i) ≤ length waiting
item_few n c (Rows t b) rest waiting h = brought_few n t c b rest waiting h
item_few n c (Tick t) rest waiting h = omega arith

entries_wide : (w : ℕ) (es : List (Entry Row)) → All (λ (s : Bool × Row). IsRow w s.1) (rows_in es) → AreEntries w es
unfolding rows_in
entries_wide w [] h = tt
entries_wide w (RowAt t s ∷ es) h = (All-head (λ (x : Bool × Row). IsRow w x.1) s (rows_in es) h, entries_wide w es (All-tail (λ (x : Bool × Row). IsRow w x.1) s (rows_in es) h))
entries_wide w (TickAt t ∷ es) h = entries_wide w es h

pub window_wide : (s : WindowState) (first w n : ℕ) (h : List Element) (i : Item) (rest : List (Entry Row)) → Stands first n s h
    → IsSideWide w (rows_in_order h) (entries_of i ++ rest) → AreEntries w (out i (near s i))
window_wide s first w n h i rest st side = entries_wide w (out i (near s i)) (outs_all (IsRow w) first n s h i st side.taken (item_all w i rest side.queue))

count_rows : (rows : List Row) → count rows ≡ length rows
unfolding weigh
count_rows [] = refl
count_rows (r ∷ rows) = omega (arith, count_rows rows)

entries_few : (most n : ℕ) (es : List (Entry Row)) → n + up (λ r. 1) (rows_in es) ≤ most → StaysWithin most n es
unfolding rows_in weigh
entries_few most n [] h = omega (arith, h)
entries_few most n (RowAt t (true, r) ∷ es) h = (omega (arith, h), entries_few most (n + 1) es (omega (arith, h)))
entries_few most n (RowAt t (false, r) ∷ es) h = (omega (arith, h), entries_few most (n - 1) es (omega (arith, h)))
entries_few most n (TickAt t ∷ es) h = (omega (arith, h), entries_few most n es h)

pub window_few : (s : WindowState) (first most n c : ℕ) (h waiting : List Element) (i : Item) (rest : List (Entry Row)) → Stands first n s h
    → Brings n (entries_of i ++ rest) waiting c → length h + length waiting ≤ most → StaysWithin most (count (shown_by s h)) (out i (near s i))
window_few s first most n c h waiting i rest st brings le =
    entries_few most (count (shown_by s h)) (out i (near s i)) (omega (arith, count_rows (shown_by s h), outs_few first n s h i st, item_few n c i rest waiting brings, le))
