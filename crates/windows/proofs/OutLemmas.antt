-- What a window puts out: rows that it holds or takes, of which no more enter than it holds or takes.
use Rattle.std.proofs.Common.{◌≡◌, ℕ, ◌+◌, ◌-◌, ◌<◌, ◌≤◌, Bool, true, false, cond, not, nat_lt, Option, None, Some, List, [], ◌∷◌, ◌++◌, filter, get_or, length, map, take, drop, refl, ap, sym, ◌∙◌, subst, subst₂, arith, ltb-true}
use Rattle.std.specs.List.{All}
use Rattle.std.proofs.lemmas.List.{length-map, length-take-le, length-drop}
use Rattle.std.proofs.lemmas.List.Elements.{All-append, All-cons, All-drop, All-filter, All-head, All-map, All-nil, All-tail, All-take}
use Rattle.values.specs.Row.{Row, same_row}
use Rattle.values.specs.Window.{Element}
use Rattle.values.specs.Plain.{plain}
use Rattle.op_queue.specs.Entries.{Entry, RowAt, TickAt}
use Rattle.op_queue.specs.Paths.{rows_in}
use Rattle.op_queue.specs.Signed.{weigh, up}
use Rattle.op_queue.specs.declared.item.Item.{Item}
use Rattle.op_queue.specs.declared.item.Item.TheVariants.{Rows, Tick}
use Rattle.op_queue.proofs.PathLemmas.{rows_in-batch}
use Rattle.windows.specs.Instants as instants
use Rattle.windows.specs.Instants.{InstantState, entering, is_past, leaving, near_at, no_rows, signed}
use Rattle.windows.specs.Latest as latest
use Rattle.windows.specs.Laws.{AreShown, AreUpTo, InstantsStand, LatestStands, Stands, is_of, rows_in_order, shown_by}
use Rattle.values.specs.Moving.{at_once, moves}
use Rattle.windows.specs.Windows.{IsAfter, WindowState, near, out}
use Rattle.windows.specs.declared.window.Holding.TheVariants.{Instants, Latest}
use Rattle.windows.proofs.InstantsLaw.{length_plain, rows_of_tick}

-- the rows of an item
abbrev pub item_rows : Item → List (Bool × Row)
item_rows (Rows t b) = b
item_rows (Tick t) = []

-- nothing that it holds came later
plain_up_to : (n : ℕ) (es : List Element) → AreUpTo n es → instants.IsAfter n (plain es)
plain_up_to n [] h = All-nil (λ (x : ℕ × Row). x.0 ≤ n)
plain_up_to n (e ∷ es) h = All-cons (λ (x : ℕ × Row). x.0 ≤ n) (e.instant, e.row) (plain es) h.0 (plain_up_to n es h.1)

pub stands_after : (first n : ℕ) (s : WindowState) (held : List Element) → Stands first n s held → IsAfter n s
stands_after first n (Instants s) held st = subst (instants.IsAfter n) (sym st.same) (plain_up_to n held st.up_to)
stands_after first n (Latest s) held st = tt

-- what rows make it put out are rows of their instant, and a tick's rows come before the tick
none_out : let es : List (Entry Row) = [] in rows_in es ≡ []
unfolding rows_in
none_out = refl

pub out_rows : (s : WindowState) (t : ℕ) (b : List (Bool × Row)) → out (Rows t b) (near s (Rows t b)) ≡ map (RowAt t) (rows_in (out (Rows t b) (near s (Rows t b))))
out_rows (Instants s) t b = here (at_once s.reach)
  where
    here : (o : Bool) → cond o (map (RowAt t) b) [] ≡ map (RowAt t) (rows_in (cond o (map (RowAt t) b) []))
    here true = ap (map (RowAt t)) (sym (rows_in-batch t b))
    here false = ap (map (RowAt t)) (sym none_out)
out_rows (Latest s) t b = ap (map (RowAt t)) (sym (rows_in-batch t (latest.interleaved b (latest.near s (Rows t b)))))

pub out_tick : (s : WindowState) (t : ℕ) → out (Tick t) (near s (Tick t)) ≡ map (RowAt t) (rows_in (out (Tick t) (near s (Tick t)))) ++ TickAt t ∷ []
out_tick (Instants s) t = ap (λ xs. map (RowAt t) xs ++ TickAt t ∷ []) (sym (rows_of_tick t (signed (instants.near s (Tick t)))))
out_tick (Latest s) t = ap (λ xs. map (RowAt t) xs ++ TickAt t ∷ []) (sym (rows_of_tick t []))

-- ---- its rows
module _ (P : Row → Type 0) where
  abbrev PSigned : Bool × Row → Type 0
  PSigned x = P x.1

  abbrev PHeld : ℕ × Row → Type 0
  PHeld x = P x.1

  elements_all : (es : List Element) → All P (rows_in_order es) → All (λ (e : Element). P e.row) es
  elements_all [] h = All-nil (λ (e : Element). P e.row)
  elements_all (e ∷ es) h = All-cons (λ (x : Element). P x.row) e es (All-head P e.row (rows_in_order es) h) (elements_all es (All-tail P e.row (rows_in_order es) h))

  -- of instants
  part_all : (p : ℕ × Row → Bool) (hs : List (ℕ × Row)) → All PHeld hs → All P (instants.rows_in (filter p hs))
  part_all p hs all = All-map P (λ (x : ℕ × Row). x.1) (filter p hs) (All-filter p PHeld hs all)

  signed_all : (s : InstantState) (t : ℕ) → All PHeld s.held → All PSigned (signed (near_at s t))
  signed_all s t all =
      let leave : List Row = (near_at s t).leave in
      let enter : List Row = (near_at s t).enter in
      All-append PSigned (map leaving leave) (map entering enter)
      (All-map PSigned leaving leave (part_all (is_past s.reach t) (take s.shown s.held) (All-take PHeld s.shown s.held all)))
      (All-map PSigned entering enter (part_all (λ x. not (is_past s.reach t x)) (drop s.shown s.held) (All-drop PHeld s.shown s.held all)))

  instants_all : (first n : ℕ) (s : InstantState) (held : List Element) (i : Item) → InstantsStand first n s held → All P (rows_in_order held) → All PSigned (item_rows i) → All PSigned (rows_in (instants.out i (instants.near s i)))
  instants_all first n s held (Rows t b) st rows come = here (at_once s.reach)
    where
      here : (o : Bool) → All PSigned (rows_in (cond o (map (RowAt t) b) []))
      here true = subst (All PSigned) (sym (rows_in-batch t b)) come
      here false = subst (All PSigned) (sym none_out) (All-nil PSigned)
  instants_all first n s held (Tick t) st rows come = here (moves s.reach t)
    where
      all : All PHeld s.held
      all = subst (All PHeld) (sym st.same) (All-map PHeld (λ (e : Element). (e.instant, e.row)) held (elements_all held rows))

      here : (m : Bool) → All PSigned (rows_in (instants.out (Tick t) (cond m (near_at s t) (no_rows s))))
      here true = subst (All PSigned) (sym (rows_of_tick t (signed (near_at s t)))) (signed_all s t all)
      here false = subst (All PSigned) (sym (rows_of_tick t [])) (All-nil PSigned)

  -- the last of partitions
  after_all : (columns : List ℕ) (n : ℕ) (held : Row → List Row) (row k : Row) → All P (held k) → P row → All P (latest.held_after columns n held row k)
  after_all columns n held row k h p = here (same_row (latest.key_in columns row) k)
    where
      here : (b : Bool) → All P (cond b (latest.last_of n (held k ++ row ∷ [])) (held k))
      here true = All-drop P (length (held k ++ row ∷ []) - n) (held k ++ row ∷ []) (All-append P (held k) (row ∷ []) h (All-cons P row [] p (All-nil P)))
      here false = h

  fallen_all : (n : ℕ) (rows : List Row) → All P rows → All PSigned (latest.minus_of (latest.fallen_of n rows))
  fallen_all n rows h = here (nat_lt n (length rows)) refl
    where
      here : (b : Bool) → nat_lt n (length rows) ≡ b → All PSigned (latest.minus_of (cond b (Some (get_or rows 0 [])) None))
      here true e = All-cons PSigned (false, get_or rows 0 []) [] (h 0 [] (omega (arith, ltb-true _ _ e))) (All-nil PSigned)
      here false e = All-nil PSigned

  interleaved_all : (columns : List ℕ) (n : ℕ) (held : Row → List Row) (xs : List (Bool × Row)) → ((k : Row) → All P (held k)) → All PSigned xs → All PSigned (latest.interleaved xs (latest.all_fallen columns n held xs))
  interleaved_all columns n held [] h k = All-nil PSigned
  interleaved_all columns n held (x ∷ xs) h k =
      let one : P x.1 = All-head PSigned x xs k in
      let rows : List Row = held (latest.key_in columns x.1) ++ x.1 ∷ [] in
      let later : List (Bool × Row) = latest.interleaved xs (latest.all_fallen columns n (latest.held_after columns n held x.1) xs) in
      All-cons PSigned x (latest.minus_of (latest.fallen_of n rows) ++ later) one
      (All-append PSigned (latest.minus_of (latest.fallen_of n rows)) later
      (fallen_all n rows (All-append P (held (latest.key_in columns x.1)) (x.1 ∷ []) (h (latest.key_in columns x.1)) (All-cons P x.1 [] one (All-nil P))))
      (interleaved_all columns n (latest.held_after columns n held x.1) xs (λ j. after_all columns n held x.1 j (h j) one) (All-tail PSigned x xs k)))

  latest_all : (first n : ℕ) (s : latest.LatestState) (held : List Element) (i : Item) → LatestStands first s.columns s.count n (latest.held_in s.entries) held → All P (rows_in_order held) → All PSigned (item_rows i)
      → All PSigned (rows_in (latest.out i (latest.near s i)))
  latest_all first n s held (Rows t b) st rows come =
      let parts : (k : Row) → All P (latest.held_in s.entries k) =
      λ k. subst (All P) (sym (st.parts k)) (All-map P (λ (e : Element). e.row) (filter (is_of s.columns k) held)
      (All-filter (is_of s.columns k) (λ (e : Element). P e.row) held (elements_all held rows))) in
      let outs : List (Bool × Row) = latest.interleaved b (latest.all_fallen s.columns s.count (latest.held_in s.entries) b) in
      subst (All PSigned) (sym (rows_in-batch t outs)) (interleaved_all s.columns s.count (latest.held_in s.entries) b parts come)
  latest_all first n s held (Tick t) st rows come = subst (All PSigned) (sym (rows_of_tick t [])) (All-nil PSigned)

  -- WHAT IT PUTS OUT has what its rows and those of the item have
  pub outs_all : (first n : ℕ) (s : WindowState) (held : List Element) (i : Item) → Stands first n s held → All P (rows_in_order held) → All PSigned (item_rows i) → All PSigned (rows_in (out i (near s i)))
  outs_all first n (Instants s) held i st rows come = instants_all first n s held i st rows come
  outs_all first n (Latest s) held i st rows come = latest_all first n s held i st rows come

-- ---- how many enter
up_most : (xs : List (Bool × Row)) → up (λ r. 1) xs ≤ length xs
unfolding weigh
up_most [] = omega arith
up_most ((true, r) ∷ xs) = omega (arith, up_most xs)
up_most ((false, r) ∷ xs) = omega (arith, up_most xs)

up_leaving : (rows : List Row) → up (λ r. 1) (map leaving rows) ≡ 0
unfolding weigh
up_leaving [] = refl
up_leaving (r ∷ rows) = omega (arith, up_leaving rows)

up_entering : (rows : List Row) → up (λ r. 1) (map entering rows) ≡ length rows
unfolding weigh
up_entering [] = refl
up_entering (r ∷ rows) = omega (arith, up_entering rows)

up_both : (xs ys : List (Bool × Row)) → up (λ r. 1) (xs ++ ys) ≡ up (λ r. 1) xs + up (λ r. 1) ys
unfolding weigh
up_both [] ys = omega arith
up_both ((true, r) ∷ xs) ys = omega (arith, up_both xs ys)
up_both ((false, r) ∷ xs) ys = omega (arith, up_both xs ys)

up_none : up (λ (r : Row). 1) [] ≡ 0
unfolding weigh
up_none = refl

up_interleaved : (xs : List (Bool × Row)) (fallen : List (Option Row)) → up (λ r. 1) (latest.interleaved xs fallen) ≤ length xs
unfolding weigh
up_interleaved [] fallen = omega arith
up_interleaved (x ∷ xs) [] = omega arith
up_interleaved ((true, r) ∷ xs) (None ∷ fallen) = omega (arith, up_interleaved xs fallen)
up_interleaved ((true, r) ∷ xs) (Some y ∷ fallen) = omega (arith, up_interleaved xs fallen)
up_interleaved ((false, r) ∷ xs) (None ∷ fallen) = omega (arith, up_interleaved xs fallen)
up_interleaved ((false, r) ∷ xs) (Some y ∷ fallen) = omega (arith, up_interleaved xs fallen)

part_few : (p : ℕ × Row → Bool) (hs : List (ℕ × Row)) → length (instants.rows_in (filter p hs)) ≤ length hs
part_few p [] = omega arith
part_few p (x ∷ hs) = here (p x) (part_few p hs)
  where
    here : (b : Bool) → length (instants.rows_in (filter p hs)) ≤ length hs → length (instants.rows_in (cond b (x ∷ filter p hs) (filter p hs))) ≤ length (x ∷ hs)
    here true h = omega (arith, h)
    here false h = omega (arith, h)

count_rows : (es : List Element) → length (rows_in_order es) ≡ length es
count_rows es = length-map es (λ (e : Element). e.row)

signed_few : (s : InstantState) (t : ℕ) → up (λ r. 1) (signed (near_at s t)) ≤ length s.held - s.shown
signed_few s t =
    let leave : List Row = (near_at s t).leave in
    let enter : List Row = (near_at s t).enter in
    omega (arith, up_both (map leaving leave) (map entering enter), up_leaving leave, up_entering enter, part_few (λ x. not (is_past s.reach t x)) (drop s.shown s.held), length-drop s.shown s.held)

abbrev Few : List Row → List (Entry Row) → ℕ → Type 0
Few shown outs most = length shown + up (λ r. 1) (rows_in outs) ≤ most

instants_few : (first n : ℕ) (s : InstantState) (held : List Element) (i : Item) → InstantsStand first n s held → Few (rows_in_order (take s.shown held)) (instants.out i (instants.near s i)) (length held + length (item_rows i))
instants_few first n s held (Rows t b) st = here (at_once s.reach)
  where
    shown : length (rows_in_order (take s.shown held)) ≤ length held
    shown = omega (arith, count_rows (take s.shown held), length-take-le s.shown held st.few, st.few)

    here : (o : Bool) → Few (rows_in_order (take s.shown held)) (cond o (map (RowAt t) b) []) (length held + length b)
    here true = omega (arith, shown, up_most b, ap (up (λ r. 1)) (rows_in-batch t b))
    here false = omega (arith, shown, up_none, ap (up (λ r. 1)) none_out)
instants_few first n s held (Tick t) st = here (moves s.reach t)
  where
    shown : length (rows_in_order (take s.shown held)) ≡ s.shown
    shown = count_rows (take s.shown held) ∙ length-take-le s.shown held st.few

    long : length s.held ≡ length held
    long = ap length st.same ∙ length_plain held

    here : (m : Bool) → Few (rows_in_order (take s.shown held)) (instants.out (Tick t) (cond m (near_at s t) (no_rows s))) (length held + 0)
    here true = omega (arith, shown, long, st.few, signed_few s t, ap (up (λ r. 1)) (rows_of_tick t (signed (near_at s t))))
    here false = omega (arith, shown, st.few, up_none, ap (up (λ r. 1)) (rows_of_tick t []))

latest_few : (s : latest.LatestState) (held : List Element) (i : Item) → Few (rows_in_order held) (latest.out i (latest.near s i)) (length held + length (item_rows i))
latest_few s held (Rows t b) =
    let fallen : List (Option Row) = latest.all_fallen s.columns s.count (latest.held_in s.entries) b in
    omega (arith, count_rows held, up_interleaved b fallen, ap (up (λ r. 1)) (rows_in-batch t (latest.interleaved b fallen)))
latest_few s held (Tick t) = omega (arith, count_rows held, up_none, ap (up (λ r. 1)) (rows_of_tick t []))

-- what it has put out, with what enters, is no more than it holds and takes
pub outs_few : (first n : ℕ) (s : WindowState) (held : List Element) (i : Item) → Stands first n s held → Few (shown_by s held) (out i (near s i)) (length held + length (item_rows i))
outs_few first n (Instants s) held i st = instants_few first n s held i st
outs_few first n (Latest s) held i st = latest_few s held i
