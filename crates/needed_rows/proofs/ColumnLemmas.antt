-- The columns of what a stream has closed are in order, and are its closed elements.
use Rattle.std.proofs.Common.{◌≡◌, ◌≢◌, ℕ, ℤ, zero, suc, ◌+◌, ◌-◌, ◌<◌, ◌≤◌, ◌==◌, Bool, true, false, cond, Option, None, List, [], ◌∷◌, ◌++◌, length, map, filter, get_or, refl, ap, ap₂, sym, ◌∙◌, arith, eqb-true, ⊎_elim}
use Rattle.std.specs.List.{AllByRecursion, range_with_len}
use Rattle.std.proofs.lemmas.Bool.{cases_eq}
use Rattle.std.proofs.lemmas.List.{ext_get_or, get_or-map, length-map}
use Rattle.std.proofs.lemmas.List.FromFn.{get_or-map-range_with_len, length-map-range_with_len}
use Rattle.values.specs.Row.{Row, value_at}
use Rattle.values.specs.Window.{Element}
use Rattle.column.specs.Rows.{row_at}
use Rattle.op_queue.proofs.TableLemmas.{length-elements_in}
use Rattle.plan.proofs.Lists.{each-append, each-filter, each-weaken}
use Rattle.reference.specs.Machine.{Stream}
use Rattle.stream_store.specs.Closing.{by_key, closed_of}
use Rattle.stream_store.specs.Stored.{IsByArrival}
use Rattle.stream_store.proofs.KeptLemmas.{by_arrival_filter}
use Rattle.needed_rows.specs.declared.reader.ClosedRows.{ClosedRows}
use Rattle.needed_rows.specs.Columns.{AreColumns, IsRegular, StandFor}
use Rattle.needed_rows.specs.Needed.{AreInOrder, element_in, elements_of, lists}

-- by instant, then by number, of which no two are one in an instant
abbrev After : Element → Element → Type 0
After e g = (e.instant ≤ g.instant) × (e.instant ≡ g.instant → e.arrival < g.arrival)

abbrev Rises : List Element → Type 0
Rises [] = Unit {0}
Rises (e ∷ es) = AllByRecursion (After e) es × Rises es

each_both : (P Q : Element → Type 0) (es : List Element) → AllByRecursion P es → AllByRecursion Q es → AllByRecursion (λ e. P e × Q e) es
each_both P Q [] h k = tt
each_both P Q (e ∷ es) h k = ((h.0, k.0), each_both P Q es h.1 k.1)

each_key : (P : Element → Type 0) (f : Element → ℕ) (a n : ℕ) (es : List Element) → AllByRecursion P es → AllByRecursion P (by_key f a n es)
each_key P f a zero es h = tt
each_key P f a (suc n) es h = each-append P (filter (λ e. f e == a) es) (by_key f (a + 1) n es) (each-filter P (λ e. f e == a) es h) (each_key P f (a + 1) n es h)

at_one : (a : ℕ) (es : List Element) → AllByRecursion (λ e. e.instant ≡ a) (filter (λ e. e.instant == a) es)
at_one a [] = tt
at_one a (e ∷ es) = here (e.instant == a) refl (at_one a es)
  where
    here : (b : Bool) → (e.instant == a) ≡ b → AllByRecursion (λ e. e.instant ≡ a) (filter (λ e. e.instant == a) es) → AllByRecursion (λ e. e.instant ≡ a) (cond b (e ∷ filter (λ e. e.instant == a) es) (filter (λ e. e.instant == a) es))
    here true t r = (eqb-true e.instant a t, r)
    here false t r = r

from_on : (a n : ℕ) (es : List Element) → AllByRecursion (λ e. a ≤ e.instant) (by_key (λ e. e.instant) a n es)
from_on a zero es = tt
from_on a (suc n) es =
    each-append (λ e. a ≤ e.instant) (filter (λ e. e.instant == a) es) (by_key (λ e. e.instant) (a + 1) n es)
    (each-weaken (λ e. e.instant ≡ a) (λ e. a ≤ e.instant) (λ e i. omega (arith, i)) (filter (λ e. e.instant == a) es) (at_one a es))
    (each-weaken (λ e. a + 1 ≤ e.instant) (λ e. a ≤ e.instant) (λ e i. omega (arith, i)) (by_key (λ e. e.instant) (a + 1) n es) (from_on (a + 1) n es))

rises_at_one : (a : ℕ) (es : List Element) → IsByArrival es → AllByRecursion (λ e. e.instant ≡ a) es → Rises es
rises_at_one a [] h k = tt
rises_at_one a (e ∷ es) h k = (
  each-weaken (λ g. (e.arrival < g.arrival) × (g.instant ≡ a)) (After e) (λ g i. (omega (arith, i.1, k.0), λ same. i.0)) es (each_both (λ g. e.arrival < g.arrival) (λ g. g.instant ≡ a) es h.0 k.1),
  rises_at_one a es h.1 k.1,
)

rises_append : (a : ℕ) (xs ys : List Element) → Rises xs → Rises ys → AllByRecursion (λ e. e.instant ≡ a) xs → AllByRecursion (λ e. a + 1 ≤ e.instant) ys → Rises (xs ++ ys)
rises_append a [] ys h k l m = k
rises_append a (x ∷ xs) ys h k l m = (
  each-append (After x) xs ys h.0 (each-weaken (λ e. a + 1 ≤ e.instant) (After x) (λ g i. (omega (arith, i, l.0), λ same. absurd (omega (arith, i, l.0, same)))) ys m),
  rises_append a xs ys h.1 k l.1 m,
)

rises_by_key : (a n : ℕ) (es : List Element) → IsByArrival es → Rises (by_key (λ e. e.instant) a n es)
rises_by_key a zero es h = tt
rises_by_key a (suc n) es h =
    rises_append a (filter (λ e. e.instant == a) es) (by_key (λ e. e.instant) (a + 1) n es)
    (rises_at_one a (filter (λ e. e.instant == a) es) (by_arrival_filter (λ e. e.instant == a) es h) (at_one a es))
    (rises_by_key (a + 1) n es h) (at_one a es) (from_on (a + 1) n es)

-- BY PLACES
each_at : (P : Element → Type 0) (es : List Element) → AllByRecursion P es → (k : ℕ) (d : Element) → k < length es → P (get_or es k d)
each_at P [] h k d lt = absurd (omega (arith, lt))
each_at P (e ∷ es) h zero d lt = h.0
each_at P (e ∷ es) h (suc k) d lt = each_at P es h.1 k d (omega (arith, lt))

after_at : (es : List Element) → Rises es → (i j : ℕ) (d : Element) → i < j → j < length es → After (get_or es i d) (get_or es j d)
after_at [] h i j d l u = absurd (omega (arith, u))
after_at (e ∷ es) h zero zero d l u = absurd (omega (arith, l))
after_at (e ∷ es) h zero (suc j) d l u = each_at (After e) es h.0 j d (omega (arith, u))
after_at (e ∷ es) h (suc i) zero d l u = absurd (omega (arith, l))
after_at (e ∷ es) h (suc i) (suc j) d l u = after_at es h.1 i j d (omega (arith, l)) (omega (arith, u))

-- a row is its values in its columns
row_of_values : (r : Row) → map (value_at r) (range_with_len 0 (length r)) ≡ r
row_of_values r =
    let f : ℕ → Option ℤ = value_at r in
    ext_get_or None (map f (range_with_len 0 (length r))) r (length-map-range_with_len f 0 (length r))
    (λ i l. get_or-map-range_with_len f 0 (length r) i i None (omega (arith, l, length-map-range_with_len f 0 (length r))) (omega arith))

module _ (width : ℕ) (es : List Element) (rows : ClosedRows) (is : AreColumns width es rows) (rises : Rises es) (wide : AllByRecursion (λ e. length e.row ≡ width) es) where
  sizes : length rows.instants.now ≡ length es
  sizes = ap length is.instants ∙ length-map es (λ (e : Element). e.instant)

  counts : length rows.numbers.now ≡ length rows.instants.now
  counts = ap length is.numbers ∙ length-map es (λ (e : Element). e.arrival) ∙ sym sizes

  instant_at : (i : ℕ) (d : Element) → i < length es → get_or rows.instants.now i 0 ≡ (get_or es i d).instant
  instant_at i d l = ap (λ xs. get_or xs i 0) is.instants ∙ get_or-map (λ (e : Element). e.instant) es i d 0 l

  number_at : (i : ℕ) (d : Element) → i < length es → get_or rows.numbers.now i 0 ≡ (get_or es i d).arrival
  number_at i d l = ap (λ xs. get_or xs i 0) is.numbers ∙ get_or-map (λ (e : Element). e.arrival) es i d 0 l

  abbrev none : Element
  none = record { arrival = 0; instant = 0; row = [] }

  pub in_order : AreInOrder rows
  in_order = record {
    numbers = counts;
    rising = λ i j z le lt.
        ⊎_elim
        (λ (same : i ≡ j). let e : get_or rows.instants.now i 0 ≡ get_or rows.instants.now j 0 = ap (λ k. get_or rows.instants.now k 0) same in omega (arith, e))
        (λ (differs : i ≢ j).
        let u : i < j = omega (arith, le, differs) in
        let a = after_at es rises i j none u (omega (arith, lt, sizes)) in
        omega (arith, a.0, instant_at i none (omega (arith, lt, sizes, u)), instant_at j none (omega (arith, lt, sizes))))
        (cases_eq i j);
    apart = λ i j u lt same.
        let a = after_at es rises i j none u (omega (arith, lt, sizes)) in
        let p = instant_at i none (omega (arith, lt, sizes, u)) in
        let q = instant_at j none (omega (arith, lt, sizes)) in
        omega (arith, a.1 (sym p ∙ same ∙ q), number_at i none (omega (arith, lt, sizes, u)), number_at j none (omega (arith, lt, sizes)));
  }

  row_is : (i : ℕ) (d : Element) → i < length es → row_at (lists rows.columns.now) i ≡ (get_or es i d).row
  row_is i d l =
      let w : length (get_or es i d).row ≡ width = each_at (λ e. length e.row ≡ width) es wide i d l in
      ap (λ cs. row_at cs i) is.columns
      ∙ over (range_with_len 0 width)
      ∙ ap (λ n. map (value_at (get_or es i d).row) (range_with_len 0 n)) (sym w)
      ∙ row_of_values (get_or es i d).row
    where
      over : (ks : List ℕ) → map (λ (c : List (Option ℤ)). get_or c i None) (map (λ k. map (λ (e : Element). value_at e.row k) es) ks) ≡ map (value_at (get_or es i d).row) ks
      over [] = refl
      over (k ∷ ks) = ap₂ (λ (v : Option ℤ) (vs : List (Option ℤ)). v ∷ vs) (get_or-map (λ (e : Element). value_at e.row k) es i d None l) (over ks)

  pub same_elements : elements_of rows ≡ es
  same_elements =
      let f : ℕ → Element = element_in rows in
      let n : ℕ = length rows.instants.now in
      let whole : length (elements_of rows) ≡ n = length-elements_in n rows.instants.now rows.numbers.now (lists rows.columns.now) in
      ext_get_or none (elements_of rows) es (whole ∙ sizes)
      (λ i l. let u : i < n = omega (arith, l, whole) in
      let v : i < length es = omega (arith, u, sizes) in
      get_or-map-range_with_len f 0 n i i none u (omega arith)
      ∙ same_fields (get_or rows.numbers.now i 0) (get_or es i none).arrival (get_or rows.instants.now i 0) (get_or es i none).instant (row_at (lists rows.columns.now) i) (get_or es i none).row (number_at i none v) (instant_at i none v) (row_is i none v))
    where
      same_fields : (a b t u : ℕ) (r s : Row) → a ≡ b → t ≡ u → r ≡ s → (let e : Element = record { arrival = a; instant = t; row = r } in e) ≡ (let e : Element = record { arrival = b; instant = u; row = s } in e)
      same_fields a b t u r s p q o = rw (p, q, o) refl

pub stand_for : (s : Stream) (rows : ClosedRows) → IsRegular s → AreColumns (length s.columns) (closed_of s).elements rows → StandFor s rows
stand_for s rows h is =
    let es : List Element = (closed_of s).elements in
    let rises = rises_by_key 0 (s.first_open - 0) s.elements h.arrival in
    let wide = each_key (λ e. length e.row ≡ length s.columns) (λ e. e.instant) 0 (s.first_open - 0) s.elements h.wide in
    record { order = in_order (length s.columns) es rows is rises wide; elements = same_elements (length s.columns) es rows is rises wide }
