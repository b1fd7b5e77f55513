-- What marks leave of a log's lists.
use Rattle.std.proofs.Common.{◌≡◌, set, ℕ, ℤ, zero, suc, ◌+◌, ◌<◌, ◌≤◌, Bool, true, false, Option, None, List, [], ◌∷◌, ◌++◌, length, map, take, drop, get_or, refl, ap, sym, ◌∙◌, arith, subst, length-take-le, length-set, get_or-take}
use Rattle.std.specs.Global.{Vec}
use Rattle.std.specs.List.{All, range_with_len}
use Rattle.std.proofs.lemmas.List.{ext_get_or, get_or-map, length-map, map-append, map-set, take_more, take_more_set, drop-set-lt, drop-drop, get_or-drop, take_all}
use Rattle.std.proofs.lemmas.List.Elements.{All-nil, All-cons, All-head, All-tail}
use Rattle.std.proofs.lemmas.List.FromFn.{length-map-range_with_len, get_or-map-range_with_len}
use Rattle.std.proofs.lemmas.Simd.{map-map}
use Rattle.column.specs.Bits.{chosen}
use Rattle.column.specs.Rows.{row_at}
use Rattle.values.specs.Row.{Row, value_at}
use Rattle.values.specs.Window.{Element}
use Rattle.op_queue.specs.Logs.{Closed}
use Rattle.op_queue.specs.Closings.{IsInOrder}
use Rattle.op_queue.specs.Tables.{IsLog, IsTableOf, closed_in, element_at, elements_in, lists}
use Rattle.op_queue.proofs.TableLemmas.{length-elements_in}

-- ---- any list
-- marks look at no more items than they are
pub chosen-take : {X : Type 0} (bs : List Bool) (xs : List X) → chosen bs (take (length bs) xs) ≡ chosen bs xs
chosen-take [] xs = refl
chosen-take (b ∷ bs) [] = refl
chosen-take (true ∷ bs) (x ∷ xs) = ap (λ ys. x ∷ ys) (chosen-take bs xs)
chosen-take (false ∷ bs) (x ∷ xs) = chosen-take bs xs

pub chosen-map : {X Y : Type 0} (f : X → Y) (bs : List Bool) (xs : List X) → chosen bs (map f xs) ≡ map f (chosen bs xs)
chosen-map f [] xs = refl
chosen-map f (b ∷ bs) [] = refl
chosen-map f (true ∷ bs) (x ∷ xs) = ap (λ ys. f x ∷ ys) (chosen-map f bs xs)
chosen-map f (false ∷ bs) (x ∷ xs) = chosen-map f bs xs

-- a list is read place by place
pub reads : {X : Type 0} (d : X) (n : ℕ) (xs : List X) → n ≤ length xs → map (λ i. get_or xs i d) (range_with_len 0 n) ≡ take n xs
reads d n xs le =
    let f : ℕ → _ = λ i. get_or xs i d in
    ext_get_or d (map f (range_with_len 0 n)) (take n xs) (length-map-range_with_len f 0 n ∙ sym (length-take-le n xs le))
    (λ k lt. let within : k < n = omega (arith, lt, length-map-range_with_len f 0 n) in
    get_or-map-range_with_len f 0 n k k d within (omega arith) ∙ sym (get_or-take n xs k d within))

-- an item of a list that has one at a place
pub some_item : {X : Type 0} (xs : List X) (i : ℕ) → i < length xs → X
some_item [] i lt = absurd (omega (arith, lt))
some_item (x ∷ xs) i lt = x

-- the places of the marks that are true
abbrev pub places : List Bool → List ℕ
places bs = chosen bs (range_with_len 0 (length bs))

pub chosen-places : {X : Type 0} (d : X) (bs : List Bool) (xs : List X) → length bs ≤ length xs → chosen bs xs ≡ map (λ i. get_or xs i d) (places bs)
chosen-places d bs xs le =
    let f : ℕ → _ = λ i. get_or xs i d in
    sym (chosen-take bs xs) ∙ ap (chosen bs) (sym (reads d (length bs) xs le)) ∙ chosen-map f bs (range_with_len 0 (length bs))

pub length-kept : {X : Type 0} (d : X) (bs : List Bool) (xs : List X) → length bs ≤ length xs → length (chosen bs xs) ≡ length (places bs)
length-kept d bs xs le = let f : ℕ → _ = λ i. get_or xs i d in ap length (chosen-places d bs xs le) ∙ length-map (places bs) f

pub kept-at : {X : Type 0} (d : X) (bs : List Bool) (xs : List X) (k : ℕ) → length bs ≤ length xs → k < length (places bs) → get_or (chosen bs xs) k d ≡ get_or xs (get_or (places bs) k 0) d
kept-at d bs xs k le lt = let f : ℕ → _ = λ i. get_or xs i d in ap (λ ys. get_or ys k d) (chosen-places d bs xs le) ∙ get_or-map f (places bs) k 0 d lt

-- the places rise, and lie below the number of marks
place_from : (bs : List Bool) (a k : ℕ) → k < length (chosen bs (range_with_len a (length bs))) → a ≤ get_or (chosen bs (range_with_len a (length bs))) k 0
place_from [] a k lt = absurd (omega (arith, lt))
place_from (true ∷ bs) a zero lt = omega arith
place_from (true ∷ bs) a (suc k) lt = let h = place_from bs (a + 1) k (omega (arith, lt)) in omega (arith, h)
place_from (false ∷ bs) a k lt = let h = place_from bs (a + 1) k lt in omega (arith, h)

place_below : (bs : List Bool) (a k : ℕ) → k < length (chosen bs (range_with_len a (length bs))) → get_or (chosen bs (range_with_len a (length bs))) k 0 < a + length bs
place_below [] a k lt = absurd (omega (arith, lt))
place_below (true ∷ bs) a zero lt = omega arith
place_below (true ∷ bs) a (suc k) lt = let h = place_below bs (a + 1) k (omega (arith, lt)) in omega (arith, h)
place_below (false ∷ bs) a k lt = let h = place_below bs (a + 1) k lt in omega (arith, h)

place_rises : (bs : List Bool) (a i j : ℕ) → i ≤ j → j < length (chosen bs (range_with_len a (length bs))) → get_or (chosen bs (range_with_len a (length bs))) i 0 ≤ get_or (chosen bs (range_with_len a (length bs))) j 0
place_rises [] a i j le lt = absurd (omega (arith, lt))
place_rises (true ∷ bs) a zero zero le lt = omega arith
place_rises (true ∷ bs) a zero (suc j) le lt = let h = place_from bs (a + 1) j (omega (arith, lt)) in omega (arith, h)
place_rises (true ∷ bs) a (suc i) zero le lt = absurd (omega (arith, le))
place_rises (true ∷ bs) a (suc i) (suc j) le lt = place_rises bs (a + 1) i j (omega (arith, le)) (omega (arith, lt))
place_rises (false ∷ bs) a i j le lt = place_rises bs (a + 1) i j le lt

-- ---- the elements of a log
module _ (bs : List Bool) (instants numbers : List ℕ) (columns : List (List (Option ℤ))) where
  row-kept : (k : ℕ) → k < length (places bs) → (cs : List (List (Option ℤ))) → All (λ c. length bs ≤ length c) cs → row_at (map (chosen bs) cs) k ≡ row_at cs (get_or (places bs) k 0)
  row-kept k lt [] h = refl
  row-kept k lt (c ∷ cs) h =
      ap (λ v. v ∷ row_at (map (chosen bs) cs) k) (kept-at None bs c k (All-head (λ c. length bs ≤ length c) c cs h) lt)
      ∙ ap (λ vs. get_or c (get_or (places bs) k 0) None ∷ vs) (row-kept k lt cs (All-tail (λ c. length bs ≤ length c) c cs h))

  element-kept : (k : ℕ) → k < length (places bs) → IsTableOf (length bs) instants numbers columns
      → element_at (chosen bs instants) (chosen bs numbers) (map (chosen bs) columns) k ≡ element_at instants numbers columns (get_or (places bs) k 0)
  element-kept k lt table =
      let a = kept-at 0 bs instants k table.has_instants lt in
      let b = kept-at 0 bs numbers k table.has_numbers lt in
      let c = row-kept k lt columns table.has_values in
      let make : ℕ → ℕ → Row → Element = λ x y z. record { arrival = x; instant = y; row = z } in
      let p : ℕ = get_or (places bs) k 0 in
      ap (λ x. make x (get_or (chosen bs instants) k 0) (row_at (map (chosen bs) columns) k)) b
      ∙ ap (λ y. make (get_or numbers p 0) y (row_at (map (chosen bs) columns) k)) a
      ∙ ap (λ z. make (get_or numbers p 0) (get_or instants p 0) z) c

  pub elements-kept : IsTableOf (length bs) instants numbers columns
      → elements_in (length (places bs)) (chosen bs instants) (chosen bs numbers) (map (chosen bs) columns) ≡ chosen bs (elements_in (length bs) instants numbers columns)
  elements-kept table =
      let n : ℕ = length (places bs) in
      let new : ℕ → Element = element_at (chosen bs instants) (chosen bs numbers) (map (chosen bs) columns) in
      let old : ℕ → Element = element_at instants numbers columns in
      let none : Element = record { arrival = 0; instant = 0; row = [] } in
      ext_get_or none (map new (range_with_len 0 n)) (map old (places bs)) (length-map-range_with_len new 0 n ∙ sym (length-map (places bs) old))
      (λ k lt. let within : k < n = omega (arith, lt, length-map-range_with_len new 0 n) in
      get_or-map-range_with_len new 0 n k k none within (omega arith) ∙ element-kept k within table ∙ sym (get_or-map old (places bs) k 0 none within))
      ∙ sym (chosen-map old bs (range_with_len 0 (length bs)))

  columns-long : (cs : List (List (Option ℤ))) → All (λ c. length bs ≤ length c) cs → All (λ c. length (places bs) ≤ length c) (map (chosen bs) cs)
  columns-long [] h = All-nil (λ c. length (places bs) ≤ length c)
  columns-long (c ∷ cs) h =
      let k = length-kept None bs c (All-head (λ c. length bs ≤ length c) c cs h) in
      All-cons (λ c. length (places bs) ≤ length c) (chosen bs c) (map (chosen bs) cs) (omega (arith, k)) (columns-long cs (All-tail (λ c. length bs ≤ length c) c cs h))

  pub table-kept : IsTableOf (length bs) instants numbers columns → IsTableOf (length (places bs)) (chosen bs instants) (chosen bs numbers) (map (chosen bs) columns)
  table-kept table = record {
    has_instants = omega (arith, length-kept 0 bs instants table.has_instants);
    has_numbers = omega (arith, length-kept 0 bs numbers table.has_numbers);
    has_values = columns-long columns table.has_values;
    narrow = let f : List (Option ℤ) → List (Option ℤ) = chosen bs in omega (arith, length-map columns f, table.narrow);
  }

-- what is kept of elements in order is in order
pub order-kept : (bs : List Bool) (es : List Element) → length bs ≡ length es → IsInOrder es → IsInOrder (chosen bs es)
order-kept bs es same h =
    let long : (d : Element) → length (chosen bs es) ≡ length (places bs) = λ d. length-kept d bs es (omega (arith, same)) in
    let at : (d : Element) (k : ℕ) → k < length (chosen bs es) → get_or (chosen bs es) k d ≡ get_or es (get_or (places bs) k 0) d = λ d k lt. kept-at d bs es k (omega (arith, same)) (omega (arith, lt, long d)) in
    let below : (d : Element) (k : ℕ) → k < length (chosen bs es) → get_or (places bs) k 0 < length es = λ d k lt. let b = place_below bs 0 k (omega (arith, lt, long d)) in omega (arith, b, same) in
    let rises : (d : Element) (i j : ℕ) → i ≤ j → j < length (chosen bs es) → get_or (places bs) i 0 ≤ get_or (places bs) j 0 = λ d i j le lt. place_rises bs 0 i j le (omega (arith, lt, long d)) in
    record {
      instants = λ i j d le lt.
          let p : Element → Element → Type 0 = λ x y. x.instant ≤ y.instant in
          rw (at d i (omega (arith, le, lt)), at d j lt) (h.instants (get_or (places bs) i 0) (get_or (places bs) j 0) d (rises d i j le lt) (below d j lt));
      arrivals = λ i j d le lt e.
          rw (at d i (omega (arith, le, lt)), at d j lt)
          (h.arrivals (get_or (places bs) i 0) (get_or (places bs) j 0) d (rises d i j le lt) (below d j lt)
          (ap (λ (x : Element). x.instant) (sym (at d i (omega (arith, le, lt)))) ∙ e ∙ ap (λ (x : Element). x.instant) (at d j lt)));
    }

pub all-kept : {X : Type 0} (P : X → Type 0) (bs : List Bool) (xs : List X) → All P xs → All P (chosen bs xs)
all-kept P [] xs h = All-nil P
all-kept P (b ∷ bs) [] h = All-nil P
all-kept P (true ∷ bs) (x ∷ xs) h = All-cons P x (chosen bs xs) (All-head P x xs h) (all-kept P bs xs (All-tail P x xs h))
all-kept P (false ∷ bs) (x ∷ xs) h = all-kept P bs xs (All-tail P x xs h)

-- the log of what is kept
module _ (bs : List Bool) (instants numbers : List ℕ) (columns : List (List (Option ℤ))) (until : ℕ) where
  abbrev kept_count : ℕ
  kept_count = length (chosen bs numbers)

  count-kept : length bs ≤ length numbers → length (places bs) ≡ kept_count
  count-kept le = sym (length-kept 0 bs numbers le)

  seen-kept : IsTableOf (length bs) instants numbers columns → elements_in kept_count (chosen bs instants) (chosen bs numbers) (map (chosen bs) columns) ≡ chosen bs (elements_in (length bs) instants numbers columns)
  seen-kept table =
      ap (λ n. elements_in n (chosen bs instants) (chosen bs numbers) (map (chosen bs) columns)) (sym (count-kept table.has_numbers)) ∙ elements-kept bs instants numbers columns table

  is_kept : IsLog (length bs) instants numbers columns until → IsLog kept_count (chosen bs instants) (chosen bs numbers) (map (chosen bs) columns) until
  is_kept log =
      let es : List Element = elements_in (length bs) instants numbers columns in
      let seen = sym (seen-kept log.table) in
      record {
        table = subst (λ n. IsTableOf n (chosen bs instants) (chosen bs numbers) (map (chosen bs) columns)) (count-kept log.table.has_numbers) (table-kept bs instants numbers columns log.table);
        ordered = subst (λ (es : List Element). IsInOrder es) seen (order-kept bs es (sym (length-elements_in (length bs) instants numbers columns)) log.ordered);
        closed = subst (λ (es : List Element). All (λ e. e.instant < until) es) seen (all-kept (λ (e : Element). e.instant < until) bs es log.closed);
      }

-- as a log is looked at
module _ (bs : List Bool) (n : ℕ) (instants numbers : List ℕ) (columns : List (List (Option ℤ))) (until : ℕ) (log : Closed) (is : IsLog n instants numbers columns until) (seen : closed_in n instants numbers columns until ≡ log)
    (marks : length bs ≡ length log.elements) where
  pub marked : length bs ≡ n
  marked = marks ∙ ap (λ (l : Closed). length l.elements) (sym seen) ∙ length-elements_in n instants numbers columns

  pub log-kept : IsLog (length (chosen bs numbers)) (chosen bs instants) (chosen bs numbers) (map (chosen bs) columns) until
  log-kept = is_kept bs instants numbers columns until (subst (λ m. IsLog m instants numbers columns until) (sym marked) is)

  pub log-elements : elements_in (length (chosen bs numbers)) (chosen bs instants) (chosen bs numbers) (map (chosen bs) columns) ≡ chosen bs log.elements
  log-elements =
      seen-kept bs instants numbers columns until (subst (λ m. IsTableOf m instants numbers columns) (sym marked) is.table)
      ∙ ap (λ m. chosen bs (elements_in m instants numbers columns)) marked
      ∙ ap (λ (l : Closed). chosen bs l.elements) seen

-- ---- columns, one after another
pub record AreKeptTo (bs : List Bool) (k : ℕ) (old new : List (List (Option ℤ))) : Type 0 where
  pub width : length new ≡ length old
  pub long : All (λ c. length bs ≤ length c) old
  pub front : take k new ≡ map (chosen bs) (take k old)
  pub back : drop k new ≡ drop k old

pub kept_columns-start : (bs : List Bool) (old : List (List (Option ℤ))) → All (λ c. length bs ≤ length c) old → AreKeptTo bs 0 old old
kept_columns-start bs old h = record { width = refl; long = h; front = refl; back = refl }

column-same : (bs : List Bool) (k : ℕ) (old new : List (List (Option ℤ))) (d : List (Option ℤ)) → AreKeptTo bs k old new → get_or new k d ≡ get_or old k d
column-same bs k old new d h =
    let e : k ≡ k + 0 = omega arith in
    ap (λ i. get_or new i d) e ∙ sym (get_or-drop k new 0 d) ∙ ap (λ cs. get_or cs 0 d) h.back ∙ get_or-drop k old 0 d ∙ ap (λ i. get_or old i d) (sym e)

next_column : (bs : List Bool) (k : ℕ) (old new : List (List (Option ℤ))) (was is : List (Option ℤ)) → k < length new → was ≡ get_or new k [] → is ≡ chosen bs was → AreKeptTo bs k old new → AreKeptTo bs (k + 1) old (set new k is)
next_column bs k old new was is lt at made h =
    let from : get_or old k [] ≡ was = sym (column-same bs k old new [] h) ∙ sym at in
    record {
      width = length-set new k is ∙ h.width;
      long = h.long;
      front =
          take_more_set new k is lt
          ∙ ap (λ cs. cs ++ is ∷ []) h.front
          ∙ ap (λ c. map (chosen bs) (take k old) ++ c ∷ []) (made ∙ ap (chosen bs) (sym from))
          ∙ sym (map-append (chosen bs) (take k old) (get_or old k [] ∷ []))
          ∙ ap (map (chosen bs)) (sym (take_more old k [] (omega (arith, lt, h.width))));
      back =
          drop-set-lt (k + 1) new k is (omega arith)
          ∙ sym (drop-drop 1 k new) ∙ ap (drop 1) h.back ∙ drop-drop 1 k old;
    }

-- the same over the columns themselves
pub kept_columns-set : (bs : List Bool) (k : ℕ) (old : List (List (Option ℤ))) (columns : List (Vec (Option ℤ))) (was is : Vec (Option ℤ)) → k < length columns → was ≡ get_or columns k was → is.items ≡ chosen bs was.items → AreKeptTo bs k old (lists columns)
    → AreKeptTo bs (k + 1) old (lists (set columns k is))
kept_columns-set bs k old columns was is lt at made h =
    let f : Vec (Option ℤ) → List (Option ℤ) = λ c. c.items in
    let g : get_or (lists columns) k [] ≡ was.items = get_or-map f columns k was [] lt ∙ ap f (sym at) in
    subst (λ cs. AreKeptTo bs (k + 1) old cs) (sym (map-set f columns k is))
    (next_column bs k old (lists columns) was.items is.items (omega (arith, lt, length-map columns f)) (sym g) made h)

-- the list of a column
pub column-found : (columns : List (Vec (Option ℤ))) (k : ℕ) (v : Vec (Option ℤ)) → k < length columns → v ≡ get_or columns k v → get_or (lists columns) k [] ≡ v.items
column-found columns k v lt at = let f : Vec (Option ℤ) → List (Option ℤ) = λ c. c.items in get_or-map f columns k v [] lt ∙ ap f (sym at)

-- a column that comes next is as long as before
pub column_long-next : (bs : List Bool) (k : ℕ) (old : List (List (Option ℤ))) (columns : List (Vec (Option ℤ))) (was : Vec (Option ℤ)) → k < length columns → was ≡ get_or columns k was → AreKeptTo bs k old (lists columns) → length bs ≤ length was.items
column_long-next bs k old columns was lt at h =
    let f : Vec (Option ℤ) → List (Option ℤ) = λ c. c.items in
    let g : get_or (lists columns) k [] ≡ was.items = get_or-map f columns k was [] lt ∙ ap f (sym at) in
    let same : was.items ≡ get_or old k [] = sym g ∙ column-same bs k old (lists columns) [] h in
    let l = h.long k [] (omega (arith, lt, h.width, length-map columns f)) in
    omega (arith, l, ap length same)

pub kept_columns-end : (bs : List Bool) (k : ℕ) (old new : List (List (Option ℤ))) → length new ≤ k → AreKeptTo bs k old new → new ≡ map (chosen bs) old
kept_columns-end bs k old new le h = sym (take_all k new le) ∙ h.front ∙ ap (map (chosen bs)) (take_all k old (omega (arith, le, h.width)))

-- ---- what a log shows of its lists
module _ (n : ℕ) (instants numbers : List ℕ) (columns : List (List (Option ℤ))) (table : IsTableOf n instants numbers columns) where
  pub shown-instants : map (λ e. e.instant) (elements_in n instants numbers columns) ≡ take n instants
  shown-instants =
      let f : Element → ℕ = λ e. e.instant in
      map-map f (element_at instants numbers columns) (range_with_len 0 n) ∙ reads 0 n instants table.has_instants

  pub shown-numbers : map (λ e. e.arrival) (elements_in n instants numbers columns) ≡ take n numbers
  shown-numbers =
      let f : Element → ℕ = λ e. e.arrival in
      map-map f (element_at instants numbers columns) (range_with_len 0 n) ∙ reads 0 n numbers table.has_numbers

  pub shown-column : (k : ℕ) → k < length columns → map (λ e. value_at e.row k) (elements_in n instants numbers columns) ≡ take n (get_or columns k [])
  shown-column k lt =
      let f : Element → Option ℤ = λ e. value_at e.row k in
      let g : ℕ → Option ℤ = λ i. f (element_at instants numbers columns i) in
      let h : ℕ → Option ℤ = λ i. get_or (get_or columns k []) i None in
      map-map f (element_at instants numbers columns) (range_with_len 0 n)
      ∙ ext_get_or None (map g (range_with_len 0 n)) (map h (range_with_len 0 n)) (length-map-range_with_len g 0 n ∙ sym (length-map-range_with_len h 0 n))
      (λ i within.
      let l : i < n = omega (arith, within, length-map-range_with_len g 0 n) in
      get_or-map-range_with_len g 0 n i i None l (omega arith)
      ∙ get_or-map (λ c. get_or c i None) columns k [] None lt
      ∙ sym (get_or-map-range_with_len h 0 n i i None l (omega arith)))
      ∙ reads None n (get_or columns k []) (table.has_values k [] lt)
