-- Batches: signed rows in columns.
use Rattle.std.proofs.Common.{ℕ, ℤ, List, [], ◌∷◌, ◌++◌, ◌≡◌, ◌<◌, ◌≤◌, ◌+◌, ◌-◌, length, map, filter, refl, sym, ◌∙◌, ap, arith, Bool, true, false, not, None, Option, zero, suc, slice_range, take, drop, All, inl, inr, cond, ◌==◌}
use Rattle.std.specs.List.{range_with_len}
use Rattle.std.proofs.Math.ListN.{get_or, get_or-append}
use Rattle.std.proofs.lemmas.Bool.{cases_order}
use Rattle.std.proofs.lemmas.List.{get_or-drop, get_or-take, get_or-map, length-take-le, length-drop, length-map, map-append, take_more, take_all, ext_get_or, length-append, get_or-append_right}
use Rattle.std.proofs.lemmas.List.FromFn.{length-map-range_with_len, get_or-map-range_with_len, map-range_with_len_more, length-range_with_len, get_or-range_with_len}
use Rattle.std.proofs.lemmas.List.Elements.{filter-append, All-filter}
use Rattle.std.proofs.lemmas.List.Filters.{length-filter_both}
use Rattle.std.proofs.lemmas.Bool.Decides.{Decides-eqb}
use Rattle.values.specs.declared.TheConstants.{MAX_COLUMNS}
use Rattle.values.specs.Row.{Row, value_at}
use Rattle.column.specs.Bits.{at_places, chosen, true_places}
use Rattle.column.specs.Rows.{IsBatch, IsLaidOut, IsTable, beside, column_of, row_at, signed}
use Rattle.column.specs.Rows.{signed_rows, width}
use Rattle.column.specs.Sides.{of_side}
use Rattle.column.specs.declared.batch.Side.{Side}
use Rattle.column.specs.declared.batch.Side.TheVariants.{Left, Right}
use Rattle.column.specs.declared.batch.SignedRow.{SignedRow}

pub length-signed_rows : (columns : List (List (Option ℤ))) (leaving : List Bool) → length (signed_rows columns leaving) ≡ length leaving
length-signed_rows columns leaving = length-map-range_with_len (λ i. (not (get_or leaving i false), row_at columns i)) 0 (length leaving)

pub get_or-signed_rows : (columns : List (List (Option ℤ))) (leaving : List Bool) (i : ℕ) (d : Bool × Row) → i < length leaving
    → get_or (signed_rows columns leaving) i d ≡ (not (get_or leaving i false), row_at columns i)
get_or-signed_rows columns leaving i d h = get_or-map-range_with_len (λ j. (not (get_or leaving j false), row_at columns j)) 0 (length leaving) i i d h (omega arith)

pub length-batch : (columns : List (List (Option ℤ))) (leaving : List Bool) (rows : List (Bool × Row)) → signed_rows columns leaving ≡ rows → length leaving ≡ length rows
length-batch columns leaving rows e = sym (length-signed_rows columns leaving) ∙ ap length e

pub row_at-batch : (columns : List (List (Option ℤ))) (leaving : List Bool) (rows : List (Bool × Row)) (i : ℕ) (d : Bool × Row) → signed_rows columns leaving ≡ rows → i < length rows
    → (not (get_or leaving i false), row_at columns i) ≡ get_or rows i d
row_at-batch columns leaving rows i d e h = sym (get_or-signed_rows columns leaving i d (omega (arith, h, length-batch columns leaving rows e))) ∙ ap (λ l. get_or l i d) e

-- rows are equal where as many, and equal place by place
pub same_rows_by : (columns : List (List (Option ℤ))) (leaving : List Bool) (rows : List (Bool × Row)) → length leaving ≡ length rows
    → ((i : ℕ) → i < length leaving → (not (get_or leaving i false), row_at columns i) ≡ get_or rows i (true, [])) → signed_rows columns leaving ≡ rows
same_rows_by columns leaving rows same each =
    ext_get_or (true, []) _ _ (length-signed_rows columns leaving ∙ same)
    (λ i h. let l : i < length leaving = omega (arith, h, length-signed_rows columns leaving) in get_or-signed_rows columns leaving i (true, []) l ∙ each i l)

pub length-part : {X : Type 0} (xs : List X) (a b : ℕ) → b ≤ length xs → length (slice_range xs a b) ≡ b - a
length-part xs a b h = length-take-le (b - a) (drop a xs) (omega (arith, length-drop a xs))

get_or-part : {X : Type 0} (xs : List X) (a b i : ℕ) (d : X) → i < b - a → get_or (slice_range xs a b) i d ≡ get_or xs (a + i) d
get_or-part xs a b i d h = get_or-take (b - a) (drop a xs) i d h ∙ get_or-drop a xs i d

pub row_at-map : (f : List (Option ℤ) → List (Option ℤ)) (columns : List (List (Option ℤ))) (i j : ℕ) → ((c : List (Option ℤ)) → get_or (f c) i None ≡ get_or c j None) → row_at (map f columns) i ≡ row_at columns j
row_at-map f [] i j h = refl
row_at-map f (c ∷ cs) i j h = λ t. h c t ∷ row_at-map f cs i j h t

-- ---- the facts of a batch
pub width-batch : (columns : List (List (Option ℤ))) (leaving : List Bool) → 1 ≤ length leaving → width (signed_rows columns leaving) ≡ length columns
width-batch columns [] h = absurd (omega arith)
width-batch columns (l ∷ ls) h = length-map columns (λ c. get_or c 0 None)

pub width-seen : (columns : List (List (Option ℤ))) (leaving : List Bool) (rows : List (Bool × Row)) → IsLaidOut columns leaving → signed_rows columns leaving ≡ rows → width rows ≡ length columns
width-seen columns leaving rows l e = ap width (sym e) ∙ width-batch columns leaving l.some

pub is_batch : (columns : List (List (Option ℤ))) (leaving : List Bool) (rows : List (Bool × Row)) → IsLaidOut columns leaving → signed_rows columns leaving ≡ rows → IsBatch rows
is_batch columns leaving rows l e =
    let n : length leaving ≡ length rows = length-batch columns leaving rows e in
    let w : width rows ≡ length columns = width-seen columns leaving rows l e in
    record {
      some = omega (arith, l.some, n);
      few = omega (arith, l.few, n);
      narrow = omega (arith, l.narrow, w);
      one_width = λ k d h. ap (λ r. length r.1) (sym (row_at-batch columns leaving rows k d e h)) ∙ length-map columns (λ c. get_or c k None) ∙ sym w;
    }

-- ---- a batch made of another, place by place
pub record IsRemade (columns : List (List (Option ℤ))) (leaving : List Bool) (rows : List (Bool × Row)) : Type 0 where
  pub laid : IsLaidOut columns leaving
  pub seen : signed_rows columns leaving ≡ rows

-- row i of the new batch is row `place i` of the old one
pub record IsMoved (leaving : List Bool) (rows : List (Bool × Row)) (f : List (Option ℤ) → List (Option ℤ)) (leaving' : List Bool) (rows' : List (Bool × Row)) (i j : ℕ) : Type 0 where
  pub within : j < length rows
  pub sign : get_or leaving' i false ≡ get_or leaving j false
  pub value : (c : List (Option ℤ)) → get_or (f c) i None ≡ get_or c j None
  pub row : get_or rows' i (true, []) ≡ get_or rows j (true, [])

pub remade : (columns : List (List (Option ℤ))) (leaving : List Bool) (rows : List (Bool × Row)) (f : List (Option ℤ) → List (Option ℤ)) (columns' : List (List (Option ℤ))) (leaving' : List Bool) (rows' : List (Bool × Row)) (place : ℕ → ℕ)
    → IsLaidOut columns leaving → signed_rows columns leaving ≡ rows → columns' ≡ map f columns → 1 ≤ length leaving' → length leaving' ≤ 1024 → length leaving' ≡ length rows'
    → ((c : List (Option ℤ)) → length c ≡ length leaving → length (f c) ≡ length leaving')
    → ((i : ℕ) → i < length leaving' → IsMoved leaving rows f leaving' rows' i (place i)) → IsRemade columns' leaving' rows'
remade columns leaving rows f columns' leaving' rows' place laid seen made some few same long moved =
    rw made (record {
      laid = record {
        some = some;
        few = few;
        narrow = omega (arith, laid.narrow, length-map columns f);
        same = λ k d h.
            let l : k < length columns = omega (arith, h, length-map columns f) in
            ap length (get_or-map f columns k [] d l) ∙ long (get_or columns k []) (laid.same k [] l);
      };
      seen = same_rows_by (map f columns) leaving' rows' same (λ i h.
          let m = moved i h in
          (λ t. (not (m.sign t), row_at-map f columns i (place i) m.value t)) ∙ row_at-batch columns leaving rows (place i) (true, []) seen m.within ∙ sym m.row);
    })

pub part_made : (columns : List (List (Option ℤ))) (leaving : List Bool) (rows : List (Bool × Row)) (columns' : List (List (Option ℤ))) (leaving' : List Bool) (a b : ℕ)
    → IsLaidOut columns leaving → signed_rows columns leaving ≡ rows → a < b → b ≤ length rows → columns' ≡ map (λ c. slice_range c a b) columns → leaving' ≡ slice_range leaving a b
    → IsRemade columns' leaving' (slice_range rows a b)
part_made columns leaving rows columns' leaving' a b laid seen some within made signs =
    let n : length leaving ≡ length rows = length-batch columns leaving rows seen in
    let m : length leaving' ≡ b - a = ap length signs ∙ length-part leaving a b (omega (arith, within, n)) in
    remade columns leaving rows (λ c. slice_range c a b) columns' leaving' (slice_range rows a b) (λ i. a + i) laid seen made (omega (arith, some, m)) (omega (arith, m, n, within, laid.few))
    (m ∙ sym (length-part rows a b within)) (λ c e. length-part c a b (omega (arith, e, n, within)) ∙ sym m)
    (λ i h. record {
      within = omega (arith, h, m, within);
      sign = ap (λ l. get_or l i false) signs ∙ get_or-part leaving a b i false (omega (arith, h, m));
      value = λ c. get_or-part c a b i None (omega (arith, h, m));
      row = get_or-part rows a b i (true, []) (omega (arith, h, m));
    })

pub length-at_places : {X : Type 0} (d : X) (ps : List ℕ) (xs : List X) → length (at_places d ps xs) ≡ length ps
length-at_places d ps xs = length-map ps (λ i. get_or xs i d)

pub get_or-at_places : {X : Type 0} (d : X) (ps : List ℕ) (xs : List X) (i : ℕ) → i < length ps → get_or (at_places d ps xs) i d ≡ get_or xs (get_or ps i 0) d
get_or-at_places d ps xs i h = get_or-map (λ j. get_or xs j d) ps i 0 d h

pub picks_made : (columns : List (List (Option ℤ))) (leaving : List Bool) (rows : List (Bool × Row)) (columns' : List (List (Option ℤ))) (leaving' : List Bool) (ps : List ℕ)
    → IsLaidOut columns leaving → signed_rows columns leaving ≡ rows → 1 ≤ length ps → length ps ≤ 1024 → All (λ i. i < length rows) ps
    → columns' ≡ map (at_places None ps) columns → leaving' ≡ at_places false ps leaving → IsRemade columns' leaving' (at_places (true, []) ps rows)
picks_made columns leaving rows columns' leaving' ps laid seen some few within made signs =
    let m : length leaving' ≡ length ps = ap length signs ∙ length-at_places false ps leaving in
    remade columns leaving rows (at_places None ps) columns' leaving' (at_places (true, []) ps rows) (λ i. get_or ps i 0) laid seen made (omega (arith, some, m)) (omega (arith, m, few))
    (m ∙ sym (length-at_places (true, []) ps rows)) (λ c e. length-at_places None ps c ∙ sym m)
    (λ i h. let l : i < length ps = omega (arith, h, m) in record {
      within = within i 0 l;
      sign = ap (λ l. get_or l i false) signs ∙ get_or-at_places false ps leaving i l;
      value = λ c. get_or-at_places None ps c i l;
      row = get_or-at_places (true, []) ps rows i l;
    })

-- ---- a batch made of rows
pub not_not : (b : Bool) → not (not b) ≡ b
not_not true = refl
not_not false = refl

-- a row is its values, column by column
pub values_again : (w : ℕ) (r : Row) → length r ≡ w → map (λ k. value_at r k) (range_with_len 0 w) ≡ r
values_again w r e =
    ext_get_or None _ _ (length-map-range_with_len (λ k. value_at r k) 0 w ∙ sym e)
    (λ i h. get_or-map-range_with_len (λ k. value_at r k) 0 w i i None (omega (arith, h, length-map-range_with_len (λ k. value_at r k) 0 w)) (omega arith))

row_at-columns : (rows : List (Bool × Row)) (i : ℕ) (ks : List ℕ) → i < length rows → row_at (map (column_of rows) ks) i ≡ map (λ k. value_at (get_or rows i (true, [])).1 k) ks
row_at-columns rows i [] h = refl
row_at-columns rows i (k ∷ ks) h = λ t. get_or-map (λ r. value_at r.1 k) rows i (true, []) None h t ∷ row_at-columns rows i ks h t

pub rows_made : (rows : List (Bool × Row)) (w : ℕ) (columns : List (List (Option ℤ))) (leaving : List Bool) → 1 ≤ length rows → length rows ≤ 1024 → w ≤ MAX_COLUMNS → IsTable w rows
    → columns ≡ map (column_of rows) (range_with_len 0 w) → leaving ≡ map (λ r. not r.0) rows → IsRemade columns leaving rows
rows_made rows w columns leaving some few narrow table made signs =
    rw (made, signs) (record {
      laid = record {
        some = omega (arith, some, length-map rows (λ r. not r.0));
        few = omega (arith, few, length-map rows (λ r. not r.0));
        narrow = omega (arith, narrow, length-map-range_with_len (column_of rows) 0 w);
        same = λ k d h.
            let l : k < w = omega (arith, h, length-map-range_with_len (column_of rows) 0 w) in
            ap length (get_or-map-range_with_len (column_of rows) 0 w k k d l (omega arith)) ∙ length-map rows (λ r. value_at r.1 k) ∙ sym (length-map rows (λ r. not r.0));
      };
      seen = same_rows_by (map (column_of rows) (range_with_len 0 w)) (map (λ r. not r.0) rows) rows (length-map rows (λ r. not r.0)) (λ i h.
          let l : i < length rows = omega (arith, h, length-map rows (λ r. not r.0)) in
          (λ t. (not (get_or-map (λ r. not r.0) rows i (true, []) false l t), row_at-columns rows i (range_with_len 0 w) l t))
          ∙ (λ t. (not_not (get_or rows i (true, [])).0 t, values_again w (get_or rows i (true, [])).1 (table i (true, []) l) t)));
    })

-- ---- chosen rows
pub chosen-push : {X : Type 0} (bs : List Bool) (xs : List X) (b : Bool) (x : X) → length bs ≡ length xs → chosen (bs ++ b ∷ []) (xs ++ x ∷ []) ≡ chosen bs xs ++ cond b (x ∷ []) []
chosen-push [] [] true x e = refl
chosen-push [] [] false x e = refl
chosen-push [] (y ∷ ys) b x e = absurd (omega arith)
chosen-push (c ∷ bs) [] b x e = absurd (omega arith)
chosen-push (true ∷ bs) (y ∷ ys) b x e = ap (λ l. y ∷ l) (chosen-push bs ys b x (omega arith))
chosen-push (false ∷ bs) (y ∷ ys) b x e = chosen-push bs ys b x (omega arith)

map_same : (xs : List ℕ) → map (λ i. i) xs ≡ xs
map_same [] = refl
map_same (x ∷ xs) = ap (λ l. x ∷ l) (map_same xs)

pub range_more : (n : ℕ) → range_with_len 0 (n + 1) ≡ range_with_len 0 n ++ n ∷ []
range_more n = sym (map_same (range_with_len 0 (n + 1))) ∙ map-range_with_len_more (λ i. i) 0 n n (omega arith) ∙ ap (λ l. l ++ n ∷ []) (map_same (range_with_len 0 n))

pub filter_more : (p : ℕ → Bool) (k : ℕ) (b : Bool) → p k ≡ b → filter p (range_with_len 0 (k + 1)) ≡ filter p (range_with_len 0 k) ++ cond b (k ∷ []) []
filter_more p k b e = ap (filter p) (range_more k) ∙ filter-append p (range_with_len 0 k) (k ∷ []) ∙ ap (λ c. filter p (range_with_len 0 k) ++ cond c (k ∷ []) []) e

one_chosen : {X : Type 0} (d : X) (xs : List X) (k : ℕ) (b : Bool) → at_places d (cond b (k ∷ []) []) xs ≡ cond b (get_or xs k d ∷ []) []
one_chosen d xs k true = refl
one_chosen d xs k false = refl

pub chosen_below : {X : Type 0} (d : X) (bs : List Bool) (xs : List X) (k : ℕ) → length bs ≡ length xs → k ≤ length bs
    → at_places d (filter (λ i. get_or bs i false) (range_with_len 0 k)) xs ≡ chosen (take k bs) (take k xs)
chosen_below d bs xs zero e h = refl
chosen_below d bs xs (suc k) e h =
    let n : suc k ≡ k + 1 = omega arith in
    let same : length (take k bs) ≡ length (take k xs) = length-take-le k bs (omega arith) ∙ sym (length-take-le k xs (omega arith)) in
    ap (λ m. at_places d (filter (λ i. get_or bs i false) (range_with_len 0 m)) xs) n
    ∙ ap (λ l. at_places d l xs) (filter_more (λ i. get_or bs i false) k (get_or bs k false) refl)
    ∙ map-append (λ i. get_or xs i d) (filter (λ i. get_or bs i false) (range_with_len 0 k)) (cond (get_or bs k false) (k ∷ []) [])
    ∙ (λ t. chosen_below d bs xs k e (omega arith) t ++ one_chosen d xs k (get_or bs k false) t)
    ∙ sym (chosen-push (take k bs) (take k xs) (get_or bs k false) (get_or xs k d) same)
    ∙ (λ t. chosen (sym (take_more bs k false (omega arith)) t) (sym (take_more xs k d (omega arith)) t))
    ∙ ap (λ m. chosen (take m bs) (take m xs)) (sym n)

pub at_true_places : {X : Type 0} (d : X) (bs : List Bool) (xs : List X) → length bs ≡ length xs → at_places d (true_places bs) xs ≡ chosen bs xs
at_true_places d bs xs e = chosen_below d bs xs (length bs) e (omega arith) ∙ (λ t. chosen (take_all (length bs) bs (omega arith) t) (take_all (length bs) xs (omega arith) t))

pub few_true : (bs : List Bool) → length (true_places bs) ≤ length bs
few_true bs = omega (arith, length-filter_both (λ i. get_or bs i false) (λ i. not (get_or bs i false)) (λ i. refl) (range_with_len 0 (length bs)), length-range_with_len 0 (length bs))

pub true_within : (bs : List Bool) → All (λ i. i < length bs) (true_places bs)
true_within bs = All-filter (λ i. get_or bs i false) (λ i. i < length bs) (range_with_len 0 (length bs))
    (λ k d h. omega (arith, get_or-range_with_len 0 (length bs) k d (omega (arith, h, length-range_with_len 0 (length bs))), length-range_with_len 0 (length bs)))

pub within_columns : (columns : List (List (Option ℤ))) (leaving : List Bool) (rows : List (Bool × Row)) (lent : List (List (Option ℤ))) (ps : List ℕ) → IsLaidOut columns leaving → signed_rows columns leaving ≡ rows
    → lent ≡ columns → All (λ i. i < length rows) ps → All (λ c. All (λ i. i < length c) ps) lent
within_columns columns leaving rows lent ps laid seen same within =
    rw same (λ k d h j e l. omega (arith, within j e l, length-batch columns leaving rows seen, laid.same k d h))

pub item_long : (columns : List (List (Option ℤ))) (leaving : List Bool) (lent : List (List (Option ℤ))) (k : ℕ) (item : List (Option ℤ)) → IsLaidOut columns leaving → lent ≡ columns → k < length lent
    → item ≡ get_or lent k item → length item ≡ length leaving
item_long columns leaving lent k item laid same h is = ap length (is ∙ ap (λ l. get_or l k item) same) ∙ laid.same k item (omega (arith, h, ap length same))

pub width_first : (raw : List SignedRow) (r : SignedRow) → 1 ≤ length raw → width (map signed raw) ≡ length (get_or raw 0 r).row.items
width_first [] r h = absurd (omega arith)
width_first (x ∷ raw) r h = refl

pub empty_list : {X : Type 0} (xs : List X) (n : ℕ) {b : Bool} → n ≡ length xs → b ≡ (n == 0) → b ≡ true → xs ≡ []
empty_list [] n l e t = refl
empty_list (x ∷ xs) n l e t = let z : n ≡ 0 = (Decides-eqb n 0).0 (sym e ∙ t) in absurd (omega (arith, l, z))

-- ---- a column, the signs
pub column_again : (columns : List (List (Option ℤ))) (leaving : List Bool) (rows : List (Bool × Row)) (k : ℕ) → IsLaidOut columns leaving → signed_rows columns leaving ≡ rows → k < width rows
    → get_or columns k [] ≡ column_of rows k
column_again columns leaving rows k laid seen h =
    let l : k < length columns = omega (arith, h, width-seen columns leaving rows laid seen) in
    let n : length (get_or columns k []) ≡ length leaving = laid.same k [] l in
    let m : length leaving ≡ length rows = length-batch columns leaving rows seen in
    ext_get_or None _ _ (n ∙ m ∙ sym (length-map rows (λ r. value_at r.1 k)))
    (λ i j. let w : i < length rows = omega (arith, j, n, m) in
    sym (get_or-map (λ c. get_or c i None) columns k [] None l)
    ∙ ap (λ r. value_at r.1 k) (row_at-batch columns leaving rows i (true, []) seen w)
    ∙ sym (get_or-map (λ r. value_at r.1 k) rows i (true, []) None w))

pub signs_again : (columns : List (List (Option ℤ))) (leaving : List Bool) (rows : List (Bool × Row)) → signed_rows columns leaving ≡ rows → leaving ≡ map (λ r. not r.0) rows
signs_again columns leaving rows seen =
    let m : length leaving ≡ length rows = length-batch columns leaving rows seen in
    ext_get_or false _ _ (m ∙ sym (length-map rows (λ r. not r.0)))
    (λ i h. let w : i < length rows = omega (arith, h, m) in
    sym (not_not (get_or leaving i false)) ∙ ap (λ r. not r.0) (row_at-batch columns leaving rows i (true, []) seen w) ∙ sym (get_or-map (λ r. not r.0) rows i (true, []) false w))

-- ---- chosen columns
value_in : (columns : List (List (Option ℤ))) (k i : ℕ) → get_or (get_or columns k []) i None ≡ get_or (row_at columns i) k None
value_in [] k i = refl
value_in (c ∷ cs) zero i = refl
value_in (c ∷ cs) (suc k) i = value_in cs k i

row_at-places : (columns : List (List (Option ℤ))) (ks : List ℕ) (i : ℕ) → row_at (at_places [] ks columns) i ≡ at_places None ks (row_at columns i)
row_at-places columns [] i = refl
row_at-places columns (k ∷ ks) i = λ t. value_in columns k i t ∷ row_at-places columns ks i t

pub columns_chosen : (columns : List (List (Option ℤ))) (leaving : List Bool) (rows : List (Bool × Row)) (ks : List ℕ) (columns' : List (List (Option ℤ))) (leaving' : List Bool)
    → IsLaidOut columns leaving → signed_rows columns leaving ≡ rows → length ks ≤ MAX_COLUMNS → All (λ k. k < width rows) ks → columns' ≡ at_places [] ks columns → leaving' ≡ leaving
    → IsRemade columns' leaving' (map (λ r. (r.0, at_places None ks r.1)) rows)
columns_chosen columns leaving rows ks columns' leaving' laid seen narrow within made signs =
    let m : length leaving ≡ length rows = length-batch columns leaving rows seen in
    rw (made, signs) (record {
      laid = record {
        some = laid.some;
        few = laid.few;
        narrow = omega (arith, narrow, length-at_places [] ks columns);
        same = λ k d h.
            let l : k < length ks = omega (arith, h, length-at_places [] ks columns) in
            ap length (get_or-map (λ j. get_or columns j []) ks k 0 d l) ∙ laid.same (get_or ks k 0) [] (omega (arith, within k 0 l, width-seen columns leaving rows laid seen));
      };
      seen = same_rows_by (at_places [] ks columns) leaving (map (λ r. (r.0, at_places None ks r.1)) rows) (m ∙ sym (length-map rows (λ r. (r.0, at_places None ks r.1)))) (λ i h.
          let w : i < length rows = omega (arith, h, m) in
          (λ t. (not (get_or leaving i false), row_at-places columns ks i t))
          ∙ ap (λ r. (r.0, at_places None ks r.1)) (row_at-batch columns leaving rows i (true, []) seen w)
          ∙ sym (get_or-map (λ r. (r.0, at_places None ks r.1)) rows i (true, []) (true, []) w));
    })

-- ---- rows beside rows
length-beside : (side : Side) (ls rs : List (Bool × Row)) → length rs ≡ length ls → length (beside side ls rs) ≡ length ls
length-beside side [] rs h = refl
length-beside side (l ∷ ls) [] h = absurd (omega arith)
length-beside side (l ∷ ls) (r ∷ rs) h = ap suc (length-beside side ls rs (omega arith))

get_or-beside : (side : Side) (ls rs : List (Bool × Row)) (i : ℕ) (d : Bool × Row) → length rs ≡ length ls → i < length ls
    → get_or (beside side ls rs) i d ≡ (of_side side (get_or ls i d).0 (get_or rs i d).0, (get_or ls i d).1 ++ (get_or rs i d).1)
get_or-beside side [] rs i d h j = absurd (omega arith)
get_or-beside side (l ∷ ls) [] i d h j = absurd (omega arith)
get_or-beside side (l ∷ ls) (r ∷ rs) zero d h j = refl
get_or-beside side (l ∷ ls) (r ∷ rs) (suc i) d h j = get_or-beside side ls rs i d (omega arith) (omega arith)

sign_there : (side : Side) (l r : List Bool) (i : ℕ) → not (get_or (of_side side l r) i false) ≡ of_side side (not (get_or l i false)) (not (get_or r i false))
sign_there Left l r i = refl
sign_there Right l r i = refl

length-of_side : (side : Side) (l r : List Bool) → length r ≡ length l → length (of_side side l r) ≡ length l
length-of_side Left l r h = refl
length-of_side Right l r h = h

right_long : (cl cr : List (List (Option ℤ))) (n : ℕ) (k : ℕ) (d : List (Option ℤ)) → All (λ c. length c ≡ n) cr → length cl ≤ k → k < length cl + length cr → length (get_or (cl ++ cr) k d) ≡ n
right_long cl cr n k d right l h = ap length (get_or-append_right cl cr (length cl) k d refl l) ∙ right (k - length cl) d (omega arith)

long : (cl cr : List (List (Option ℤ))) (n : ℕ) (k : ℕ) (d : List (Option ℤ)) → All (λ c. length c ≡ n) cl → All (λ c. length c ≡ n) cr → k < length cl + length cr → length (get_or (cl ++ cr) k d) ≡ n
long cl cr n k d left right h = elim (cases_order k (length cl)) [
  | inl e ↦ right_long cl cr n k d right (omega (arith, e)) h
  | inr q ↦ elim q [ inl p ↦ ap length (get_or-append cl cr d k p) ∙ left k d p | inr p ↦ right_long cl cr n k d right (omega (arith, p)) h ]
]

pub beside_made : (side : Side) (cl cr : List (List (Option ℤ))) (sl sr : List Bool) (ls rs : List (Bool × Row)) (columns' : List (List (Option ℤ))) (leaving' : List Bool)
    → IsLaidOut cl sl → signed_rows cl sl ≡ ls → IsLaidOut cr sr → signed_rows cr sr ≡ rs → length rs ≡ length ls → width ls + width rs ≤ MAX_COLUMNS
    → columns' ≡ cl ++ cr → leaving' ≡ of_side side sl sr → IsRemade columns' leaving' (beside side ls rs)
beside_made side cl cr sl sr ls rs columns' leaving' ll el lr er same narrow made signs =
    let ml : length sl ≡ length ls = length-batch cl sl ls el in
    let mr : length sr ≡ length rs = length-batch cr sr rs er in
    let wl : width ls ≡ length cl = width-seen cl sl ls ll el in
    let wr : width rs ≡ length cr = width-seen cr sr rs lr er in
    let m : length (of_side side sl sr) ≡ length sl = length-of_side side sl sr (omega (arith, ml, mr, same)) in
    rw (made, signs) (record {
      laid = record {
        some = omega (arith, ll.some, m);
        few = omega (arith, ll.few, m);
        narrow = omega (arith, narrow, wl, wr, length-append cl cr);
        same = λ k d h. long cl cr (length sl) k d ll.same (λ j e l. lr.same j e l ∙ omega (arith, ml, mr, same)) (omega (arith, h, length-append cl cr)) ∙ sym m;
      };
      seen = same_rows_by (cl ++ cr) (of_side side sl sr) (beside side ls rs) (omega (arith, m, ml, length-beside side ls rs same)) (λ i h.
          let il : i < length ls = omega (arith, h, m, ml) in
          (λ t. (sign_there side sl sr i t, map-append (λ c. get_or c i None) cl cr t))
          ∙ (λ t. (
            of_side side (row_at-batch cl sl ls i (true, []) el il t).0 (row_at-batch cr sr rs i (true, []) er (omega (arith, il, same)) t).0,
            (row_at-batch cl sl ls i (true, []) el il t).1 ++ (row_at-batch cr sr rs i (true, []) er (omega (arith, il, same)) t).1,
          ))
          ∙ sym (get_or-beside side ls rs i (true, []) same il));
    })

-- ---- a whole column again
pub whole_part : {X : Type 0} (xs : List X) → length xs ≤ 1024 → slice_range xs 0 1024 ≡ xs
whole_part xs h = take_all 1024 xs h

pub chosen_more : (columns : List (List (Option ℤ))) (ps : List ℕ) (k : ℕ) (item : List (Option ℤ)) → k < length ps → get_or columns (get_or ps k 0) [] ≡ item
    → at_places [] (take (k + 1) ps) columns ≡ at_places [] (take k ps) columns ++ item ∷ []
chosen_more columns ps k item h e =
    ap (λ l. at_places [] l columns) (take_more ps k 0 h) ∙ map-append (λ i. get_or columns i []) (take k ps) (get_or ps k 0 ∷ []) ∙ ap (λ x. at_places [] (take k ps) columns ++ x ∷ []) e

pub get_or_same : (xs : List (List (Option ℤ))) (i : ℕ) (a b : List (Option ℤ)) → i < length xs → get_or xs i a ≡ get_or xs i b
get_or_same [] i a b h = absurd (omega arith)
get_or_same (x ∷ xs) zero a b h = refl
get_or_same (x ∷ xs) (suc i) a b h = get_or_same xs i a b (omega arith)

pub copied_column : (columns : List (List (Option ℤ))) (leaving : List Bool) (k : ℕ) (item copy : List (Option ℤ)) → IsLaidOut columns leaving → k < length columns → item ≡ get_or columns k item
    → copy ≡ slice_range item 0 1024 → get_or columns k [] ≡ copy
copied_column columns leaving k item copy laid h is part =
    let same : length item ≡ length leaving = ap length is ∙ laid.same k item h in
    get_or_same columns k [] item h ∙ sym is ∙ sym (whole_part item (omega (arith, same, laid.few))) ∙ sym part

pub lent_column : (columns : List (List (Option ℤ))) (leaving : List Bool) (rows : List (Bool × Row)) (k : ℕ) (item : List (Option ℤ)) → IsLaidOut columns leaving → signed_rows columns leaving ≡ rows → k < width rows
    → item ≡ get_or columns k item → item ≡ column_of rows k
lent_column columns leaving rows k item laid seen h is =
    is ∙ get_or_same columns k item [] (omega (arith, h, width-seen columns leaving rows laid seen)) ∙ column_again columns leaving rows k laid seen h
