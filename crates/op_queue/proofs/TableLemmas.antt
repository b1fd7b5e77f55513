-- How a log's lists hold its elements, and how they grow.
use Rattle.std.proofs.Common.{◌≡◌, ◌≢◌, set, length-set, zero-add, ℕ, ℤ, suc, ◌+◌, ◌*◌, ◌-◌, ◌<◌, ◌≤◌, Option, None, List, [], ◌∷◌, ◌++◌, length, map, take, drop, get_or, refl, ap, sym, ◌∙◌, arith, subst, append_assoc, length-append, length-drop, length-take, length-take-le, get_or-take, ⊎_elim}
use Prim.Native.Nat.{zero}
use Rattle.std.specs.Global.{Vec}
use Rattle.std.specs.List.{All, range_with_len}
use Rattle.std.proofs.lemmas.Bool.{cases_eq}
use Rattle.std.proofs.lemmas.Grind.{get_or-set_at}
use Rattle.std.proofs.lemmas.List.{ext_get_or, get_or-append_right, get_or-drop, get_or-map, get_or_default, get_or-set_other, length-map, map-append, map-set}
use Rattle.std.proofs.lemmas.List.Elements.{All-nil, All-cons, All-from_get_or, All-weaker}
use Rattle.std.proofs.lemmas.List.FromFn.{length-map-range_with_len, map-range_with_len_more}
use Rattle.std.proofs.lemmas.Nat.{mul-add-lt}
use Rattle.std.proofs.Math.Nat.{mul_comm}
use Rattle.column.specs.Rows.{row_at}
use Rattle.values.specs.declared.TheConstants.{MAX_COLUMNS}
use Rattle.values.specs.Row.{Row, value_at}
use Rattle.values.specs.Window.{Element}
use Rattle.op_queue.specs.Logs.{Closed}
use Rattle.op_queue.specs.Tables.{IsLog, IsLonger, IsTableOf, KeepsFirst, arrived, closed_in, column_of, element_at, elements_in, lists}
use Rattle.op_queue.proofs.RunLemmas.{range_with_len-add}

pub length-elements_in : (n : ℕ) (instants numbers : List ℕ) (columns : List (List (Option ℤ))) → length (elements_in n instants numbers columns) ≡ n
length-elements_in n instants numbers columns = let f : ℕ → Element = element_at instants numbers columns in length-map-range_with_len f 0 n

All-long : (columns : List (List (Option ℤ))) → All (λ c. 0 ≤ length c) columns
All-long [] = All-nil (λ c. 0 ≤ length c)
All-long (c ∷ cs) = All-cons (λ c. 0 ≤ length c) c cs (omega arith) (All-long cs)

pub IsLog-none : (instants numbers : List ℕ) (columns : List (Vec (Option ℤ))) (until : ℕ) → length columns ≤ MAX_COLUMNS → IsLog 0 instants numbers (lists columns) until
IsLog-none instants numbers columns until few = record {
  table = record { has_instants = omega arith; has_numbers = omega arith; has_values = All-long (lists columns); narrow = let f : Vec (Option ℤ) → List (Option ℤ) = λ c. c.items in omega (arith, length-map columns f) };
  ordered = record { instants = λ i j d le lt. absurd (omega arith); arrivals = λ i j d le lt e. absurd (omega arith) };
  closed = All-nil (λ e. e.instant < until);
}

-- the columns below k are written, the others are as they were
pub record IsLongerTo (n : ℕ) (f : ℕ → List (Option ℤ)) (k : ℕ) (old new : List (List (Option ℤ))) : Type 0 where
  pub kept : KeepsFirst n old new
  pub written : (j : ℕ) → j < k → j < length old → get_or new j [] ≡ take n (get_or old j []) ++ f j
  pub rest : (j : ℕ) → k ≤ j → get_or new j [] ≡ get_or old j []

KeepsFirst-set : (n k : ℕ) (old new : List (List (Option ℤ))) (c : List (Option ℤ)) → k < length new → KeepsFirst n old new → take n c ≡ take n (get_or new k []) → KeepsFirst n old (set new k c)
KeepsFirst-set n k old new c lt h e = record {
  width = length-set new k c ∙ h.width;
  same = λ j.
      ⊎_elim
      (λ (is : j ≡ k). ap (take n) (get_or-set_at new k j c [] is lt) ∙ e ∙ ap (λ i. take n (get_or new i [])) (sym is) ∙ h.same j)
      (λ (no : j ≢ k). ap (take n) (get_or-set_other new k j c [] no) ∙ h.same j)
      (cases_eq j k);
}

pub IsLongerTo-set : (n k : ℕ) (f : ℕ → List (Option ℤ)) (old new : List (List (Option ℤ))) (c : List (Option ℤ)) → k < length new → IsLongerTo n f k old new → take n c ≡ take n (get_or new k []) → c ≡ take n (get_or new k []) ++ f k → IsLongerTo n f (k + 1) old (set new k c)
IsLongerTo-set n k f old new c lt h e more = record {
  kept = KeepsFirst-set n k old new c lt h.kept e;
  written = λ j below within.
      ⊎_elim
      (λ (is : j ≡ k).
      get_or-set_at new k j c [] is lt
      ∙ more
      ∙ ap (λ i. take n (get_or new i []) ++ f i) (sym is)
      ∙ ap (λ vs. take n vs ++ f j) (h.rest j (omega arith)))
      (λ (no : j ≢ k). get_or-set_other new k j c [] no ∙ h.written j (omega arith) within)
      (cases_eq j k);
  rest = λ j le. get_or-set_other new k j c [] (λ is. absurd (omega arith)) ∙ h.rest j (omega arith);
}

-- the same over the columns themselves
pub IsLongerTo-column : (n k : ℕ) (more_of : ℕ → List (Option ℤ)) (old : List (List (Option ℤ))) (columns : List (Vec (Option ℤ))) (was is : Vec (Option ℤ)) → k < length columns → was ≡ get_or columns k was → IsLongerTo n more_of k old (lists columns) → take n is.items ≡ take n was.items → is.items ≡ take n was.items ++ more_of k → IsLongerTo n more_of (k + 1) old (lists (set columns k is))
IsLongerTo-column n k more_of old columns was is lt at h e more =
    let f : Vec (Option ℤ) → List (Option ℤ) = λ c. c.items in
    let g : get_or (lists columns) k [] ≡ was.items = get_or-map f columns k was [] lt ∙ ap f (sym at) in
    let l = length-map columns f in
    let P : List (List (Option ℤ)) → Type 0 = λ cs. IsLongerTo n more_of (k + 1) old cs in
    subst P (sym (map-set f columns k is))
    (IsLongerTo-set n k more_of old (lists columns) is.items (omega arith) h (e ∙ ap (take n) (sym g)) (more ∙ ap (λ vs. take n vs ++ more_of k) (sym g)))

pub KeepsFirst-column : (n k : ℕ) (old : List (List (Option ℤ))) (columns : List (Vec (Option ℤ))) (was is : Vec (Option ℤ)) → k < length columns → was ≡ get_or columns k was → KeepsFirst n old (lists columns) → take n is.items ≡ take n was.items → KeepsFirst n old (lists (set columns k is))
KeepsFirst-column n k old columns was is lt at h e =
    let f : Vec (Option ℤ) → List (Option ℤ) = λ c. c.items in
    let g : get_or (lists columns) k [] ≡ was.items = get_or-map f columns k was [] lt ∙ ap f (sym at) in
    let l = length-map columns f in
    let P : List (List (Option ℤ)) → Type 0 = λ cs. KeepsFirst n old cs in
    subst P (sym (map-set f columns k is)) (KeepsFirst-set n k old (lists columns) is.items (omega arith) h (e ∙ ap (take n) (sym g)))

pub IsLonger-end : (n k : ℕ) (f : ℕ → List (Option ℤ)) (old new : List (List (Option ℤ))) → length old ≤ k → IsLongerTo n f k old new → IsLonger n f old new
IsLonger-end n k f old new all h = record { more = λ j lt. h.written j (omega arith) lt }

pub column_long : (columns : List (Vec (Option ℤ))) (to k : ℕ) (c : Vec (Option ℤ)) → All (λ c. to ≤ length c) (lists columns) → k < length columns → c ≡ get_or columns k c → to ≤ length c.items
column_long columns to k c h lt is =
    let f : Vec (Option ℤ) → List (Option ℤ) = λ c. c.items in
    let l = length-map columns f in
    omega (arith, h k [] (omega arith), ap length (get_or-map f columns k c [] lt), ap (λ (v : Vec (Option ℤ)). length v.items) is)

-- where the first n of each list stay, so do the elements
get_or-kept : {X : Type 0} (n : ℕ) (old new : List X) (i : ℕ) (d : X) → i < n → take n new ≡ take n old → get_or new i d ≡ get_or old i d
get_or-kept n old new i d lt e = sym (get_or-take n new i d lt) ∙ ap (λ xs. get_or xs i d) e ∙ get_or-take n old i d lt

row_at-kept : (n : ℕ) (old new : List (List (Option ℤ))) (i : ℕ) → i < n → KeepsFirst n old new → row_at new i ≡ row_at old i
row_at-kept n old new i lt h =
    let f : List (Option ℤ) → Option ℤ = λ c. get_or c i None in
    let l = length-map new f in
    let m = length-map old f in
    ext_get_or None (row_at new i) (row_at old i) (l ∙ h.width ∙ sym m)
    (λ k within.
    get_or-map f new k [] None (omega arith)
    ∙ get_or-kept n (get_or old k []) (get_or new k []) i None lt (h.same k)
    ∙ sym (get_or-map f old k [] None (omega (arith, h.width))))

map-range-same : {X : Type 0} (f g : ℕ → X) (a n : ℕ) → ((i : ℕ) → a ≤ i → i < a + n → f i ≡ g i) → map f (range_with_len a n) ≡ map g (range_with_len a n)
map-range-same f g a zero h = refl
map-range-same f g a (suc n) h =
    ap (λ x. x ∷ map f (range_with_len (a + 1) n)) (h a (omega arith) (omega arith)) ∙ ap (λ xs. g a ∷ xs) (map-range-same f g (a + 1) n (λ i l u. h i (omega arith) (omega arith)))

pub elements_in-kept : (n : ℕ) (instants instants' numbers numbers' : List ℕ) (columns columns' : List (List (Option ℤ))) → take n instants' ≡ take n instants → take n numbers' ≡ take n numbers → KeepsFirst n columns columns' → elements_in n instants' numbers' columns' ≡ elements_in n instants numbers columns
elements_in-kept n instants instants' numbers numbers' columns columns' e f g =
    map-range-same (element_at instants' numbers' columns') (element_at instants numbers columns) 0 n
    (λ i l u.
    let a = get_or-kept n instants instants' i 0 (omega arith) e in
    let b = get_or-kept n numbers numbers' i 0 (omega arith) f in
    let c = row_at-kept n columns columns' i (omega arith) g in
    let h : element_at instants' numbers' columns' i ≡ element_at instants numbers columns i = cc in
    h)

long-kept : {X : Type 0} (n : ℕ) (old new : List X) → take n new ≡ take n old → n ≤ length old → n ≤ length new
long-kept n old new e le = omega (arith, length-take n new, length-take n old, ap length e)

pub IsTableOf-kept : (n : ℕ) (instants instants' numbers numbers' : List ℕ) (columns columns' : List (List (Option ℤ))) → take n instants' ≡ take n instants → take n numbers' ≡ take n numbers → KeepsFirst n columns columns' → IsTableOf n instants numbers columns → IsTableOf n instants' numbers' columns'
IsTableOf-kept n instants instants' numbers numbers' columns columns' e f g h = record {
  has_instants = long-kept n instants instants' e h.has_instants;
  has_numbers = long-kept n numbers numbers' f h.has_numbers;
  has_values =
      All-from_get_or (λ c. n ≤ length c) columns' []
      (λ k lt. long-kept n (get_or columns k []) (get_or columns' k []) (g.same k) (h.has_values k [] (omega (arith, g.width))));
  narrow = omega (arith, g.width, h.narrow);
}

-- a list of which each place is given by its number
range-is : {X : Type 0} (f : ℕ → X) (a : ℕ) (xs : List X) → ((j : ℕ) (d : X) → j < length xs → f (a + j) ≡ get_or xs j d) → map f (range_with_len a (length xs)) ≡ xs
range-is f a [] h = refl
range-is f a (x ∷ xs) h =
    let z : a ≡ a + 0 = omega arith in
    ap (λ y. y ∷ map f (range_with_len (a + 1) (length xs))) (ap f z ∙ h 0 x (omega arith))
    ∙ ap (λ ys. x ∷ ys)
    (range-is f (a + 1) xs
    (λ j d lt.
    let s : a + 1 + j ≡ a + suc j = omega arith in
    ap f s ∙ h (suc j) d (omega arith)))

behind : {X Y : Type 0} (n : ℕ) (front : List Y) (f : X → Y) (xs : List X) (j : ℕ) (d : X) (e : Y) → n ≤ length front → j < length xs → get_or (take n front ++ map f xs) (n + j) e ≡ f (get_or xs j d)
behind n front f xs j d e le lt =
    let l : length (take n front) ≡ n = omega (arith, length-take n front) in
    let k : n + j - n ≡ j = omega arith in
    get_or-append_right (take n front) (map f xs) n (n + j) e l (omega arith) ∙ ap (λ i. get_or (map f xs) i e) k ∙ get_or-map f xs j d e lt

row_at-behind : (n : ℕ) (old new : List (List (Option ℤ))) (es : List Element) (j : ℕ) (d : Element) → j < length es → All (λ c. n ≤ length c) old → length new ≡ length old → IsLonger n (λ k. map (λ e. value_at e.row k) es) old new → length (get_or es j d).row ≡ length old → row_at new (n + j) ≡ (get_or es j d).row
row_at-behind n old new es j d lt long width h wide =
    let f : List (Option ℤ) → Option ℤ = λ c. get_or c (n + j) None in
    let l = length-map new f in
    ext_get_or None (row_at new (n + j)) (get_or es j d).row (omega arith)
    (λ k within.
    let g : Element → Option ℤ = λ e. value_at e.row k in
    get_or-map f new k [] None (omega arith)
    ∙ ap (λ (vs : List (Option ℤ)). get_or vs (n + j) None) (h.more k (omega arith))
    ∙ behind n (get_or old k []) g es j d None (long k [] (omega arith)) lt)

element_is : {a t : ℕ} {r : Row} (e : Element) → a ≡ e.arrival → t ≡ e.instant → r ≡ e.row → record { arrival = a; instant = t; row = r } ≡ e
element_is {a} {t} {r} e p q s =
    let make : ℕ → ℕ → Row → Element = λ x y z. record { arrival = x; instant = y; row = z } in
    ap (λ x. make x t r) p ∙ ap (λ y. make e.arrival y r) q ∙ ap (λ z. make e.arrival e.instant z) s

pub elements_in-more : (n : ℕ) (es : List Element) (instants instants' numbers numbers' : List ℕ) (columns columns' : List (List (Option ℤ))) → IsTableOf n instants numbers columns → All (λ e. length e.row ≡ length columns) es → instants' ≡ take n instants ++ map (λ e. e.instant) es → numbers' ≡ take n numbers ++ map (λ e. e.arrival) es → take n instants' ≡ take n instants → take n numbers' ≡ take n numbers → KeepsFirst n columns columns' → IsLonger n (λ k. map (λ e. value_at e.row k) es) columns columns' → elements_in (n + length es) instants' numbers' columns' ≡ elements_in n instants numbers columns ++ es
elements_in-more n es instants instants' numbers numbers' columns columns' table wide is was e f g h =
    let at : ℕ → Element = element_at instants' numbers' columns' in
    let more : map at (range_with_len n (length es)) ≡ es =
    range-is at n es
    (λ j d lt.
    let one : Element → ℕ = λ e. e.instant in
    let two : Element → ℕ = λ e. e.arrival in
    let a = ap (λ ns. get_or ns (n + j) 0) is ∙ behind n instants one es j d 0 table.has_instants lt in
    let b = ap (λ ns. get_or ns (n + j) 0) was ∙ behind n numbers two es j d 0 table.has_numbers lt in
    let c = row_at-behind n columns columns' es j d lt table.has_values g.width h (wide j d lt) in
    element_is (get_or es j d) b a c) in
    ap (map at) (range_with_len-add 0 n (length es))
    ∙ map-append at (range_with_len 0 n) (range_with_len (0 + n) (length es))
    ∙ ap (λ xs. xs ++ map at (range_with_len (0 + n) (length es))) (elements_in-kept n instants instants' numbers numbers' columns columns' e f g)
    ∙ ap (λ k. elements_in n instants numbers columns ++ map at (range_with_len k (length es))) (zero-add n)
    ∙ ap (λ xs. elements_in n instants numbers columns ++ xs) more

-- ---- rows that are given flat
-- one more row's value
pub column_more : (width k count row : ℕ) (values : List (Option ℤ)) (v : Option ℤ) (front old new : List (Option ℤ)) → length values ≡ count * width → row < count → k < width → v ≡ get_or values (row * width + k) v
    → new ≡ old ++ v ∷ [] → old ≡ front ++ column_of width k row values → new ≡ front ++ column_of width k (row + 1) values
column_more width k count row values v front old new full lt within is pushed sofar =
    let at : ℕ → Option ℤ = λ i. get_or values (i * width + k) None in
    let place : row * width + k < length values = omega (arith, full, mul-add-lt row width k count lt within, mul_comm count width) in
    let one : v ≡ at row = is ∙ get_or_default values (row * width + k) v None place in
    pushed
    ∙ ap (λ vs. vs ++ v ∷ []) sofar
    ∙ append_assoc front (column_of width k row values) (v ∷ [])
    ∙ ap (λ x. front ++ (column_of width k row values ++ x ∷ [])) one
    ∙ ap (λ vs. front ++ vs) (sym (map-range_with_len_more at 0 row row (omega arith)))

pub length-arrived : (width : ℕ) (instants numbers : List ℕ) (values : List (Option ℤ)) → length numbers ≡ length instants → length (arrived width instants numbers values) ≡ length instants
length-arrived width [] numbers values h = refl
length-arrived width (t ∷ instants) [] values h = cc
length-arrived width (t ∷ instants) (n ∷ numbers) values h = ap suc (length-arrived width instants numbers (drop width values) (omega (arith, h)))

pub arrived-instants : (width : ℕ) (instants numbers : List ℕ) (values : List (Option ℤ)) → length numbers ≡ length instants → map (λ e. e.instant) (arrived width instants numbers values) ≡ instants
arrived-instants width [] numbers values h = refl
arrived-instants width (t ∷ instants) [] values h = cc
arrived-instants width (t ∷ instants) (n ∷ numbers) values h = ap (λ ts. t ∷ ts) (arrived-instants width instants numbers (drop width values) (omega (arith, h)))

pub arrived-numbers : (width : ℕ) (instants numbers : List ℕ) (values : List (Option ℤ)) → length numbers ≡ length instants → map (λ e. e.arrival) (arrived width instants numbers values) ≡ numbers
arrived-numbers width [] [] values h = refl
arrived-numbers width [] (n ∷ numbers) values h = cc
arrived-numbers width (t ∷ instants) [] values h = cc
arrived-numbers width (t ∷ instants) (n ∷ numbers) values h = ap (λ ns. n ∷ ns) (arrived-numbers width instants numbers (drop width values) (omega (arith, h)))

pub arrived-wide : (width : ℕ) (instants numbers : List ℕ) (values : List (Option ℤ)) → length numbers ≡ length instants → length values ≡ length instants * width → All (λ e. length e.row ≡ width) (arrived width instants numbers values)
arrived-wide width [] numbers values h full = All-nil (λ e. length e.row ≡ width)
arrived-wide width (t ∷ instants) [] values h full = cc
arrived-wide width (t ∷ instants) (n ∷ numbers) values h full =
    let more : suc (length instants) * width ≡ width + length instants * width = omega arith in
    All-cons (λ e. length e.row ≡ width) (record { arrival = n; instant = t; row = take width values }) (arrived width instants numbers (drop width values))
    (length-take-le width values (omega (arith, full, more)))
    (arrived-wide width instants numbers (drop width values) (omega (arith, h)) (omega (arith, length-drop width values, full, more)))

column_of-drop : (width k n i : ℕ) (values : List (Option ℤ)) → map (λ j. get_or (drop width values) (j * width + k) None) (range_with_len i n) ≡ map (λ j. get_or values (j * width + k) None) (range_with_len (i + 1) n)
column_of-drop width k zero i values = refl
column_of-drop width k (suc n) i values =
    let next : width + (i * width + k) ≡ (i + 1) * width + k = omega arith in
    ap (λ v. v ∷ map (λ j. get_or (drop width values) (j * width + k) None) (range_with_len (i + 1) n)) (get_or-drop width values (i * width + k) None ∙ ap (λ m. get_or values m None) next)
    ∙ ap (λ vs. get_or values ((i + 1) * width + k) None ∷ vs) (column_of-drop width k n (i + 1) values)

pub arrived-column : (width k : ℕ) (instants numbers : List ℕ) (values : List (Option ℤ)) → k < width → length numbers ≡ length instants
    → map (λ e. value_at e.row k) (arrived width instants numbers values) ≡ column_of width k (length instants) values
arrived-column width k [] numbers values lt h = refl
arrived-column width k (t ∷ instants) [] values lt h = cc
arrived-column width k (t ∷ instants) (n ∷ numbers) values lt h =
    let first : k ≡ 0 * width + k = omega arith in
    ap (λ v. v ∷ map (λ e. value_at e.row k) (arrived width instants numbers (drop width values))) (get_or-take width values k None lt)
    ∙ ap (λ vs. get_or values k None ∷ vs) (arrived-column width k instants numbers (drop width values) lt (omega (arith, h)))
    ∙ ap (λ vs. get_or values k None ∷ vs) (column_of-drop width k (length instants) 0 values)
    ∙ ap (λ m. get_or values m None ∷ map (λ j. get_or values (j * width + k) None) (range_with_len (0 + 1) (length instants))) first

pub IsLonger-arrived : (n width : ℕ) (instants numbers : List ℕ) (values : List (Option ℤ)) (old new : List (List (Option ℤ))) → length numbers ≡ length instants → length old ≡ width
    → IsLonger n (λ k. column_of width k (length instants) values) old new → IsLonger n (λ k. map (λ e. value_at e.row k) (arrived width instants numbers values)) old new
IsLonger-arrived n width instants numbers values old new h same longer = record {
  more = λ k lt.
      let within : k < width = omega (arith, lt, same) in
      longer.more k lt ∙ ap (λ vs. take n (get_or old k []) ++ vs) (sym (arrived-column width k instants numbers values within h));
}

length-behind : {X Y : Type 0} (n : ℕ) (front : List Y) (f : X → Y) (xs : List X) → n ≤ length front → length (take n front ++ map f xs) ≡ n + length xs
length-behind n front f xs le = omega (arith, length-append (take n front) (map f xs), length-take n front, length-map xs f)

pub IsTableOf-more : (n : ℕ) (es : List Element) (instants instants' numbers numbers' : List ℕ) (columns columns' : List (List (Option ℤ))) → IsTableOf n instants numbers columns → instants' ≡ take n instants ++ map (λ e. e.instant) es → numbers' ≡ take n numbers ++ map (λ e. e.arrival) es → KeepsFirst n columns columns' → IsLonger n (λ k. map (λ e. value_at e.row k) es) columns columns' → IsTableOf (n + length es) instants' numbers' columns'
IsTableOf-more n es instants instants' numbers numbers' columns columns' table is was g h =
    let one : Element → ℕ = λ e. e.instant in
    let two : Element → ℕ = λ e. e.arrival in
    record {
      has_instants = omega (arith, ap length is, length-behind n instants one es table.has_instants);
      has_numbers = omega (arith, ap length was, length-behind n numbers two es table.has_numbers);
      has_values =
          All-from_get_or (λ c. n + length es ≤ length c) columns' []
          (λ k lt.
          let f : Element → Option ℤ = λ e. value_at e.row k in
          omega (arith, ap length (h.more k (omega (arith, g.width))), length-behind n (get_or columns k []) f es (table.has_values k [] (omega (arith, g.width)))));
      narrow = omega (arith, g.width, table.narrow);
    }

pub length-lists : (columns : List (Vec (Option ℤ))) → length (lists columns) ≡ length columns
length-lists columns = let f : Vec (Option ℤ) → List (Option ℤ) = λ c. c.items in length-map columns f

pub long_columns : (to n : ℕ) (instants numbers : List ℕ) (columns : List (List (Option ℤ))) (until : ℕ) (log : Closed) → closed_in n instants numbers columns until ≡ log → to ≤ length log.elements → IsTableOf n instants numbers columns → All (λ c. to ≤ length c) columns
long_columns to n instants numbers columns until log seen le h =
    let m : to ≤ n = omega (arith, length-elements_in n instants numbers columns, ap (λ (l : Closed). length l.elements) seen) in
    All-weaker (λ c. n ≤ length c) (λ c. to ≤ length c) (λ c k. omega arith) columns h.has_values
