-- What is left of a stream's rows where only marked ones and those with a reader are kept.
use Rattle.std.proofs.Common.{◌≡◌, ◌<◌, ◌≤◌, ◌+◌, ◌*◌, ◌==◌, ℕ, ℤ, zero, suc, Bool, true, false, cond, nat_lt, Option, Some, List, [], ◌∷◌, ◌++◌, length, map, take, drop, get_or, set, refl, sym, ap, ap₂, subst, ◌∙◌, arith, ◌⊎◌, inl, inr, append-nil, append_assoc, length-append, length-drop}
use Rattle.std.specs.List.{AllByRecursion, filter}
use Rattle.std.specs.Map.Calls.{RetainsPairs}
use Rattle.std.specs.Option.{option_map}
use Rattle.std.specs.Prelude.{slice_get}
use Rattle.std.proofs.Math.Seq.{paste}
use Rattle.std.proofs.Math.Nat.{mul-le-mul_left}
use Rattle.std.proofs.lemmas.Bool.{cases_order, lt-ltb, le-ltb, ltb-true, ne_eqb, eq-eqb}
use Rattle.std.proofs.lemmas.List.{take-append-le, drop-append-le, take-take, take_all, take_more, take_more_set, drop_all, drop_at, drop-drop, drop-set-lt, get_or-drop, length-map, length-set, length-take-le, map-append, set_split}
use Rattle.std.proofs.lemmas.List.Elements.{filter-append}
use Rattle.std.proofs.lemmas.List.Sums.{length-filter, count_by-le-length}
use Rattle.column.specs.Bits.{chosen}
use Rattle.values.specs.Row.{Row}
use Rattle.values.specs.Window.{Element}
use Rattle.op_queue.specs.Logs.{Closed}
use Rattle.reference.specs.Machine.{Stream}
use Rattle.stream_store.specs.declared.starts.Start.{Start}
use Rattle.stream_store.specs.declared.ordered_rows.OrderedHead.{OrderedHead}
use Rattle.stream_store.specs.LateRows.{has_rows, rows_in}
use Rattle.stream_store.specs.Open.{Entry, AreWide, after_put, elements_at, open_of, placed}
use Rattle.stream_store.specs.OpenRows.{IsOpen, IsRisen, RisenRows, Rising, headed, risen_in, with_late}
use Rattle.stream_store.specs.Starts.{entries_read, has_reader, row_read, rows_read, turned}
use Rattle.stream_store.specs.Closing.{by_key}
use Rattle.stream_store.specs.Stored.{IsStored, stream_in}
use Rattle.stream_store.specs.Kept.{SaysKept, SaysKeptOf, kept_stream}
use Rattle.stream_store.proofs.KeyLemmas.{each-kept, each_from, filter_all, filter_none, placed_first}
use Rattle.stream_store.proofs.OrderLemmas.{by_key_more, filter-by_key, filter-map, filter_same_each, in_order, ordered-filter, ordered_from}
use Rattle.stream_store.proofs.PlacedLemmas.{filter-placed_other}
use Rattle.stream_store.proofs.LateLemmas.{rising-placed}
use Rattle.stream_store.proofs.FlatLemmas.{first_full, length-rows_in, rest_full, rows_in-append, rows_in-at, rows_in-drop, rows_in-take}

pub few_filtered : {X : Type 0} (p : X → Bool) (xs : List X) → length (filter p xs) ≤ length xs
few_filtered p xs = omega (arith, length-filter p xs, count_by-le-length p xs)

-- ---- rows in turn: the first one goes behind the others or leaves
-- so many are left to be looked at
pub record AreTurned (p : Element → Bool) (left : ℕ) (old new : List Element) : Type 0 where
  pub few : left ≤ length new
  pub rows : drop left new ++ filter p (take left new) ≡ filter p old

pub turned-start : (p : Element → Bool) (n : ℕ) (es : List Element) → n ≡ length es → AreTurned p n es es
turned-start p n es e = record {
  few = omega (arith, e);
  rows = ap₂ (λ (xs ys : List Element). xs ++ filter p ys) (drop_all n es (omega (arith, e))) (take_all n es (omega (arith, e)));
}

pub turned-more : (p : Element → Bool) (left : ℕ) (old new : List Element) → AreTurned p (suc left) old new → AreTurned p left old (turned p new)
turned-more p left old [] h = absurd (omega (arith, h.few))
turned-more p left old (e ∷ es) h =
    let t : List Element = filter p (e ∷ []) in
    let le : left ≤ length es = omega (arith, h.few) in
    record {
      few = omega (arith, length-append es t, le);
      rows =
          ap₂ (λ (xs ys : List Element). xs ++ filter p ys) (drop-append-le left es t le) (take-append-le left es t le)
          ∙ append_assoc (drop left es) t (filter p (take left es))
          ∙ ap (λ (xs : List Element). drop left es ++ xs) (sym (filter-append p (e ∷ []) (take left es)))
          ∙ h.rows;
    }

pub turned-end : (p : Element → Bool) (left : ℕ) (old new : List Element) → left ≡ 0 → AreTurned p left old new → new ≡ filter p old
turned-end p left old new none h =
    let done = subst (λ n. AreTurned p n old new) none h in
    sym (append-nil new) ∙ done.rows

pub length-turned : {X : Type 0} (n : ℕ) (xs : List X) → n ≤ length xs → length (drop n xs ++ take n xs) ≡ length xs
length-turned n xs le = omega (arith, length-append (drop n xs) (take n xs), length-drop n xs, length-take-le n xs le)

module _ (p : Element → Bool) (width : ℕ) where
  pub turned-kept : (h : OrderedHead) (heads : List OrderedHead) (values : List (Option ℤ)) → 0 < length heads → length values ≡ length heads * width → h ≡ get_or heads 0 h → p (headed (h, take width values)) ≡ true
      → risen_in width (drop 1 heads ++ take 1 heads) (drop width values ++ take width values) ≡ turned p (risen_in width heads values)
  turned-kept h [] values some full is passes = absurd (omega (arith, some))
  turned-kept h (k ∷ heads) values some full is passes =
      let row : Row = take width values in
      let stays : p (headed (k, row)) ≡ true = ap (λ (i : OrderedHead). p (headed (i, row))) (sym is) ∙ passes in
      ap (λ (rs : List (OrderedHead × Row)). map headed rs) (rows_in-append width heads (k ∷ []) (drop width values) row (rest_full width (length heads) values full))
      ∙ map-append headed (rows_in width heads (drop width values)) ((k, take width row) ∷ [])
      ∙ ap (λ (r : Row). risen_in width heads (drop width values) ++ headed (k, r) ∷ []) (take-take width width values (omega arith))
      ∙ ap (λ b. risen_in width heads (drop width values) ++ cond b (headed (k, row) ∷ []) []) (sym stays)

  pub turned-gone : (h : OrderedHead) (heads : List OrderedHead) (values : List (Option ℤ)) → 0 < length heads → h ≡ get_or heads 0 h → p (headed (h, take width values)) ≡ false
      → risen_in width (drop 1 heads) (drop width values) ≡ turned p (risen_in width heads values)
  turned-gone h [] values some is fails = absurd (omega (arith, some))
  turned-gone h (k ∷ heads) values some is fails =
      let row : Row = take width values in
      let goes : p (headed (k, row)) ≡ false = ap (λ (i : OrderedHead). p (headed (i, row))) (sym is) ∙ fails in
      sym (append-nil (risen_in width heads (drop width values)))
      ∙ ap (λ b. risen_in width heads (drop width values) ++ cond b (headed (k, row) ∷ []) []) (sym goes)

pub gone_full : {X : Type 0} (width : ℕ) (heads : List X) (values : List (Option ℤ)) → 0 < length heads → length values ≡ length heads * width → length (drop width values) ≡ length (drop 1 heads) * width
gone_full width [] values some full = absurd (omega (arith, some))
gone_full width (h ∷ heads) values some full = rest_full width (length heads) values full

pub front_full : {X : Type 0} (width : ℕ) (heads : List X) (values : List (Option ℤ)) → 0 < length heads → length values ≡ length heads * width → width ≤ length values
front_full width [] values some full = absurd (omega (arith, some))
front_full width (h ∷ heads) values some full = first_full width (length heads) values full

pub rising-filter : (f : Element → ℕ) (p : Element → Bool) (es : List Element) → Rising f es → Rising f (filter p es)
rising-filter f p [] h = tt
rising-filter f p (e ∷ es) h = here (rising-filter f p es h.1) (each-kept (λ g. f e ≤ f g) p es h.0) (p e)
  where
    here : Rising f (filter p es) → AllByRecursion (λ g. f e ≤ f g) (filter p es) → (b : Bool) → Rising f (cond b (e ∷ filter p es) (filter p es))
    here ih first true = (first, ih)
    here ih first false = ih

pub risen-kept : (p : Element → Bool) (width reached : ℕ) (heads new_heads : List OrderedHead) (values new_values : List (Option ℤ)) → IsRisen width reached heads values → length new_values ≡ length new_heads * width
    → risen_in width new_heads new_values ≡ filter p (risen_in width heads values) → IsRisen width reached new_heads new_values
risen-kept p width reached heads new_heads values new_values h full rows = record {
  flat = record { few = h.flat.few; full = full };
  rising = subst (λ (es : List Element). Rising (λ e. e.instant) es) (sym rows) (rising-filter (λ e. e.instant) p (risen_in width heads values) h.rising);
  within = subst (λ (es : List Element). AllByRecursion (λ (e : Element). e.instant ≤ reached) es) (sym rows) (each-kept (λ (e : Element). e.instant ≤ reached) p (risen_in width heads values) h.within);
}

-- ---- rows that are moved to the front
module _ {X : Type 0} (p : X → Bool) where
  -- of the first rows those that pass stand first, and the later ones stand where they stood
  pub record AreMoved (count place : ℕ) (old new : List X) : Type 0 where
    pub le : count ≤ place
    pub long : length new ≡ length old
    pub front : take count new ≡ filter p (take place old)
    pub back : drop place new ≡ drop place old

  pub moved-start : (old : List X) → AreMoved 0 0 old old
  moved-start old = record { le = omega arith; long = refl; front = refl; back = refl }

  stood : (count place : ℕ) (old new : List X) (d : X) → AreMoved count place old new → get_or new place d ≡ get_or old place d
  stood count place old new d h =
      let e : place ≡ place + 0 = omega arith in
      ap (λ i. get_or new i d) e ∙ sym (get_or-drop place new 0 d) ∙ ap (λ xs. get_or xs 0 d) h.back ∙ get_or-drop place old 0 d ∙ ap (λ i. get_or old i d) (sym e)

  back_more : (place : ℕ) (old new : List X) → drop place new ≡ drop place old → drop (place + 1) new ≡ drop (place + 1) old
  back_more place old new e = sym (drop-drop 1 place new) ∙ ap (drop 1) e ∙ drop-drop 1 place old

  front_more : (place : ℕ) (old : List X) (d : X) (b : Bool) → place < length old → p (get_or old place d) ≡ b → filter p (take (place + 1) old) ≡ filter p (take place old) ++ cond b (get_or old place d ∷ []) []
  front_more place old d b lt is =
      ap (filter p) (take_more old place d lt)
      ∙ filter-append p (take place old) (get_or old place d ∷ [])
      ∙ ap (λ c. filter p (take place old) ++ cond c (get_or old place d ∷ []) []) is

  pub moved-yes : (count place : ℕ) (old new : List X) (d : X) → place < length old → p (get_or new place d) ≡ true → AreMoved count place old new → AreMoved (count + 1) (place + 1) old (set new count (get_or new place d))
  moved-yes count place old new d lt passes h =
      let v : X = get_or new place d in
      let same = stood count place old new d h in
      record {
        le = omega (arith, h.le);
        long = length-set new count v ∙ h.long;
        front =
            take_more_set new count v (omega (arith, h.le, h.long, lt))
            ∙ ap₂ (λ (xs : List X) (x : X). xs ++ x ∷ []) h.front same
            ∙ sym (front_more place old d true lt (ap p (sym same) ∙ passes));
        back = drop-set-lt (place + 1) new count v (omega (arith, h.le)) ∙ back_more place old new h.back;
      }

  pub moved-no : (count place : ℕ) (old new : List X) (d : X) → place < length old → p (get_or new place d) ≡ false → AreMoved count place old new → AreMoved count (place + 1) old new
  moved-no count place old new d lt fails h =
      record {
        le = omega (arith, h.le);
        long = h.long;
        front = h.front ∙ sym (append-nil (filter p (take place old))) ∙ sym (front_more place old d false lt (ap p (sym (stood count place old new d h)) ∙ fails));
        back = back_more place old new h.back;
      }

  pub moved-end : (count place : ℕ) (old new : List X) → length old ≤ place → AreMoved count place old new → take count new ≡ filter p old
  moved-end count place old new le h = h.front ∙ ap (filter p) (take_all place old le)

pub row_end : (width i n m : ℕ) → i < n → m ≡ n * width → i * width + width ≤ m
row_end width i n m lt e =
    let more : suc i * width ≡ i * width + width = omega arith in
    let le : suc i ≤ n = omega (arith, lt) in
    omega (arith, more, e, mul-le-mul_left width le)

pub place_end : (width i n m : ℕ) → i ≤ n → m ≡ n * width → i * width ≤ m
place_end width i n m le e = omega (arith, e, mul-le-mul_left width le)

-- a row is written over one before it
pub moved-row : {K : Type 0} (width start to : ℕ) (heads : List K) (values : List (Option ℤ)) (h : K) (r : K × Row) → to ≤ start → start < length heads → length values ≡ length heads * width → h ≡ get_or heads start h
    → rows_in width (set heads to h) (paste values (to * width) (drop (start * width) values) width) ≡ set (rows_in width heads values) to (get_or (rows_in width heads values) start r)
moved-row {K} width start to heads values h r le lt full is =
    let s : List (Option ℤ) = drop (start * width) values in
    let rows : List (K × Row) = rows_in width heads values in
    let at : ℕ = to * width in
    let rest : List (Option ℤ) = drop (at + width) values in
    let in_heads : to ≤ length heads = omega (arith, le, lt) in
    let in_values : at ≤ length values = omega (arith, full, mul-le-mul_left width in_heads) in
    let in_row : start * width + width ≤ length values = row_end width start (length heads) (length values) lt full in
    let long : width ≤ length s = omega (arith, length-drop (start * width) values, in_row) in
    let row_long : length (take width s) ≡ width = length-take-le width s long in
    let front_long : length (take at values) ≡ length (take to heads) * width = length-take-le at values in_values ∙ ap (λ n. n * width) (sym (length-take-le to heads in_heads)) in
    let next : at + width ≡ suc to * width = omega arith in
    let one : K × Row = (h, take width s) in
    ap₂ (λ (hs : List K) (vs : List (Option ℤ)). rows_in width hs vs) (set_split heads to h (omega (arith, le, lt))) (append_assoc (take at values) (take width s) rest)
    ∙ rows_in-append width (take to heads) (h ∷ drop (suc to) heads) (take at values) (take width s ++ rest) front_long
    ∙ ap (λ (rs : List (K × Row)). rs ++ rows_in width (h ∷ drop (suc to) heads) (take width s ++ rest)) (rows_in-take width to heads values)
    ∙ ap₂ (λ (x : Row) (vs : List (Option ℤ)). take to rows ++ (h, x) ∷ rows_in width (drop (suc to) heads) vs)
    (take-append-le width (take width s) rest (omega (arith, row_long)) ∙ take-take width width s (omega arith))
    (drop_at (take width s) rest width row_long)
    ∙ ap (λ n. take to rows ++ one ∷ rows_in width (drop (suc to) heads) (drop n values)) next
    ∙ ap (λ (rs : List (K × Row)). take to rows ++ one ∷ rs) (rows_in-drop width (suc to) heads values)
    ∙ ap (λ (x : K × Row). take to rows ++ x ∷ drop (suc to) rows) (ap (λ (k : K). (k, take width s)) is ∙ sym (rows_in-at width start heads values h r lt))
    ∙ sym (set_split rows to (get_or rows start r) (omega (arith, length-rows_in width heads values, le, lt)))

-- ---- late rows
-- what a closure leaves that changes each value by its key and then tests it
pub changed_by_key : {K X F : Type 0} (T : F → K → X → Bool → X → F → Type 0) (I : F → Type 0) (p : X → Bool) (g : K → X → X)
    → ((f : F) (k : K) (v : X) (b : Bool) (w : X) (f' : F) → I f → T f k v b w f' → (b ≡ p w) × (w ≡ g k v) × I f')
    → (f : F) (es kept : List (K × X)) → I f → RetainsPairs T f es kept → kept ≡ filter (λ e. p e.1) (map (λ e. (e.0, g e.0 e.1)) es)
changed_by_key T I p g step f [] kept i r = r
changed_by_key T I p g step f (e ∷ es) kept i r =
    let s = step f e.0 e.1 r.0 r.1 r.2 i r.4 in
    let rest = changed_by_key T I p g step r.2 es r.3 s.2 r.5 in
    r.6 ∙ ap (λ b. cond b ((e.0, r.1) ∷ r.3) r.3) (s.0 ∙ ap p s.1) ∙ ap (λ w. cond (p (g e.0 e.1)) ((e.0, w) ∷ r.3) r.3) s.1
    ∙ ap (λ xs. cond (p (g e.0 e.1)) ((e.0, g e.0 e.1) ∷ xs) xs) rest

module _ (starts : List Start) where
  pub open-read : (es : List Entry) → open_of (entries_read starts es) ≡ filter (has_reader starts) (open_of es)
  open-read [] = refl
  open-read (e ∷ es) =
      here (filter (row_read starts e.0) e.1.rows) (open-read es)
      ∙ ap (λ (xs : List Element). xs ++ filter (has_reader starts) (open_of es)) (sym (filter-map (has_reader starts) (λ r. record { arrival = r.0; instant = e.0; row = r.1 }) e.1.rows))
      ∙ sym (filter-append (has_reader starts) (elements_at e.0 e.1.rows) (open_of es))
    where
      here : (rows : List (ℕ × Row)) → open_of (entries_read starts es) ≡ filter (has_reader starts) (open_of es)
          → open_of (cond (nat_lt 0 (length rows)) ((e.0, record { width = e.1.width; rows = rows }) ∷ entries_read starts es) (entries_read starts es)) ≡ elements_at e.0 rows ++ filter (has_reader starts) (open_of es)
      here [] ih = ih
      here (r ∷ rows) ih = rw (lt-ltb 0 (length (r ∷ rows)) (omega arith)) (ap (λ (xs : List Element). elements_at e.0 (r ∷ rows) ++ xs) ih)

  pub wide-read : (width : ℕ) (es : List Entry) → AreWide width es → AreWide width (entries_read starts es)
  wide-read width es h = each-kept (λ (e : Entry). e.1.width ≡ width) (λ e. has_rows e.1) (map (λ e. (e.0, rows_read starts e.0 e.1)) es) (each es h)
    where
      each : (es : List Entry) → AreWide width es → AreWide width (map (λ e. (e.0, rows_read starts e.0 e.1)) es)
      each [] h = tt
      each (e ∷ es) h = (h.0, each es h.1)

pub length-open : (e : Entry) (es : List Entry) → length (open_of (e ∷ es)) ≡ length e.1.rows + length (open_of es)
length-open e es =
    let f : ℕ × Row → Element = λ r. record { arrival = r.0; instant = e.0; row = r.1 } in
    length-append (elements_at e.0 e.1.rows) (open_of es) ∙ ap (λ n. n + length (open_of es)) (length-map e.1.rows f)

-- one more instant is counted
pub counted-more : (count rows total : ℕ) (all rest : List Entry) (e : Entry) → all ≡ e ∷ rest → rows ≡ length e.1.rows → count + length (open_of all) ≡ total → count + rows + length (open_of rest) ≡ total
counted-more count rows total all rest e steps many sofar = omega (arith, many, sofar, ap (λ (es : List Entry). length (open_of es)) steps, length-open e rest)

-- ---- both parts
length-placed : (x : Element) (es : List Element) → length (placed x es) ≡ suc (length es)
length-placed x [] = refl
length-placed x (e ∷ es) = here (length-placed x es) (nat_lt x.instant e.instant)
  where
    here : length (placed x es) ≡ suc (length es) → (b : Bool) → length (cond b (x ∷ e ∷ es) (e ∷ placed x es)) ≡ suc (suc (length es))
    here ih true = refl
    here ih false = ap suc ih

pub length-late : (late es : List Element) → length (with_late late es) ≡ length late + length es
length-late [] es = omega arith
length-late (l ∷ late) es = omega (arith, length-late late (placed l es), length-placed l es)

pub length-put : (n : ℕ) (rows : List (ℕ × Row)) (es : List Element) → length (after_put n rows es) ≡ length es + length rows
length-put n [] es = omega arith
length-put n (r ∷ rows) es =
    let x : Element = record { arrival = n; instant = r.0; row = r.1 } in
    omega (arith, length-put (suc n) rows (placed x es), length-placed x es)

filter-placed : (p : Element → Bool) (x : Element) (es : List Element) → Rising (λ e. e.instant) es → filter p (placed x es) ≡ cond (p x) (placed x (filter p es)) (filter p es)
filter-placed p x es h = here (p x) refl
  where
    kept : p x ≡ true → (es : List Element) → Rising (λ e. e.instant) es → filter p (placed x es) ≡ placed x (filter p es)
    kept passes [] h = rw passes refl
    kept passes (e ∷ es) h = step (kept passes es h.1) (nat_lt x.instant e.instant) refl (p e) refl
      where
        step : filter p (placed x es) ≡ placed x (filter p es) → (b : Bool) → nat_lt x.instant e.instant ≡ b → (c : Bool) → p e ≡ c
            → filter p (cond b (x ∷ e ∷ es) (e ∷ placed x es)) ≡ placed x (cond c (e ∷ filter p es) (filter p es))
        step ih true i true j = rw (passes, j, i) refl
        step ih true i false j =
            let lt : x.instant < e.instant = ltb-true x.instant e.instant i in
            rw (passes, j) (sym (placed_first x (filter p es) (each-kept (λ (g : Element). x.instant < g.instant) p es (each_from (λ (g : Element). e.instant ≤ g.instant) (λ (g : Element). x.instant < g.instant) (λ g le. omega (arith, lt, le)) es h.0))))
        step ih false i true j = rw (j, i) (ap (λ xs. e ∷ xs) ih)
        step ih false i false j = rw j ih

    here : (b : Bool) → p x ≡ b → filter p (placed x es) ≡ cond b (placed x (filter p es)) (filter p es)
    here true i = kept i es h
    here false i = filter-placed_other p x i es

pub filter-late : (p : Element → Bool) (late es : List Element) → Rising (λ e. e.instant) es → filter p (with_late late es) ≡ with_late (filter p late) (filter p es)
filter-late p [] es h = refl
filter-late p (l ∷ late) es h = filter-late p late (placed l es) (rising-placed l es h) ∙ ap (λ xs. with_late (filter p late) xs) (filter-placed p l es h) ∙ here (p l)
  where
    here : (b : Bool) → with_late (filter p late) (cond b (placed l (filter p es)) (filter p es)) ≡ with_late (cond b (l ∷ filter p late) (filter p late)) (filter p es)
    here true = refl
    here false = refl

module _ (starts : List Start) (risen new : RisenRows) (late new_late : List Entry) (rows : new.rows ≡ filter (has_reader starts) risen.rows) (entries : new_late ≡ entries_read starts late) where
  read_open : open_of new_late ≡ filter (has_reader starts) (open_of late)
  read_open = ap open_of entries ∙ open-read starts late

  pub read_rows : Rising (λ e. e.instant) risen.rows → with_late (open_of new_late) new.rows ≡ filter (has_reader starts) (with_late (open_of late) risen.rows)
  read_rows h = ap₂ (λ (ls es : List Element). with_late ls es) read_open rows ∙ sym (filter-late (has_reader starts) (open_of late) risen.rows h)

  pub read_parts : new.width ≡ risen.width → new.reached ≡ risen.reached → IsOpen risen late → IsOpen new new_late
  read_parts width reached h = record {
    wide = subst (λ k. AreWide k new_late) (sym width) (subst (λ (es : List Entry). AreWide risen.width es) (sym entries) (wide-read starts risen.width late h.wide));
    below = subst (λ k. AllByRecursion (λ (e : Element). e.instant < k) (open_of new_late)) (sym reached)
        (subst (λ (es : List Element). AllByRecursion (λ e. e.instant < risen.reached) es) (sym read_open) (each-kept (λ (e : Element). e.instant < risen.reached) (has_reader starts) (open_of late) h.below));
  }

-- ---- a whole stream
-- every element has one place by its key
split_count : (f : Element → ℕ) (n : ℕ) (es : List Element) → length (filter (λ e. nat_lt (f e) n) es) + length (filter (λ e. f e == n) es) ≡ length (filter (λ e. nat_lt (f e) (suc n)) es)
split_count f n [] = refl
split_count f n (e ∷ es) = here (split_count f n es) (cases_order (f e) n)
  where
    low : List Element
    low = filter (λ e. nat_lt (f e) n) es

    at : List Element
    at = filter (λ e. f e == n) es

    both : List Element
    both = filter (λ e. nat_lt (f e) (suc n)) es

    here : length low + length at ≡ length both → (f e ≡ n) ⊎ ((f e < n) ⊎ (n < f e))
        → length (cond (nat_lt (f e) n) (e ∷ low) low) + length (cond (f e == n) (e ∷ at) at) ≡ length (cond (nat_lt (f e) (suc n)) (e ∷ both) both)
    here ih (inl i) = rw (le-ltb (f e) n (omega (arith, i)), eq-eqb (f e) n i, lt-ltb (f e) (suc n) (omega (arith, i))) (omega (arith, ih))
    here ih (inr (inl i)) = rw (lt-ltb (f e) n i, ne_eqb (f e) n (λ j. omega (arith, i, j)), lt-ltb (f e) (suc n) (omega (arith, i))) (omega (arith, ih))
    here ih (inr (inr i)) = rw (le-ltb (f e) n (omega (arith, i)), ne_eqb (f e) n (λ j. omega (arith, i, j)), le-ltb (f e) (suc n) (omega (arith, i))) (omega (arith, ih))

count_by_key : (f : Element → ℕ) (n : ℕ) (es : List Element) → length (by_key f 0 n es) ≡ length (filter (λ e. nat_lt (f e) n) es)
count_by_key f zero es = ap length (sym (filter_none (λ e. nat_lt (f e) 0) es (none es)))
  where
    none : (xs : List Element) → AllByRecursion (λ e. nat_lt (f e) 0 ≡ false) xs
    none [] = tt
    none (x ∷ xs) = (le-ltb (f x) 0 (omega arith), none xs)
count_by_key f (suc n) es =
    ap length (by_key_more f n es)
    ∙ length-append (by_key f 0 n es) (filter (λ e. f e == n) es)
    ∙ ap (λ k. k + length (filter (λ e. f e == n) es)) (count_by_key f n es)
    ∙ split_count f n es

pub length-by_key : (f : Element → ℕ) (n : ℕ) (es : List Element) → AllByRecursion (λ e. f e < n) es → length (by_key f 0 n es) ≡ length es
length-by_key f n es h = count_by_key f n es ∙ ap length (filter_all (λ e. nat_lt (f e) n) es (each_from (λ e. f e < n) (λ e. nat_lt (f e) n ≡ true) (λ e lt. lt-ltb (f e) n lt) es h))

-- marks that are a test's answers
pub chosen-filter : {X : Type 0} (p : X → Bool) (xs : List X) → chosen (map p xs) xs ≡ filter p xs
chosen-filter p [] = refl
chosen-filter p (x ∷ xs) = ap (λ ys. cond (p x) (x ∷ ys) ys) (chosen-filter p xs)

pub few_chosen : {X : Type 0} (bs : List Bool) (xs : List X) → length (chosen bs xs) ≤ length xs
few_chosen [] xs = omega arith
few_chosen (b ∷ bs) [] = omega arith
few_chosen (true ∷ bs) (x ∷ xs) = let h = few_chosen bs xs in omega (arith, h)
few_chosen (false ∷ bs) (x ∷ xs) = let h = few_chosen bs xs in omega (arith, h)

each-chosen : {X : Type 0} (P : X → Type 0) (bs : List Bool) (xs : List X) → AllByRecursion P xs → AllByRecursion P (chosen bs xs)
each-chosen P [] xs h = tt
each-chosen P (b ∷ bs) [] h = tt
each-chosen P (true ∷ bs) (x ∷ xs) h = (h.0, each-chosen P bs xs h.1)
each-chosen P (false ∷ bs) (x ∷ xs) h = each-chosen P bs xs h.1

module _ (columns n : ℕ) (closed next : Closed) (es : List Element) (p : Element → Bool) (marks : List Bool) (stored : IsStored columns n closed es) (more : next.elements ≡ chosen marks closed.elements) (until : next.until ≡ closed.until) where
  pub stored_kept : next.width ≡ closed.width → IsStored columns n next (filter p es)
  stored_kept width = record {
    few = stored.few;
    width = width ∙ stored.width;
    counted = stored.counted;
    held = omega (arith, ap length more, few_chosen marks closed.elements, few_filtered p es, stored.held);
    range = omega (arith, until, stored.range);
    ordered = in_order (filter p es) (ordered-filter p es (ordered_from es stored.ordered));
    opened = subst (λ u. AllByRecursion (λ (e : Element). u ≤ e.instant) (filter p es)) (sym until) (each-kept (λ (e : Element). closed.until ≤ e.instant) p es stored.opened);
    wide = each-kept (λ (e : Element). length e.row ≡ columns) p es stored.wide;
    numbered = each-kept (λ (e : Element). e.arrival < n) p es stored.numbered;
    full = subst (λ (xs : List Element). AllByRecursion (λ e. length e.row ≡ columns) xs) (sym more) (each-chosen (λ (e : Element). length e.row ≡ columns) marks closed.elements stored.full);
    came = subst (λ (xs : List Element). AllByRecursion (λ e. e.arrival < n) xs) (sym more) (each-chosen (λ (e : Element). e.arrival < n) marks closed.elements stored.came);
  }

  -- where the marks and the test say what is kept
  kept_rows : (keep : Element → Bool) → marks ≡ map keep closed.elements → ((e : Element) → closed.until ≤ e.instant → keep e ≡ p e)
      → by_key (λ e. e.arrival) 0 n (next.elements ++ filter p es) ≡ filter keep (by_key (λ e. e.arrival) 0 n (closed.elements ++ es))
  kept_rows keep marked agrees =
      let key : Element → ℕ = λ e. e.arrival in
      ap (λ xs. by_key key 0 n (xs ++ filter p es)) (more ∙ ap (λ bs. chosen bs closed.elements) marked ∙ chosen-filter keep closed.elements)
      ∙ ap (λ ys. by_key key 0 n (filter keep closed.elements ++ ys)) (sym (filter_same_each (λ (e : Element). closed.until ≤ e.instant) keep p agrees es stored.opened))
      ∙ ap (λ xs. by_key key 0 n xs) (sym (filter-append keep closed.elements es))
      ∙ sym (filter-by_key keep key 0 n (closed.elements ++ es))

  pub kept_as_said : (name : List ℕ) (names : List (List ℕ)) (keep : Element → Bool) → marks ≡ map keep closed.elements → ((e : Element) → closed.until ≤ e.instant → keep e ≡ p e)
      → stream_in name names n next (filter p es) ≡ kept_stream keep (stream_in name names n closed es)
  kept_as_said name names keep marked agrees = rw (kept_rows keep marked agrees, until) refl

  pub kept_rest : (name : List ℕ) (names : List (List ℕ)) (rows : List Element)
      → stream_in name names n next rows ≡ record (stream_in name names n closed es) { elements = (stream_in name names n next rows).elements }
  kept_rest name names rows = rw until refl

-- ---- the list of streams
pub stream_there : {X Y : Type 0} (f : X → Y) (xs : List X) (n : ℕ) (y : Y) → option_map f (slice_get xs n) ≡ Some y → n < length xs
stream_there f [] n y h = cc
stream_there f (x ∷ xs) zero y h = omega arith
stream_there f (x ∷ xs) (suc n) y h = let k = stream_there f xs n y h in omega (arith, k)

pub stream_found : {X Y : Type 0} (f : X → Y) (xs : List X) (n : ℕ) (y : Y) (d : X) → option_map f (slice_get xs n) ≡ Some y → f (get_or xs n d) ≡ y
stream_found f [] n y d h = cc
stream_found f (x ∷ xs) zero y d h = cc
stream_found f (x ∷ xs) (suc n) y d h = stream_found f xs n y d h

pub said_there : (marks : List Bool) (starts : List Start) (keep : Element → Bool) (xs : List Stream) (n : ℕ) (d : Stream) → n < length xs → SaysKeptOf marks starts keep (slice_get xs n) → SaysKept marks starts keep (get_or xs n d)
said_there marks starts keep [] n d lt h = absurd (omega (arith, lt))
said_there marks starts keep (x ∷ xs) zero d lt h = h
said_there marks starts keep (x ∷ xs) (suc n) d lt h = said_there marks starts keep xs n d (omega (arith, lt)) h
