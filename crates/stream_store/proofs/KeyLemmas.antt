-- The open rows of each instant, and what more rows leave as it was.
use Rattle.std.proofs.Common.{◌≡◌, ◌<◌, ◌≤◌, ℕ, zero, suc, Bool, true, false, cond, nat_lt, Some, None, List, [], ◌∷◌, ◌++◌, append-nil, append_assoc, length, take, drop, map, refl, sym, ap, subst, ◌∙◌, arith, ◌⊎◌, inl, inr}
use Rattle.std.specs.declared.cmp.Ordering.{Ordering}
use Rattle.std.specs.declared.cmp.Ordering.TheVariants.{Less, Equal, Greater}
use Rattle.std.specs.Ordering.{nat_cmp, match_ordering, MatchOrdering, is_gt, is_lt, is_eq}
use Rattle.std.specs.Cmp.{nat_cmp_is, nat_cmp_total}
use Rattle.std.specs.BTreeMap.{insert_entry, is_at}
use Rattle.std.specs.Map.{keys_of, lookup, set_value}
use Rattle.std.specs.List.{AllByRecursion, All, filter}
use Rattle.std.specs.Map.Calls.{RetainsPairs}
use Rattle.std.specs.List.Sorted.{IsStrictlySortedBy}
use Rattle.std.proofs.lemmas.Bool.{cases_order, lt-ltb, le-ltb}
use Rattle.std.proofs.lemmas.Map.{lookup-none}
use Rattle.std.proofs.lemmas.Map.Entries.{none_below_head}
use Rattle.std.proofs.lemmas.Map.Keys.{sorted_head, sorted_tail}
use Rattle.std.proofs.lemmas.List.{map-append, take-append-le, take_all}
use Rattle.std.proofs.lemmas.List.Elements.{filter-append}
use Rattle.std.proofs.lemmas.List.Sums.{length-filter, count_by-le-length}
use Rattle.values.specs.Row.{Row}
use Rattle.values.specs.Window.{Element}
use Rattle.stream_store.specs.LateRows.{RowsAt, none_at, numbered_rows, with_rows, first_below, has_rows}
use Rattle.stream_store.specs.Open.{Entry, AreAt, AreWide, elements_at, open_of, put_rows, placed, after_put, below, instants_past, past}

-- ---- facts of each
pub filter_none : {X : Type 0} (p : X → Bool) (xs : List X) → AllByRecursion (λ x. p x ≡ false) xs → filter p xs ≡ []
filter_none p [] h = refl
filter_none p (x ∷ xs) h = rw (h.0) (filter_none p xs h.1)

pub filter_all : {X : Type 0} (p : X → Bool) (xs : List X) → AllByRecursion (λ x. p x ≡ true) xs → filter p xs ≡ xs
filter_all p [] h = refl
filter_all p (x ∷ xs) h = rw (h.0) (ap (λ ys. x ∷ ys) (filter_all p xs h.1))

-- facts of each that follow from others
pub each_from : {X : Type 0} (P Q : X → Type 0) → ((x : X) → P x → Q x) → (xs : List X) → AllByRecursion P xs → AllByRecursion Q xs
each_from P Q f [] h = tt
each_from P Q f (x ∷ xs) h = (f x h.0, each_from P Q f xs h.1)

pub each-append : {X : Type 0} (P : X → Type 0) (xs ys : List X) → AllByRecursion P xs → AllByRecursion P ys → AllByRecursion P (xs ++ ys)
each-append P [] ys h k = k
each-append P (x ∷ xs) ys h k = (h.0, each-append P xs ys h.1 k)

pub each-kept : {X : Type 0} (P : X → Type 0) (p : X → Bool) (xs : List X) → AllByRecursion P xs → AllByRecursion P (filter p xs)
each-kept P p [] h = tt
each-kept P p (x ∷ xs) h = here (each-kept P p xs h.1) (p x)
  where
    here : AllByRecursion P (filter p xs) → (b : Bool) → AllByRecursion P (cond b (x ∷ filter p xs) (filter p xs))
    here ih true = (h.0, ih)
    here ih false = ih

pub each-take : {X : Type 0} (P : X → Type 0) (n : ℕ) (xs : List X) → AllByRecursion P xs → AllByRecursion P (take n xs)
each-take P zero xs h = tt
each-take P (suc n) [] h = tt
each-take P (suc n) (x ∷ xs) h = (h.0, each-take P n xs h.1)

pub each-drop : {X : Type 0} (P : X → Type 0) (n : ℕ) (xs : List X) → AllByRecursion P xs → AllByRecursion P (drop n xs)
each-drop P zero xs h = h
each-drop P (suc n) [] h = tt
each-drop P (suc n) (x ∷ xs) h = each-drop P n xs h.1

pub each_passes : {X : Type 0} (p : X → Bool) (xs : List X) → AllByRecursion (λ x. p x ≡ true) (filter p xs)
each_passes p [] = tt
each_passes p (x ∷ xs) = here (each_passes p xs) (p x) refl
  where
    here : AllByRecursion (λ x. p x ≡ true) (filter p xs) → (b : Bool) → p x ≡ b → AllByRecursion (λ x. p x ≡ true) (cond b (x ∷ filter p xs) (filter p xs))
    here ih true h = (h, ih)
    here ih false h = ih

-- ---- keys in order
cmp_means : (a b : ℕ) → MatchOrdering (nat_cmp a b) (a < b) (a ≡ b) (b < a)
cmp_means a b = here (cases_order a b)
  where
    here : (a ≡ b) ⊎ ((a < b) ⊎ (b < a)) → MatchOrdering (nat_cmp a b) (a < b) (a ≡ b) (b < a)
    here (inl e) = subst (λ r. MatchOrdering r (a < b) (a ≡ b) (b < a)) (nat_cmp_is a b Equal e) e
    here (inr (inl e)) = subst (λ r. MatchOrdering r (a < b) (a ≡ b) (b < a)) (nat_cmp_is a b Less e) e
    here (inr (inr e)) = subst (λ r. MatchOrdering r (a < b) (a ≡ b) (b < a)) (nat_cmp_is a b Greater e) e

pub less_means : (a b : ℕ) → nat_cmp a b ≡ Less → a < b
less_means a b h = subst (λ r. MatchOrdering r (a < b) (a ≡ b) (b < a)) h (cmp_means a b)

pub sorted_rest : (e : Entry) (es : List Entry) → IsStrictlySortedBy nat_cmp (keys_of (e ∷ es)) → IsStrictlySortedBy nat_cmp (keys_of es)
sorted_rest e es h = sorted_tail nat_cmp e.0 (keys_of es) h

-- what holds of all elements of an instant
pub each-at : (P : Element → Type 0) (t : ℕ) → ((e : Element) → e.instant ≡ t → P e) → (rows : List (ℕ × Row)) → AllByRecursion P (elements_at t rows)
each-at P t f [] = tt
each-at P t f (r ∷ rows) = (f (record { arrival = r.0; instant = t; row = r.1 }) refl, each-at P t f rows)

-- the elements of later instants are later
all_later : (t : ℕ) (es : List Entry) → AllByRecursion (λ k. nat_cmp t k ≡ Less) (keys_of es) → AllByRecursion (λ (e : Element). t < e.instant) (open_of es)
all_later t [] h = tt
all_later t (e ∷ es) h =
    let lt = less_means t e.0 h.0 in
    each-append (λ (e : Element). t < e.instant) (elements_at e.0 e.1.rows) (open_of es) (each-at (λ g. t < g.instant) e.0 (λ g i. omega (arith, i, lt)) e.1.rows) (all_later t es h.1)

pub later_rest : (t : ℕ) (e : Entry) (es : List Entry) → t ≤ e.0 → IsStrictlySortedBy nat_cmp (keys_of (e ∷ es)) → AllByRecursion (λ (g : Element). t < g.instant) (open_of es)
later_rest t e es le h = each_from (λ (g : Element). e.0 < g.instant) (λ (g : Element). t < g.instant) (λ g lt. omega (arith, le, lt)) (open_of es) (all_later e.0 es (sorted_head nat_cmp e.0 (keys_of es) h))

-- ---- more rows of an instant
pub placed_first : (last : Element) (es : List Element) → AllByRecursion (λ (e : Element). last.instant < e.instant) es → placed last es ≡ last ∷ es
placed_first last [] h = refl
placed_first last (e ∷ es) h = rw (lt-ltb last.instant e.instant h.0) refl

pub placed_behind : (last : Element) (xs ys : List Element) → AllByRecursion (λ (e : Element). e.instant ≤ last.instant) xs → placed last (xs ++ ys) ≡ xs ++ placed last ys
placed_behind last [] ys h = refl
placed_behind last (x ∷ xs) ys h = rw (le-ltb last.instant x.instant h.0) (ap (λ zs. x ∷ zs) (placed_behind last xs ys h.1))

-- rows of an instant go behind what is not later, and before what is later
pub put_behind : (t n : ℕ) (rows : List (ℕ × Row)) (xs ys : List Element) → AreAt t rows → AllByRecursion (λ (e : Element). e.instant ≤ t) xs → after_put n rows (xs ++ ys) ≡ xs ++ after_put n rows ys
put_behind t n [] xs ys at h = refl
put_behind t n (r ∷ rows) xs ys at h =
    let last : Element = record { arrival = n; instant = r.0; row = r.1 } in
    let early = each_from (λ (e : Element). e.instant ≤ t) (λ (e : Element). e.instant ≤ r.0) (λ e le. omega (arith, le, at.0)) xs h in
    ap (λ es. after_put (suc n) rows es) (placed_behind last xs ys early) ∙ put_behind t (suc n) rows xs (placed last ys) at.1 h

pub put_before : (t n : ℕ) (rows : List (ℕ × Row)) (es : List Element) → AreAt t rows → AllByRecursion (λ (e : Element). t < e.instant) es → after_put n rows es ≡ elements_at t (numbered_rows n rows) ++ es
put_before t n [] es at h = refl
put_before t n (r ∷ rows) es at h =
    let last : Element = record { arrival = n; instant = r.0; row = r.1 } in
    let late = each_from (λ (e : Element). t < e.instant) (λ (e : Element). r.0 < e.instant) (λ e lt. omega (arith, lt, at.0)) es h in
    let same : r.0 ≤ t = omega (arith, at.0) in
    ap (λ xs. after_put (suc n) rows xs) (placed_first last es late)
    ∙ put_behind t (suc n) rows (last ∷ []) es at.1 (same, tt)
    ∙ ap (λ xs. last ∷ xs) (put_before t (suc n) rows es at.1 h)
    ∙ ap (λ k. record { arrival = n; instant = k; row = r.1 } ∷ (elements_at t (numbered_rows (suc n) rows) ++ es)) at.0

module _ (width t n : ℕ) (rows : List (ℕ × Row)) where
  -- an instant that has these rows alone
  abbrev alone : RowsAt
  alone = with_rows n rows (none_at width)

  pub open-put_rows : (es : List Entry) → AreAt t rows → IsStrictlySortedBy nat_cmp (keys_of es) → open_of (put_rows width t n rows es) ≡ after_put n rows (open_of es)
  open-put_rows [] at h = sym (put_before t n rows [] at tt)
  open-put_rows (e ∷ es) at h = here (nat_cmp t e.0) (cmp_means t e.0) (open-put_rows es at (sorted_rest e es h))
    where
      early : e.0 ≤ t → after_put n rows (elements_at e.0 e.1.rows ++ open_of es) ≡ elements_at e.0 e.1.rows ++ after_put n rows (open_of es)
      early le = put_behind t n rows (elements_at e.0 e.1.rows) (open_of es) at (each-at (λ g. g.instant ≤ t) e.0 (λ g i. omega (arith, i, le)) e.1.rows)

      here : (o : Ordering) → MatchOrdering o (t < e.0) (t ≡ e.0) (e.0 < t) → open_of (put_rows width t n rows es) ≡ after_put n rows (open_of es)
          → open_of (match_ordering o ((t, alone) ∷ e ∷ es) ((e.0, with_rows n rows e.1) ∷ es) (e ∷ put_rows width t n rows es)) ≡ after_put n rows (elements_at e.0 e.1.rows ++ open_of es)
      here Less m ih =
          sym (put_before t n rows (elements_at e.0 e.1.rows ++ open_of es) at (each-append (λ (g : Element). t < g.instant) (elements_at e.0 e.1.rows) (open_of es)
          (each-at (λ g. t < g.instant) e.0 (λ g i. omega (arith, i, m)) e.1.rows) (later_rest t e es (omega (arith, m)) h)))
      here Equal m ih =
          ap (λ (xs : List Element). xs ++ open_of es) (map-append (λ r. record { arrival = r.0; instant = e.0; row = r.1 }) e.1.rows (numbered_rows n rows))
          ∙ append_assoc (elements_at e.0 e.1.rows) (elements_at e.0 (numbered_rows n rows)) (open_of es)
          ∙ ap (λ k. elements_at e.0 e.1.rows ++ (elements_at k (numbered_rows n rows) ++ open_of es)) (sym m)
          ∙ sym (early (omega (arith, m)) ∙ ap (λ (xs : List Element). elements_at e.0 e.1.rows ++ xs) (put_before t n rows (open_of es) at (later_rest t e es (omega (arith, m)) h)))
      here Greater m ih = ap (λ (xs : List Element). elements_at e.0 e.1.rows ++ xs) ih ∙ sym (early (omega (arith, m)))

  -- where the map has the instant
  pub put_rows-found : (es : List Entry) (o : RowsAt) → IsStrictlySortedBy nat_cmp (keys_of es) → lookup (is_at (nat_cmp t)) es ≡ Some o
      → set_value (is_at (nat_cmp t)) es (with_rows n rows o) ≡ put_rows width t n rows es
  put_rows-found [] o s h = cc
  put_rows-found (e ∷ es) o s h = here (put_rows-found es o (sorted_rest e es s)) (nat_cmp t e.0) refl h
    where
      here : (lookup (is_at (nat_cmp t)) es ≡ Some o → set_value (is_at (nat_cmp t)) es (with_rows n rows o) ≡ put_rows width t n rows es) → (c : Ordering) → nat_cmp t e.0 ≡ c → cond (is_eq c) (Some e.1) (lookup (is_at (nat_cmp t)) es) ≡ Some o
          → cond (is_eq c) ((e.0, with_rows n rows o) ∷ es) (e ∷ set_value (is_at (nat_cmp t)) es (with_rows n rows o))
          ≡ match_ordering c ((t, alone) ∷ e ∷ es) ((e.0, with_rows n rows e.1) ∷ es) (e ∷ put_rows width t n rows es)
      here ih Less g i =
          let none = lookup-none (is_at (nat_cmp t)) es (none_below_head nat_cmp_total t e es s g).1 in
          let wrong : None ≡ Some o = sym none ∙ i in
          cc
      here ih Equal g i = let same : o ≡ e.1 = cc in ap (λ (x : RowsAt). (e.0, with_rows n rows x) ∷ es) same
      here ih Greater g i = ap (λ xs. e ∷ xs) (ih i)

  -- where it has not
  pub put_rows-absent : (es : List Entry) → lookup (is_at (nat_cmp t)) es ≡ None → insert_entry nat_cmp es t alone ≡ put_rows width t n rows es
  put_rows-absent [] h = refl
  put_rows-absent (e ∷ es) h = here (put_rows-absent es) (nat_cmp t e.0) h
    where
      here : (lookup (is_at (nat_cmp t)) es ≡ None → insert_entry nat_cmp es t alone ≡ put_rows width t n rows es) → (c : Ordering) → cond (is_eq c) (Some e.1) (lookup (is_at (nat_cmp t)) es) ≡ None
          → match_ordering c ((t, alone) ∷ e ∷ es) ((e.0, alone) ∷ es) (e ∷ insert_entry nat_cmp es t alone)
          ≡ match_ordering c ((t, alone) ∷ e ∷ es) ((e.0, with_rows n rows e.1) ∷ es) (e ∷ put_rows width t n rows es)
      here ih Less i = refl
      here ih Equal i = cc
      here ih Greater i = ap (λ xs. e ∷ xs) (ih i)

  pub wide-put_rows : (es : List Entry) → AreWide width es → AreWide width (put_rows width t n rows es)
  wide-put_rows [] h = (refl, tt)
  wide-put_rows (e ∷ es) h = here (nat_cmp t e.0) (wide-put_rows es h.1)
    where
      here : (c : Ordering) → AreWide width (put_rows width t n rows es)
          → AreWide width (match_ordering c ((t, alone) ∷ e ∷ es) ((e.0, with_rows n rows e.1) ∷ es) (e ∷ put_rows width t n rows es))
      here Less ih = (refl, (h.0, h.1))
      here Equal ih = (h.0, h.1)
      here Greater ih = (h.0, ih)

-- what the map has at an instant is wide
pub wide_found : (width t : ℕ) (es : List Entry) (o : RowsAt) → AreWide width es → lookup (is_at (nat_cmp t)) es ≡ Some o → o.width ≡ width
wide_found width t [] o h i = cc
wide_found width t (e ∷ es) o h i = here (wide_found width t es o h.1) (is_at (nat_cmp t) e.0) i
  where
    here : (lookup (is_at (nat_cmp t)) es ≡ Some o → o.width ≡ width) → (b : Bool) → cond b (Some e.1) (lookup (is_at (nat_cmp t)) es) ≡ Some o → o.width ≡ width
    here ih true g = let same : o ≡ e.1 = cc in ap (λ (x : RowsAt). x.width) same ∙ h.0
    here ih false g = ih g

-- ---- the rows of a refused append
module _ (first : ℕ) where
  -- rows of the number `first` or later are not kept
  none_kept : (n : ℕ) (rows : List (ℕ × Row)) → first ≤ n → filter (λ r. nat_lt r.0 first) (numbered_rows n rows) ≡ []
  none_kept n [] le = refl
  none_kept n (r ∷ rows) le = rw (le-ltb n first le) (none_kept (suc n) rows (omega (arith, le)))

  first_below-with_rows : (n : ℕ) (rows : List (ℕ × Row)) (o : RowsAt) → first ≤ n → first_below first (with_rows n rows o) ≡ first_below first o
  first_below-with_rows n rows o le =
      let p : ℕ × Row → Bool = λ r. nat_lt r.0 first in
      let more : List (ℕ × Row) = numbered_rows n rows in
      let same : filter p (o.rows ++ more) ≡ filter p o.rows = filter-append p o.rows more ∙ ap (λ (xs : List (ℕ × Row)). filter p o.rows ++ xs) (none_kept n rows le) ∙ append-nil (filter p o.rows) in
      let few : length (filter p o.rows) ≤ length o.rows = omega (arith, length-filter p o.rows, count_by-le-length p o.rows) in
      ap (λ (rs : List (ℕ × Row)). record { width = o.width; rows = rs }) (ap (λ (xs : List (ℕ × Row)). take (length xs) (o.rows ++ more)) same ∙ take-append-le (length (filter p o.rows)) o.rows more few)

  none_below : (width n : ℕ) (rows : List (ℕ × Row)) → first ≤ n → has_rows (first_below first (with_rows n rows (none_at width))) ≡ false
  none_below width n rows le = ap has_rows (first_below-with_rows n rows (none_at width) le)

  pub below-put_rows : (width t n : ℕ) (rows : List (ℕ × Row)) (es : List Entry) → first ≤ n → below first (put_rows width t n rows es) ≡ below first es
  below-put_rows width t n rows [] le = rw (none_below width n rows le) refl
  below-put_rows width t n rows (e ∷ es) le = here (nat_cmp t e.0) (below-put_rows width t n rows es le)
    where
      alone : RowsAt
      alone = with_rows n rows (none_at width)

      here : (c : Ordering) → below first (put_rows width t n rows es) ≡ below first es
          → below first (match_ordering c ((t, alone) ∷ e ∷ es) ((e.0, with_rows n rows e.1) ∷ es) (e ∷ put_rows width t n rows es)) ≡ below first (e ∷ es)
      here Less ih = rw (none_below width n rows le) refl
      here Equal ih = ap (λ (o : RowsAt). cond (has_rows o) ((e.0, o) ∷ below first es) (below first es)) (first_below-with_rows n rows e.1 le)
      here Greater ih = ap (λ xs. cond (has_rows (first_below first e.1)) ((e.0, first_below first e.1) ∷ xs) xs) ih

  each-front : (P : Element → Type 0) (xs ys : List Element) → AllByRecursion P (xs ++ ys) → AllByRecursion P xs
  each-front P [] ys h = tt
  each-front P (x ∷ xs) ys h = (h.0, each-front P xs ys h.1)

  each-back : (P : Element → Type 0) (xs ys : List Element) → AllByRecursion P (xs ++ ys) → AllByRecursion P ys
  each-back P [] ys h = h
  each-back P (x ∷ xs) ys h = each-back P xs ys h.1

  all_below : (t : ℕ) (rows : List (ℕ × Row)) → AllByRecursion (λ (e : Element). e.arrival < first) (elements_at t rows) → filter (λ r. nat_lt r.0 first) rows ≡ rows
  all_below t [] h = refl
  all_below t (r ∷ rows) h = rw (lt-ltb r.0 first h.0) (ap (λ xs. r ∷ xs) (all_below t rows h.1))

  -- rows of lower numbers stay
  pub open-below : (es : List Entry) → AllByRecursion (λ (e : Element). e.arrival < first) (open_of es) → open_of (below first es) ≡ open_of es
  open-below [] h = refl
  open-below (e ∷ es) h =
      let P : Element → Type 0 = λ g. g.arrival < first in
      let kept : first_below first e.1 ≡ e.1 =
      ap (λ (rows : List (ℕ × Row)). record { width = e.1.width; rows = rows })
      (ap (λ (xs : List (ℕ × Row)). take (length xs) e.1.rows) (all_below e.0 e.1.rows (each-front P (elements_at e.0 e.1.rows) (open_of es) h)) ∙ take_all (length e.1.rows) e.1.rows (omega arith)) in
      ap (λ (o : RowsAt). open_of (cond (has_rows o) ((e.0, o) ∷ below first es) (below first es))) kept
      ∙ here e.1.rows (open-below es (each-back P (elements_at e.0 e.1.rows) (open_of es) h))
    where
      here : (rows : List (ℕ × Row)) → open_of (below first es) ≡ open_of es
          → open_of (cond (nat_lt 0 (length rows)) ((e.0, record { width = e.1.width; rows = rows }) ∷ below first es) (below first es)) ≡ elements_at e.0 rows ++ open_of es
      here [] ih = ih
      here (r ∷ rows) ih = rw (lt-ltb 0 (length (r ∷ rows)) (omega arith)) (ap (λ (xs : List Element). elements_at e.0 (r ∷ rows) ++ xs) ih)

  pub wide-below : (width : ℕ) (es : List Entry) → AreWide width es → AreWide width (below first es)
  wide-below width es h = each-kept (λ (e : Entry). e.1.width ≡ width) (λ e. has_rows e.1) (map (λ e. (e.0, first_below first e.1)) es) (each es h)
    where
      each : (es : List Entry) → AreWide width es → AreWide width (map (λ e. (e.0, first_below first e.1)) es)
      each [] h = tt
      each (e ∷ es) h = (h.0, each es h.1)

-- what a closure leaves that changes each value and then tests it
pub changed_from_retain_pairs : {K X F : Type 0} (T : F → K → X → Bool → X → F → Type 0) (I : F → Type 0) (p : X → Bool) (g : X → X)
    → ((f : F) (k : K) (v : X) (b : Bool) (w : X) (f' : F) → I f → T f k v b w f' → (b ≡ p w) × (w ≡ g v) × I f')
    → (f : F) (es kept : List (K × X)) → I f → RetainsPairs T f es kept → kept ≡ filter (λ e. p e.1) (map (λ e. (e.0, g e.1)) es)
changed_from_retain_pairs T I p g step f [] kept i r = r
changed_from_retain_pairs T I p g step f (e ∷ es) kept i r =
    let s = step f e.0 e.1 r.0 r.1 r.2 i r.4 in
    let rest = changed_from_retain_pairs T I p g step r.2 es r.3 s.2 r.5 in
    r.6 ∙ ap (λ b. cond b ((e.0, r.1) ∷ r.3) r.3) (s.0 ∙ ap p s.1) ∙ ap (λ w. cond (p (g e.1)) ((e.0, w) ∷ r.3) r.3) s.1
    ∙ ap (λ xs. cond (p (g e.1)) ((e.0, g e.1) ∷ xs) xs) rest

-- ---- the rows up to an instant stand first
gt_means : (a b : ℕ) → is_gt (nat_cmp a b) ≡ false → a ≤ b
gt_means a b h = here (nat_cmp a b) (cmp_means a b) h
  where
    here : (o : Ordering) → MatchOrdering o (a < b) (a ≡ b) (b < a) → is_gt o ≡ false → a ≤ b
    here Less m g = omega (arith, m)
    here Equal m g = omega (arith, m)
    here Greater m g = cc

-- all come after a key past the instant
pub all_past : (at k : ℕ) (es : List Entry) → at < k → All (λ q. is_gt (nat_cmp k q) ≡ false) (keys_of es) → instants_past at es ≡ es
all_past at k es lt h = filter_all (λ (e : Entry). nat_lt at e.0) es (each es h)
  where
    each : (xs : List Entry) → All (λ q. is_gt (nat_cmp k q) ≡ false) (keys_of xs) → AllByRecursion (λ (e : Entry). nat_lt at e.0 ≡ true) xs
    each [] h = tt
    each (e ∷ xs) h = (let le : k ≤ e.0 = gt_means k e.0 (h 0 e.0 (omega arith)) in lt-ltb at e.0 (omega (arith, lt, le)), each xs (λ i d l. h (suc i) d (omega (arith, l))))

lt_means : (a b : ℕ) → is_lt (nat_cmp a b) ≡ false → b ≤ a
lt_means a b h = here (nat_cmp a b) (cmp_means a b) h
  where
    here : (o : Ordering) → MatchOrdering o (a < b) (a ≡ b) (b < a) → is_lt o ≡ false → b ≤ a
    here Less m g = cc
    here Equal m g = omega (arith, m)
    here Greater m g = omega (arith, m)

-- none comes after a last key that is not past the instant
pub none_past : (at k : ℕ) (es : List Entry) → k ≤ at → All (λ q. is_lt (nat_cmp k q) ≡ false) (keys_of es) → instants_past at es ≡ []
none_past at k es le h = filter_none (λ (e : Entry). nat_lt at e.0) es (each es h)
  where
    each : (xs : List Entry) → All (λ q. is_lt (nat_cmp k q) ≡ false) (keys_of xs) → AllByRecursion (λ (e : Entry). nat_lt at e.0 ≡ false) xs
    each [] h = tt
    each (e ∷ xs) h = (let l : e.0 ≤ k = lt_means k e.0 (h 0 e.0 (omega arith)) in le-ltb at e.0 (omega (arith, le, l)), each xs (λ i d b. h (suc i) d (omega (arith, b))))

pub open-past : (at : ℕ) (es : List Entry) → open_of (instants_past at es) ≡ past at (open_of es)
open-past at [] = refl
open-past at (e ∷ es) = here (nat_lt at e.0) refl (open-past at es)
  where
    p : Element → Bool
    p = λ g. nat_lt at g.instant

    here : (b : Bool) → nat_lt at e.0 ≡ b → open_of (instants_past at es) ≡ past at (open_of es)
        → open_of (cond b (e ∷ instants_past at es) (instants_past at es)) ≡ past at (elements_at e.0 e.1.rows ++ open_of es)
    here true i ih =
        ap (λ (xs : List Element). elements_at e.0 e.1.rows ++ xs) ih
        ∙ sym (filter-append p (elements_at e.0 e.1.rows) (open_of es)
        ∙ ap (λ (xs : List Element). xs ++ past at (open_of es)) (filter_all p (elements_at e.0 e.1.rows) (each-at (λ g. p g ≡ true) e.0 (λ g same. ap (λ k. nat_lt at k) same ∙ i) e.1.rows)))
    here false i ih =
        ih ∙ sym (filter-append p (elements_at e.0 e.1.rows) (open_of es)
        ∙ ap (λ (xs : List Element). xs ++ past at (open_of es)) (filter_none p (elements_at e.0 e.1.rows) (each-at (λ g. p g ≡ false) e.0 (λ g same. ap (λ k. nat_lt at k) same ∙ i) e.1.rows)))

pub wide-past : (at width : ℕ) (es : List Entry) → AreWide width es → AreWide width (instants_past at es)
wide-past at width es h = each-kept (λ (e : Entry). e.1.width ≡ width) (λ (e : Entry). nat_lt at e.0) es h
