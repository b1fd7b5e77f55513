-- Open rows in two parts: more rows in either part, and the rows up to an instant.
use Rattle.std.proofs.Common.{◌≡◌, ◌<◌, ◌≤◌, ℕ, suc, Bool, true, false, cond, nat_lt, nat_le, List, [], ◌∷◌, ◌++◌, refl, sym, ap, ◌∙◌, arith, append-nil}
use Rattle.std.specs.List.{AllByRecursion}
use Rattle.std.specs.Map.{keys_of}
use Rattle.std.specs.List.Sorted.{IsStrictlySortedBy}
use Rattle.std.specs.Ordering.{nat_cmp}
use Rattle.std.proofs.lemmas.Bool.{lt-ltb, le-ltb, lt-leb, le-leb, ltb-true, ltb-false}
use Rattle.values.specs.Row.{Row}
use Rattle.values.specs.Window.{Element}
use Rattle.stream_store.specs.LateRows.{numbered_rows}
use Rattle.stream_store.specs.Open.{Entry, AreAt, elements_at, open_of, placed, after_put, up_to, past}
use Rattle.stream_store.specs.OpenRows.{Rising, with_late}
use Rattle.stream_store.proofs.KeyLemmas.{filter_none, each_from, each-append, each-at, later_rest, sorted_rest, placed_first, placed_behind, put_behind, put_before}
use Rattle.stream_store.proofs.PlacedLemmas.{each-placed}

-- ---- one more element
-- elements of two instants are placed in either order
placed-placed : (a b : Element) → a.instant < b.instant → (es : List Element) → placed a (placed b es) ≡ placed b (placed a es)
placed-placed a b lt [] = rw (lt-ltb a.instant b.instant lt, le-ltb b.instant a.instant (omega (arith, lt))) refl
placed-placed a b lt (e ∷ es) = here (placed-placed a b lt es) (nat_lt a.instant e.instant) refl (nat_lt b.instant e.instant) refl
  where
    here : placed a (placed b es) ≡ placed b (placed a es) → (c : Bool) → nat_lt a.instant e.instant ≡ c → (d : Bool) → nat_lt b.instant e.instant ≡ d
        → placed a (cond d (b ∷ e ∷ es) (e ∷ placed b es)) ≡ placed b (cond c (a ∷ e ∷ es) (e ∷ placed a es))
    here ih true i true j = rw (lt-ltb a.instant b.instant lt, le-ltb b.instant a.instant (omega (arith, lt)), j) refl
    here ih true i false j = rw (i, le-ltb b.instant a.instant (omega (arith, lt)), j) refl
    here ih false i true j =
        let le : e.instant ≤ a.instant = ltb-false a.instant e.instant i in
        let more : b.instant < e.instant = ltb-true b.instant e.instant j in
        absurd (omega (arith, le, more, lt))
    here ih false i false j = rw (i, j) (ap (λ xs. e ∷ xs) ih)

-- an element past all that came late
with_late-past : (x : Element) (late es : List Element) → AllByRecursion (λ (l : Element). l.instant < x.instant) late → with_late late (placed x es) ≡ placed x (with_late late es)
with_late-past x [] es h = refl
with_late-past x (l ∷ late) es h = ap (λ xs. with_late late xs) (placed-placed l x h.0 es) ∙ with_late-past x late (placed l es) h.1

-- an element before all that came late
with_late-before : (x : Element) (late es : List Element) → AllByRecursion (λ (l : Element). x.instant < l.instant) late → with_late late (placed x es) ≡ placed x (with_late late es)
with_late-before x [] es h = refl
with_late-before x (l ∷ late) es h = ap (λ xs. with_late late xs) (sym (placed-placed x l h.0 es)) ∙ with_late-before x late (placed l es) h.1

-- one more that came late
with_late-placed : (x : Element) (late es : List Element) → Rising (λ e. e.instant) late → with_late (placed x late) es ≡ placed x (with_late late es)
with_late-placed x [] es h = refl
with_late-placed x (l ∷ late) es h = here (with_late-placed x late (placed l es) h.1) (nat_lt x.instant l.instant) refl
  where
    here : with_late (placed x late) (placed l es) ≡ placed x (with_late late (placed l es)) → (b : Bool) → nat_lt x.instant l.instant ≡ b
        → with_late (cond b (x ∷ l ∷ late) (l ∷ placed x late)) es ≡ placed x (with_late late (placed l es))
    here ih true i =
        let lt : x.instant < l.instant = ltb-true x.instant l.instant i in
        with_late-before x (l ∷ late) es (lt, each_from (λ (g : Element). l.instant ≤ g.instant) (λ (g : Element). x.instant < g.instant) (λ g le. omega (arith, lt, le)) late h.0)
    here ih false i = ih

pub rising-placed : (x : Element) (es : List Element) → Rising (λ e. e.instant) es → Rising (λ e. e.instant) (placed x es)
rising-placed x [] h = (tt, tt)
rising-placed x (e ∷ es) h = here (rising-placed x es h.1) (nat_lt x.instant e.instant) refl
  where
    here : Rising (λ e. e.instant) (placed x es) → (b : Bool) → nat_lt x.instant e.instant ≡ b → Rising (λ e. e.instant) (cond b (x ∷ e ∷ es) (e ∷ placed x es))
    here ih true i =
        let lt : x.instant < e.instant = ltb-true x.instant e.instant i in
        ((omega (arith, lt), each_from (λ (g : Element). e.instant ≤ g.instant) (λ (g : Element). x.instant ≤ g.instant) (λ g le. omega (arith, lt, le)) es h.0), (h.0, h.1))
    here ih false i =
        let le : e.instant ≤ x.instant = ltb-false x.instant e.instant i in
        (each-placed (λ (g : Element). e.instant ≤ g.instant) x le es h.0, ih)

-- ---- rows of one instant
-- past all that came late
pub put_past : (t n : ℕ) (rows : List (ℕ × Row)) (late es : List Element) → AreAt t rows → AllByRecursion (λ (l : Element). l.instant < t) late
    → with_late late (after_put n rows es) ≡ after_put n rows (with_late late es)
put_past t n [] late es at h = refl
put_past t n (r ∷ rows) late es at h =
    let x : Element = record { arrival = n; instant = r.0; row = r.1 } in
    put_past t (suc n) rows late (placed x es) at.1 h
    ∙ ap (λ xs. after_put (suc n) rows xs) (with_late-past x late es (each_from (λ (l : Element). l.instant < t) (λ (l : Element). l.instant < r.0) (λ l lt. omega (arith, lt, at.0)) late h))

-- that come late themselves
pub put_late : (n : ℕ) (rows : List (ℕ × Row)) (late es : List Element) → Rising (λ e. e.instant) late → with_late (after_put n rows late) es ≡ after_put n rows (with_late late es)
put_late n [] late es h = refl
put_late n (r ∷ rows) late es h =
    let x : Element = record { arrival = n; instant = r.0; row = r.1 } in
    put_late (suc n) rows (placed x late) es (rising-placed x late h) ∙ ap (λ xs. after_put (suc n) rows xs) (with_late-placed x late es h)

-- behind all that rose
pub put_last : (t n : ℕ) (rows : List (ℕ × Row)) (es : List Element) → AreAt t rows → AllByRecursion (λ (e : Element). e.instant ≤ t) es → after_put n rows es ≡ es ++ elements_at t (numbered_rows n rows)
put_last t n rows es at h =
    ap (λ xs. after_put n rows xs) (sym (append-nil es))
    ∙ put_behind t n rows es [] at h
    ∙ ap (λ xs. es ++ xs) (put_before t n rows [] at tt ∙ append-nil (elements_at t (numbered_rows n rows)))

-- ---- what came late rises by its instants
pub rising-append : (t : ℕ) (xs ys : List Element) → Rising (λ e. e.instant) xs → Rising (λ e. e.instant) ys → AllByRecursion (λ (e : Element). e.instant ≤ t) xs → AllByRecursion (λ (e : Element). t ≤ e.instant) ys
    → Rising (λ e. e.instant) (xs ++ ys)
rising-append t [] ys h k low high = k
rising-append t (x ∷ xs) ys h k low high = (
  each-append (λ (g : Element). x.instant ≤ g.instant) xs ys h.0 (each_from (λ (e : Element). t ≤ e.instant) (λ (e : Element). x.instant ≤ e.instant) (λ e le. omega (arith, low.0, le)) ys high),
  rising-append t xs ys h.1 k low.1 high,
)

pub rising-at : (t : ℕ) (rows : List (ℕ × Row)) → Rising (λ e. e.instant) (elements_at t rows)
rising-at t [] = tt
rising-at t (r ∷ rows) = (each-at (λ (g : Element). t ≤ g.instant) t (λ g i. omega (arith, i)) rows, rising-at t rows)

pub rising-open : (es : List Entry) → IsStrictlySortedBy nat_cmp (keys_of es) → Rising (λ e. e.instant) (open_of es)
rising-open [] h = tt
rising-open (e ∷ es) h =
    rising-append e.0 (elements_at e.0 e.1.rows) (open_of es) (rising-at e.0 e.1.rows) (rising-open es (sorted_rest e es h))
    (each-at (λ (g : Element). g.instant ≤ e.0) e.0 (λ g i. omega (arith, i)) e.1.rows)
    (each_from (λ (g : Element). e.0 < g.instant) (λ (g : Element). e.0 ≤ g.instant) (λ g lt. omega (arith, lt)) (open_of es) (later_rest e.0 e es (omega arith) h))

-- ---- the elements past an instant
past-placed : (at : ℕ) (x : Element) (es : List Element) → past at (placed x es) ≡ cond (nat_lt at x.instant) (placed x (past at es)) (past at es)
past-placed at x es = here (nat_lt at x.instant) refl
  where
    kept : at < x.instant → (es : List Element) → past at (placed x es) ≡ placed x (past at es)
    kept lt [] = rw (lt-ltb at x.instant lt) refl
    kept lt (e ∷ es) = step (kept lt es) (nat_lt x.instant e.instant) refl (nat_lt at e.instant) refl
      where
        step : past at (placed x es) ≡ placed x (past at es) → (b : Bool) → nat_lt x.instant e.instant ≡ b → (c : Bool) → nat_lt at e.instant ≡ c
            → past at (cond b (x ∷ e ∷ es) (e ∷ placed x es)) ≡ placed x (cond c (e ∷ past at es) (past at es))
        step ih true i true j = rw (lt-ltb at x.instant lt, j, i) refl
        step ih true i false j =
            let more : x.instant < e.instant = ltb-true x.instant e.instant i in
            let le : e.instant ≤ at = ltb-false at e.instant j in
            absurd (omega (arith, lt, more, le))
        step ih false i true j = rw (j, i) (ap (λ xs. e ∷ xs) ih)
        step ih false i false j = rw j ih

    gone : x.instant ≤ at → (es : List Element) → past at (placed x es) ≡ past at es
    gone le [] = rw (le-ltb at x.instant le) refl
    gone le (e ∷ es) = step (gone le es) (nat_lt x.instant e.instant)
      where
        step : past at (placed x es) ≡ past at es → (b : Bool) → past at (cond b (x ∷ e ∷ es) (e ∷ placed x es)) ≡ past at (e ∷ es)
        step ih true = rw (le-ltb at x.instant le) refl
        step ih false = ap (λ xs. cond (nat_lt at e.instant) (e ∷ xs) xs) ih

    here : (b : Bool) → nat_lt at x.instant ≡ b → past at (placed x es) ≡ cond b (placed x (past at es)) (past at es)
    here true i = kept (ltb-true at x.instant i) es
    here false i = gone (ltb-false at x.instant i) es

pub past-late : (at : ℕ) (late es : List Element) → past at (with_late late es) ≡ with_late (past at late) (past at es)
past-late at [] es = refl
past-late at (l ∷ late) es = past-late at late (placed l es) ∙ ap (λ xs. with_late (past at late) xs) (past-placed at l es) ∙ here (nat_lt at l.instant)
  where
    here : (b : Bool) → with_late (past at late) (cond b (placed l (past at es)) (past at es)) ≡ with_late (cond b (l ∷ past at late) (past at late)) (past at es)
    here true = refl
    here false = refl

-- ---- the elements up to an instant
-- rising elements are those up to an instant and then those past it
pub up_past : (at : ℕ) (es : List Element) → Rising (λ e. e.instant) es → es ≡ up_to at es ++ past at es
up_past at [] h = refl
up_past at (e ∷ es) h = here (up_past at es h.1) (nat_lt at e.instant) refl
  where
    here : es ≡ up_to at es ++ past at es → (b : Bool) → nat_lt at e.instant ≡ b → e ∷ es ≡ cond (nat_le e.instant at) (e ∷ up_to at es) (up_to at es) ++ cond b (e ∷ past at es) (past at es)
    here ih false i =
        let le : e.instant ≤ at = ltb-false at e.instant i in
        rw (le-leb e.instant at le) (ap (λ xs. e ∷ xs) ih)
    here ih true i =
        let lt : at < e.instant = ltb-true at e.instant i in
        let none : up_to at es ≡ [] = filter_none (λ (g : Element). nat_le g.instant at) es (each_from (λ (g : Element). e.instant ≤ g.instant) (λ (g : Element). nat_le g.instant at ≡ false) (λ g le. lt-leb g.instant at (omega (arith, lt, le))) es h.0) in
        rw (lt-leb e.instant at lt) (ap (λ xs. e ∷ xs) (ih ∙ ap (λ xs. xs ++ past at es) none) ∙ sym (ap (λ xs. xs ++ e ∷ past at es) none))

with_late-append : (xs ys es : List Element) → with_late (xs ++ ys) es ≡ with_late ys (with_late xs es)
with_late-append [] ys es = refl
with_late-append (x ∷ xs) ys es = with_late-append xs ys (placed x es)

-- what came late stands behind what is not later
with_late-behind : (t : ℕ) (late front back : List Element) → AllByRecursion (λ (e : Element). e.instant ≤ t) front → AllByRecursion (λ (l : Element). t ≤ l.instant) late
    → with_late late (front ++ back) ≡ front ++ with_late late back
with_late-behind t [] front back low high = refl
with_late-behind t (l ∷ late) front back low high =
    ap (λ xs. with_late late xs) (placed_behind l front back (each_from (λ (e : Element). e.instant ≤ t) (λ (e : Element). e.instant ≤ l.instant) (λ e le. omega (arith, le, high.0)) front low))
    ∙ with_late-behind t late front (placed l back) low high.1

-- elements of one instant stand before what is later
with_late-at : (t : ℕ) (rows : List (ℕ × Row)) (back : List Element) → AllByRecursion (λ (e : Element). t < e.instant) back → with_late (elements_at t rows) back ≡ elements_at t rows ++ back
with_late-at t [] back h = refl
with_late-at t (r ∷ rows) back h =
    let x : Element = record { arrival = r.0; instant = t; row = r.1 } in
    let at = each-at (λ (g : Element). t ≤ g.instant) t (λ g i. omega (arith, i)) rows in
    ap (λ xs. with_late (elements_at t rows) xs) (placed_first x back h)
    ∙ with_late-behind t (elements_at t rows) (x ∷ []) back (omega arith, tt) at
    ∙ ap (λ xs. x ∷ xs) (with_late-at t rows back h)

-- the rows of the first late instant stand behind those that rose up to it
pub late_first : (t : ℕ) (rows : List (ℕ × Row)) (rest front back : List Element) → AllByRecursion (λ (e : Element). e.instant ≤ t) front → AllByRecursion (λ (e : Element). t < e.instant) back
    → AllByRecursion (λ (l : Element). t < l.instant) rest → with_late (elements_at t rows ++ rest) (front ++ back) ≡ front ++ (elements_at t rows ++ with_late rest back)
late_first t rows rest front back low high later =
    let here : List Element = elements_at t rows in
    let at = each-at (λ (g : Element). t ≤ g.instant) t (λ g i. omega (arith, i)) rows in
    let under = each-at (λ (g : Element). g.instant ≤ t) t (λ g i. omega (arith, i)) rows in
    let over = each_from (λ (l : Element). t < l.instant) (λ (l : Element). t ≤ l.instant) (λ l lt. omega (arith, lt)) rest later in
    with_late-append here rest (front ++ back)
    ∙ ap (λ xs. with_late rest xs) (with_late-behind t here front back low at ∙ ap (λ xs. front ++ xs) (with_late-at t rows back high))
    ∙ with_late-behind t rest front (here ++ back) low over
    ∙ ap (λ xs. front ++ xs) (with_late-behind t rest here back under over)

-- ---- facts of each
each_of_placed : (P : Element → Type 0) (x : Element) (es : List Element) → AllByRecursion P (placed x es) → P x × AllByRecursion P es
each_of_placed P x [] h = (h.0, tt)
each_of_placed P x (e ∷ es) h = here (each_of_placed P x es) (nat_lt x.instant e.instant) h
  where
    here : (AllByRecursion P (placed x es) → P x × AllByRecursion P es) → (b : Bool) → AllByRecursion P (cond b (x ∷ e ∷ es) (e ∷ placed x es)) → P x × AllByRecursion P (e ∷ es)
    here ih true g = (g.0, (g.1.0, g.1.1))
    here ih false g = let k = ih g.1 in (k.0, (g.0, k.1))

-- what holds of all open elements holds of the late ones
pub each_late : (P : Element → Type 0) (late es : List Element) → AllByRecursion P (with_late late es) → AllByRecursion P late × AllByRecursion P es
each_late P [] es h = (tt, h)
each_late P (l ∷ late) es h =
    let k = each_late P late (placed l es) h in
    let m = each_of_placed P l es k.1 in
    ((m.0, k.0), m.1)
