-- The entries of a span of instants over the elements of a log.
use Rattle.std.proofs.Common.{◌≡◌, ℕ, suc, ◌+◌, ◌-◌, ◌<◌, ◌≤◌, Bool, true, false, cond, List, [], ◌∷◌, ◌++◌, length, map, max, refl, ap, sym, ◌∙◌, arith, append-nil, length-append, ⊎_elim}
use Prim.Native.Nat.{zero}
use Rattle.std.specs.List.{flat_map, range_with_len, filter, All}
use Rattle.std.proofs.lemmas.Bool.{cases_eq, cases_lt}
use Rattle.std.proofs.lemmas.Bool.Decides.{nat_tests}
use Rattle.std.proofs.lemmas.List.Concat.{flat_map-append}
use Rattle.std.proofs.lemmas.List.Elements.{filter-append, All-head, All-tail, All-weaker}
use Rattle.values.specs.Row.{Row}
use Rattle.values.specs.Window.{Element}
use Rattle.op_queue.specs.Entries.{Entry, RowAt, TickAt}
use Rattle.op_queue.specs.Logs.{entering, is_shown, instant_entries, span_entries}
use Rattle.op_queue.specs.Closings.{is_waiting}
use Rattle.op_queue.proofs.RunLemmas.{range_with_len-add}

is_shown-yes : (p t : ℕ) (r : Element) → r.instant ≡ t → p ≤ r.arrival → is_shown p t r ≡ true
is_shown-yes p t r e le = grind (arith, nat_tests)

pub is_shown-other : (p t : ℕ) (r : Element) → r.instant < t → is_shown p t r ≡ false
is_shown-other p t r lt = grind (arith, nat_tests)

is_shown-later : (p t : ℕ) (r : Element) → t < r.instant → is_shown p t r ≡ false
is_shown-later p t r lt = grind (arith, nat_tests)

is_shown-early : (p t : ℕ) (r : Element) → r.arrival < p → is_shown p t r ≡ false
is_shown-early p t r lt = grind (arith, nat_tests)

abbrev pub span : ℕ → List Element → ℕ → ℕ → List (Entry Row)
span p rows a n = flat_map (instant_entries p rows) (range_with_len a n)

pub filter-no : {X : Type 0} (test : X → Bool) (x : X) (xs : List X) → test x ≡ false → filter test (x ∷ xs) ≡ filter test xs
filter-no test x xs h = ap (λ b. cond b (x ∷ filter test xs) (filter test xs)) h

pub filter-yes : {X : Type 0} (test : X → Bool) (x : X) (xs : List X) → test x ≡ true → filter test (x ∷ xs) ≡ x ∷ filter test xs
filter-yes test x xs h = ap (λ b. cond b (x ∷ filter test xs) (filter test xs)) h

instant-no : (p t : ℕ) (r : Element) (rows : List Element) → is_shown p t r ≡ false → instant_entries p (r ∷ rows) t ≡ instant_entries p rows t
instant-no p t r rows h = ap (λ (xs : List Element). map (λ r. RowAt t (entering r)) xs ++ TickAt t ∷ []) (filter-no (is_shown p t) r rows h)

instant-yes : (p t : ℕ) (r : Element) (rows : List Element) → is_shown p t r ≡ true → instant_entries p (r ∷ rows) t ≡ RowAt t (entering r) ∷ instant_entries p rows t
instant-yes p t r rows h = ap (λ (xs : List Element). map (λ r. RowAt t (entering r)) xs ++ TickAt t ∷ []) (filter-yes (is_shown p t) r rows h)

-- a row that no instant of the span shows
span-skip : (p : ℕ) (r : Element) (rows : List Element) (a n : ℕ) → ((t : ℕ) → a ≤ t → is_shown p t r ≡ false) → span p (r ∷ rows) a n ≡ span p rows a n
span-skip p r rows a zero h = refl
span-skip p r rows a (suc n) h =
    let e = instant-no p a r rows (h a (omega arith)) in
    let f = span-skip p r rows (a + 1) n (λ t le. h t (omega arith)) in
    cc

pub span-early : (p : ℕ) (r : Element) (rows : List Element) (a n : ℕ) → r.arrival < p → span p (r ∷ rows) a n ≡ span p rows a n
span-early p r rows a n lt = span-skip p r rows a n (λ t le. is_shown-early p t r lt)

pub span-before : (p : ℕ) (r : Element) (rows : List Element) (a n : ℕ) → r.instant < a → span p (r ∷ rows) a n ≡ span p rows a n
span-before p r rows a n lt = span-skip p r rows a n (λ t le. is_shown-other p t r (omega arith))

-- a row of the first instant comes first
pub span-row : (p : ℕ) (r : Element) (rows : List Element) (a n : ℕ) → r.instant ≡ a → p ≤ r.arrival → 0 < n → span p (r ∷ rows) a n ≡ RowAt a (entering r) ∷ span p rows a n
span-row p r rows a zero e le some = absurd (omega arith)
span-row p r rows a (suc n) e le some =
    let f = instant-yes p a r rows (is_shown-yes p a r e le) in
    let g = span-before p r rows (a + 1) n (omega arith) in
    cc

pub filter-none : (p t : ℕ) (rows : List Element) → All (λ r. t < r.instant) rows → filter (is_shown p t) rows ≡ []
filter-none p t [] h = refl
filter-none p t (r ∷ rows) h =
    filter-no (is_shown p t) r rows (is_shown-later p t r (All-head (λ r. t < r.instant) r rows h))
    ∙ filter-none p t rows (All-tail (λ r. t < r.instant) r rows h)

-- where all rows come later, the tick comes first
pub span-tick : (p : ℕ) (rows : List Element) (a n : ℕ) → All (λ r. a < r.instant) rows → span p rows a (suc n) ≡ TickAt a ∷ span p rows (a + 1) n
span-tick p rows a n h = ap (λ (xs : List Element). (map (λ r. RowAt a (entering r)) xs ++ TickAt a ∷ []) ++ span p rows (a + 1) n) (filter-none p a rows h)

-- a row of some instant of the span counts as one
length-span_row : (p : ℕ) (r : Element) (rows : List Element) (a n : ℕ) → a ≤ r.instant → r.instant < a + n → p ≤ r.arrival → length (span p (r ∷ rows) a n) ≡ suc (length (span p rows a n))
length-span_row p r rows a zero low high le = absurd (omega arith)
length-span_row p r rows a (suc n) low high le =
    ⊎_elim
    (λ e. ap length (span-row p r rows a (suc n) e le (omega arith)))
    (λ ne.
    let e = ap length (instant-no p a r rows (is_shown-later p a r (omega arith))) in
    let f = length-span_row p r rows (a + 1) n (omega arith) (omega arith) le in
    let g = length-append (instant_entries p rows a) (span p rows (a + 1) n) in
    let h = length-append (instant_entries p (r ∷ rows) a) (span p (r ∷ rows) (a + 1) n) in
    omega arith)
    (cases_eq r.instant a)

length-span_none : (p a n : ℕ) → length (span p [] a n) ≡ n
length-span_none p a zero = refl
length-span_none p a (suc n) = ap suc (length-span_none p (a + 1) n)

-- how many rows and ticks a span has
pub length-span : (p a n : ℕ) (rows : List Element) → All (λ r. r.instant < a + n) rows → length (span p rows a n) ≡ length (filter (is_waiting p a) rows) + n
length-span p a n [] h = length-span_none p a n ∙ omega arith
length-span p a n (r ∷ rows) h =
    let e = length-span p a n rows (All-tail (λ r. r.instant < a + n) r rows h) in
    let high = All-head (λ r. r.instant < a + n) r rows h in
    ⊎_elim
    (λ (lt : r.instant < a).
    let f = ap length (span-before p r rows a n lt) in
    let w : is_waiting p a r ≡ false = grind (arith, nat_tests) in
    let g = ap length (filter-no (is_waiting p a) r rows w) in
    omega arith)
    (λ (le : a ≤ r.instant).
    ⊎_elim
    (λ (lt : r.arrival < p).
    let f = ap length (span-early p r rows a n lt) in
    let w : is_waiting p a r ≡ false = grind (arith, nat_tests) in
    let g = ap length (filter-no (is_waiting p a) r rows w) in
    omega arith)
    (λ (ok : p ≤ r.arrival).
    let f = length-span_row p r rows a n le high ok in
    let w : is_waiting p a r ≡ true = grind (arith, nat_tests) in
    let g = ap length (filter-yes (is_waiting p a) r rows w) in
    omega arith)
    (cases_lt r.arrival p))
    (cases_lt r.instant a)

pub filter-past : (p t : ℕ) (rows : List Element) → All (λ r. r.instant < t) rows → filter (is_shown p t) rows ≡ []
filter-past p t [] h = refl
filter-past p t (r ∷ rows) h =
    filter-no (is_shown p t) r rows (is_shown-other p t r (All-head (λ r. r.instant < t) r rows h))
    ∙ filter-past p t rows (All-tail (λ r. r.instant < t) r rows h)

instant-same : (p t : ℕ) (rows more : List Element) → filter (is_shown p t) rows ≡ filter (is_shown p t) more → instant_entries p rows t ≡ instant_entries p more t
instant-same p t rows more e = ap (λ (xs : List Element). map (λ r. RowAt t (entering r)) xs ++ TickAt t ∷ []) e

-- later rows do not show in earlier instants
span-front : (p b : ℕ) (rows more : List Element) (a n : ℕ) → a + n ≤ b → All (λ r. b ≤ r.instant) more → span p (rows ++ more) a n ≡ span p rows a n
span-front p b rows more a zero le h = refl
span-front p b rows more a (suc n) le h =
    let f = filter-none p a more (All-weaker (λ r. b ≤ r.instant) (λ r. a < r.instant) (λ r k. omega arith) more h) in
    let e = instant-same p a (rows ++ more) rows (filter-append (is_shown p a) rows more ∙ ap (λ xs. filter (is_shown p a) rows ++ xs) f ∙ append-nil (filter (is_shown p a) rows)) in
    let g = span-front p b rows more (a + 1) n (omega arith) h in
    cc

-- earlier rows do not show in later instants
span-back : (p b : ℕ) (rows more : List Element) (a n : ℕ) → b ≤ a → All (λ r. r.instant < b) rows → span p (rows ++ more) a n ≡ span p more a n
span-back p b rows more a zero le h = refl
span-back p b rows more a (suc n) le h =
    let f = filter-past p a rows (All-weaker (λ r. r.instant < b) (λ r. r.instant < a) (λ r k. omega arith) rows h) in
    let e = instant-same p a (rows ++ more) more (filter-append (is_shown p a) rows more ∙ ap (λ xs. xs ++ filter (is_shown p a) more) f) in
    let g = span-back p b rows more (a + 1) n (omega arith) h in
    cc

span-add : (p : ℕ) (rows : List Element) (a n m : ℕ) → span p rows a (n + m) ≡ span p rows a n ++ span p rows (a + n) m
span-add p rows a n m = ap (flat_map (instant_entries p rows)) (range_with_len-add a n m) ∙ flat_map-append (instant_entries p rows) (range_with_len a n) (range_with_len (a + n) m)

pub span_entries-close : (p at until until' : ℕ) (rows more : List Element) → until ≤ until' → All (λ r. r.instant < until) rows → All (λ r. until ≤ r.instant) more → span_entries p (rows ++ more) at until' ≡ span_entries p rows at until ++ span_entries p more (max at until) until'
span_entries-close p at until until' rows more le low high =
    ⊎_elim
    (λ (lt : at < until).
    let n : until' - at ≡ (until - at) + (until' - until) = omega arith in
    let k : at + (until - at) ≡ until = omega arith in
    let m : max at until ≡ until = omega arith in
    ap (span p (rows ++ more) at) n
    ∙ span-add p (rows ++ more) at (until - at) (until' - until)
    ∙ ap (λ es. es ++ span p (rows ++ more) (at + (until - at)) (until' - until)) (span-front p until rows more at (until - at) (omega arith) high)
    ∙ ap (λ b. span p rows at (until - at) ++ span p (rows ++ more) b (until' - until)) k
    ∙ ap (λ es. span p rows at (until - at) ++ es) (span-back p until rows more until (until' - until) (omega arith) low)
    ∙ ap (λ b. span p rows at (until - at) ++ span p more b (until' - b)) (sym m))
    (λ (ge : until ≤ at).
    let none : until - at ≡ 0 = omega arith in
    let m : max at until ≡ at = omega arith in
    span-back p until rows more at (until' - at) ge low
    ∙ ap (λ b. span p more b (until' - b)) (sym m)
    ∙ ap (λ n. span p rows at n ++ span p more (max at until) (until' - max at until)) (sym none))
    (cases_lt at until)
