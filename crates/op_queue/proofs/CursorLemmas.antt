-- Cursors over a log: what stands at the front, what leaves, how much waits.
use Rattle.std.proofs.Common.{◌≡◌, ℕ, suc, ◌+◌, ◌-◌, ◌<◌, ◌≤◌, Bool, true, false, cond, nat_lt, Some, List, [], ◌∷◌, ◌++◌, length, map, min, take, drop, slice_range, refl, ap, sym, ◌∙◌, arith, append_assoc, length-append, length-drop, length-take, ⊎_elim}
use Rattle.std.specs.List.{flat_map, filter, range_with_len, All, drop-map}
use Rattle.std.proofs.lemmas.Bool.{cases_lt}
use Rattle.std.proofs.lemmas.Bool.Decides.{nat_tests}
use Rattle.std.proofs.lemmas.List.{drop-drop, drop_at, drop-append-le, length-map, take-append-le, take-map, take_all}
use Rattle.std.proofs.lemmas.List.Elements.{All-weaker}
use Rattle.values.specs.Row.{Row}
use Rattle.values.specs.Window.{Element}
use Rattle.op_queue.specs.Cursors.{GoesOn, IsWithin}
use Rattle.op_queue.specs.Entries.{Entry, RowAt, TickAt, front_of}
use Rattle.op_queue.specs.Items.{IsFrontPart, front_part, front_rows}
use Rattle.op_queue.specs.Logs.{Closed, entering, instant_entries, is_shown, log_entries}
use Rattle.op_queue.specs.Logs.{cursor_entries, row_entries, shown, span_entries}
use Rattle.op_queue.specs.Closings.{is_waiting}
use Rattle.op_queue.specs.declared.cursor.Cursor.{Cursor}
use Rattle.op_queue.specs.declared.item.Item.TheVariants.{Rows, Tick}
use Rattle.op_queue.specs.declared.queue.Front.TheVariants as front
use Rattle.op_queue.proofs.BoundLemmas.{length-slice_range, slice_range-front}
use Rattle.op_queue.proofs.SpanLemmas.{length-span}

-- the rows of its instant that a cursor has not passed
abbrev pub rest_of : Cursor → Closed → List Element
rest_of c log = drop c.passed (shown c.place c.at log.elements)

pub entries-open : (c : Cursor) (log : Closed) → c.at < log.until → cursor_entries c log ≡ row_entries c.at (rest_of c log) ++ TickAt c.at ∷ log_entries c.place (c.at + 1) log
entries-open c log lt =
    let b : nat_lt c.at log.until ≡ true = grind (arith, nat_tests) in
    ap (λ t. cond t (row_entries c.at (rest_of c log) ++ TickAt c.at ∷ log_entries c.place (c.at + 1) log) []) b

pub entries-shut : (c : Cursor) (log : Closed) → log.until ≤ c.at → cursor_entries c log ≡ []
entries-shut c log ge =
    let b : nat_lt c.at log.until ≡ false = grind (arith, nat_tests) in
    ap (λ t. cond t (row_entries c.at (rest_of c log) ++ TickAt c.at ∷ log_entries c.place (c.at + 1) log) []) b

pub waits_open : (c : Cursor) (log : Closed) → 0 < length (cursor_entries c log) → c.at < log.until
waits_open c log some =
    ⊎_elim (λ (lt : c.at < log.until). lt) (λ (ge : log.until ≤ c.at). absurd (omega (arith, ap length (entries-shut c log ge)))) (cases_lt c.at log.until)

-- a span begins with its first instant
pub span-first : (p : ℕ) (es : List Element) (start until : ℕ) → start < until → span_entries p es start until ≡ row_entries start (shown p start es) ++ TickAt start ∷ span_entries p es (start + 1) until
span-first p es start until lt =
    let n : until - start ≡ suc (until - (start + 1)) = omega arith in
    ap (λ k. flat_map (instant_entries p es) (range_with_len start k)) n ∙ append_assoc (row_entries start (shown p start es)) (TickAt start ∷ []) (span_entries p es (start + 1) until)

pub span-none : (p : ℕ) (es : List Element) (start until : ℕ) → until ≤ start → span_entries p es start until ≡ []
span-none p es start until ge =
    let n : until - start ≡ 0 = omega arith in
    ap (λ k. flat_map (instant_entries p es) (range_with_len start k)) n

-- a cursor that has passed nothing of its instant
pub entries-fresh : (c : Cursor) (log : Closed) → c.passed ≡ 0 → cursor_entries c log ≡ log_entries c.place c.at log
entries-fresh c log none =
    ⊎_elim
    (λ (lt : c.at < log.until).
    entries-open c log lt
    ∙ ap (λ k. row_entries c.at (drop k (shown c.place c.at log.elements)) ++ TickAt c.at ∷ log_entries c.place (c.at + 1) log) none
    ∙ sym (span-first c.place log.elements c.at log.until lt))
    (λ (ge : log.until ≤ c.at). entries-shut c log ge ∙ sym (span-none c.place log.elements c.at log.until ge))
    (cases_lt c.at log.until)

length-row_entries : (t : ℕ) (es : List Element) → length (row_entries t es) ≡ length es
length-row_entries t es = let f : Element → Entry Row = λ e. RowAt t (entering e) in length-map es f

-- of the `count` entries of the cursor at the start `left` are still to leave
pub record IsPassing (start : Cursor) (count left : ℕ) (c : Cursor) (log : Closed) : Type 0 where
  pub rest : drop left (cursor_entries c log) ≡ drop count (cursor_entries start log)
  pub enough : left ≤ length (cursor_entries c log)
  pub within : IsWithin c log
  pub goes_on : GoesOn log start c

pub passing_open : {start : Cursor} {count left : ℕ} (c : Cursor) (log : Closed) → IsPassing start count left c log → 0 < left → c.at < log.until
passing_open c log h some = waits_open c log (omega (arith, h.enough))

-- rows of the instant leave
pub IsPassing-rows : {start : Cursor} {count left : ℕ} (c : Cursor) (log : Closed) (from to : ℕ) → rest_of c log ≡ slice_range log.elements from to → to ≤ length log.elements → IsPassing start count left c log → 0 < left → left ≤ to - from → IsPassing start count 0 (record { place = c.place; at = c.at; passed = c.passed + left; hint = c.hint }) log
IsPassing-rows {start} {count} {left} c log from to is end h some few =
    let d : Cursor = record { place = c.place; at = c.at; passed = c.passed + left; hint = c.hint } in
    let lt = passing_open c log h some in
    let g : Element → Entry Row = λ e. RowAt c.at (entering e) in
    let tail = TickAt c.at ∷ log_entries c.place (c.at + 1) log in
    let n = ap length is ∙ length-slice_range log.elements from to end in
    let m = length-row_entries c.at (rest_of c log) in
    let after : drop left (cursor_entries c log) ≡ cursor_entries d log =
    ap (drop left) (entries-open c log lt)
    ∙ drop-append-le left (row_entries c.at (rest_of c log)) tail (omega arith)
    ∙ ap (λ xs. xs ++ tail) (drop-map g left (rest_of c log))
    ∙ ap (λ xs. row_entries c.at xs ++ tail) (drop-drop left c.passed (shown c.place c.at log.elements))
    ∙ sym (entries-open d log lt) in
    record {
      rest = sym after ∙ h.rest;
      enough = omega arith;
      within = omega (arith, n, length-drop c.passed (shown c.place c.at log.elements));
      goes_on = record { place = h.goes_on.place; next = h.goes_on.next };
    }

-- the rest of the instant leaves
pub IsPassing-instant : {start : Cursor} {count left : ℕ} (c : Cursor) (log : Closed) (from to : ℕ) → rest_of c log ≡ slice_range log.elements from to → to ≤ length log.elements → IsPassing start count left c log → to - from < left → IsPassing start count (left - (to - from + 1)) (record { place = c.place; at = c.at + 1; passed = 0; hint = to }) log
IsPassing-instant {start} {count} {left} c log from to is end h much =
    let d : Cursor = record { place = c.place; at = c.at + 1; passed = 0; hint = to } in
    let lt = passing_open c log h (omega arith) in
    let rows = row_entries c.at (rest_of c log) in
    let tail = log_entries c.place (c.at + 1) log in
    let n = ap length is ∙ length-slice_range log.elements from to end in
    let m = length-row_entries c.at (rest_of c log) in
    let whole : cursor_entries c log ≡ (rows ++ TickAt c.at ∷ []) ++ tail = entries-open c log lt ∙ sym (append_assoc rows (TickAt c.at ∷ []) tail) in
    let l = length-append rows (TickAt c.at ∷ []) in
    let next : drop (to - from + 1) (cursor_entries c log) ≡ cursor_entries d log =
    ap (drop (to - from + 1)) whole ∙ drop_at (rows ++ TickAt c.at ∷ []) tail (to - from + 1) (omega arith) ∙ sym (entries-fresh d log refl) in
    let k : (to - from + 1) + (left - (to - from + 1)) ≡ left = omega arith in
    record {
      rest =
          ap (drop (left - (to - from + 1))) (sym next)
          ∙ drop-drop (left - (to - from + 1)) (to - from + 1) (cursor_entries c log)
          ∙ ap (λ i. drop i (cursor_entries c log)) k
          ∙ h.rest;
      enough = omega (arith, h.enough, ap length next, length-drop (to - from + 1) (cursor_entries c log));
      within = omega arith;
      goes_on = record { place = h.goes_on.place; next = omega (arith, lt, h.goes_on.next) };
    }

front_of-rows : (t : ℕ) (es : List Element) (tail : List (Entry Row)) → 0 < length es → front_of (row_entries t es ++ tail) ≡ Some (front.Row t)
front_of-rows t [] tail some = absurd (omega arith)
front_of-rows t (e ∷ es) tail some = refl

pub front-row : (c : Cursor) (log : Closed) (from to : ℕ) → c.at < log.until → rest_of c log ≡ slice_range log.elements from to → to ≤ length log.elements → from < to → front_of (cursor_entries c log) ≡ Some (front.Row c.at)
front-row c log from to lt is end some =
    let n = ap length is ∙ length-slice_range log.elements from to end in
    ap front_of (entries-open c log lt) ∙ front_of-rows c.at (rest_of c log) (TickAt c.at ∷ log_entries c.place (c.at + 1) log) (omega arith)

-- with no rows left the tick comes first
pub entries-tick : (c : Cursor) (log : Closed) (from to : ℕ) → c.at < log.until → rest_of c log ≡ slice_range log.elements from to → to ≤ from → cursor_entries c log ≡ TickAt c.at ∷ log_entries c.place (c.at + 1) log
entries-tick c log from to lt is none =
    let n : to - from ≡ 0 = omega arith in
    entries-open c log lt ∙ ap (λ es. row_entries c.at es ++ TickAt c.at ∷ log_entries c.place (c.at + 1) log) (is ∙ ap (λ k. take k (drop from log.elements)) n)

pub front-tick : (c : Cursor) (log : Closed) (from to : ℕ) → c.at < log.until → rest_of c log ≡ slice_range log.elements from to → to ≤ from → front_of (cursor_entries c log) ≡ Some (front.Tick c.at)
front-tick c log from to lt is none = ap front_of (entries-tick c log from to lt is none)

pub IsFrontPart-tick : (c : Cursor) (log : Closed) (from to count : ℕ) → c.at < log.until → rest_of c log ≡ slice_range log.elements from to → to ≤ from → 0 < count → IsFrontPart count (cursor_entries c log) (Tick c.at)
IsFrontPart-tick c log from to count lt is none some =
    record { some = omega arith; few = omega arith; first = sym (ap (take 1) (entries-tick c log from to lt is none)) }

map-map : {A B C : Type 0} (f : B → C) (g : A → B) (xs : List A) → map f (map g xs) ≡ map (λ x. f (g x)) xs
map-map f g [] = refl
map-map f g (x ∷ xs) = ap (λ ys. f (g x) ∷ ys) (map-map f g xs)

pub IsFrontPart-rows : (c : Cursor) (log : Closed) (from to rows count : ℕ) (b : List (Bool × Row)) → c.at < log.until → rest_of c log ≡ slice_range log.elements from to → to ≤ length log.elements → 0 < rows → rows ≤ to - from → rows ≤ count → b ≡ map entering (slice_range log.elements from (from + rows)) → IsFrontPart count (cursor_entries c log) (Rows c.at b)
IsFrontPart-rows c log from to rows count b lt is end some few enough cut =
    let f : Bool × Row → Entry Row = RowAt c.at in
    let g : Element → Entry Row = λ e. RowAt c.at (entering e) in
    let tail = TickAt c.at ∷ log_entries c.place (c.at + 1) log in
    let n = ap length is ∙ length-slice_range log.elements from to end in
    let m = length-row_entries c.at (rest_of c log) in
    let x : b ≡ map entering (take rows (rest_of c log)) = cut ∙ ap (map entering) (slice_range-front log.elements from to rows few ∙ ap (take rows) (sym is)) in
    let y : map f b ≡ take rows (cursor_entries c log) =
    ap (map f) x
    ∙ map-map f entering (take rows (rest_of c log))
    ∙ sym (take-map g rows (rest_of c log))
    ∙ sym (take-append-le rows (row_entries c.at (rest_of c log)) tail (omega arith))
    ∙ ap (take rows) (sym (entries-open c log lt)) in
    let l = length-map b f in
    let k = ap length x ∙ length-map (take rows (rest_of c log)) entering ∙ length-take rows (rest_of c log) in
    let whole : length (map f b) ≡ rows = omega arith in
    record { some = omega arith; few = omega arith; first = y ∙ ap (λ i. take i (cursor_entries c log)) (sym whole) }

front_rows-rows : (t : ℕ) (es : List Element) (tail : List (Entry Row)) → front_rows (row_entries t es ++ TickAt t ∷ tail) ≡ row_entries t es
front_rows-rows t [] tail = refl
front_rows-rows t (e ∷ es) tail = ap (λ xs. RowAt t (entering e) ∷ xs) (front_rows-rows t es tail)

front_part-rows : (k t : ℕ) (es : List Element) (tail : List (Entry Row)) → 0 < length es → front_part k (row_entries t es ++ TickAt t ∷ tail) ≡ take k (row_entries t es)
front_part-rows k t [] tail some = absurd (omega arith)
front_part-rows k t (e ∷ es) tail some = ap (take k) (front_rows-rows t (e ∷ es) tail)

take-min : {X : Type 0} (k : ℕ) (xs : List X) → take (min k (length xs)) xs ≡ take k xs
take-min k xs =
    ⊎_elim
    (λ (lt : k < length xs). let e : min k (length xs) ≡ k = omega arith in ap (λ i. take i xs) e)
    (λ (ge : length xs ≤ k).
    let e : min k (length xs) ≡ length xs = omega arith in
    ap (λ i. take i xs) e ∙ take_all (length xs) xs (omega arith) ∙ sym (take_all k xs ge))
    (cases_lt k (length xs))

-- the most rows that the front has, up to k
pub rows-front_part : (c : Cursor) (log : Closed) (from to rows k : ℕ) (b : List (Bool × Row)) → c.at < log.until → rest_of c log ≡ slice_range log.elements from to → to ≤ length log.elements → from < to → rows ≡ min k (to - from) → b ≡ map entering (slice_range log.elements from (from + rows)) → map (RowAt c.at) b ≡ front_part k (cursor_entries c log)
rows-front_part c log from to rows k b lt is end some most cut =
    let f : Bool × Row → Entry Row = RowAt c.at in
    let g : Element → Entry Row = λ e. RowAt c.at (entering e) in
    let tail = log_entries c.place (c.at + 1) log in
    let n = ap length is ∙ length-slice_range log.elements from to end in
    let m = length-row_entries c.at (rest_of c log) in
    let x : b ≡ map entering (take rows (rest_of c log)) = cut ∙ ap (map entering) (slice_range-front log.elements from to rows (omega arith) ∙ ap (take rows) (sym is)) in
    let least : rows ≡ min k (length (row_entries c.at (rest_of c log))) = omega arith in
    ap (map f) x
    ∙ map-map f entering (take rows (rest_of c log))
    ∙ sym (take-map g rows (rest_of c log))
    ∙ ap (λ i. take i (row_entries c.at (rest_of c log))) least
    ∙ take-min k (row_entries c.at (rest_of c log))
    ∙ sym (front_part-rows k c.at (rest_of c log) tail (omega arith))
    ∙ ap (front_part k) (sym (entries-open c log lt))

pub tick-front_part : (c : Cursor) (log : Closed) (from to k : ℕ) → c.at < log.until → rest_of c log ≡ slice_range log.elements from to → to ≤ from → TickAt c.at ∷ [] ≡ front_part k (cursor_entries c log)
tick-front_part c log from to k lt is none = sym (ap (front_part k) (entries-tick c log from to lt is none))

pub length-entries : (c : Cursor) (log : Closed) (from to : ℕ) → c.at < log.until → All (λ e. e.instant < log.until) log.elements → rest_of c log ≡ slice_range log.elements from to → to ≤ length log.elements → length (cursor_entries c log) ≡ (to - from) + length (filter (is_waiting c.place (c.at + 1)) log.elements) + (log.until - c.at)
length-entries c log from to lt all is end =
    let n = ap length is ∙ length-slice_range log.elements from to end in
    let m = length-row_entries c.at (rest_of c log) in
    let tail = log_entries c.place (c.at + 1) log in
    let s = length-span c.place (c.at + 1) (log.until - (c.at + 1)) log.elements (All-weaker (λ e. e.instant < log.until) (λ e. e.instant < (c.at + 1) + (log.until - (c.at + 1))) (λ e k. omega arith) log.elements all) in
    let a = length-append (row_entries c.at (rest_of c log)) (TickAt c.at ∷ tail) in
    let e = ap length (entries-open c log lt) in
    omega arith

length-filter-le : {X : Type 0} (p : X → Bool) (xs : List X) → length (filter p xs) ≤ length xs
length-filter-le p [] = omega arith
length-filter-le {X} p (x ∷ xs) = here (p x) refl (length-filter-le p xs)
  where
    here : (b : Bool) → p x ≡ b → length (filter p xs) ≤ length xs → length (cond b (x ∷ filter p xs) (filter p xs)) ≤ suc (length xs)
    here true e h = omega arith
    here false e h = omega arith

pub passed-le : (c : Cursor) (log : Closed) (from to : ℕ) → rest_of c log ≡ slice_range log.elements from to → to ≤ length log.elements → IsWithin c log → c.passed + (to - from) ≤ length log.elements
passed-le c log from to is end within =
    let n = ap length is ∙ length-slice_range log.elements from to end in
    omega (arith, n, length-drop c.passed (shown c.place c.at log.elements), length-filter-le (is_shown c.place c.at) log.elements)
