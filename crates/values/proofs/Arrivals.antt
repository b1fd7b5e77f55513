-- The order of arrival: between instants it decides nothing, and within one instant it decides windows of last rows alone.
use Rattle.std.proofs.Common.{◌≡◌, ℕ, suc, ◌<◌, ◌==◌, Bool, true, false, List, [], ◌∷◌, ◌++◌, map, filter, refl, sym, ap, ◌∙◌, arith}
use Rattle.std.specs.List.{AllByRecursion}
use Rattle.std.proofs.lemmas.Bool.Decides.{nat_tests}
use Rattle.values.specs.Row.{Row}
use Rattle.values.specs.Perm.{Perm, same, keep, flip, join}
use Rattle.values.specs.Window.{Element, Window, Instants, LastRows, is_later, numbered, shows, window_rows}
use Rattle.values.specs.Answers.{Resolved, shown_at, answers}
use Rattle.values.specs.Tables.{SameTables}
use Rattle.values.specs.Arrivals.{SameAtInstants, CameAlike, AllCameAlike}
use Rattle.values.proofs.Perms.{perm-filter, perm-map}
use Rattle.values.proofs.Windows.{perm-window_rows}
use Rattle.values.proofs.Worlds.{same-answers}
use Rattle.values.proofs.Renumber.{Alike, Tests, AllTests, first_tests, extend, itself_tests, numbers_rise, window_rows-alike}

by_test : {P : Type 0} (b : Bool) → (b ≡ true → P) → (b ≡ false → P) → P
by_test true t f = t refl
by_test false t f = f refl

-- EXCHANGES OF NEIGHBOURS

-- one list is the other after exchanges of neighbours of different instants
data Exchanged : List (ℕ × Row) → List (ℕ × Row) → Type 0 where
  as_is : (xs : List (ℕ × Row)) → Exchanged xs xs
  then_flip : (front : List (ℕ × Row)) (x y : ℕ × Row) (rest xs : List (ℕ × Row)) → (y.0 == x.0) ≡ false → Exchanged xs (front ++ x ∷ y ∷ rest) → Exchanged xs (front ++ y ∷ x ∷ rest)

behind : (x : ℕ × Row) (xs ys : List (ℕ × Row)) → Exchanged xs ys → Exchanged (x ∷ xs) (x ∷ ys)
behind x xs ys (as_is us) = as_is (x ∷ us)
behind x xs ys (then_flip front a b rest us h e) = then_flip (x ∷ front) a b rest (x ∷ us) h (behind x us (front ++ a ∷ b ∷ rest) e)

chained : (xs ys zs : List (ℕ × Row)) → Exchanged xs ys → Exchanged ys zs → Exchanged xs zs
chained xs ys zs e (as_is us) = e
chained xs ys zs e (then_flip front a b rest us h f) = then_flip front a b rest xs h (chained xs us (front ++ a ∷ b ∷ rest) e f)

-- an element goes past those of other instants
abbrev AllOther : ℕ → List (ℕ × Row) → Type 0
AllOther t [] = Unit {0}
AllOther t (y ∷ ys) = ((y.0 == t) ≡ false) × AllOther t ys

past : (x : ℕ × Row) (front rest : List (ℕ × Row)) → AllOther x.0 front → Exchanged (x ∷ (front ++ rest)) (front ++ x ∷ rest)
past x [] rest h = as_is (x ∷ rest)
past x (y ∷ front) rest h =
    chained (x ∷ y ∷ (front ++ rest)) (y ∷ x ∷ (front ++ rest)) (y ∷ (front ++ x ∷ rest))
    (then_flip [] x y (front ++ rest) (x ∷ y ∷ (front ++ rest)) h.0 (as_is (x ∷ y ∷ (front ++ rest))))
    (behind y (x ∷ (front ++ rest)) (front ++ x ∷ rest) (past x front rest h.1))

-- where the first element of an instant stands
record Found (x : ℕ × Row) (ys : List (ℕ × Row)) : Type 0 where
  front : List (ℕ × Row)
  rest : List (ℕ × Row)
  whole : ys ≡ front ++ x ∷ rest
  other : AllOther x.0 front

abbrev behind_first : List (ℕ × Row) → List (ℕ × Row)
behind_first [] = []
behind_first (x ∷ xs) = xs

found_first : (x y : ℕ × Row) (xs ys zs : List (ℕ × Row)) → y ∷ zs ≡ x ∷ xs → Found x (y ∷ ys)
found_first x y xs ys zs h =
    let e : y ≡ x = cc in
    record { front = []; rest = ys; whole = ap (λ v. v ∷ ys) e; other = tt }

found : (x : ℕ × Row) (xs ys : List (ℕ × Row)) → filter (λ e. e.0 == x.0) ys ≡ x ∷ xs → Found x ys
found x xs [] h = cc
found x xs (y ∷ ys) h =
    by_test (y.0 == x.0)
    (λ t. let k : y ∷ filter (λ e. e.0 == x.0) ys ≡ x ∷ xs = rw t at h in found_first x y xs ys (filter (λ e. e.0 == x.0) ys) k)
    (λ f. let k : filter (λ e. e.0 == x.0) ys ≡ x ∷ xs = rw f at h in
    let i = found x xs ys k in
    record { front = y ∷ i.front; rest = i.rest; whole = ap (λ v. y ∷ v) i.whole; other = (f, i.other) })

without_other : (t : ℕ) (x : ℕ × Row) (front rest : List (ℕ × Row)) → (x.0 == t) ≡ false → filter (λ e. e.0 == t) (front ++ x ∷ rest) ≡ filter (λ e. e.0 == t) (front ++ rest)
without_other t x [] rest h = rw h refl
without_other t x (y ∷ front) rest h =
    let i = without_other t x front rest h in
    by_test (y.0 == t) (λ k. rw k (ap (λ v. y ∷ v) i)) (λ k. rw k i)

only_others : (t : ℕ) (front rest : List (ℕ × Row)) → AllOther t front → filter (λ e. e.0 == t) (front ++ rest) ≡ filter (λ e. e.0 == t) rest
only_others t [] rest h = refl
only_others t (y ∷ front) rest h = rw h.0 (only_others t front rest h.1)

same_number : (a b : ℕ) → (a == b) ≡ true → a ≡ b
same_number a b h = grind (arith, nat_tests)

other_at : (t : ℕ) (x : ℕ × Row) → (x.0 == t) ≡ true → (front : List (ℕ × Row)) → AllOther x.0 front → AllOther t front
other_at t x k [] h = tt
other_at t x k (y ∷ front) h = (rw (sym (same_number x.0 t k)) h.0, other_at t x k front h.1)

rest_alike : (x : ℕ × Row) (xs front rest : List (ℕ × Row)) → SameAtInstants (x ∷ xs) (front ++ x ∷ rest) → AllOther x.0 front → SameAtInstants xs (front ++ rest)
rest_alike x xs front rest h other t =
    by_test (x.0 == t)
    (λ k. let o : AllOther t front = other_at t x k front other in
    let e : x ∷ filter (λ e. e.0 == t) xs ≡ x ∷ filter (λ e. e.0 == t) rest
    = (let a : filter (λ e. e.0 == t) (x ∷ xs) ≡ x ∷ filter (λ e. e.0 == t) xs = rw k refl in sym a) ∙ h t ∙ only_others t front (x ∷ rest) o ∙ (let b : filter (λ e. e.0 == t) (x ∷ rest) ≡ x ∷ filter (λ e. e.0 == t) rest = rw k refl in b) in
    ap behind_first e ∙ sym (only_others t front rest o))
    (λ k. (let a : filter (λ e. e.0 == t) (x ∷ xs) ≡ filter (λ e. e.0 == t) xs = rw k refl in sym a) ∙ h t ∙ without_other t x front rest k)

exchanged : (xs ys : List (ℕ × Row)) → SameAtInstants xs ys → Exchanged xs ys
exchanged [] [] h = as_is []
exchanged [] (y ∷ ys) h = let k : filter (λ e. e.0 == y.0) (y ∷ ys) ≡ [] = sym (h y.0) in let r : (y.0 == y.0) ≡ true = grind (arith, nat_tests) in let m : y ∷ filter (λ e. e.0 == y.0) ys ≡ [] = rw r at k in cc
exchanged (x ∷ xs) ys h =
    let r : (x.0 == x.0) ≡ true = grind (arith, nat_tests) in
    let k : filter (λ e. e.0 == x.0) ys ≡ x ∷ filter (λ e. e.0 == x.0) xs = sym (h x.0) ∙ (let a : filter (λ e. e.0 == x.0) (x ∷ xs) ≡ x ∷ filter (λ e. e.0 == x.0) xs = rw r refl in a) in
    let f = found x (filter (λ e. e.0 == x.0) xs) ys k in
    let g : SameAtInstants (x ∷ xs) (f.front ++ x ∷ f.rest) = rw f.whole at h in
    let i : Exchanged xs (f.front ++ f.rest) = exchanged xs (f.front ++ f.rest) (rest_alike x xs f.front f.rest g f.other) in
    rw f.whole (chained (x ∷ xs) (x ∷ (f.front ++ f.rest)) (f.front ++ x ∷ f.rest) (behind x xs (f.front ++ f.rest) i) (past x f.front f.rest f.other))

-- WHAT WINDOWS SHOW OF THEM

-- the elements of one list as those of the other, in which the same are later than each other, and numbered as the other's positions are
record Aligned (n : ℕ) (xs ys : List (ℕ × Row)) : Type 0 where
  elements : List Element
  moved : Perm elements (numbered n ys)
  alike : Alike (numbered n xs) elements
  tests : AllTests (numbered n xs) elements (numbered n xs) elements
  above : (m : ℕ) → m < n → AllByRecursion (λ f. m < f.arrival) elements

alike_itself : (es : List Element) → Alike es es
alike_itself [] = tt
alike_itself (e ∷ es) = ((refl, refl), alike_itself es)

tests_itself : (e : Element) (es : List Element) → Tests e e es es
tests_itself e [] = tt
tests_itself e (f ∷ es) = (refl, tests_itself e es)

all_tests_itself : (xs es : List Element) → AllTests xs xs es es
all_tests_itself [] es = tt
all_tests_itself (x ∷ xs) es = (tests_itself x es, all_tests_itself xs es)

-- of two instants the numbers do not count
later_apart : (a b c d : Element) → a.instant ≡ c.instant → b.instant ≡ d.instant → (a.instant == b.instant) ≡ false → is_later a b ≡ is_later c d
later_apart a b c d h k o = grind (arith, nat_tests)

flipped : (n : ℕ) (x y : ℕ × Row) (rest : List (ℕ × Row)) → (y.0 == x.0) ≡ false → Aligned n (x ∷ y ∷ rest) (y ∷ x ∷ rest)
flipped n x y rest h =
    let a : Element = record { arrival = n; instant = x.0; row = x.1 } in
    let b : Element = record { arrival = suc n; instant = y.0; row = y.1 } in
    let c : Element = record { arrival = suc n; instant = x.0; row = x.1 } in
    let d : Element = record { arrival = n; instant = y.0; row = y.1 } in
    let es : List Element = numbered (suc (suc n)) rest in
    let o : (x.0 == y.0) ≡ false = grind (arith, nat_tests) in
    let first : Tests a c es es = first_tests a c refl es es (alike_itself es) (numbers_rise n (suc (suc n)) rest (omega arith)) (numbers_rise (suc n) (suc (suc n)) rest (omega arith)) in
    let second : Tests b d es es = first_tests b d refl es es (alike_itself es) (numbers_rise (suc n) (suc (suc n)) rest (omega arith)) (numbers_rise n (suc (suc n)) rest (omega arith)) in
    let after_b : AllTests es es (b ∷ es) (d ∷ es) = extend b d refl es es es es (alike_itself es) (numbers_rise (suc n) (suc (suc n)) rest (omega arith)) (numbers_rise n (suc (suc n)) rest (omega arith)) (all_tests_itself es es) in
    let after_a : AllTests es es (a ∷ b ∷ es) (c ∷ d ∷ es) = extend a c refl es es (b ∷ es) (d ∷ es) (alike_itself es) (numbers_rise n (suc (suc n)) rest (omega arith)) (numbers_rise (suc n) (suc (suc n)) rest (omega arith)) after_b in
    record {
      elements = c ∷ d ∷ es;
      moved = flip c d es;
      alike = ((refl, refl), ((refl, refl), alike_itself es));
      tests = (
        (itself_tests a c refl, (later_apart a b c d refl refl o, first)),
        ((later_apart b a d c refl refl h, (itself_tests b d refl, second)), after_a),
      );
      above = λ m lt. (omega arith, (lt, numbers_rise m (suc (suc n)) rest (omega arith)));
    }

each_less : (m n : ℕ) → m < n → (es : List Element) → AllByRecursion (λ f. n < f.arrival) es → AllByRecursion (λ f. m < f.arrival) es
each_less m n h [] k = tt
each_less m n h (e ∷ es) k = (let j : n < e.arrival = k.0 in omega arith, each_less m n h es k.1)

aligned : (n : ℕ) (front : List (ℕ × Row)) (x y : ℕ × Row) (rest : List (ℕ × Row)) → (y.0 == x.0) ≡ false → Aligned n (front ++ x ∷ y ∷ rest) (front ++ y ∷ x ∷ rest)
aligned n [] x y rest h = flipped n x y rest h
aligned n (z ∷ front) x y rest h =
    let i = aligned (suc n) front x y rest h in
    let e : Element = record { arrival = n; instant = z.0; row = z.1 } in
    let es : List Element = numbered (suc n) (front ++ x ∷ y ∷ rest) in
    let up : AllByRecursion (λ f. n < f.arrival) es = numbers_rise n (suc n) (front ++ x ∷ y ∷ rest) (omega arith) in
    let also : AllByRecursion (λ f. n < f.arrival) i.elements = i.above n (omega arith) in
    record {
      elements = e ∷ i.elements;
      moved = keep e i.elements (numbered (suc n) (front ++ y ∷ x ∷ rest)) i.moved;
      alike = ((refl, refl), i.alike);
      tests = (
        (refl, first_tests e e refl es i.elements i.alike up also),
        extend e e refl es i.elements es i.elements i.alike up also i.tests,
      );
      above = λ m lt. (lt, i.above m (omega arith));
    }

window_exchanged : (start : ℕ) (w : Window) (t : ℕ) (xs ys : List (ℕ × Row)) → Exchanged xs ys → Perm (window_rows start w t (numbered 0 xs)) (window_rows start w t (numbered 0 ys))
window_exchanged start w t xs ys (as_is us) = same (window_rows start w t (numbered 0 us))
window_exchanged start w t xs ys (then_flip front x y rest us h e) =
    let a = aligned 0 front x y rest h in
    let before : List (ℕ × Row) = front ++ x ∷ y ∷ rest in
    let after : List (ℕ × Row) = front ++ y ∷ x ∷ rest in
    let same_rows : window_rows start w t (numbered 0 before) ≡ window_rows start w t a.elements
    = window_rows-alike start w t (numbered 0 before) a.elements a.alike a.tests in
    join (window_rows start w t (numbered 0 us)) (window_rows start w t (numbered 0 before)) (window_rows start w t (numbered 0 after))
    (window_exchanged start w t us before e)
    (rw same_rows (perm-window_rows start w t a.elements (numbered 0 after) a.moved))

-- WINDOWS BY INSTANTS

-- the window goes by instants, not by a number of rows
abbrev GoesByInstants : Window → Type 0
GoesByInstants (Instants r) = Unit {0}
GoesByInstants (LastRows columns n) = ⊥

-- the element without its number, which such a window does not ask for
abbrev plainly : ℕ × Row → Element
plainly x = record { arrival = 0; instant = x.0; row = x.1 }

shows_plainly : (start : ℕ) (w : Window) (t : ℕ) → GoesByInstants w → (es : List Element) (n : ℕ) (x : ℕ × Row) → shows start w t es (record { arrival = n; instant = x.0; row = x.1 }) ≡ shows start w t [] (plainly x)
shows_plainly start (Instants r) t g es n x = refl
shows_plainly start (LastRows columns k) t g es n x = absurd g

rows_plainly : (start : ℕ) (w : Window) (t : ℕ) → GoesByInstants w → (es : List Element) (n : ℕ) (xs : List (ℕ × Row))
    → map (λ (e : Element). e.row) (filter (shows start w t es) (numbered n xs)) ≡ map (λ (x : ℕ × Row). x.1) (filter (λ x. shows start w t [] (plainly x)) xs)
rows_plainly start w t g es n [] = refl
rows_plainly start w t g es n (x ∷ xs) =
    let i = rows_plainly start w t g es (suc n) xs in
    let s = shows_plainly start w t g es n x in
    by_test (shows start w t [] (plainly x)) (λ k. rw (s, k) (ap (λ v. x.1 ∷ v) i)) (λ k. rw (s, k) i)

window_reordered : (start : ℕ) (w : Window) (t : ℕ) → GoesByInstants w → (xs ys : List (ℕ × Row)) → Perm xs ys → Perm (window_rows start w t (numbered 0 xs)) (window_rows start w t (numbered 0 ys))
window_reordered start w t g xs ys p =
    rw (rows_plainly start w t g (numbered 0 xs) 0 xs, rows_plainly start w t g (numbered 0 ys) 0 ys)
    (perm-map (λ (x : ℕ × Row). x.1) (filter (λ x. shows start w t [] (plainly x)) xs) (filter (λ x. shows start w t [] (plainly x)) ys) (perm-filter (λ x. shows start w t [] (plainly x)) xs ys p))

-- EACH WINDOW AT ITS INPUT

window_alike : (start : ℕ) (w : Window) (t : ℕ) (xs ys : List (ℕ × Row)) → CameAlike w xs ys → Perm (window_rows start w t (numbered 0 xs)) (window_rows start w t (numbered 0 ys))
window_alike start (Instants r) t xs ys h = window_reordered start (Instants r) t tt xs ys h
window_alike start (LastRows columns n) t xs ys h = window_exchanged start (LastRows columns n) t xs ys (exchanged xs ys h)

tables_alike : (start : ℕ) (ws : List Window) (t : ℕ) (xss yss : List (List (ℕ × Row))) → AllCameAlike ws xss yss → SameTables (shown_at start ws t (map (numbered 0) xss)) (shown_at start ws t (map (numbered 0) yss))
tables_alike start [] t xss yss h = tt
tables_alike start (w ∷ ws) t [] [] h = tt
tables_alike start (w ∷ ws) t [] (ys ∷ yss) h = absurd h
tables_alike start (w ∷ ws) t (xs ∷ xss) [] h = absurd h
tables_alike start (w ∷ ws) t (xs ∷ xss) (ys ∷ yss) h = (window_alike start w t xs ys h.0, tables_alike start ws t xss yss h.1)

-- inputs in which the same elements came to each window, in an order that it does not tell apart, have the same answers
pub answers-came_alike : (q : Resolved) (start until : ℕ) (xss yss : List (List (ℕ × Row))) → AllCameAlike q.windows xss yss
    → answers q start until (map (numbered 0) xss) ≡ answers q start until (map (numbered 0) yss)
answers-came_alike q start until xss yss h =
    same-answers q start (map (numbered 0) xss) (map (numbered 0) yss) until (λ t le lt. tables_alike start q.windows t xss yss h)
