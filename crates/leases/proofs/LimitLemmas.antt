-- The row limits that an engine keeps are those of its machine's queries.
use Rattle.std.proofs.Common.{◌≡◌, ◌≢◌, ℕ, zero, suc, ◌+◌, ◌-◌, ◌<◌, ◌≤◌, ◌==◌, ◌&&◌, ◌||◌, min, nat_lt, Bool, true, false, not, cond, fold, Option, None, List, [], ◌∷◌, ◌++◌, filter, length, map, set, refl, sym, ap, ap₂, ◌∙◌, subst, arith, append_assoc, append-nil, lt-ltb, ltb-true, eq-eqb}
use Rattle.std.specs.List.{list_any}
use Rattle.std.proofs.lemmas.Bool.{ltb-false, ne_eqb}
use Rattle.std.proofs.lemmas.List.Elements.{filter-append}
use Rattle.reference.specs.Commands.{change, is_crowded, is_past, rows_of_each}
use Rattle.reference.specs.Commands as machine
use Rattle.reference.specs.Machine.{Place, Registered}
use Rattle.reference.specs.Named.{name_of_registered}
use Rattle.reference.specs.declared.limits.TheConstants.{MAX_STREAM_ROWS}
use Rattle.stream_store.specs.Beside.{IsLimit}
use Rattle.leases.specs.Undropped.{UndroppedQueries, least, limit_at, limits_from, limits_in, tightened, undropped_of}
use Rattle.leases.specs.declared.undropped.RowLimit.{RowLimit}
use Rattle.leases.proofs.DropLemmas.{names_dropped}

abbrev pub kept : List (Option (List ℕ)) → List RowLimit → UndroppedQueries
kept names limits = record { names = names; limits = limits }

-- THE LEAST LIMIT of a stream
not_lt : (x a : ℕ) → a ≤ x → nat_lt x a ≡ false
not_lt x a h = here (nat_lt x a) refl
  where
    here : (b : Bool) → nat_lt x a ≡ b → nat_lt x a ≡ false
    here true e = let l : x < a = ltb-true x a e in absurd (omega (arith, l, h))
    here false e = e

min_lt : (x y a : ℕ) → nat_lt (min x y) a ≡ (nat_lt x a || nat_lt y a)
min_lt x y a = here (nat_lt x a) (nat_lt y a) refl refl
  where
    here : (b c : Bool) → nat_lt x a ≡ b → nat_lt y a ≡ c → nat_lt (min x y) a ≡ (b || c)
    here true c e f = let l : x < a = ltb-true x a e in lt-ltb (min x y) a (omega (arith, l))
    here false true e f = let l : y < a = ltb-true y a f in lt-ltb (min x y) a (omega (arith, l))
    here false false e f = let l : a ≤ x = ltb-false x a e in let k : a ≤ y = ltb-false y a f in not_lt (min x y) a (omega (arith, l, k))

or_assoc : (a b c : Bool) → ((a || b) || c) ≡ (a || (b || c))
or_assoc true b c = refl
or_assoc false b c = refl

limit_lt : (rows a : ℕ) (p : Place) → a ≤ MAX_STREAM_ROWS → nat_lt (min (p.arrivals + rows) MAX_STREAM_ROWS) a ≡ nat_lt rows (a - p.arrivals)
limit_lt rows a p few = here (nat_lt rows (a - p.arrivals)) refl
  where
    here : (b : Bool) → nat_lt rows (a - p.arrivals) ≡ b → nat_lt (min (p.arrivals + rows) MAX_STREAM_ROWS) a ≡ b
    here true e = let l : rows < a - p.arrivals = ltb-true rows (a - p.arrivals) e in lt-ltb (min (p.arrivals + rows) MAX_STREAM_ROWS) a (omega (arith, l))
    here false e = let l : a - p.arrivals ≤ rows = ltb-false rows (a - p.arrivals) e in not_lt (min (p.arrivals + rows) MAX_STREAM_ROWS) a (omega (arith, l, few))

or_nothing : (b : Bool) → b ≡ (b || false)
or_nothing true = refl
or_nothing false = refl

-- the limit is of the stream, and fewer rows than so many
abbrev is_reached : ℕ → ℕ → RowLimit → Bool
is_reached n a l = (l.stream == n) && nat_lt l.most a

tightened_lt : (n a most : ℕ) (l : RowLimit) → nat_lt (tightened n most l) a ≡ (nat_lt most a || is_reached n a l)
tightened_lt n a most l = here (l.stream == n)
  where
    here : (b : Bool) → nat_lt (cond b (min most l.most) most) a ≡ (nat_lt most a || (b && nat_lt l.most a))
    here true = min_lt most l.most a
    here false = or_nothing (nat_lt most a)

least_lt : (n a most : ℕ) (ls : List RowLimit) → nat_lt (fold (tightened n) most ls) a ≡ (nat_lt most a || list_any (is_reached n a) ls)
least_lt n a most [] = or_nothing (nat_lt most a)
least_lt n a most (l ∷ ls) =
    least_lt n a (tightened n most l) ls
    ∙ ap (λ b. b || list_any (is_reached n a) ls) (tightened_lt n a most l)
    ∙ or_assoc (nat_lt most a) (is_reached n a l) (list_any (is_reached n a) ls)

any_append : (p : RowLimit → Bool) (xs ys : List RowLimit) → list_any p (xs ++ ys) ≡ (list_any p xs || list_any p ys)
any_append p [] ys = refl
any_append p (x ∷ xs) ys = ap (λ b. p x || b) (any_append p xs ys) ∙ sym (or_assoc (p x) (list_any p xs) (list_any p ys))

reached_places : (n m rows a : ℕ) (ps : List Place) → a ≤ MAX_STREAM_ROWS → list_any (is_reached n a) (map (limit_at m rows) ps) ≡ list_any (is_past n a rows) ps
reached_places n m rows a [] few = refl
reached_places n m rows a (p ∷ ps) few = ap₂ (λ x y. ((p.stream == n) && x) || y) (limit_lt rows a p few) (reached_places n m rows a ps few)

crowded : (n a : ℕ) (q : Registered) (b : Bool) → (not q.is_dropped && nat_lt 2 (length q.places)) ≡ b → is_crowded n a q ≡ (b && list_any (is_past n a (rows_of_each (length q.places))) q.places)
crowded n a q b e = assoc (not q.is_dropped) (nat_lt 2 (length q.places)) (list_any (is_past n a (rows_of_each (length q.places))) q.places) ∙ ap (λ c. c && list_any (is_past n a (rows_of_each (length q.places))) q.places) e
  where
    assoc : (x y z : Bool) → (x && (y && z)) ≡ ((x && y) && z)
    assoc true y z = refl
    assoc false y z = refl

reached_query : (n a k : ℕ) (q : Registered) → a ≤ MAX_STREAM_ROWS → list_any (is_reached n a) (limits_in k q) ≡ is_crowded n a q
reached_query n a k q few = here (not q.is_dropped && nat_lt 2 (length q.places)) refl
  where
    here : (b : Bool) → (not q.is_dropped && nat_lt 2 (length q.places)) ≡ b → list_any (is_reached n a) (cond b (map (limit_at k (rows_of_each (length q.places))) q.places) []) ≡ is_crowded n a q
    here true e = reached_places n k (rows_of_each (length q.places)) a q.places few ∙ sym (crowded n a q true e)
    here false e = sym (crowded n a q false e)

reached : (n a k : ℕ) (qs : List Registered) → a ≤ MAX_STREAM_ROWS → list_any (is_reached n a) (limits_from k qs) ≡ list_any (is_crowded n a) qs
reached n a k [] few = refl
reached n a k (q ∷ qs) few = any_append (is_reached n a) (limits_in k q) (limits_from (suc k) qs) ∙ ap₂ (λ x y. x || y) (reached_query n a k q few) (reached n a (suc k) qs few)

-- IT IS THE ROW LIMIT of the queries
pub is_limit : (n : ℕ) (qs : List Registered) → IsLimit n (least n (limits_from 0 qs)) qs
is_limit n qs = record {
  crowds = λ a few. sym (least_lt n a MAX_STREAM_ROWS (limits_from 0 qs) ∙ ap₂ (λ x y. x || y) (not_lt MAX_STREAM_ROWS a few) (reached n a 0 qs few));
}

-- ONE QUERY MORE
pub limits_more : (k n : ℕ) (qs : List Registered) (q : Registered) → n ≡ k + length qs → limits_from k qs ++ limits_in n q ≡ limits_from k (qs ++ q ∷ [])
limits_more k n [] q e =
    let same : n ≡ k = omega (arith, e) in
    ap (λ m. limits_in m q) same ∙ sym (append-nil (limits_in k q))
limits_more k n (r ∷ qs) q e = append_assoc (limits_in k r) (limits_from (suc k) qs) (limits_in n q) ∙ ap (λ ls. limits_in k r ++ ls) (limits_more (suc k) n qs q (omega (arith, e)))

-- ONE QUERY CHANGED, and neither its name nor its limits
names_again : (f : Registered → Registered) (n : ℕ) (qs : List Registered) → ((q : Registered) → name_of_registered (f q) ≡ name_of_registered q) → map name_of_registered (change n f qs) ≡ map name_of_registered qs
names_again f n [] h = refl
names_again f zero (q ∷ qs) h = ap (λ z. z ∷ map name_of_registered qs) (h q)
names_again f (suc n) (q ∷ qs) h = ap (λ zs. name_of_registered q ∷ zs) (names_again f n qs h)

limits_again : (f : Registered → Registered) (k n : ℕ) (qs : List Registered) → ((q : Registered) (m : ℕ) → limits_in m (f q) ≡ limits_in m q) → limits_from k (change n f qs) ≡ limits_from k qs
limits_again f k n [] h = refl
limits_again f k zero (q ∷ qs) h = ap (λ ls. ls ++ limits_from (suc k) qs) (h q k)
limits_again f k (suc n) (q ∷ qs) h = ap (λ ls. limits_in k q ++ ls) (limits_again f (suc k) n qs h)

pub undropped_again : (f : Registered → Registered) (n : ℕ) (qs : List Registered) → ((q : Registered) → name_of_registered (f q) ≡ name_of_registered q) → ((q : Registered) (m : ℕ) → limits_in m (f q) ≡ limits_in m q)
    → undropped_of (change n f qs) ≡ undropped_of qs
undropped_again f n qs names limits = ap₂ kept (names_again f n qs names) (limits_again f 0 n qs limits)

-- ONE QUERY DROPPED
abbrev without : ℕ → List RowLimit → List RowLimit
without n ls = filter (λ (l : RowLimit). not (l.query == n)) ls

all_leave : (n rows : ℕ) (ps : List Place) → without n (map (limit_at n rows) ps) ≡ []
all_leave n rows [] = refl
all_leave n rows (p ∷ ps) = let e : (n == n) ≡ true = eq-eqb n n refl in rw e (all_leave n rows ps)

none_leaves : (n k rows : ℕ) (ps : List Place) → k ≢ n → without n (map (limit_at k rows) ps) ≡ map (limit_at k rows) ps
none_leaves n k rows [] ne = refl
none_leaves n k rows (p ∷ ps) ne = let e : (k == n) ≡ false = ne_eqb k n ne in rw e (ap (λ ls. limit_at k rows p ∷ ls) (none_leaves n k rows ps ne))

own_leave : (n : ℕ) (q : Registered) → without n (limits_in n q) ≡ []
own_leave n q = here (not q.is_dropped && nat_lt 2 (length q.places))
  where
    here : (b : Bool) → without n (cond b (map (limit_at n (rows_of_each (length q.places))) q.places) []) ≡ []
    here true = all_leave n (rows_of_each (length q.places)) q.places
    here false = refl

others_stay : (n k : ℕ) (q : Registered) → k ≢ n → without n (limits_in k q) ≡ limits_in k q
others_stay n k q ne = here (not q.is_dropped && nat_lt 2 (length q.places))
  where
    here : (b : Bool) → without n (cond b (map (limit_at k (rows_of_each (length q.places))) q.places) []) ≡ cond b (map (limit_at k (rows_of_each (length q.places))) q.places) []
    here true = none_leaves n k (rows_of_each (length q.places)) q.places ne
    here false = refl

later_stay : (n k : ℕ) (qs : List Registered) → n < k → without n (limits_from k qs) ≡ limits_from k qs
later_stay n k [] h = refl
later_stay n k (q ∷ qs) h =
    filter-append (λ (l : RowLimit). not (l.query == n)) (limits_in k q) (limits_from (suc k) qs)
    ∙ ap₂ (λ x y. x ++ y) (others_stay n k q (λ e. omega (arith, e, h))) (later_stay n (suc k) qs (omega (arith, h)))

limits_less : (n k j : ℕ) (qs : List Registered) → n ≡ k + j → without n (limits_from k qs) ≡ limits_from k (change j machine.dropped qs)
limits_less n k j [] e = refl
limits_less n k zero (q ∷ qs) e =
    let same : n ≡ k = omega (arith, e) in
    filter-append (λ (l : RowLimit). not (l.query == n)) (limits_in k q) (limits_from (suc k) qs)
    ∙ ap₂ (λ x y. x ++ y) (subst (λ m. without n (limits_in m q) ≡ []) same (own_leave n q)) (later_stay n (suc k) qs (omega (arith, same)))
limits_less n k (suc j) (q ∷ qs) e =
    filter-append (λ (l : RowLimit). not (l.query == n)) (limits_in k q) (limits_from (suc k) qs)
    ∙ ap₂ (λ x y. x ++ y) (others_stay n k q (λ same. omega (arith, e, same))) (limits_less n (suc k) j qs (omega (arith, e)))

pub undropped_less : (qs : List Registered) (n : ℕ) → kept (set (map name_of_registered qs) n None) (filter (λ (l : RowLimit). not (l.query == n)) (limits_from 0 qs)) ≡ undropped_of (change n machine.dropped qs)
undropped_less qs n = ap₂ kept (names_dropped qs n) (limits_less n 0 n qs (omega arith))
