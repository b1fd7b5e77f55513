-- Elements by instant and by arrival.
use Rattle.std.proofs.Common.{◌≡◌, ◌<◌, ◌≤◌, ◌+◌, ◌==◌, ℕ, zero, suc, Bool, true, false, ◌&&◌, ◌||◌, cond, nat_lt, nat_le, List, [], ◌∷◌, ◌++◌, length, map, get_or, refl, sym, ap, ◌∙◌, arith, ◌⊎◌, inl, inr, append-nil}
use Rattle.std.specs.List.{AllByRecursion, All, filter, flat_map, range_with_len}
use Rattle.std.proofs.lemmas.Bool.{cases_order, lt-leb, le-leb, lt-ltb, le-ltb, ne_eqb, eq-eqb, eqb-true}
use Rattle.std.proofs.lemmas.List.Elements.{filter-append}
use Rattle.std.proofs.lemmas.Grind.{flat_map-append}
use Rattle.values.specs.Window.{Element}
use Rattle.op_queue.specs.Closings.{IsInOrder}
use Rattle.stream_store.specs.Closing.{by_key}
use Rattle.stream_store.specs.OpenRows.{Rising}
use Rattle.stream_store.proofs.KeyLemmas.{filter_none, filter_all, each_from, each-append, each-kept}

-- ---- tests of lists
pub filter-map : {X Y : Type 0} (p : Y → Bool) (f : X → Y) (xs : List X) → filter p (map f xs) ≡ map f (filter (λ x. p (f x)) xs)
filter-map p f [] = refl
filter-map p f (x ∷ xs) = here (filter-map p f xs) (p (f x))
  where
    here : filter p (map f xs) ≡ map f (filter (λ x. p (f x)) xs) → (b : Bool) → cond b (f x ∷ filter p (map f xs)) (filter p (map f xs)) ≡ map f (cond b (x ∷ filter (λ x. p (f x)) xs) (filter (λ x. p (f x)) xs))
    here ih true = ap (λ ys. f x ∷ ys) ih
    here ih false = ih

filter_swap : {X : Type 0} (p q : X → Bool) (xs : List X) → filter p (filter q xs) ≡ filter q (filter p xs)
filter_swap p q [] = refl
filter_swap p q (x ∷ xs) = here (filter_swap p q xs) (p x) refl (q x) refl
  where
    here : filter p (filter q xs) ≡ filter q (filter p xs) → (a : Bool) → p x ≡ a → (b : Bool) → q x ≡ b → filter p (cond b (x ∷ filter q xs) (filter q xs)) ≡ filter q (cond a (x ∷ filter p xs) (filter p xs))
    here ih true h true i = rw (h, i) (ap (λ ys. x ∷ ys) ih)
    here ih true h false i = rw i ih
    here ih false h true i = rw h ih
    here ih false h false i = ih

pub filter_same_each : {X : Type 0} (P : X → Type 0) (p q : X → Bool) → ((x : X) → P x → p x ≡ q x) → (xs : List X) → AllByRecursion P xs → filter p xs ≡ filter q xs
filter_same_each P p q same [] h = refl
filter_same_each P p q same (x ∷ xs) h = rw (same x h.0) (ap (λ ys. cond (q x) (x ∷ ys) ys) (filter_same_each P p q same xs h.1))

-- ---- ranges
range_more : (a n : ℕ) → range_with_len a (suc n) ≡ range_with_len a n ++ (a + n) ∷ []
range_more a zero = ap (λ k. k ∷ []) (omega arith)
range_more a (suc n) = ap (λ ks. a ∷ ks) (range_more (a + 1) n ∙ ap (λ k. range_with_len (a + 1) n ++ k ∷ []) (omega arith))

same_parts : {X : Type 0} (f g : ℕ → List X) (a n : ℕ) → ((k : ℕ) → a ≤ k → k < a + n → f k ≡ g k) → flat_map f (range_with_len a n) ≡ flat_map g (range_with_len a n)
same_parts f g a zero h = refl
same_parts f g a (suc n) h = rw (h a (omega arith) (omega arith), same_parts f g (a + 1) n (λ k le lt. h k (omega (arith, le)) (omega (arith, lt)))) refl

-- one more key
pub by_key_more : (f : Element → ℕ) (n : ℕ) (es : List Element) → by_key f 0 (suc n) es ≡ by_key f 0 n es ++ filter (λ e. f e == n) es
by_key_more f n es =
    let g : ℕ → List Element = λ k. filter (λ e. f e == k) es in
    ap (flat_map g) (range_more 0 n ∙ ap (λ k. range_with_len 0 n ++ k ∷ []) (omega arith)) ∙ flat_map-append g (range_with_len 0 n) (n ∷ []) ∙ ap (λ ys. by_key f 0 n es ++ ys) (append-nil (g n))

-- lists that have the same elements of each key
pub by_key_same : (f : Element → ℕ) (a n : ℕ) (es gs : List Element) → ((k : ℕ) → a ≤ k → k < a + n → filter (λ e. f e == k) es ≡ filter (λ e. f e == k) gs) → by_key f a n es ≡ by_key f a n gs
by_key_same f a n es gs h = same_parts (λ k. filter (λ e. f e == k) es) (λ k. filter (λ e. f e == k) gs) a n h

-- a test goes through
pub filter-by_key : (p : Element → Bool) (f : Element → ℕ) (a n : ℕ) (es : List Element) → filter p (by_key f a n es) ≡ by_key f a n (filter p es)
filter-by_key p f a zero es = refl
filter-by_key p f a (suc n) es =
    filter-append p (filter (λ e. f e == a) es) (by_key f (a + 1) n es)
    ∙ ap (λ xs. xs ++ filter p (by_key f (a + 1) n es)) (filter_swap p (λ e. f e == a) es)
    ∙ ap (λ xs. filter (λ e. f e == a) (filter p es) ++ xs) (filter-by_key p f (a + 1) n es)

-- ---- elements that rise by a key
-- what passes a first test comes before what passes a second one
joined : (f : Element → ℕ) (p q r : ℕ → Bool) → ((m : ℕ) → r m ≡ (p m || q m)) → ((m n : ℕ) → m ≤ n → q m ≡ true → p n ≡ false) → (es : List Element) → Rising f es
    → filter (λ e. p (f e)) es ++ filter (λ e. q (f e)) es ≡ filter (λ e. r (f e)) es
joined f p q r either apart [] h = refl
joined f p q r either apart (e ∷ es) h = here (joined f p q r either apart es h.1) (p (f e)) refl (q (f e)) refl
  where
    ps : List Element
    ps = filter (λ e. p (f e)) es

    qs : List Element
    qs = filter (λ e. q (f e)) es

    rs : List Element
    rs = filter (λ e. r (f e)) es

    here : ps ++ qs ≡ rs → (a : Bool) → p (f e) ≡ a → (b : Bool) → q (f e) ≡ b → cond a (e ∷ ps) ps ++ cond b (e ∷ qs) qs ≡ cond (r (f e)) (e ∷ rs) rs
    here ih true i true j = let k : p (f e) ≡ false = apart (f e) (f e) (omega arith) j in let l : true ≡ false = sym i ∙ k in cc
    here ih true i false j = let k : r (f e) ≡ true = either (f e) ∙ ap (λ b. b || q (f e)) i in rw k (ap (λ xs. e ∷ xs) ih)
    here ih false i true j =
        let k : r (f e) ≡ true = either (f e) ∙ ap (λ b. b || q (f e)) i ∙ j in
        let none : ps ≡ [] = filter_none (λ e. p (f e)) es (each_from (λ g. f e ≤ f g) (λ g. p (f g) ≡ false) (λ g le. apart (f e) (f g) le j) es h.0) in
        rw k (ap (λ xs. xs ++ (e ∷ qs)) none ∙ ap (λ xs. e ∷ xs) (sym (ap (λ xs. xs ++ qs) none) ∙ ih))
    here ih false i false j = let k : r (f e) ≡ false = either (f e) ∙ ap (λ b. b || q (f e)) i ∙ j in rw k ih

abbrev pub within : ℕ → ℕ → ℕ → Bool
within a n m = nat_le a m && nat_lt m (a + n)

within_none : (a m : ℕ) → within a 0 m ≡ false
within_none a m = here (cases_order a m)
  where
    here : (a ≡ m) ⊎ ((a < m) ⊎ (m < a)) → within a 0 m ≡ false
    here (inl e) = rw (le-leb a m (omega (arith, e)), le-ltb m (a + 0) (omega (arith, e))) refl
    here (inr (inl e)) = rw (le-leb a m (omega (arith, e)), le-ltb m (a + 0) (omega (arith, e))) refl
    here (inr (inr e)) = rw (lt-leb a m e) refl

within_more : (a n m : ℕ) → within a (suc n) m ≡ ((m == a) || within (a + 1) n m)
within_more a n m = here (cases_order a m)
  where
    here : (a ≡ m) ⊎ ((a < m) ⊎ (m < a)) → within a (suc n) m ≡ ((m == a) || within (a + 1) n m)
    here (inl e) = rw (le-leb a m (omega (arith, e)), lt-ltb m (a + suc n) (omega (arith, e)), eq-eqb m a (sym e)) refl
    here (inr (inl e)) =
        rw (le-leb a m (omega (arith, e)), ne_eqb m a (λ i. omega (arith, e, i)), le-leb (a + 1) m (omega (arith, e))) (ap (λ k. nat_lt m k) (omega arith))
    here (inr (inr e)) = rw (lt-leb a m e, ne_eqb m a (λ i. omega (arith, e, i)), lt-leb (a + 1) m (omega (arith, e))) refl

later_apart : (a n m k : ℕ) → m ≤ k → within (a + 1) n m ≡ true → (k == a) ≡ false
later_apart a n m k le h = here (cases_order a m)
  where
    here : (a ≡ m) ⊎ ((a < m) ⊎ (m < a)) → (k == a) ≡ false
    here (inl e) = let i : within (a + 1) n m ≡ false = rw (lt-leb (a + 1) m (omega (arith, e))) refl in let l : true ≡ false = sym h ∙ i in cc
    here (inr (inl e)) = ne_eqb k a (λ i. omega (arith, e, i, le))
    here (inr (inr e)) = let i : within (a + 1) n m ≡ false = rw (lt-leb (a + 1) m (omega (arith, e))) refl in let l : true ≡ false = sym h ∙ i in cc

-- elements that rise by a key stand in the order of the key
pub by_key_rising : (f : Element → ℕ) (a n : ℕ) (es : List Element) → Rising f es → by_key f a n es ≡ filter (λ e. within a n (f e)) es
by_key_rising f a zero es h = sym (filter_none (λ e. within a 0 (f e)) es (none es))
  where
    none : (xs : List Element) → AllByRecursion (λ e. within a 0 (f e) ≡ false) xs
    none [] = tt
    none (x ∷ xs) = (within_none a (f x), none xs)
by_key_rising f a (suc n) es h =
    ap (λ xs. filter (λ e. f e == a) es ++ xs) (by_key_rising f (a + 1) n es h)
    ∙ joined f (λ m. m == a) (within (a + 1) n) (within a (suc n)) (within_more a n) (later_apart a n) es h

-- ---- by instant, then arrival
abbrev pub Before : Element → Element → Type 0
Before e g = (e.instant ≤ g.instant) × (e.instant ≡ g.instant → e.arrival ≤ g.arrival)

abbrev pub Ordered : List Element → Type 0
Ordered [] = Unit {0}
Ordered (e ∷ es) = AllByRecursion (Before e) es × Ordered es

pub rising_instants : (es : List Element) → Ordered es → Rising (λ e. e.instant) es
rising_instants [] h = tt
rising_instants (e ∷ es) h = (each_from (Before e) (λ g. e.instant ≤ g.instant) (λ g b. b.0) es h.0, rising_instants es h.1)

first_rises : (t : ℕ) (e : Element) (es : List Element) → e.instant ≡ t → AllByRecursion (Before e) es → AllByRecursion (λ g. e.arrival ≤ g.arrival) (filter (λ g. g.instant == t) es)
first_rises t e [] same h = tt
first_rises t e (g ∷ es) same h = here (first_rises t e es same h.1) (g.instant == t) refl
  where
    here : AllByRecursion (λ g. e.arrival ≤ g.arrival) (filter (λ g. g.instant == t) es) → (b : Bool) → (g.instant == t) ≡ b
        → AllByRecursion (λ g. e.arrival ≤ g.arrival) (cond b (g ∷ filter (λ g. g.instant == t) es) (filter (λ g. g.instant == t) es))
    here ih true i = (h.0.1 (same ∙ sym (eqb-true g.instant t i)), ih)
    here ih false i = ih

rising_at : (t : ℕ) (es : List Element) → Ordered es → Rising (λ e. e.arrival) (filter (λ e. e.instant == t) es)
rising_at t [] h = tt
rising_at t (e ∷ es) h = here (rising_at t es h.1) (e.instant == t) refl
  where
    here : Rising (λ e. e.arrival) (filter (λ e. e.instant == t) es) → (b : Bool) → (e.instant == t) ≡ b
        → Rising (λ e. e.arrival) (cond b (e ∷ filter (λ e. e.instant == t) es) (filter (λ e. e.instant == t) es))
    here ih true i = (first_rises t e es (eqb-true e.instant t i) h.0, ih)
    here ih false i = ih

-- ordered elements that are listed by arrival have at each instant what they had
same_at : (n t : ℕ) (es : List Element) → Ordered es → AllByRecursion (λ e. e.arrival < n) es
    → filter (λ e. e.instant == t) (by_key (λ e. e.arrival) 0 n es) ≡ filter (λ e. e.instant == t) es
same_at n t es h came =
    let here : List Element = filter (λ e. e.instant == t) es in
    filter-by_key (λ e. e.instant == t) (λ e. e.arrival) 0 n es
    ∙ by_key_rising (λ e. e.arrival) 0 n here (rising_at t es h)
    ∙ filter_all (λ e. within 0 n e.arrival) here
    (each_from (λ e. e.arrival < n) (λ e. within 0 n e.arrival ≡ true) (λ e lt. rw (le-leb 0 e.arrival (omega arith), lt-ltb e.arrival (0 + n) (omega (arith, lt))) refl) here
    (each-kept (λ e. e.arrival < n) (λ e. e.instant == t) es came))

-- ordered elements, listed by arrival and then by instant
pub by_instant_ordered : (a m n : ℕ) (es : List Element) → Ordered es → AllByRecursion (λ e. e.arrival < n) es
    → by_key (λ e. e.instant) a m (by_key (λ e. e.arrival) 0 n es) ≡ filter (λ e. within a m e.instant) es
by_instant_ordered a m n es h came =
    by_key_same (λ e. e.instant) a m (by_key (λ e. e.arrival) 0 n es) es (λ t le lt. same_at n t es h came)
    ∙ by_key_rising (λ e. e.instant) a m es (rising_instants es h)

pub ordered-append : (u : ℕ) (xs ys : List Element) → Ordered xs → Ordered ys → AllByRecursion (λ e. e.instant < u) xs → AllByRecursion (λ e. u ≤ e.instant) ys → Ordered (xs ++ ys)
ordered-append u [] ys h k low high = k
ordered-append u (x ∷ xs) ys h k low high = (
  each-append (Before x) xs ys h.0 (each_from (λ e. u ≤ e.instant) (Before x) (λ e le. (omega (arith, low.0, le), λ same. absurd (omega (arith, low.0, le, same)))) ys high),
  ordered-append u xs ys h.1 k low.1 high,
)

pub ordered-filter : (p : Element → Bool) (es : List Element) → Ordered es → Ordered (filter p es)
ordered-filter p [] h = tt
ordered-filter p (e ∷ es) h = here (ordered-filter p es h.1) (each-kept (Before e) p es h.0) (p e)
  where
    here : Ordered (filter p es) → AllByRecursion (Before e) (filter p es) → (b : Bool) → Ordered (cond b (e ∷ filter p es) (filter p es))
    here ih first true = (first, ih)
    here ih first false = ih

-- ---- facts by places
pub each_from_all : {X : Type 0} (P : X → Type 0) (xs : List X) → All P xs → AllByRecursion P xs
each_from_all P [] h = tt
each_from_all P (x ∷ xs) h = (h 0 x (omega arith), each_from_all P xs (λ k d lt. h (suc k) d (omega (arith, lt))))

pub all_from_each : {X : Type 0} (P : X → Type 0) (xs : List X) → AllByRecursion P xs → All P xs
all_from_each P [] h k d lt = absurd (omega (arith, lt))
all_from_each P (x ∷ xs) h zero d lt = h.0
all_from_each P (x ∷ xs) h (suc k) d lt = all_from_each P xs h.1 k d (omega (arith, lt))

pub ordered_from : (es : List Element) → IsInOrder es → Ordered es
ordered_from [] h = tt
ordered_from (e ∷ es) h = (
  each_from_all (Before e) es (λ k d lt. (h.instants 0 (suc k) d (omega arith) (omega (arith, lt)), λ same. h.arrivals 0 (suc k) d (omega arith) (omega (arith, lt)) same)),
  ordered_from es (record {
    instants = λ i j d le lt. h.instants (suc i) (suc j) d (omega (arith, le)) (omega (arith, lt));
    arrivals = λ i j d le lt same. h.arrivals (suc i) (suc j) d (omega (arith, le)) (omega (arith, lt)) same;
  }),
)

before_at : (es : List Element) → Ordered es → (i j : ℕ) (d : Element) → i ≤ j → j < length es → Before (get_or es i d) (get_or es j d)
before_at [] h i j d le lt = absurd (omega (arith, lt))
before_at (e ∷ es) h zero zero d le lt = (omega arith, λ same. omega arith)
before_at (e ∷ es) h zero (suc j) d le lt = all_from_each (Before e) es h.0 j d (omega (arith, lt))
before_at (e ∷ es) h (suc i) zero d le lt = absurd (omega (arith, le))
before_at (e ∷ es) h (suc i) (suc j) d le lt = before_at es h.1 i j d (omega (arith, le)) (omega (arith, lt))

pub in_order : (es : List Element) → Ordered es → IsInOrder es
in_order es h = record {
  instants = λ i j d le lt. (before_at es h i j d le lt).0;
  arrivals = λ i j d le lt same. (before_at es h i j d le lt).1 same;
}
