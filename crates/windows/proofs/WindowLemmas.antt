-- What windows show of elements in order.
use Rattle.std.proofs.Common.{◌≡◌, ℕ, suc, ◌+◌, ◌-◌, ◌≤◌, ◌<◌, ◌==◌, Bool, true, false, cond, min, ◌&&◌, ◌||◌, nat_lt, List, [], ◌∷◌, ◌++◌, filter, length, drop, refl, ap, ap₂, sym, ◌∙◌, arith, append-nil, true≢false, ◌⊎◌, inl, inr, ltb-true, ltb-false, lt-ltb, le-ltb, eqb-true, eq-eqb}
use Rattle.std.specs.declared.cmp.Ordering.{Ordering}
use Rattle.std.specs.declared.cmp.Ordering.TheVariants.{Less, Equal, Greater}
use Rattle.std.specs.Ordering.{is_eq, ordering_then}
use Rattle.values.specs.Row.{Row, row_cmp, same_row, value_at, value_cmp}
use Rattle.values.specs.Window.{Element, is_later, same_in}
use Rattle.values.proofs.Windows.{tally, tally-append}
use Rattle.windows.specs.Laws.{Each, is_of}
use Rattle.windows.specs.Latest.{key_in, last_of}
use Rattle.windows.proofs.LatestLemmas.{last_of-few}
use Rattle.windows.proofs.PartLemmas.{same_exact, same_self}

-- ---- every item
pub Each_map : {A : Type 0} (P Q : A → Type 0) → ((x : A) → P x → Q x) → (xs : List A) → Each P xs → Each Q xs
Each_map P Q f [] h = tt
Each_map P Q f (x ∷ xs) h = (f x h.0, Each_map P Q f xs h.1)

pub Each_append : {A : Type 0} (P : A → Type 0) (xs ys : List A) → Each P xs → Each P ys → Each P (xs ++ ys)
Each_append P [] ys h k = k
Each_append P (x ∷ xs) ys h k = (h.0, Each_append P xs ys h.1 k)

pub Each_front : {A : Type 0} (P : A → Type 0) (xs ys : List A) → Each P (xs ++ ys) → Each P xs
Each_front P [] ys h = tt
Each_front P (x ∷ xs) ys h = (h.0, Each_front P xs ys h.1)

pub Each_filter : {A : Type 0} (P : A → Type 0) (p : A → Bool) (xs : List A) → Each P xs → Each P (filter p xs)
Each_filter P p [] h = tt
Each_filter P p (x ∷ xs) h = here (p x) (Each_filter P p xs h.1)
  where
    here : (b : Bool) → Each P (filter p xs) → Each P (cond b (x ∷ filter p xs) (filter p xs))
    here true k = (h.0, k)
    here false k = k

Each_both : {A : Type 0} (P Q : A → Type 0) (xs : List A) → Each P xs → Each Q xs → Each (λ x. P x × Q x) xs
Each_both P Q [] h k = tt
Each_both P Q (x ∷ xs) h k = ((h.0, k.0), Each_both P Q xs h.1 k.1)

pub filter_each : {A : Type 0} (p q : A → Bool) (xs : List A) → Each (λ x. p x ≡ q x) xs → filter p xs ≡ filter q xs
filter_each p q [] h = refl
filter_each p q (x ∷ xs) h = ap (λ b. cond b (x ∷ filter p xs) (filter p xs)) h.0 ∙ ap (λ l. cond (q x) (x ∷ l) l) (filter_each p q xs h.1)

pub filter_through : {A : Type 0} (p s r : A → Bool) (xs : List A) → Each (λ x. (p x ≡ true → s x ≡ r x) × (p x ≡ false → s x ≡ false)) xs → filter s xs ≡ filter r (filter p xs)
filter_through p s r [] h = refl
filter_through p s r (x ∷ xs) h = here (p x) refl (filter_through p s r xs h.1)
  where
    here : (b : Bool) → p x ≡ b → filter s xs ≡ filter r (filter p xs) → cond (s x) (x ∷ filter s xs) (filter s xs) ≡ filter r (cond b (x ∷ filter p xs) (filter p xs))
    here true e k = ap (λ c. cond c (x ∷ filter s xs) (filter s xs)) (h.0.0 e) ∙ ap (λ l. cond (r x) (x ∷ l) l) k
    here false e k = ap (λ c. cond c (x ∷ filter s xs) (filter s xs)) (h.0.1 e) ∙ k

-- ---- how many pass
pub tally_none : (q : Element → Bool) (xs : List Element) → Each (λ x. q x ≡ false) xs → tally q xs ≡ 0
tally_none q [] h = refl
tally_none q (x ∷ xs) h = ap (λ b. cond b (suc (tally q xs)) (tally q xs)) h.0 ∙ tally_none q xs h.1

pub tally_each : (q r : Element → Bool) (xs : List Element) → Each (λ x. q x ≡ r x) xs → tally q xs ≡ tally r xs
tally_each q r [] h = refl
tally_each q r (x ∷ xs) h = ap (λ b. cond b (suc (tally q xs)) (tally q xs)) h.0 ∙ ap (λ n. cond (r x) (suc n) n) (tally_each q r xs h.1)

pub tally_same : (q r : Element → Bool) → ((x : Element) → q x ≡ r x) → (xs : List Element) → tally q xs ≡ tally r xs
tally_same q r e [] = refl
tally_same q r e (x ∷ xs) = ap (λ b. cond b (suc (tally q xs)) (tally q xs)) (e x) ∙ ap (λ n. cond (r x) (suc n) n) (tally_same q r e xs)

pub tally_through : (p q : Element → Bool) (xs : List Element) → Each (λ x. q x ≡ true → p x ≡ true) xs → tally q (filter p xs) ≡ tally q xs
tally_through p q [] h = refl
tally_through p q (x ∷ xs) h = here (p x) refl (q x) refl (tally_through p q xs h.1)
  where
    here : (b : Bool) → p x ≡ b → (c : Bool) → q x ≡ c → tally q (filter p xs) ≡ tally q xs → tally q (cond b (x ∷ filter p xs) (filter p xs)) ≡ cond c (suc (tally q xs)) (tally q xs)
    here true e c f k = ap (λ d. cond d (suc (tally q (filter p xs))) (tally q (filter p xs))) f ∙ ap (λ n. cond c (suc n) n) k
    here false e true f k = absurd (true≢false (sym (h.0 f) ∙ e))
    here false e false f k = k

pub tally_le : (q r : Element → Bool) → ((x : Element) → q x ≡ true → r x ≡ true) → (xs : List Element) → tally q xs ≤ tally r xs
tally_le q r f [] = omega arith
tally_le q r f (x ∷ xs) = here (q x) refl (r x) refl (tally_le q r f xs)
  where
    here : (b : Bool) → q x ≡ b → (c : Bool) → r x ≡ c → tally q xs ≤ tally r xs → cond b (suc (tally q xs)) (tally q xs) ≤ cond c (suc (tally r xs)) (tally r xs)
    here true e true g k = omega (arith, k)
    here true e false g k = absurd (true≢false (sym (f x e) ∙ g))
    here false e true g k = omega (arith, k)
    here false e false g k = k

-- ---- later
pub and_true : (a b : Bool) → (a && b) ≡ true → (a ≡ true) × (b ≡ true)
and_true true true h = (refl, refl)
and_true true false h = cc
and_true false b h = cc

and_both : (a b : Bool) → a ≡ true → b ≡ true → (a && b) ≡ true
and_both true true h k = refl
and_both true false h k = cc
and_both false b h k = cc

pub and_false : (a b : Bool) → b ≡ false → (a && b) ≡ false
and_false true b h = h
and_false false b h = refl

-- what `is_later` says of the numbers
later_or : (e f : Element) → is_later e f ≡ true → (m : Bool) → nat_lt e.instant f.instant ≡ m → (e.instant < f.instant) ⊎ ((e.instant ≡ f.instant) × (e.arrival < f.arrival))
later_or e f h true k = inl (ltb-true _ _ k)
later_or e f h false k =
    let r : (e.instant == f.instant && nat_lt e.arrival f.arrival) ≡ true = sym (ap (λ b. b || (e.instant == f.instant && nat_lt e.arrival f.arrival)) k) ∙ h in
    let p = and_true (e.instant == f.instant) (nat_lt e.arrival f.arrival) r in
    inr (eqb-true _ _ p.0, ltb-true _ _ p.1)

pub later_is : (e f : Element) → is_later e f ≡ true → (e.instant < f.instant) ⊎ ((e.instant ≡ f.instant) × (e.arrival < f.arrival))
later_is e f h = later_or e f h (nat_lt e.instant f.instant) refl

or_right : (a b : Bool) → b ≡ true → (a || b) ≡ true
or_right true b h = refl
or_right false b h = h

or_left : (a b : Bool) → a ≡ true → (a || b) ≡ true
or_left true b h = refl
or_left false b h = cc

is_later_of : (e f : Element) → (e.instant < f.instant) ⊎ ((e.instant ≡ f.instant) × (e.arrival < f.arrival)) → is_later e f ≡ true
is_later_of e f h = elim h [
  | inl l ↦ or_left _ _ (lt-ltb _ _ l)
  | inr r ↦ or_right (nat_lt e.instant f.instant) _ (and_both _ _ (eq-eqb _ _ r.0) (lt-ltb _ _ r.1))
]

pub later_through : (e f g : Element) → is_later e f ≡ true → is_later f g ≡ true → is_later e g ≡ true
later_through e f g h k = is_later_of e g (elim (later_is e f h) [
  | inl a ↦ elim (later_is f g k) [ inl b ↦ inl (omega (arith, a, b)) | inr b ↦ inl (omega (arith, a, b.0)) ]
  | inr a ↦ elim (later_is f g k) [ inl b ↦ inl (omega (arith, a.0, b)) | inr b ↦ inr (a.0 ∙ b.0, omega (arith, a.1, b.1)) ]
])

not_both : (e f : Element) → is_later e f ≡ true → is_later f e ≡ true → ⊥
not_both e f h k = elim (later_is e f h) [
  | inl a ↦ elim (later_is f e k) [ inl b ↦ omega (arith, a, b) | inr b ↦ omega (arith, a, b.0) ]
  | inr a ↦ elim (later_is f e k) [ inl b ↦ omega (arith, a.0, b) | inr b ↦ omega (arith, a.1, b.1) ]
]

pub not_later : (e f : Element) → is_later e f ≡ true → is_later f e ≡ false
not_later e f h = here (is_later f e) refl
  where
    here : (b : Bool) → is_later f e ≡ b → b ≡ false
    here true k = absurd (not_both e f h k)
    here false k = refl

pub not_itself : (e : Element) → is_later e e ≡ false
not_itself e = here (is_later e e) refl
  where
    here : (b : Bool) → is_later e e ≡ b → b ≡ false
    here true k = absurd (not_both e e k k)
    here false k = refl

-- ---- alike: equal in the columns
abbrev pub alike : List ℕ → Element → Element → Bool
alike columns e f = same_in columns e.row f.row

is_eq-then : (o p : Ordering) → is_eq (ordering_then o p) ≡ (is_eq o && is_eq p)
is_eq-then Less p = refl
is_eq-then Equal p = refl
is_eq-then Greater p = refl

-- alike ones have one key
pub same_key : (columns : List ℕ) (r s : Row) → same_in columns r s ≡ same_row (key_in columns r) (key_in columns s)
same_key [] r s = refl
same_key (c ∷ columns) r s =
    ap (λ b. is_eq (value_cmp (value_at r c) (value_at s c)) && b) (same_key columns r s) ∙ sym (is_eq-then (value_cmp (value_at r c) (value_at s c)) (row_cmp (key_in columns r) (key_in columns s)))

alike_keys : (columns : List ℕ) (e f : Element) → alike columns e f ≡ true → key_in columns e.row ≡ key_in columns f.row
alike_keys columns e f h = same_exact (key_in columns e.row) (key_in columns f.row) (sym (same_key columns e.row f.row) ∙ h)

keys_alike : (columns : List ℕ) (e f : Element) → key_in columns e.row ≡ key_in columns f.row → alike columns e f ≡ true
keys_alike columns e f h = same_key columns e.row f.row ∙ ap (λ k. same_row (key_in columns e.row) k) (sym h) ∙ same_self (key_in columns e.row)

by_cases : (a b : Bool) → (a ≡ true → b ≡ true) → (b ≡ true → a ≡ true) → a ≡ b
by_cases true true f g = refl
by_cases true false f g = sym (f refl)
by_cases false true f g = g refl
by_cases false false f g = refl

pub through : (columns : List ℕ) (x y z : Element) → alike columns x y ≡ true → alike columns x z ≡ alike columns y z
through columns x y z h =
    same_key columns x.row z.row ∙ ap (λ k. same_row k (key_in columns z.row)) (alike_keys columns x y h) ∙ sym (same_key columns y.row z.row)

pub turned : (columns : List ℕ) (x y : Element) → alike columns x y ≡ alike columns y x
turned columns x y =
    by_cases (alike columns x y) (alike columns y x) (λ h. keys_alike columns y x (sym (alike_keys columns x y h))) (λ h. keys_alike columns x y (sym (alike_keys columns y x h)))

-- alike to an element is of its key
pub alike_is_of : (columns : List ℕ) (e x : Element) → alike columns e x ≡ is_of columns (key_in columns e.row) x
alike_is_of columns e x = turned columns e x ∙ same_key columns x.row e.row

-- ---- those that fewer than n alike ones follow, and the others
abbrev pub last_each : List ℕ → ℕ → List Element → List Element
last_each columns n [] = []
last_each columns n (x ∷ xs) = cond (nat_lt (tally (alike columns x) xs) n) (x ∷ last_each columns n xs) (last_each columns n xs)

abbrev pub fallen_each : List ℕ → ℕ → List Element → List Element
fallen_each columns n [] = []
fallen_each columns n (x ∷ xs) = cond (nat_lt (tally (alike columns x) xs) n) (fallen_each columns n xs) (x ∷ fallen_each columns n xs)

tally_cond : (p : Element → Bool) (x : Element) (xs : List Element) (c : Bool) → p x ≡ false → tally p (cond c (x ∷ xs) xs) ≡ tally p xs
tally_cond p x xs true h = ap (λ b. cond b (suc (tally p xs)) (tally p xs)) h
tally_cond p x xs false h = refl

pub tally-last_each : (columns : List ℕ) (n : ℕ) (x : Element) (xs : List Element) → tally (alike columns x) (last_each columns n xs) ≡ min n (tally (alike columns x) xs)
tally-last_each columns n x [] = omega arith
tally-last_each columns n x (y ∷ xs) = here (alike columns x y) refl (nat_lt (tally (alike columns y) xs) n) refl (tally-last_each columns n x xs)
  where
    L : List Element
    L = last_each columns n xs

    T : ℕ
    T = tally (alike columns x) xs

    here : (b : Bool) → alike columns x y ≡ b → (c : Bool) → nat_lt (tally (alike columns y) xs) n ≡ c → tally (alike columns x) L ≡ min n T
        → tally (alike columns x) (cond c (y ∷ L) L) ≡ min n (cond (alike columns x y) (suc T) T)
    here false h c i k = tally_cond (alike columns x) y L c h ∙ k ∙ ap (min n) (sym (ap (λ d. cond d (suc T) T) h))
    here true h true i k =
        let a : tally (alike columns x) (y ∷ L) ≡ suc (tally (alike columns x) L) = ap (λ d. cond d (suc (tally (alike columns x) L)) (tally (alike columns x) L)) h in
        let b : cond (alike columns x y) (suc T) T ≡ suc T = ap (λ d. cond d (suc T) T) h in
        let t : tally (alike columns x) xs ≡ tally (alike columns y) xs = tally_same (alike columns x) (alike columns y) (λ z. through columns x y z h) xs in
        a ∙ (let e : suc (tally (alike columns x) L) ≡ min n (suc T) = omega (arith, k, t, ltb-true _ _ i) in e) ∙ ap (min n) (sym b)
    here true h false i k =
        let b : cond (alike columns x y) (suc T) T ≡ suc T = ap (λ d. cond d (suc T) T) h in
        let t : tally (alike columns x) xs ≡ tally (alike columns y) xs = tally_same (alike columns x) (alike columns y) (λ z. through columns x y z h) xs in
        (let e : tally (alike columns x) L ≡ min n (suc T) = omega (arith, k, t, ltb-false _ _ i) in e) ∙ ap (min n) (sym b)

pub last_each-again : (columns : List ℕ) (n : ℕ) (xs ys : List Element) → last_each columns n (xs ++ ys) ≡ last_each columns n (last_each columns n xs ++ ys)
last_each-again columns n [] ys = refl
last_each-again columns n (x ∷ xs) ys = here (nat_lt (tally (alike columns x) xs) n) refl (last_each-again columns n xs ys)
  where
    more : tally (alike columns x) (xs ++ ys) ≡ tally (alike columns x) xs + tally (alike columns x) ys
    more = tally-append (alike columns x) xs ys

    less : tally (alike columns x) (last_each columns n xs ++ ys) ≡ min n (tally (alike columns x) xs) + tally (alike columns x) ys
    less = tally-append (alike columns x) (last_each columns n xs) ys ∙ ap (λ z. z + tally (alike columns x) ys) (tally-last_each columns n x xs)

    here : (b : Bool) → nat_lt (tally (alike columns x) xs) n ≡ b → last_each columns n (xs ++ ys) ≡ last_each columns n (last_each columns n xs ++ ys)
        → cond (nat_lt (tally (alike columns x) (xs ++ ys)) n) (x ∷ last_each columns n (xs ++ ys)) (last_each columns n (xs ++ ys)) ≡ last_each columns n (cond b (x ∷ last_each columns n xs) (last_each columns n xs) ++ ys)
    here true i k = ap₂ (λ (m : ℕ) (l : List Element). cond (nat_lt m n) (x ∷ l) l) (omega (arith, more, less, ltb-true _ _ i)) k
    here false i k =
        ap (λ b. cond b (x ∷ last_each columns n (xs ++ ys)) (last_each columns n (xs ++ ys))) (le-ltb (tally (alike columns x) (xs ++ ys)) n (omega (arith, more, ltb-false _ _ i))) ∙ k

pub last_each-twice : (columns : List ℕ) (n : ℕ) (xs : List Element) → last_each columns n (last_each columns n xs) ≡ last_each columns n xs
last_each-twice columns n xs =
    ap (last_each columns n) (sym (append-nil (last_each columns n xs))) ∙ sym (last_each-again columns n xs []) ∙ ap (last_each columns n) (append-nil xs)

count_filter : (p : Element → Bool) (xs : List Element) → tally p xs ≡ length (filter p xs)
count_filter p [] = refl
count_filter p (x ∷ xs) = here (p x) (count_filter p xs)
  where
    here : (b : Bool) → tally p xs ≡ length (filter p xs) → cond b (suc (tally p xs)) (tally p xs) ≡ length (cond b (x ∷ filter p xs) (filter p xs))
    here true h = ap suc h
    here false h = h

count_part : (columns : List ℕ) (k : Row) (x : Element) (xs : List Element) → is_of columns k x ≡ true → tally (alike columns x) xs ≡ length (filter (is_of columns k) xs)
count_part columns k x xs h =
    let e : key_in columns x.row ≡ k = same_exact (key_in columns x.row) k h in
    tally_same (alike columns x) (is_of columns k) (λ y. alike_is_of columns x y ∙ ap (λ r. is_of columns r y) e) xs ∙ count_filter (is_of columns k) xs

-- of each key the last n stay
pub last_each-part : (columns : List ℕ) (n : ℕ) (k : Row) (xs : List Element) → filter (is_of columns k) (last_each columns n xs) ≡ last_of n (filter (is_of columns k) xs)
last_each-part columns n k [] = sym (last_of-few n [] (omega arith))
last_each-part columns n k (x ∷ xs) = here (is_of columns k x) refl (nat_lt (tally (alike columns x) xs) n) refl (last_each-part columns n k xs)
  where
    F : List Element
    F = filter (is_of columns k) xs

    L : List Element
    L = last_each columns n xs

    here : (b : Bool) → is_of columns k x ≡ b → (c : Bool) → nat_lt (tally (alike columns x) xs) n ≡ c → filter (is_of columns k) L ≡ last_of n F
        → filter (is_of columns k) (cond c (x ∷ L) L) ≡ last_of n (cond b (x ∷ F) F)
    here false h true i e = ap (λ b. cond b (x ∷ filter (is_of columns k) L) (filter (is_of columns k) L)) h ∙ e
    here false h false i e = e
    here true h true i e =
        let l : tally (alike columns x) xs ≡ length F = count_part columns k x xs h in
        ap (λ b. cond b (x ∷ filter (is_of columns k) L) (filter (is_of columns k) L)) h ∙ ap (λ l. x ∷ l) (e ∙ last_of-few n F (omega (arith, l, ltb-true _ _ i)))
        ∙ sym (last_of-few n (x ∷ F) (omega (arith, l, ltb-true _ _ i)))
    here true h false i e =
        let l : tally (alike columns x) xs ≡ length F = count_part columns k x xs h in
        let d : length (x ∷ F) - n ≡ suc (length F - n) = omega (arith, l, ltb-false _ _ i) in
        e ∙ sym (ap (λ j. drop j (x ∷ F)) d)
