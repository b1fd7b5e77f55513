-- Rows that come into a window, and rows that leave it.
use Rattle.std.proofs.Common.{◌≡◌, ℕ, zero, suc, ◌+◌, ◌-◌, ◌≤◌, ◌<◌, Bool, true, false, cond, not, nat_lt, Some, None, List, [], ◌∷◌, ◌++◌, map, filter, length, take, drop, min, refl, ap, sym, ◌∙◌, arith, true≢false, ltb-true, ltb-false, lt-ltb, le-ltb}
use Rattle.std.proofs.lemmas.List.{length-append, length-map}
use Rattle.values.specs.Row.{Row}
use Rattle.values.specs.Window.{Element}
use Rattle.values.proofs.Windows.{tally, tally-append}
use Rattle.op_queue.specs.Signed.{weigh, loss, up, down, Turns}
use Rattle.windows.specs.Laws.{coming, is_of, rows_in_order}
use Rattle.windows.specs.Latest.{fallen_of, key_in, minus_of}
use Rattle.windows.proofs.WindowLemmas.{alike, alike_is_of, fallen_each, last_each, tally-last_each, tally_same, through, turned}

abbrev pub minus : Row → Bool × Row
minus r = (false, r)

weigh-take : {X : Type 0} (w : X → ℕ) (k : ℕ) (xs : List X) → weigh w (take k xs) ≤ weigh w xs
unfolding weigh
weigh-take w zero xs = omega arith
weigh-take w (suc k) [] = omega arith
weigh-take w (suc k) (x ∷ xs) = omega (arith, weigh-take w k xs)

up-minus : (w : Row → ℕ) (rs : List Row) → up w (map minus rs) ≡ 0
unfolding weigh
up-minus w [] = refl
up-minus w (r ∷ rs) = omega (arith, up-minus w rs)

down-minus : (w : Row → ℕ) (rs : List Row) → down w (map minus rs) ≡ weigh w rs
unfolding weigh
down-minus w [] = refl
down-minus w (r ∷ rs) = ap (λ n. w r + n) (down-minus w rs)

weigh-rows : (w : Row → ℕ) (es fs : List Element) → weigh w (rows_in_order (es ++ fs)) ≡ weigh w (rows_in_order es) + weigh w (rows_in_order fs)
unfolding weigh
weigh-rows w [] fs = omega arith
weigh-rows w (e ∷ es) fs = omega (arith, weigh-rows w es fs)

-- ---- all that come stay
up-coming : (w : Row → ℕ) (es : List Element) → up w (coming es) ≡ weigh w (rows_in_order es)
unfolding weigh
up-coming w [] = refl
up-coming w (e ∷ es) = ap (λ n. w e.row + n) (up-coming w es)

down-coming : (w : Row → ℕ) (es : List Element) → down w (coming es) ≡ 0
unfolding weigh
down-coming w [] = refl
down-coming w (e ∷ es) = omega (arith, down-coming w es)

pub all_come : (held es : List Element) → Turns (rows_in_order held) (coming es) (rows_in_order (held ++ es))
all_come held es = record {
  adds = record { weighs = λ w. omega (arith, up-coming w es, down-coming w es, weigh-rows w held es) };
  legal = record { fits = λ w k. omega (arith, weigh-take (loss w) k (coming es), down-coming w es) };
}

-- ---- some leave
split_at : (w : Row → ℕ) (e : Element) (all xs ys : List Element) (b : Bool) → weigh w (rows_in_order all) ≡ weigh w (rows_in_order xs) + weigh w (rows_in_order ys)
    → weigh w (rows_in_order (e ∷ all)) ≡ weigh w (rows_in_order (cond b (e ∷ xs) xs)) + weigh w (rows_in_order (cond (not b) (e ∷ ys) ys))
unfolding weigh
split_at w e all xs ys true h = omega (arith, h)
split_at w e all xs ys false h = omega (arith, h)

split : (p : Element → Bool) (w : Row → ℕ) (es : List Element) → weigh w (rows_in_order es) ≡ weigh w (rows_in_order (filter p es)) + weigh w (rows_in_order (filter (λ e. not (p e)) es))
unfolding weigh
split p w [] = omega arith
split p w (e ∷ es) = split_at w e es (filter p es) (filter (λ d. not (p d)) es) (p e) (split p w es)

pub some_leave : (p : Element → Bool) (es : List Element) → Turns (rows_in_order es) (map minus (rows_in_order (filter p es))) (rows_in_order (filter (λ e. not (p e)) es))
some_leave p es = record {
  adds = record { weighs = λ w. omega (arith, split p w es, up-minus w (rows_in_order (filter p es)), down-minus w (rows_in_order (filter p es))) };
  legal = record { fits = λ w k. omega (arith, split p w es, weigh-take (loss w) k (map minus (rows_in_order (filter p es))), down-minus w (rows_in_order (filter p es))) };
}

-- ---- one comes, and those leave that are not shown any more
split_each : (columns : List ℕ) (n : ℕ) (w : Row → ℕ) (es : List Element) → weigh w (rows_in_order es) ≡ weigh w (rows_in_order (fallen_each columns n es)) + weigh w (rows_in_order (last_each columns n es))
unfolding weigh
split_each columns n w [] = omega arith
split_each columns n w (e ∷ es) = here (nat_lt (tally (alike columns e) es) n) (split_each columns n w es)
  where
    here : (b : Bool) → weigh w (rows_in_order es) ≡ weigh w (rows_in_order (fallen_each columns n es)) + weigh w (rows_in_order (last_each columns n es))
        → weigh w (rows_in_order (e ∷ es)) ≡ weigh w (rows_in_order (cond b (fallen_each columns n es) (e ∷ fallen_each columns n es))) + weigh w (rows_in_order (cond b (e ∷ last_each columns n es) (last_each columns n es)))
    here true h = omega (arith, h)
    here false h = omega (arith, h)

pub one_comes : (columns : List ℕ) (n : ℕ) (held : List Element) (e : Element)
    → Turns (rows_in_order held) ((true, e.row) ∷ map minus (rows_in_order (fallen_each columns n (held ++ e ∷ [])))) (rows_in_order (last_each columns n (held ++ e ∷ [])))
unfolding weigh
one_comes columns n held e =
    let gone : List Row = rows_in_order (fallen_each columns n (held ++ e ∷ [])) in
    record {
      adds = record { weighs = λ w. omega (arith, split_each columns n w (held ++ e ∷ []), weigh-rows w held (e ∷ []), up-minus w gone, down-minus w gone) };
      legal = record { fits = λ w i. cut w i };
    }
  where
    cut : (w : Row → ℕ) (i : ℕ) → down w (take i ((true, e.row) ∷ map minus (rows_in_order (fallen_each columns n (held ++ e ∷ []))))) ≤ up w (take i ((true, e.row) ∷ map minus (rows_in_order (fallen_each columns n (held ++ e ∷ []))))) + weigh w (rows_in_order held)
    cut w zero = omega arith
    cut w (suc i) =
        omega (arith, split_each columns n w (held ++ e ∷ []), weigh-rows w held (e ∷ []), weigh-take (loss w) i (map minus (rows_in_order (fallen_each columns n (held ++ e ∷ [])))), down-minus w (rows_in_order (fallen_each columns n (held ++ e ∷ []))))

-- ---- which one leaves
-- fewer than n alike ones follow each
abbrev Short : List ℕ → ℕ → List Element → Type 0
Short columns n [] = Unit {0}
Short columns n (x ∷ xs) = (tally (alike columns x) xs < n) × Short columns n xs

length-last_each : (columns : List ℕ) (n : ℕ) (xs : List Element) → length (last_each columns n xs) ≤ length xs
length-last_each columns n [] = omega arith
length-last_each columns n (x ∷ xs) = here (nat_lt (tally (alike columns x) xs) n) (length-last_each columns n xs)
  where
    here : (b : Bool) → length (last_each columns n xs) ≤ length xs → length (cond b (x ∷ last_each columns n xs) (last_each columns n xs)) ≤ suc (length xs)
    here true h = omega (arith, h)
    here false h = omega (arith, h)

short_of : (columns : List ℕ) (n : ℕ) (xs : List Element) → last_each columns n xs ≡ xs → Short columns n xs
short_of columns n [] h = tt
short_of columns n (x ∷ xs) h = here (nat_lt (tally (alike columns x) xs) n) refl h (short_of columns n xs)
  where
    here : (b : Bool) → nat_lt (tally (alike columns x) xs) n ≡ b → cond b (x ∷ last_each columns n xs) (last_each columns n xs) ≡ x ∷ xs → (last_each columns n xs ≡ xs → Short columns n xs)
        → (tally (alike columns x) xs < n) × Short columns n xs
    here true i g k = (ltb-true _ _ i, k (ap (drop 1) g))
    here false i g k = absurd (let l : length (last_each columns n xs) ≡ suc (length xs) = ap length g in omega (arith, l, length-last_each columns n xs))

tally_push : (p : Element → Bool) (xs : List Element) (e : Element) (b : Bool) → p e ≡ b → tally p (xs ++ e ∷ []) ≡ tally p xs + cond b 1 0
tally_push p xs e true h = tally-append p xs (e ∷ []) ∙ ap (λ n. tally p xs + n) (ap (λ c. cond c (suc zero) zero) h)
tally_push p xs e false h = tally-append p xs (e ∷ []) ∙ ap (λ n. tally p xs + n) (ap (λ c. cond c (suc zero) zero) h)

both_alike : (columns : List ℕ) (e x : Element) → alike columns e x ≡ true → (zs : List Element) → tally (alike columns x) zs ≡ tally (alike columns e) zs
both_alike columns e x h zs = sym (tally_same (alike columns e) (alike columns x) (λ z. through columns e x z h) zs)

fallen_part : (columns : List ℕ) (n : ℕ) → 0 < n → (held : List Element) (e : Element) → Short columns n held
    → fallen_each columns n (held ++ e ∷ []) ≡ take (suc (tally (alike columns e) held) - n) (filter (alike columns e) held)
fallen_part columns n some [] e s = alone (nat_lt 0 n) (lt-ltb 0 n some) (suc 0 - n)
  where
    alone : (b : Bool) → b ≡ true → (k : ℕ) → cond b [] (e ∷ []) ≡ take k []
    alone true h zero = refl
    alone true h (suc k) = refl
    alone false h k = absurd (true≢false (sym h))
fallen_part columns n some (x ∷ held) e s = here (alike columns e x) refl (nat_lt (tally (alike columns x) (held ++ e ∷ [])) n) refl (fallen_part columns n some held e s.1)
  where
    F : List Element
    F = filter (alike columns e) held

    T : ℕ
    T = tally (alike columns e) held

    here : (b : Bool) → alike columns e x ≡ b → (c : Bool) → nat_lt (tally (alike columns x) (held ++ e ∷ [])) n ≡ c → fallen_each columns n (held ++ e ∷ []) ≡ take (suc T - n) F
        → cond c (fallen_each columns n (held ++ e ∷ [])) (x ∷ fallen_each columns n (held ++ e ∷ [])) ≡ take (suc (cond b (suc T) T) - n) (cond b (x ∷ F) F)
    here false h true i k = k
    here false h false i k = absurd (omega (arith, ltb-false _ _ i, tally_push (alike columns x) held e false (turned columns x e ∙ h), s.0))
    here true h true i k =
        let m : suc T - n ≡ 0 = omega (arith, ltb-true _ _ i, tally_push (alike columns x) held e true (turned columns x e ∙ h), both_alike columns e x h held) in
        let l : suc (suc T) - n ≡ 0 = omega (arith, ltb-true _ _ i, tally_push (alike columns x) held e true (turned columns x e ∙ h), both_alike columns e x h held) in
        k ∙ ap (λ j. take j F) m ∙ sym (ap (λ j. take j (x ∷ F)) l)
    here true h false i k =
        let m : suc T - n ≡ 0 = omega (arith, ltb-false _ _ i, tally_push (alike columns x) held e true (turned columns x e ∙ h), both_alike columns e x h held, s.0) in
        let l : suc (suc T) - n ≡ 1 = omega (arith, ltb-false _ _ i, tally_push (alike columns x) held e true (turned columns x e ∙ h), both_alike columns e x h held, s.0) in
        ap (λ z. x ∷ z) (k ∙ ap (λ j. take j F) m) ∙ sym (ap (λ j. take j (x ∷ F)) l)

count_filter : (p : Element → Bool) (xs : List Element) → tally p xs ≡ length (filter p xs)
count_filter p [] = refl
count_filter p (x ∷ xs) = here (p x) (count_filter p xs)
  where
    here : (b : Bool) → tally p xs ≡ length (filter p xs) → cond b (suc (tally p xs)) (tally p xs) ≡ length (cond b (x ∷ filter p xs) (filter p xs))
    here true h = ap suc h
    here false h = h

filter_by : (p q : Element → Bool) → ((x : Element) → p x ≡ q x) → (xs : List Element) → filter p xs ≡ filter q xs
filter_by p q e [] = refl
filter_by p q e (x ∷ xs) = ap (λ b. cond b (x ∷ filter p xs) (filter p xs)) (e x) ∙ ap (λ l. cond (q x) (x ∷ l) l) (filter_by p q e xs)

first_of : (n : ℕ) (F : List Element) (r : Row) → 0 < n → length F ≤ n → minus_of (fallen_of n (rows_in_order F ++ r ∷ [])) ≡ map minus (rows_in_order (take (suc (length F) - n) F))
first_of n [] r some few =
    let k : suc 0 - n ≡ 0 = omega (arith, some) in
    ap (λ b. minus_of (cond b (Some r) None)) (le-ltb n 1 (omega (arith, some))) ∙ sym (ap (λ j. map minus (rows_in_order (take j []))) k)
first_of n (y ∷ F) r some few = here (nat_lt n (length (rows_in_order (y ∷ F) ++ r ∷ []))) refl
  where
    long : length (rows_in_order (y ∷ F) ++ r ∷ []) ≡ suc (suc (length F))
    long = length-append (rows_in_order (y ∷ F)) (r ∷ []) ∙ (let l : length (rows_in_order F) ≡ length F = length-map F (λ (e : Element). e.row) in omega (arith, l))

    here : (b : Bool) → nat_lt n (length (rows_in_order (y ∷ F) ++ r ∷ [])) ≡ b → minus_of (cond b (Some y.row) None) ≡ map minus (rows_in_order (take (suc (suc (length F)) - n) (y ∷ F)))
    here true h = let k : suc (suc (length F)) - n ≡ 1 = omega (arith, few, long, ltb-true _ _ h) in sym (ap (λ j. map minus (rows_in_order (take j (y ∷ F)))) k)
    here false h = let k : suc (suc (length F)) - n ≡ 0 = omega (arith, few, long, ltb-false _ _ h) in sym (ap (λ j. map minus (rows_in_order (take j (y ∷ F)))) k)

none_each : (columns : List ℕ) (xs : List Element) → last_each columns 0 xs ≡ []
none_each columns [] = refl
none_each columns (x ∷ xs) = ap (λ b. cond b (x ∷ last_each columns 0 xs) (last_each columns 0 xs)) (le-ltb (tally (alike columns x) xs) 0 (omega arith)) ∙ none_each columns xs

-- the state's partitions are those of the elements
abbrev pub ArePartsOf : List ℕ → (Row → List Row) → List Element → Type 0
ArePartsOf columns state held = (k : Row) → state k ≡ rows_in_order (filter (is_of columns k) held)

pub fallen_rows_are : (columns : List ℕ) (n : ℕ) (state : Row → List Row) (held : List Element) (e : Element) → ArePartsOf columns state held → last_each columns n held ≡ held
    → map minus (rows_in_order (fallen_each columns n (held ++ e ∷ []))) ≡ minus_of (fallen_of n (state (key_in columns e.row) ++ e.row ∷ []))
fallen_rows_are columns zero state held e parts shown =
    let none : held ≡ [] = sym shown ∙ none_each columns held in
    ap (λ l. map minus (rows_in_order (fallen_each columns 0 (l ++ e ∷ [])))) none
    ∙ sym (ap (λ l. minus_of (fallen_of 0 (l ++ e.row ∷ []))) (parts (key_in columns e.row) ∙ ap (λ l. rows_in_order (filter (is_of columns (key_in columns e.row)) l)) none))
fallen_rows_are columns (suc m) state held e parts shown =
    let n : ℕ = suc m in
    let F : List Element = filter (alike columns e) held in
    let t : tally (alike columns e) held ≡ length F = count_filter (alike columns e) held in
    let few : tally (alike columns e) held ≡ min n (tally (alike columns e) held) = ap (tally (alike columns e)) (sym shown) ∙ tally-last_each columns n e held in
    let is : state (key_in columns e.row) ≡ rows_in_order F = parts (key_in columns e.row) ∙ ap rows_in_order (sym (filter_by (alike columns e) (is_of columns (key_in columns e.row)) (alike_is_of columns e) held)) in
    ap (λ l. map minus (rows_in_order l)) (fallen_part columns n (omega arith) held e (short_of columns n held shown) ∙ ap (λ j. take (suc j - n) F) t)
    ∙ sym (first_of n F e.row (omega arith) (omega (arith, t, few)))
    ∙ sym (ap (λ l. minus_of (fallen_of n (l ++ e.row ∷ []))) is)
