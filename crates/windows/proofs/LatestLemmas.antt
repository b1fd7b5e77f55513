-- What a window of the last rows of each partition holds after rows, and what falls out.
use Rattle.std.proofs.Common.{◌≡◌, ℕ, suc, ◌+◌, ◌-◌, ◌≤◌, ◌<◌, Bool, true, false, cond, nat_lt, Some, None, List, [], ◌∷◌, ◌++◌, length, drop, get_or, refl, ap, sym, ◌∙◌, arith, append-nil, append_assoc, length-drop, ltb-true, ltb-false, lt-ltb, le-ltb}
use Rattle.std.proofs.lemmas.List.{drop-append-le, drop-drop, get_or-drop, length-append}
use Rattle.values.specs.Row.{Row, same_row}
use Rattle.windows.specs.Latest.{key_in, last_of, fallen_of, fallen_in, held_after, all_after, all_fallen}

-- the rows of a key
abbrev pub like : List ℕ → Row → List (Bool × Row) → List Row
like columns k [] = []
like columns k (x ∷ xs) = cond (same_row (key_in columns x.1) k) (x.1 ∷ like columns k xs) (like columns k xs)

pub like-append : (columns : List ℕ) (k : Row) (xs ys : List (Bool × Row)) → like columns k (xs ++ ys) ≡ like columns k xs ++ like columns k ys
like-append columns k [] ys = refl
like-append columns k (x ∷ xs) ys = here (same_row (key_in columns x.1) k) (like-append columns k xs ys)
  where
    here : (b : Bool) → like columns k (xs ++ ys) ≡ like columns k xs ++ like columns k ys
        → cond b (x.1 ∷ like columns k (xs ++ ys)) (like columns k (xs ++ ys)) ≡ cond b (x.1 ∷ like columns k xs) (like columns k xs) ++ like columns k ys
    here true h = ap (λ l. x.1 ∷ l) h
    here false h = h

pub length-like : (columns : List ℕ) (k : Row) (xs : List (Bool × Row)) → length (like columns k xs) ≤ length xs
length-like columns k [] = omega arith
length-like columns k (x ∷ xs) = here (same_row (key_in columns x.1) k) (length-like columns k xs)
  where
    here : (b : Bool) → length (like columns k xs) ≤ length xs → length (cond b (x.1 ∷ like columns k xs) (like columns k xs)) ≤ suc (length xs)
    here true h = omega (arith, h)
    here false h = omega (arith, h)

pub like-push : (columns : List ℕ) (k : Row) (xs : List (Bool × Row)) (x : Bool × Row) → like columns k (xs ++ x ∷ []) ≡ cond (same_row (key_in columns x.1) k) (like columns k xs ++ x.1 ∷ []) (like columns k xs)
like-push columns k xs x = like-append columns k xs (x ∷ []) ∙ here (same_row (key_in columns x.1) k)
  where
    here : (b : Bool) → like columns k xs ++ cond b (x.1 ∷ []) [] ≡ cond b (like columns k xs ++ x.1 ∷ []) (like columns k xs)
    here true = refl
    here false = append-nil (like columns k xs)

-- ---- the last n
pub last_of-few : {A : Type 0} (n : ℕ) (xs : List A) → length xs ≤ n → last_of n xs ≡ xs
last_of-few n xs h = let e : length xs - n ≡ 0 = omega (arith, h) in ap (λ k. drop k xs) e

pub length-last_of : {A : Type 0} (n : ℕ) (xs : List A) → length (last_of n xs) ≤ n
length-last_of n xs = omega (arith, length-drop (length xs - n) xs)

pub last_of-again : {A : Type 0} (n : ℕ) (xs ys : List A) → last_of n (last_of n xs ++ ys) ≡ last_of n (xs ++ ys)
last_of-again n xs ys =
    let k : ℕ = length xs - n in
    let m : ℕ = length (drop k xs ++ ys) - n in
    let l : length (drop k xs ++ ys) ≡ (length xs - k) + length ys = length-append (drop k xs) ys ∙ ap (λ i. i + length ys) (length-drop k xs) in
    let r : length (xs ++ ys) ≡ length xs + length ys = length-append xs ys in
    let inside : k ≤ length xs = omega arith in
    let e : k + m ≡ length (xs ++ ys) - n = omega (arith, l, r) in
    ap (drop m) (sym (drop-append-le k xs ys inside)) ∙ drop-drop m k (xs ++ ys) ∙ ap (λ i. drop i (xs ++ ys)) e

-- ---- what is held
pub after_push : (columns : List ℕ) (n : ℕ) (held : Row → List Row) (xs : List (Bool × Row)) (x : Bool × Row) (k : Row)
    → all_after columns n held (xs ++ x ∷ []) k ≡ held_after columns n (all_after columns n held xs) x.1 k
after_push columns n held [] x k = refl
after_push columns n held (y ∷ xs) x k = after_push columns n (held_after columns n held y.1) xs x k

pub fallen_push : (columns : List ℕ) (n : ℕ) (held : Row → List Row) (xs : List (Bool × Row)) (x : Bool × Row)
    → all_fallen columns n held (xs ++ x ∷ []) ≡ all_fallen columns n held xs ++ fallen_of n (all_after columns n held xs (key_in columns x.1) ++ x.1 ∷ []) ∷ []
fallen_push columns n held [] x = refl
fallen_push columns n held (y ∷ xs) x =
    ap (λ l. fallen_of n (held (key_in columns y.1) ++ y.1 ∷ []) ∷ l) (fallen_push columns n (held_after columns n held y.1) xs x)

pub length-fallen : (columns : List ℕ) (n : ℕ) (held : Row → List Row) (xs : List (Bool × Row)) → length (all_fallen columns n held xs) ≡ length xs
length-fallen columns n held [] = refl
length-fallen columns n held (x ∷ xs) = ap suc (length-fallen columns n (held_after columns n held x.1) xs)

held_after-is : (columns : List ℕ) (n : ℕ) (held : Row → List Row) (x : Bool × Row) (k : Row) → length (held k) ≤ n
    → held_after columns n held x.1 k ≡ last_of n (held k ++ like columns k (x ∷ []))
held_after-is columns n held x k few = here (same_row (key_in columns x.1) k)
  where
    here : (b : Bool) → cond b (last_of n (held k ++ x.1 ∷ [])) (held k) ≡ last_of n (held k ++ cond b (x.1 ∷ []) [])
    here true = refl
    here false = sym (ap (last_of n) (append-nil (held k)) ∙ last_of-few n (held k) few)

pub few_after : (columns : List ℕ) (n : ℕ) (held : Row → List Row) (row k : Row) → length (held k) ≤ n → length (held_after columns n held row k) ≤ n
few_after columns n held row k few = here (same_row (key_in columns row) k)
  where
    here : (b : Bool) → length (cond b (last_of n (held k ++ row ∷ [])) (held k)) ≤ n
    here true = length-last_of n (held k ++ row ∷ [])
    here false = few

-- the last of what was held and of the new rows
pub after_is : (columns : List ℕ) (n : ℕ) (held : Row → List Row) (xs : List (Bool × Row)) (k : Row) → length (held k) ≤ n
    → all_after columns n held xs k ≡ last_of n (held k ++ like columns k xs)
after_is columns n held [] k few = sym (ap (last_of n) (append-nil (held k)) ∙ last_of-few n (held k) few)
after_is columns n held (x ∷ xs) k few =
    after_is columns n (held_after columns n held x.1) xs k (few_after columns n held x.1 k few)
    ∙ ap (λ l. last_of n (l ++ like columns k xs)) (held_after-is columns n held x k few)
    ∙ last_of-again n (held k ++ like columns k (x ∷ [])) (like columns k xs)
    ∙ ap (last_of n) (append_assoc (held k) (like columns k (x ∷ [])) (like columns k xs) ∙ ap (λ l. held k ++ l) (sym (like-append columns k (x ∷ []) xs)))

-- ---- what falls out
fallen_same : (n : ℕ) (rows : List Row) (x : Row) → fallen_of n (last_of n rows ++ x ∷ []) ≡ fallen_in n (rows ++ x ∷ [])
fallen_same n rows x = here (nat_lt n (suc (length rows))) refl
  where
    k : ℕ
    k = length rows - n

    long : length (rows ++ x ∷ []) ≡ suc (length rows)
    long = length-append rows (x ∷ []) ∙ (let e : length rows + 1 ≡ suc (length rows) = omega arith in e)

    short : length (drop k rows ++ x ∷ []) ≡ suc (length rows - k)
    short = length-append (drop k rows) (x ∷ []) ∙ (let e : length (drop k rows) + 1 ≡ suc (length rows - k) = omega (arith, length-drop k rows) in e)

    here : (b : Bool) → nat_lt n (suc (length rows)) ≡ b → fallen_of n (last_of n rows ++ x ∷ []) ≡ fallen_in n (rows ++ x ∷ [])
    here true h =
        let lt : n < suc (length rows) = ltb-true _ _ h in
        let le : k ≤ length rows = omega arith in
        let a : nat_lt n (length (drop k rows ++ x ∷ [])) ≡ true = lt-ltb _ _ (omega (arith, lt, short)) in
        let b : nat_lt n (length (rows ++ x ∷ [])) ≡ true = lt-ltb _ _ (omega (arith, lt, long)) in
        let i : k + 0 ≡ length (rows ++ x ∷ []) - suc n = omega (arith, lt, long) in
        let g : get_or (drop k rows ++ x ∷ []) 0 [] ≡ get_or (rows ++ x ∷ []) (length (rows ++ x ∷ []) - suc n) [] =
        ap (λ l. get_or l 0 []) (sym (drop-append-le k rows (x ∷ []) le)) ∙ get_or-drop k (rows ++ x ∷ []) 0 [] ∙ ap (λ j. get_or (rows ++ x ∷ []) j []) i in
        ap (λ c. cond c (Some (get_or (drop k rows ++ x ∷ []) 0 [])) None) a ∙ ap Some g ∙ sym (ap (λ c. cond c (Some (get_or (rows ++ x ∷ []) (length (rows ++ x ∷ []) - suc n) [])) None) b)
    here false h =
        let ge : suc (length rows) ≤ n = ltb-false _ _ h in
        let a : nat_lt n (length (drop k rows ++ x ∷ [])) ≡ false = le-ltb _ _ (omega (arith, ge, short)) in
        let b : nat_lt n (length (rows ++ x ∷ [])) ≡ false = le-ltb _ _ (omega (arith, ge, long)) in
        ap (λ c. cond c (Some (get_or (drop k rows ++ x ∷ []) 0 [])) None) a ∙ sym (ap (λ c. cond c (Some (get_or (rows ++ x ∷ []) (length (rows ++ x ∷ []) - suc n) [])) None) b)

pub fallen_is : (columns : List ℕ) (n : ℕ) (held : Row → List Row) (xs : List (Bool × Row)) (k x : Row) → length (held k) ≤ n
    → fallen_of n (all_after columns n held xs k ++ x ∷ []) ≡ fallen_in n (held k ++ (like columns k xs ++ x ∷ []))
fallen_is columns n held xs k x few =
    ap (λ l. fallen_of n (l ++ x ∷ [])) (after_is columns n held xs k few)
    ∙ fallen_same n (held k ++ like columns k xs) x
    ∙ ap (fallen_in n) (append_assoc (held k) (like columns k xs) (x ∷ []))
