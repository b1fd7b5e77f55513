-- Rows beside their instants.
use Rattle.std.proofs.Common.{◌≡◌, ℕ, zero, suc, ◌+◌, ◌<◌, ◌≤◌, Bool, true, false, cond, nat_lt, List, [], ◌∷◌, ◌++◌, length, map, take, drop, replicate, refl, ap, ap₂, sym, ◌∙◌, arith, ⊎_elim}
use Rattle.std.specs.List.{filter, prefix_len, zip}
use Rattle.std.specs.List.Sorted.{IsNonDecreasingBy}
use Rattle.std.proofs.lemmas.Bool.{cases_lt}
use Rattle.std.proofs.lemmas.Bool.Decides.{nat_tests}
use Rattle.std.proofs.lemmas.List.{drop-map, take-map}
use Rattle.std.proofs.lemmas.Slice.Zip.{seconds-zip, length-zip}
use Rattle.values.specs.Row.{Row}
use Rattle.windows.specs.Instants.{held_at}
use Rattle.windows.proofs.OrderLemmas.{is_below, filter-step, below-none, sorted-head, sorted-tail}

pub zip-append : (ts us : List ℕ) (rows more : List Row) → length ts ≡ length rows → zip (ts ++ us) (rows ++ more) ≡ zip ts rows ++ zip us more
zip-append [] us [] more e = refl
zip-append [] us (r ∷ rows) more e = absurd (omega (arith, e))
zip-append (t ∷ ts) us [] more e = absurd (omega (arith, e))
zip-append (t ∷ ts) us (r ∷ rows) more e = ap (λ hs. (t, r) ∷ hs) (zip-append ts us rows more (omega (arith, e)))

pub zip-drop : (k : ℕ) (ts : List ℕ) (rows : List Row) → length ts ≡ length rows → drop k (zip ts rows) ≡ zip (drop k ts) (drop k rows)
zip-drop zero ts rows e = refl
zip-drop (suc k) [] [] e = refl
zip-drop (suc k) [] (r ∷ rows) e = absurd (omega (arith, e))
zip-drop (suc k) (t ∷ ts) [] e = absurd (omega (arith, e))
zip-drop (suc k) (t ∷ ts) (r ∷ rows) e = zip-drop k ts rows (omega (arith, e))

pub zip-take : (k : ℕ) (ts : List ℕ) (rows : List Row) → take k (zip ts rows) ≡ zip (take k ts) (take k rows)
zip-take zero ts rows = refl
zip-take (suc k) [] rows = refl
zip-take (suc k) (t ∷ ts) [] = refl
zip-take (suc k) (t ∷ ts) (r ∷ rows) = ap (λ hs. (t, r) ∷ hs) (zip-take k ts rows)

-- rows that come at one instant
zip-replicate : (t : ℕ) (batch : List (Bool × Row)) → zip (replicate (length batch) t) (map (λ r. r.1) batch) ≡ map (held_at t) batch
zip-replicate t [] = refl
zip-replicate t (r ∷ rs) = ap (λ hs. (t, r.1) ∷ hs) (zip-replicate t rs)

pub zip-enter : (t : ℕ) (ts us : List ℕ) (rows more : List Row) (batch : List (Bool × Row)) → length ts ≡ length rows → us ≡ ts ++ replicate (length batch) t → more ≡ rows ++ map (λ r. r.1) batch
    → zip us more ≡ zip ts rows ++ map (held_at t) batch
zip-enter t ts us rows more batch same instants entered =
    ap₂ (λ (us : List ℕ) (rs : List Row). zip us rs) instants entered
    ∙ zip-append ts (replicate (length batch) t) rows (map (λ r. r.1) batch) same
    ∙ ap (λ hs. zip ts rows ++ hs) (zip-replicate t batch)

-- the older rows are those in front
prefix_len-zip : (n : ℕ) (ts : List ℕ) (rows : List Row) → length ts ≡ length rows → prefix_len (is_below n) (zip ts rows) ≡ prefix_len (λ t. nat_lt t n) ts
prefix_len-zip n [] [] e = refl
prefix_len-zip n [] (r ∷ rows) e = absurd (omega (arith, e))
prefix_len-zip n (t ∷ ts) [] e = absurd (omega (arith, e))
prefix_len-zip n (t ∷ ts) (r ∷ rows) e = ap (λ k. cond (nat_lt t n) (1 + k) 0) (prefix_len-zip n ts rows (omega (arith, e)))

filter-front : (n : ℕ) (hs : List (ℕ × Row)) → IsNonDecreasingBy (λ h. h.0) hs → filter (is_below n) hs ≡ take (prefix_len (is_below n) hs) hs
filter-front n [] s = refl
filter-front n (h ∷ hs) s =
    ⊎_elim
    (λ (lt : h.0 < n).
    let p : is_below n h ≡ true = grind (arith, nat_tests) in
    filter-step (is_below n) true h hs p ∙ ap (λ xs. h ∷ xs) (filter-front n hs (sorted-tail h hs s)) ∙ ap (λ k. take k (h ∷ hs)) (sym (step true p)))
    (λ (le : n ≤ h.0).
    let p : is_below n h ≡ false = grind (arith, nat_tests) in
    below-none n (h ∷ hs) (sorted-head n h hs s le) ∙ ap (λ k. take k (h ∷ hs)) (sym (step false p)))
    (cases_lt h.0 n)
  where
    step : (b : Bool) → is_below n h ≡ b → prefix_len (is_below n) (h ∷ hs) ≡ cond b (suc (prefix_len (is_below n) hs)) 0
    step b is = ap (λ c. cond c (1 + prefix_len (is_below n) hs) 0) is ∙ ap (λ k. cond b k 0) (omega arith)

pub older_rows : (n k : ℕ) (ts : List ℕ) (rows : List Row) → length ts ≡ length rows → IsNonDecreasingBy (λ h. h.0) (zip ts rows) → k ≡ prefix_len (λ t. nat_lt t n) ts → take k rows ≡ map (λ h. h.1) (filter (is_below n) (zip ts rows))
older_rows n k ts rows same s is =
    let f : ℕ × Row → Row = λ h. h.1 in
    ap (take k) (sym (seconds-zip ts rows (sym same)))
    ∙ take-map f k (zip ts rows)
    ∙ ap (λ i. map f (take i (zip ts rows))) (is ∙ sym (prefix_len-zip n ts rows same))
    ∙ ap (map f) (sym (filter-front n (zip ts rows) s))

pub length-held : (ts : List ℕ) (rows : List Row) → length ts ≡ length rows → length (zip ts rows) ≡ length rows
length-held ts rows same = length-zip ts rows ∙ omega (arith, same)

-- rows in the middle
pub middle_rows : (j k : ℕ) (ts : List ℕ) (rows : List Row) → length ts ≡ length rows → take k (drop j rows) ≡ map (λ h. h.1) (take k (drop j (zip ts rows)))
middle_rows j k ts rows same =
    let f : ℕ × Row → Row = λ h. h.1 in
    ap (λ (l : List Row). take k (drop j l)) (sym (seconds-zip ts rows (sym same)))
    ∙ ap (take k) (drop-map f j (zip ts rows))
    ∙ take-map f k (drop j (zip ts rows))
