-- The rows below an instant stand in front.
use Rattle.std.proofs.Common.{◌≡◌, ℕ, suc, ◌+◌, ◌-◌, ◌<◌, ◌≤◌, Bool, true, false, cond, not, nat_lt, Option, Some, None, List, [], ◌∷◌, ◌++◌, length, map, drop, refl, ap, sym, ◌∙◌, arith, ⊎_elim, length-drop, append-nil, append_assoc, subst}
use Rattle.std.specs.List.{filter, All}
use Rattle.std.specs.List.Sorted.{IsNonDecreasingBy}
use Rattle.std.proofs.lemmas.Bool.{cases_lt}
use Rattle.std.proofs.lemmas.Bool.Decides.{nat_tests}
use Rattle.std.proofs.lemmas.List.{get_or-drop, length-map}
use Rattle.std.proofs.lemmas.List.Sorted.{IsNonDecreasingBy-push}
use Rattle.std.proofs.lemmas.List.Sums.{length-filter, count_by-le-length}
use Rattle.values.specs.Row.{Row}
use Rattle.std.proofs.lemmas.List.Elements.{All-append, All-drop, All-filter, All-head, All-map, All-nil, All-tail, All-push}
use Rattle.windows.specs.Instants.{held_at, IsAfter, IsInOrder}
use Rattle.column.specs.Rows.{IsTable, width}

abbrev pub is_below : ℕ → ℕ × Row → Bool
is_below n h = nat_lt h.0 n

-- a filter by a test that is the same
pub filter-step : {X : Type 0} (p : X → Bool) (b : Bool) (x : X) (xs : List X) → p x ≡ b → filter p (x ∷ xs) ≡ cond b (x ∷ filter p xs) (filter p xs)
filter-step p b x xs h = ap (λ c. cond c (x ∷ filter p xs) (filter p xs)) h

pub below-none : (n : ℕ) (hs : List (ℕ × Row)) → All (λ h. n ≤ h.0) hs → filter (is_below n) hs ≡ []
below-none n [] all = refl
below-none n (h ∷ hs) all =
    let le = All-head (λ h. n ≤ h.0) h hs all in
    filter-step (is_below n) false h hs (grind (arith, nat_tests)) ∙ below-none n hs (All-tail (λ h. n ≤ h.0) h hs all)

above-all : (n : ℕ) (hs : List (ℕ × Row)) → All (λ h. n ≤ h.0) hs → filter (λ h. not (is_below n h)) hs ≡ hs
above-all n [] all = refl
above-all n (h ∷ hs) all =
    let le = All-head (λ h. n ≤ h.0) h hs all in
    filter-step (λ h. not (is_below n h)) true h hs (grind (arith, nat_tests)) ∙ ap (λ xs. h ∷ xs) (above-all n hs (All-tail (λ h. n ≤ h.0) h hs all))

pub sorted-tail : (h : ℕ × Row) (hs : List (ℕ × Row)) → IsNonDecreasingBy (λ h. h.0) (h ∷ hs) → IsNonDecreasingBy (λ h. h.0) hs
sorted-tail h hs s i j d le lt = s (suc i) (suc j) d (omega arith) (omega arith)

pub sorted-head : (n : ℕ) (h : ℕ × Row) (hs : List (ℕ × Row)) → IsNonDecreasingBy (λ h. h.0) (h ∷ hs) → n ≤ h.0 → All (λ h. n ≤ h.0) (h ∷ hs)
sorted-head n h hs s le k d lt = let a = s 0 k d (omega arith) lt in omega arith

pub sorted-drop : (k : ℕ) (hs : List (ℕ × Row)) → IsNonDecreasingBy (λ h. h.0) hs → IsNonDecreasingBy (λ h. h.0) (drop k hs)
sorted-drop k hs s i j d le lt =
    let a = s (k + i) (k + j) d (omega arith) (omega (arith, length-drop k hs)) in
    rw (get_or-drop k hs i d, get_or-drop k hs j d) a

-- what stays after the older rows leave from the front
pub drop-below : (n : ℕ) (hs : List (ℕ × Row)) → IsNonDecreasingBy (λ h. h.0) hs → drop (length (filter (is_below n) hs)) hs ≡ filter (λ h. not (is_below n h)) hs
drop-below n [] s = refl
drop-below n (h ∷ hs) s =
    ⊎_elim
    (λ (lt : h.0 < n).
    let p : is_below n h ≡ true = grind (arith, nat_tests) in
    let q : not (is_below n h) ≡ false = grind (arith, nat_tests) in
    ap (λ xs. drop (length xs) (h ∷ hs)) (filter-step (is_below n) true h hs p)
    ∙ drop-below n hs (sorted-tail h hs s)
    ∙ sym (filter-step (λ h. not (is_below n h)) false h hs q))
    (λ (le : n ≤ h.0).
    let all = sorted-head n h hs s le in
    ap (λ xs. drop (length xs) (h ∷ hs)) (below-none n (h ∷ hs) all) ∙ sym (above-all n (h ∷ hs) all))
    (cases_lt h.0 n)

pub sorted-enter : (t : ℕ) (hs : List (ℕ × Row)) (rs : List (Bool × Row)) → IsNonDecreasingBy (λ h. h.0) hs → All (λ h. h.0 ≤ t) hs → IsNonDecreasingBy (λ h. h.0) (hs ++ map (held_at t) rs)
sorted-enter t hs [] s le = rw append-nil s
sorted-enter t hs (r ∷ rs) s le =
    let x = held_at t r in
    let one = IsNonDecreasingBy-push (λ h. h.0) hs x s (λ d some. le (length hs - 1) d (omega arith)) in
    let P : List (ℕ × Row) → Type 0 = λ xs. IsNonDecreasingBy (λ h. h.0) xs in
    subst P (append_assoc hs (x ∷ []) (map (held_at t) rs)) (sorted-enter t (hs ++ x ∷ []) rs one (All-push (λ h. h.0 ≤ t) hs x le (omega arith)))

-- ---- widths
abbrev pub IsWide : ℕ → ℕ × Row → Type 0
IsWide w h = length h.1 ≡ w

table_wide : (w : ℕ) (b : List (Bool × Row)) → width b ≡ w → IsTable (width b) b → All (λ r. length r.1 ≡ w) b
table_wide w b e table i d lt = table i d lt ∙ e

-- rows that come at an instant stand behind
pub order_enter : (t w : ℕ) (b : List (Bool × Row)) (held new : List (ℕ × Row)) → width b ≡ w → new ≡ held ++ map (held_at t) b → IsInOrder w held → IsAfter t held → IsTable (width b) b → IsInOrder w new
order_enter t w b held new e entered r after table =
    let P : List (ℕ × Row) → Type 0 = IsInOrder w in
    subst P (sym entered) (record {
      ordered = sorted-enter t held b r.ordered after;
      wide = All-append (IsWide w) held (map (held_at t) b) r.wide (All-map (IsWide w) (held_at t) b (table_wide w b e table));
    })

-- rows leave from the front
pub order_leave : (w leave : ℕ) (held new : List (ℕ × Row)) → new ≡ drop leave held → IsInOrder w held → IsInOrder w new
order_leave w leave held new left r =
    let P : List (ℕ × Row) → Type 0 = IsInOrder w in
    subst P (sym left) (record { ordered = sorted-drop leave held r.ordered; wide = All-drop (IsWide w) leave held r.wide })
