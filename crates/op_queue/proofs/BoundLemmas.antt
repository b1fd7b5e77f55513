-- The place that a search in a rising part of a list finds.
use Rattle.std.proofs.Common.{◌≡◌, ℕ, ◌+◌, ◌-◌, ◌<◌, ◌≤◌, true, false, ltb, ltb-true, List, length, take, drop, min, slice_range, get_or, ⊎_elim, ap, sym, ◌∙◌, arith, length-take, length-drop, get_or-take}
use Rattle.std.specs.List.Sorted.{IsNonDecreasingBy, IsPartitionPoint}
use Rattle.std.proofs.lemmas.List.{drop-drop, drop-take, drop_all, get_or-drop, get_or_default, take-take}
use Rattle.std.proofs.lemmas.Bool.{cases_lt, ltb-false}
use Rattle.op_queue.specs.Tables.{IsRising}

pub get_or-slice_range : {X : Type 0} (xs : List X) (a b k : ℕ) (d : X) → k < b - a → get_or (slice_range xs a b) k d ≡ get_or xs (a + k) d
get_or-slice_range xs a b k d lt = get_or-take (b - a) (drop a xs) k d lt ∙ get_or-drop a xs k d

pub length-slice_range : {X : Type 0} (xs : List X) (a b : ℕ) → b ≤ length xs → length (slice_range xs a b) ≡ b - a
length-slice_range xs a b u = omega (arith, length-take (b - a) (drop a xs), length-drop a xs)

pub IsNonDecreasing-rising : (ns : List ℕ) (from to : ℕ) → to ≤ length ns → IsRising ns from to → IsNonDecreasingBy (λ (y : ℕ). y) (slice_range ns from to)
IsNonDecreasing-rising ns from to u h i j d le lt =
    let l = length-slice_range ns from to u in
    let e = get_or-slice_range ns from to i d (omega arith) ∙ get_or_default ns (from + i) d 0 (omega arith) in
    let f = get_or-slice_range ns from to j d (omega arith) ∙ get_or_default ns (from + j) d 0 (omega arith) in
    let k = h (from + i) (from + j) (omega arith) (omega arith) (omega arith) in
    omega arith

pub below_point : (ns : List ℕ) (from to least result : ℕ) → to ≤ length ns → result ≤ length (slice_range ns from to) → IsPartitionPoint (λ y. ltb y least ≡ true) (λ y. ltb y least ≡ false) (slice_range ns from to) result → (i : ℕ) → from ≤ i → i < from + result → get_or ns i 0 < least
below_point ns from to least result u few h i a b =
    let l = length-slice_range ns from to u in
    let n : from + (i - from) ≡ i = omega arith in
    let e = get_or-slice_range ns from to (i - from) 0 (omega arith) ∙ ap (λ k. get_or ns k 0) n in
    let k = ltb-true _ _ (h.0 (i - from) 0 (omega arith) (omega arith)) in
    omega arith

pub above_point : (ns : List ℕ) (from to least result : ℕ) → to ≤ length ns → IsPartitionPoint (λ y. ltb y least ≡ true) (λ y. ltb y least ≡ false) (slice_range ns from to) result → (i : ℕ) → from + result ≤ i → i < to → least ≤ get_or ns i 0
above_point ns from to least result u h i a b =
    let l = length-slice_range ns from to u in
    let n : from + (i - from) ≡ i = omega arith in
    let e = get_or-slice_range ns from to (i - from) 0 (omega arith) ∙ ap (λ k. get_or ns k 0) n in
    let k = ltb-false _ _ (h.1 (i - from) 0 (omega arith) (omega arith)) in
    omega arith

-- what is left of a range after its first k items
pub drop-slice_range : {X : Type 0} (xs : List X) (a b k : ℕ) → a ≤ b → b ≤ length xs → drop k (slice_range xs a b) ≡ slice_range xs (a + min (b - a) k) b
drop-slice_range xs a b k l u =
    ⊎_elim
    (λ (lt : k < b - a).
    let n : b - a ≡ k + (b - a - k) = omega arith in
    let m : a + min (b - a) k ≡ a + k = omega arith in
    let o : b - a - k ≡ b - (a + k) = omega arith in
    ap (λ i. drop k (take i (drop a xs))) n
    ∙ drop-take k (b - a - k) (drop a xs)
    ∙ ap (take (b - a - k)) (drop-drop k a xs)
    ∙ ap (λ i. take i (drop (a + k) xs)) o
    ∙ ap (λ i. slice_range xs i b) (sym m))
    (λ (ge : b - a ≤ k).
    let len = length-slice_range xs a b u in
    let m : b - (a + min (b - a) k) ≡ 0 = omega arith in
    drop_all k (slice_range xs a b) (omega arith) ∙ sym (ap (λ i. take i (drop (a + min (b - a) k) xs)) m))
    (cases_lt k (b - a))

-- the first rows of a range
pub slice_range-front : {X : Type 0} (xs : List X) (a b n : ℕ) → n ≤ b - a → slice_range xs a (a + n) ≡ take n (slice_range xs a b)
slice_range-front xs a b n few =
    let e : a + n - a ≡ n = omega arith in
    ap (λ i. take i (drop a xs)) e ∙ sym (take-take n (b - a) (drop a xs) few)
