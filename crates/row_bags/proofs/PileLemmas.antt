-- Rows as they came: one row more, the two piles in order, and a walk over them.
use Rattle.std.proofs.Common.{◌≡◌, ℕ, suc, ◌+◌, ◌<◌, Bool, true, false, cond, not, List, [], ◌∷◌, ◌++◌, length, drop, get_or, refl, ap, ap₂, sym, ◌∙◌, arith}
use Rattle.std.proofs.Math.Seq.{drop-cons}
use Rattle.std.proofs.lemmas.List.{drop-drop}
use Rattle.values.specs.Row.{Row, row_cmp}
use Rattle.values.specs.Bag.{is_above, in_order}
use Rattle.values.proofs.Order.{row_order}
use Rattle.row_bags.specs.Deltas.{delta_of, delta_between, delta_after}
use Rattle.row_bags.specs.Lists.{is_first, not_below, beyond}
use Rattle.row_bags.proofs.DeltaLaws.{by_counts, cancels, delta-entered, both}
use Rattle.row_bags.proofs.ListLaws.{count, minus, count-append}
use Rattle.row_bags.proofs.OrderLemmas.{copies-in_order}
use Rattle.values.proofs.Bags.{copies-bag_minus}

-- differences are of bags
pub minus-same : (a b c d : List Row) → ((q : Row) → count q a ≡ count q c) → ((q : Row) → count q b ≡ count q d) → in_order row_cmp (minus a b) ≡ in_order row_cmp (minus c d)
minus-same a b c d h k =
    by_counts (minus a b) (minus c d) (λ q.
    omega (arith, copies-bag_minus row_cmp row_order q a b, copies-bag_minus row_cmp row_order q c d, h q, k q))

pub between-same : (a b c d : List Row) → ((q : Row) → count q a ≡ count q c) → ((q : Row) → count q b ≡ count q d) → delta_between a b ≡ delta_between c d
between-same a b c d h k = both (minus-same b a d c k h) (minus-same a b c d h k)

count-behind : (q r : Row) (xs : List Row) → count q (xs ++ r ∷ []) ≡ count q (r ∷ xs)
count-behind q r xs = omega (arith, count-append q xs (r ∷ []), count-append q (r ∷ []) xs)

-- ONE ROW MORE

pub entered-behind : (r : Row) (left entered : List Row) → delta_between left (entered ++ r ∷ []) ≡ delta_after (delta_between left entered) (true, r)
entered-behind r left entered =
    between-same left (entered ++ r ∷ []) left (r ∷ entered) (λ q. refl) (λ q. count-behind q r entered)
    ∙ sym (delta-entered r left entered)

pub left-behind : (r : Row) (left entered : List Row) → delta_between (left ++ r ∷ []) entered ≡ delta_after (delta_between left entered) (false, r)
left-behind r left entered =
    between-same (left ++ r ∷ []) entered (r ∷ left) entered (λ q. count-behind q r left) (λ q. refl)
    ∙ sym (ap (λ (p : List Row × List Row). delta_of p.0 p.1) (cancels r left entered))

-- the piles in order stand for the same
pub between-in_order : (left entered : List Row) → delta_between (in_order row_cmp left) (in_order row_cmp entered) ≡ delta_between left entered
between-in_order left entered =
    between-same (in_order row_cmp left) (in_order row_cmp entered) left entered (λ q. copies-in_order row_cmp row_order q left) (λ q. copies-in_order row_cmp row_order q entered)

-- THE WALK

pub front : (i : ℕ) (xs : List Row) (x : Row) → i < length xs → x ≡ get_or xs i [] → drop i xs ≡ x ∷ drop (i + 1) xs
front i xs x h e =
    let k : suc i ≡ i + 1 = omega arith in
    drop-cons xs i [] h ∙ ap₂ (λ (r : Row) (n : ℕ). r ∷ drop n xs) (sym e) k

pub beyond-meets : (x : Row) (xs ys : List Row) (o p : ℕ) → drop p ys ≡ not_below x (drop o ys) → is_first x (drop p ys) ≡ true → beyond (x ∷ xs) (drop o ys) ≡ beyond xs (drop (p + 1) ys)
beyond-meets x xs ys o p e t =
    ap (λ (ws : List Row). cond (is_first x ws) (beyond xs (drop 1 ws)) (x ∷ beyond xs ws)) (sym e)
    ∙ ap (λ (b : Bool). cond b (beyond xs (drop 1 (drop p ys))) (x ∷ beyond xs (drop p ys))) t
    ∙ ap (λ (ws : List Row). beyond xs ws) (drop-drop 1 p ys)

pub beyond-stays : (x : Row) (xs ys : List Row) (o p : ℕ) → drop p ys ≡ not_below x (drop o ys) → is_first x (drop p ys) ≡ false → beyond (x ∷ xs) (drop o ys) ≡ x ∷ beyond xs (drop p ys)
beyond-stays x xs ys o p e t =
    ap (λ (ws : List Row). cond (is_first x ws) (beyond xs (drop 1 ws)) (x ∷ beyond xs ws)) (sym e)
    ∙ ap (λ (b : Bool). cond b (beyond xs (drop 1 (drop p ys))) (x ∷ beyond xs (drop p ys))) t

pub not_below-passes : (x y : Row) (rest : List Row) → is_above row_cmp x y ≡ true → not_below x (y ∷ rest) ≡ not_below x rest
not_below-passes x y rest h = rw h

pub not_below-stops : (x y : Row) (rest : List Row) → is_above row_cmp x y ≡ false → not_below x (y ∷ rest) ≡ y ∷ rest
not_below-stops x y rest h = rw h

-- the sign of a row, by whether it leaves
pub leaving : (b : Bool) → not b ≡ true → b ≡ false
leaving true h = cc
leaving false h = refl

pub entering : (b : Bool) → not b ≡ false → b ≡ true
entering true h = refl
entering false h = cc
