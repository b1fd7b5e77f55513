-- How long bags are after signed rows.
use Rattle.std.proofs.Common.{ℕ, suc, ◌+◌, ◌≤◌, Bool, true, false, cond, List, [], ◌∷◌, length, arith}
use Rattle.std.specs.Ordering.{is_eq, is_gt}
use Rattle.values.specs.Row.{Row, row_cmp}
use Rattle.values.specs.Bag.{insert_in_order, without}
use Rattle.row_bags.specs.Bags.{one_after, is_in}
use Rattle.row_bags.specs.Deltas.{PlainDelta, cancelled, delta_after}

length-cond : (b : Bool) (n : ℕ) (xs ys : List Row) → length xs ≤ n → length ys ≤ n → length (cond b xs ys) ≤ n
length-cond true n xs ys a c = a
length-cond false n xs ys a c = c

pub length-insert : (r : Row) (xs : List Row) → length (insert_in_order row_cmp r xs) ≤ suc (length xs)
length-insert r [] = omega arith
length-insert r (x ∷ xs) =
    let i = length-insert r xs in
    length-cond (is_gt (row_cmp r x)) (suc (suc (length xs))) (x ∷ insert_in_order row_cmp r xs) (r ∷ x ∷ xs) (omega arith) (omega arith)

pub length-without : (r : Row) (xs : List Row) → length (without row_cmp r xs) ≤ length xs
length-without r [] = omega arith
length-without r (x ∷ xs) =
    let i = length-without r xs in
    length-cond (is_eq (row_cmp r x)) (suc (length xs)) xs (x ∷ without row_cmp r xs) (omega arith) (omega arith)

pub length-one_after : (xs : List Row) (s : Bool × Row) → length (one_after xs s) ≤ suc (length xs)
length-one_after xs (true, r) = length-insert r xs
length-one_after xs (false, r) = let i = length-without r xs in omega arith

length-cancelled : (xs ys : List Row) (r : Row) → length (cancelled xs ys r).0 + length (cancelled xs ys r).1 ≤ suc (length xs + length ys)
length-cancelled xs ys r = here (is_in row_cmp r xs)
  where
    here : (b : Bool) → length (cond {A = List Row × List Row} b (without row_cmp r xs, ys) (xs, insert_in_order row_cmp r ys)).0 + length (cond {A = List Row × List Row} b (without row_cmp r xs, ys) (xs, insert_in_order row_cmp r ys)).1 ≤ suc (length xs + length ys)
    here true = omega (arith, length-without r xs)
    here false = omega (arith, length-insert r ys)

pub length-delta_after : (n : PlainDelta) (s : Bool × Row) → length (delta_after n s).entered + length (delta_after n s).left ≤ suc (length n.entered + length n.left)
length-delta_after n (true, r) = omega (arith, length-cancelled n.left n.entered r)
length-delta_after n (false, r) = omega (arith, length-cancelled n.entered n.left r)
