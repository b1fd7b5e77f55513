-- The order of the arrays that hold rows, and bags of them, in the words of rows.
use Rattle.std.proofs.Common.{◌≡◌, ℤ, Bool, true, false, cond, ◌||◌, Option, List, [], ◌∷◌, refl, ap, ◌∙◌}
use Rattle.std.specs.Ordering.{is_eq, is_gt}
use Rattle.std.specs.List.Sorted.{IsPermutation, IsSorted}
use Rattle.std.proofs.lemmas.Cmp.{on_total}
use Rattle.arrayvec.specs.ArrayVec.{ArrayVec}
use Rattle.values.specs.Row.{row_cmp}
use Rattle.values.specs.Bag.{insert_in_order, in_order, without}
use Rattle.values.specs.Orders.{IsExactOrder}
use Rattle.values.proofs.Order.{row_order}
use Rattle.values.proofs.Bags.{without-map, in_order-sorted, in_order-map}
use Rattle.row_bags.specs.Bags.{array_cmp, rows_of, is_in}

abbrev Array : Type 0
Array = ArrayVec (Option ℤ)

pub array_order : IsExactOrder array_cmp
array_order = record {
  total = on_total (λ (r : Array). r.items) row_order.total;
  exact = λ r s h. ap (λ xs. record { items = xs }) (row_order.exact r.items s.items h);
}

pub rows-insert : (x : Array) (ys : List Array) → rows_of (insert_in_order array_cmp x ys) ≡ insert_in_order row_cmp x.items (rows_of ys)
rows-insert x [] = refl
rows-insert x (y ∷ ys) = here (is_gt (array_cmp x y)) (rows-insert x ys)
  where
    here : (b : Bool) → rows_of (insert_in_order array_cmp x ys) ≡ insert_in_order row_cmp x.items (rows_of ys) → rows_of (cond b (y ∷ insert_in_order array_cmp x ys) (x ∷ y ∷ ys)) ≡ cond b (y.items ∷ insert_in_order row_cmp x.items (rows_of ys)) (x.items ∷ y.items ∷ rows_of ys)
    here true h = ap (λ v. y.items ∷ v) h
    here false h = refl

pub rows-without : (x : Array) (ys : List Array) → rows_of (without array_cmp x ys) ≡ without row_cmp x.items (rows_of ys)
rows-without x ys = without-map (λ (r : Array). r.items) row_cmp x ys

pub rows-is_in : (x : Array) (ys : List Array) → is_in array_cmp x ys ≡ is_in row_cmp x.items (rows_of ys)
rows-is_in x [] = refl
rows-is_in x (y ∷ ys) = ap (λ b. is_eq (array_cmp x y) || b) (rows-is_in x ys)

-- what a sort leaves
pub rows_in_order : (xs ys : List Array) → IsPermutation xs ys → IsSorted array_cmp ys → rows_of ys ≡ in_order row_cmp (rows_of xs)
rows_in_order xs ys p s = ap rows_of (in_order-sorted array_cmp array_order xs ys p s) ∙ in_order-map (λ (r : Array). r.items) row_cmp xs
