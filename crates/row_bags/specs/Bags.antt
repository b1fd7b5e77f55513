-- Bags as lists of rows in order, and what signed rows make of them.
use Rattle.std.specs.Prelude.{ℕ, ℤ, Bool, true, false, cond, ◌&&◌, Option, List, [], ◌∷◌, map}
use Rattle.std.specs.Prelude.{replicate, fold, unwrap_or, nat_lt, ◌+◌, ◌-◌}
use Rattle.std.specs.declared.cmp.Ordering.{Ordering}
use Rattle.std.specs.List.{flat_map, list_any}
use Rattle.std.specs.Map.{lookup, remove_entry}
use Rattle.std.specs.BTreeMap.{insert_entry, is_at}
use Rattle.arrayvec.specs.ArrayVec.{ArrayVec}
use Rattle.values.specs.Row.{Row, row_cmp, value_cmp}
use Rattle.values.specs.Bag.{is_same, insert_in_order, without}

-- rows, without the array that holds each
abbrev pub rows_of : List (ArrayVec (Option ℤ)) → List Row
rows_of rs = map (λ r. r.items) rs

-- the order of rows, by the arrays that hold them
abbrev pub array_cmp : ArrayVec (Option ℤ) → ArrayVec (Option ℤ) → Ordering
array_cmp r s = row_cmp r.items s.items

-- each item as often as it counts
abbrev pub spread : {K : Type 0} → List (K × ℕ) → List K
spread es = flat_map (λ e. replicate e.1 e.0) es

-- how often a row counts
abbrev pub count_of : List (ArrayVec (Option ℤ) × ℕ) → ArrayVec (Option ℤ) → ℕ
count_of es r = unwrap_or (lookup (is_at (array_cmp r)) es) 0

-- the counts with one more of a row, and with one less of it, where they have it
abbrev pub one_more : ArrayVec (Option ℤ) → List (ArrayVec (Option ℤ) × ℕ)
    → List (ArrayVec (Option ℤ) × ℕ)
one_more r es = insert_entry array_cmp es r (count_of es r + 1)

abbrev pub one_less : ArrayVec (Option ℤ) → List (ArrayVec (Option ℤ) × ℕ)
    → List (ArrayVec (Option ℤ) × ℕ)
one_less r es = cond (nat_lt 1 (count_of es r)) (insert_entry array_cmp es r (count_of es r - 1))
    (remove_entry (is_at (array_cmp r)) es)

-- the bag that counts stand for
abbrev pub bag_of : List (ArrayVec (Option ℤ) × ℕ) → List Row
bag_of es = rows_of (spread es)

-- whether x stands in the bag
abbrev pub is_in : {K : Type 0} → (K → K → Ordering) → K → List K → Bool
is_in cmp x xs = list_any (is_same cmp x) xs

-- whether the row begins with the values
abbrev pub is_front : Row → Row → Bool
is_front [] r = true
is_front (v ∷ vs) [] = false
is_front (v ∷ vs) (w ∷ ws) = is_same value_cmp v w && is_front vs ws

-- a bag in order after a signed row; a row that leaves and is not there changes nothing
abbrev pub one_after : List Row → Bool × Row → List Row
one_after xs s = cond s.0 (insert_in_order row_cmp s.1 xs) (without row_cmp s.1 xs)

-- after signed rows
abbrev pub bag_after : List Row → List (Bool × Row) → List Row
bag_after xs ss = fold one_after xs ss
