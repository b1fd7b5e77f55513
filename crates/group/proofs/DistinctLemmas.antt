-- The groups of all columns are each row once.
use Rattle.std.proofs.Common.{◌≡◌, ℕ, zero, suc, ◌<◌, Bool, true, false, cond, None, List, [], ◌∷◌, map, length, refl, sym, ap, ap₂, ◌∙◌, arith}
use Rattle.std.specs.List.{range_with_len, All, list_any}
use Rattle.std.proofs.lemmas.List.{ext_get_or}
use Rattle.std.proofs.lemmas.List.FromFn.{length-map-range_with_len, get_or-map-range_with_len}
use Rattle.values.specs.Row.{Row, row_cmp, value_at}
use Rattle.values.specs.Bag.{is_same, distinct}
use Rattle.values.specs.Relation.{item_value, key_of}
use Rattle.values.specs.Resolved.{columns_of, items_of}
use Rattle.values.specs.declared.resolved.ListItem.TheVariants.{Key}
use Rattle.group.specs.Groups.{grouped, key_in, column_at, once_each}
use Rattle.group.specs.Laws.{row_at}
use Rattle.group.proofs.ValueLemmas.{key-alone}

-- all values of a row
pub whole_row : (n : ℕ) (r : Row) → length r ≡ n → map (value_at r) (range_with_len 0 n) ≡ r
whole_row n r e =
    ext_get_or None (map (value_at r) (range_with_len 0 n)) r (length-map-range_with_len (value_at r) 0 n ∙ sym e)
    (λ i l. get_or-map-range_with_len (value_at r) 0 n i i None (omega (arith, l, length-map-range_with_len (value_at r) 0 n)) (omega arith))

key_places : (ks : List ℕ) (r : Row) → key_in (map column_at ks) r ≡ map (value_at r) ks
key_places [] r = refl
key_places (k ∷ ks) r = ap (λ (vs : Row). value_at r k ∷ vs) (key_places ks r)

values_places : (ks : List ℕ) (k : Row) (rows : List (List Row)) → map (item_value k rows) (items_of (map Key ks)) ≡ map (value_at k) ks
values_places [] k rows = refl
values_places (j ∷ ks) k rows = ap (λ (vs : Row). value_at k j ∷ vs) (values_places ks k rows)

first_too : (P : Row → Type 0) (r : Row) (b : List Row) → P r → All P b → All P (r ∷ b)
first_too P r b p a zero d l = p
first_too P r b p a (suc k) d l = a k d (omega (arith, l))

-- the key of a row is the row
keys_are : (w : ℕ) (b : List Row) → All (λ r. length r ≡ w) b → map (key_of (columns_of (once_each w).by)) (map (λ r. r ∷ []) b) ≡ b
keys_are w [] a = refl
keys_are w (r ∷ b) a =
    ap₂ (λ (k : Row) (ks : List Row). k ∷ ks)
    (key-alone (once_each w).by r ∙ key_places (range_with_len 0 w) r ∙ whole_row w r (a 0 r (omega arith)))
    (keys_are w b (λ k d l. a (suc k) d (omega (arith, l))))

distinct_all : (w : ℕ) (b : List Row) → All (λ r. length r ≡ w) b → All (λ r. length r ≡ w) (distinct row_cmp b)
distinct_all w [] a = a
distinct_all w (r ∷ b) a = here (list_any (is_same row_cmp r) b) (distinct_all w b (λ k d l. a (suc k) d (omega (arith, l))))
  where
    here : (t : Bool) → All (λ r. length r ≡ w) (distinct row_cmp b) → All (λ r. length r ≡ w) (cond t (distinct row_cmp b) (r ∷ distinct row_cmp b))
    here true i = i
    here false i = first_too (λ r. length r ≡ w) r (distinct row_cmp b) (a 0 r (omega arith)) i

rows_are : (w : ℕ) (b ks : List Row) → All (λ r. length r ≡ w) ks → map (row_at (once_each w) b) ks ≡ ks
rows_are w b [] a = refl
rows_are w b (k ∷ ks) a =
    ap₂ (λ (r : Row) (rs : List Row). r ∷ rs)
    (values_places (range_with_len 0 w) k _ ∙ whole_row w k (a 0 k (omega arith)))
    (rows_are w b ks (λ i d l. a (suc i) d (omega (arith, l))))

pub distinct_law : (w : ℕ) (b : List Row) → 0 < w → All (λ r. length r ≡ w) b → grouped (once_each w) b ≡ distinct row_cmp b
distinct_law zero b h a = absurd (omega (arith, h))
distinct_law (suc w) b h a =
    ap (λ (ks : List Row). map (row_at (once_each (suc w)) b) (distinct row_cmp ks)) (keys_are (suc w) b a)
    ∙ rows_are (suc w) b (distinct row_cmp b) (distinct_all (suc w) b a)
