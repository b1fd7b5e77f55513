-- Rows whose values stand one behind the other.
use Rattle.std.proofs.Common.{ℕ, ℤ, List, [], ◌∷◌, ◌≡◌, ◌<◌, ◌≤◌, ◌+◌, ◌*◌, length, map, refl, sym, ◌∙◌, ap, arith, Bool, true, not, None, Option, take, drop, zero, suc, suc-mul, zero-mul, mul-le-mul_right}
use Rattle.std.specs.List.{range_with_len}
use Rattle.std.proofs.Math.ListN.{get_or}
use Rattle.std.proofs.lemmas.List.{ext_get_or, get_or-drop, get_or-take, get_or-map, length-take-le, length-drop, length-map}
use Rattle.std.proofs.lemmas.List.FromFn.{length-map-range_with_len, get_or-map-range_with_len}
use Rattle.std.proofs.lemmas.List.Elements.{All-cons, All-nil}
use Rattle.values.specs.declared.TheConstants.{MAX_COLUMNS}
use Rattle.values.specs.Row.{Row, value_at}
use Rattle.column.specs.Rows.{IsTable, column_of, flat_rows}
use Rattle.column.proofs.BatchLemmas.{IsRemade, not_not, rows_made}
use Rattle.column.proofs.StrideLemmas.{get_or-values_by, length-values_by, values_by}

pub length-flat_rows : (w : ℕ) (leaving : List Bool) (values : List (Option ℤ)) → length (flat_rows w leaving values) ≡ length leaving
length-flat_rows w [] values = refl
length-flat_rows w (l ∷ ls) values = ap suc (length-flat_rows w ls (drop w values))

IsTable-flat : (w : ℕ) (leaving : List Bool) (values : List (Option ℤ)) → length values ≡ length leaving * w → IsTable w (flat_rows w leaving values)
IsTable-flat w [] values size = All-nil (λ (r : Bool × Row). length r.1 ≡ w)
IsTable-flat w (l ∷ ls) values size =
    let e : length values ≡ length ls * w + w = size ∙ suc-mul (length ls) w in
    All-cons (λ (r : Bool × Row). length r.1 ≡ w) (not l, take w values) (flat_rows w ls (drop w values)) (length-take-le w values (omega (arith, e))) (IsTable-flat w ls (drop w values) (length-drop w values ∙ omega (arith, e)))

signs-flat : (w : ℕ) (leaving : List Bool) (values : List (Option ℤ)) → leaving ≡ map (λ r. not r.0) (flat_rows w leaving values)
signs-flat w [] values = refl
signs-flat w (l ∷ ls) values = λ t. sym (not_not l) t ∷ signs-flat w ls (drop w values) t

-- the value of a column in a row
value-flat : (w : ℕ) (leaving : List Bool) (values : List (Option ℤ)) (k i : ℕ) → k < w → i < length leaving → value_at (get_or (flat_rows w leaving values) i (true, [])).1 k ≡ get_or values (k + i * w) None
value-flat w [] values k i h l = absurd (omega arith)
value-flat w (b ∷ ls) values k zero h l = get_or-take w values k None h ∙ ap (λ n. get_or values n None) (omega (arith, zero-mul w))
value-flat w (b ∷ ls) values k (suc i) h l =
    value-flat w ls (drop w values) k i h (omega arith) ∙ get_or-drop w values (k + i * w) None ∙ ap (λ n. get_or values n None) (omega (arith, suc-mul i w))

column-flat : (w : ℕ) (leaving : List Bool) (values : List (Option ℤ)) (k : ℕ) → k < w → values_by k w (length leaving) values ≡ column_of (flat_rows w leaving values) k
column-flat w leaving values k h =
    ext_get_or None _ _ (length-values_by k w (length leaving) values ∙ sym (length-map (flat_rows w leaving values) (λ r. value_at r.1 k) ∙ length-flat_rows w leaving values))
    (λ i l. let b : i < length leaving = omega (arith, l, length-values_by k w (length leaving) values) in
    get_or-values_by k w (length leaving) values i b ∙ sym (value-flat w leaving values k i h b)
    ∙ sym (get_or-map (λ r. value_at r.1 k) (flat_rows w leaving values) i (true, []) None (omega (arith, b, length-flat_rows w leaving values))))

columns-flat : (w : ℕ) (leaving : List Bool) (values : List (Option ℤ)) → map (λ k. values_by k w (length leaving) values) (range_with_len 0 w) ≡ map (column_of (flat_rows w leaving values)) (range_with_len 0 w)
columns-flat w leaving values =
    let f : ℕ → List (Option ℤ) = λ k. values_by k w (length leaving) values in
    ext_get_or [] _ _ (length-map-range_with_len f 0 w ∙ sym (length-map-range_with_len (column_of (flat_rows w leaving values)) 0 w))
    (λ i l. let b : i < w = omega (arith, l, length-map-range_with_len f 0 w) in
    get_or-map-range_with_len f 0 w i i [] b (omega arith) ∙ column-flat w leaving values i b ∙ sym (get_or-map-range_with_len (column_of (flat_rows w leaving values)) 0 w i i [] b (omega arith)))

pub flat_made : (w : ℕ) (leaving : List Bool) (values : List (Option ℤ)) (columns : List (List (Option ℤ))) → 1 ≤ length leaving → length leaving ≤ 1024 → w ≤ MAX_COLUMNS → length values ≡ length leaving * w
    → columns ≡ map (λ k. values_by k w (length leaving) values) (range_with_len 0 w) → IsRemade columns leaving (flat_rows w leaving values)
flat_made w leaving values columns some few narrow size made =
    rows_made (flat_rows w leaving values) w columns leaving (omega (arith, some, length-flat_rows w leaving values)) (omega (arith, few, length-flat_rows w leaving values)) narrow (IsTable-flat w leaving values size)
    (made ∙ columns-flat w leaving values) (signs-flat w leaving values)

-- each value of a column is there
pub within_flat : (w count k : ℕ) → k < w → (i : ℕ) → i < count → k + i * w < count * w
within_flat w count k h i l = let le : suc i ≤ count = omega arith in let m : suc i * w ≤ count * w = mul-le-mul_right w le in omega (arith, suc-mul i w, m)
