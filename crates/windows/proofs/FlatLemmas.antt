-- Rows cut from a list of values.
use Rattle.std.proofs.Common.{◌≡◌, ℕ, zero, suc, ◌+◌, ◌-◌, ◌*◌, ◌<◌, ◌≤◌, Bool, ℤ, add-mul, Option, List, [], ◌∷◌, ◌++◌, length, map, take, drop, get_or, refl, ap, ap₂, sym, ◌∙◌, arith, subst, length-append, length-drop, drop-drop, zero-add, zero-mul, suc-add, suc-mul, mul-le-mul_right, get_or-drop}
use Rattle.std.proofs.Math.Seq.{take-append_seam, drop-append_seam}
use Rattle.std.specs.List.{flat_map}
use Rattle.std.proofs.lemmas.List.{take-append-le, drop-append-le, take_more, take_all, length-take-le}
use Rattle.std.proofs.lemmas.List.Elements.{All-head, All-tail}
use Rattle.values.specs.declared.TheConstants.{MAX_COLUMNS}
use Rattle.values.specs.Row.{Row}
use Rattle.column.specs.Rows.{IsBatch, IsTable, width}
use Rattle.windows.specs.Held.{IsFlat, cut_rows}
use Rattle.windows.specs.Widths.{AreWide}

pub length-cut_rows : (w n : ℕ) (values : List (Option ℤ)) → length (cut_rows w n values) ≡ n
length-cut_rows w zero values = refl
length-cut_rows w (suc n) values = ap (λ k. suc k) (length-cut_rows w n (drop w values))

-- the rows of the first values, and those of the rest
cut_rows-append : (w n m : ℕ) (values more : List (Option ℤ)) → length values ≡ n * w → cut_rows w (n + m) (values ++ more) ≡ cut_rows w n values ++ cut_rows w m more
cut_rows-append w zero m [] more size = ap (λ k. cut_rows w k more) (zero-add m)
cut_rows-append w zero m (v ∷ values) more size = absurd (omega (arith, size, zero-mul w))
cut_rows-append w (suc n) m values more size =
    let e : length values ≡ n * w + w = size ∙ suc-mul n w in
    let le : w ≤ length values = omega (arith, e) in
    ap (λ k. cut_rows w k (values ++ more)) (suc-add n m)
    ∙ ap₂ (λ (r : Row) (rs : List Row). r ∷ rs) (take-append-le w values more le) (ap (cut_rows w (n + m)) (drop-append-le w values more le) ∙ cut_rows-append w n m (drop w values) more (length-drop w values ∙ omega (arith, e)))

-- the values of rows of w columns are cut into these rows
cut_rows-flat : (w : ℕ) (batch : List (Bool × Row)) → IsTable w batch → cut_rows w (length batch) (flat_map (λ r. r.1) batch) ≡ map (λ r. r.1) batch
cut_rows-flat w [] table = refl
cut_rows-flat w (r ∷ rs) table =
    let e : length r.1 ≡ w = All-head (λ (r : Bool × Row). length r.1 ≡ w) r rs table in
    let values : List (Option ℤ) = flat_map (λ r. r.1) rs in
    ap₂ (λ (r : Row) (rs : List Row). r ∷ rs)
    (ap (λ k. take k (r.1 ++ values)) (sym e) ∙ take-append_seam r.1 values)
    (ap (λ k. cut_rows w (length rs) (drop k (r.1 ++ values))) (sym e) ∙ ap (cut_rows w (length rs)) (drop-append_seam r.1 values) ∙ cut_rows-flat w rs (All-tail (λ (r : Bool × Row). length r.1 ≡ w) r rs table))

length-flat : (w : ℕ) (batch : List (Bool × Row)) → IsTable w batch → length (flat_map (λ r. r.1) batch) ≡ length batch * w
length-flat w [] table = sym (zero-mul w)
length-flat w (r ∷ rs) table =
    let e : length r.1 ≡ w = All-head (λ (r : Bool × Row). length r.1 ≡ w) r rs table in
    let rest = length-flat w rs (All-tail (λ (r : Bool × Row). length r.1 ≡ w) r rs table) in
    length-append r.1 (flat_map (λ r. r.1) rs) ∙ omega (arith, e, rest, suc-mul (length rs) w)

-- a batch enters
pub cut_rows-enter : (w n : ℕ) (values new : List (Option ℤ)) (batch : List (Bool × Row)) → IsFlat w n values → width batch ≡ w → IsBatch batch → new ≡ values ++ flat_map (λ r. r.1) batch
    → cut_rows w (n + length batch) new ≡ cut_rows w n values ++ map (λ r. r.1) batch
cut_rows-enter w n values new batch flat wide is entered =
    let table : IsTable w batch = subst (λ k. IsTable k batch) wide is.one_width in
    ap (cut_rows w (n + length batch)) entered
    ∙ cut_rows-append w n (length batch) values (flat_map (λ r. r.1) batch) flat.size
    ∙ ap (λ rows. cut_rows w n values ++ rows) (cut_rows-flat w batch table)

pub IsFlat-enter : (w n : ℕ) (values new : List (Option ℤ)) (batch : List (Bool × Row)) → IsFlat w n values → width batch ≡ w → IsBatch batch → new ≡ values ++ flat_map (λ r. r.1) batch → IsFlat w (n + length batch) new
IsFlat-enter w n values new batch flat wide is entered =
    let table : IsTable w batch = subst (λ k. IsTable k batch) wide is.one_width in
    record {
      size = ap length entered ∙ length-append values (flat_map (λ r. r.1) batch) ∙ ap₂ (λ (a b : ℕ). a + b) flat.size (length-flat w batch table) ∙ sym (add-mul n (length batch) w);
      narrow = λ some. omega (arith, is.narrow, wide);
    }

-- one row enters behind the others
pub cut_rows-push : (w n : ℕ) (values : List (Option ℤ)) (row : Row) → length values ≡ n * w → length row ≡ w → cut_rows w (n + 1) (values ++ row) ≡ cut_rows w n values ++ row ∷ []
cut_rows-push w n values row size e =
    cut_rows-append w n 1 values row size
    ∙ ap (λ (r : Row). cut_rows w n values ++ r ∷ []) (take_all w row (omega (arith, e)))

pub IsFlat-push : (w n : ℕ) (values : List (Option ℤ)) (row : Row) → IsFlat w n values → length row ≡ w → w ≤ MAX_COLUMNS → IsFlat w (n + 1) (values ++ row)
IsFlat-push w n values row flat e narrow = record {
  size = length-append values row ∙ omega (arith, flat.size, e, add-mul n 1 w);
  narrow = λ some. narrow;
}

-- no rows are so whatever the width
pub IsFlat-none : (w n v : ℕ) (values : List (Option ℤ)) → IsFlat w n values → cut_rows w n values ≡ [] → IsFlat v 0 values
IsFlat-none w n v values flat is =
    let none : n ≡ 0 = sym (length-cut_rows w n values) ∙ ap (λ (rows : List Row). length rows) is in
    record { size = flat.size ∙ ap (λ k. k * w) none ∙ zero-mul w ∙ sym (zero-mul v); narrow = λ some. absurd (omega (arith, some)) }

-- one row enters and the first leaves
size_moved : (w m : ℕ) (values : List (Option ℤ)) → length values ≡ suc m * w → length (drop w values) ≡ m * w
size_moved w m values size = length-drop w values ∙ omega (arith, size, suc-mul m w)

pub cut_rows-move : (w n : ℕ) (values : List (Option ℤ)) (row : Row) → 0 < n → IsFlat w n values → length row ≡ w → cut_rows w n (drop w values ++ row) ≡ drop 1 (cut_rows w n values) ++ row ∷ []
cut_rows-move w zero values row some flat e = absurd (omega (arith, some))
cut_rows-move w (suc m) values row some flat e =
    let one : suc m ≡ m + 1 = omega arith in
    ap (λ k. cut_rows w k (drop w values ++ row)) one ∙ cut_rows-push w m (drop w values) row (size_moved w m values flat.size) e

pub IsFlat-move : (w n : ℕ) (values : List (Option ℤ)) (row : Row) → 0 < n → IsFlat w n values → length row ≡ w → IsFlat w n (drop w values ++ row)
IsFlat-move w zero values row some flat e = absurd (omega (arith, some))
IsFlat-move w (suc m) values row some flat e = record {
  size = length-append (drop w values) row ∙ omega (arith, size_moved w m values flat.size, e, suc-mul m w);
  narrow = flat.narrow;
}

-- rows that have k columns have the width
pub width_is : (w n k : ℕ) (values : List (Option ℤ)) (rows : List Row) → IsFlat w n values → cut_rows w n values ≡ rows → 0 < n → AreWide k rows → k ≡ w
width_is w zero k values rows flat is some wide = absurd (omega (arith, some))
width_is w (suc m) k values rows flat is some wide =
    let first : take w values ≡ get_or rows 0 [] = ap (λ (rs : List Row). get_or rs 0 []) is in
    let has : 0 < length rows = omega (arith, length-cut_rows w (suc m) values, ap (λ (rs : List Row). length rs) is) in
    let le : w ≤ length values = omega (arith, flat.size, suc-mul m w) in
    sym (wide 0 [] has) ∙ ap (λ (r : Row). length r) (sym first) ∙ length-take-le w values le

-- the first rows leave with their values
pub cut_rows-drop : (w n k : ℕ) (values : List (Option ℤ)) → k ≤ n → cut_rows w (n - k) (drop (k * w) values) ≡ drop k (cut_rows w n values)
cut_rows-drop w n zero values le = ap₂ (λ (a b : ℕ). cut_rows w a (drop b values)) (omega arith) (zero-mul w)
cut_rows-drop w zero (suc k) values le = absurd (omega arith)
cut_rows-drop w (suc n) (suc k) values le =
    let a : suc n - suc k ≡ n - k = omega arith in
    let b : suc k * w ≡ w + k * w = omega (arith, suc-mul k w) in
    ap₂ (λ (i j : ℕ). cut_rows w i (drop j values)) a b
    ∙ ap (cut_rows w (n - k)) (sym (drop-drop (k * w) w values))
    ∙ cut_rows-drop w n k (drop w values) (omega arith)

-- the values of a row
pub get_or-cut_rows : (w n i : ℕ) (values : List (Option ℤ)) (d : Row) → i < n → get_or (cut_rows w n values) i d ≡ take w (drop (i * w) values)
get_or-cut_rows w zero i values d lt = absurd (omega arith)
get_or-cut_rows w (suc n) zero values d lt = ap (λ k. take w (drop k values)) (sym (zero-mul w))
get_or-cut_rows w (suc n) (suc i) values d lt =
    let e : w + i * w ≡ suc i * w = omega (arith, suc-mul i w) in
    get_or-cut_rows w n i (drop w values) d (omega arith)
    ∙ ap (take w) (drop-drop (i * w) w values)
    ∙ ap (λ k. take w (drop k values)) e

pub IsFlat-drop : (w n k : ℕ) (values : List (Option ℤ)) → k ≤ n → IsFlat w n values → IsFlat w (n - k) (drop (k * w) values)
IsFlat-drop w n k values le flat =
    let split : n ≡ k + (n - k) = omega arith in
    let e : n * w ≡ k * w + (n - k) * w = ap (λ i. i * w) split ∙ add-mul k (n - k) w in
    record {
      size = length-drop (k * w) values ∙ omega (arith, e, flat.size);
      narrow = λ some. flat.narrow (omega arith);
    }

-- as many rows as are shown have their values
pub rows_up_to : (w n k : ℕ) (values : List (Option ℤ)) (rows : List Row) → cut_rows w n values ≡ rows → k ≤ length rows → k ≤ n
rows_up_to w n k values rows is le = omega (arith, length-cut_rows w n values, ap (λ (rs : List Row). length rs) is)

pub rows_fit : (w n k : ℕ) (values : List (Option ℤ)) → IsFlat w n values → k ≤ n → k * w ≤ length values
rows_fit w n k values flat le = omega (arith, flat.size, mul-le-mul_right {m = k} {n = n} w le)

pub row_fits : (w n i : ℕ) (values : List (Option ℤ)) (rows : List Row) → IsFlat w n values → cut_rows w n values ≡ rows → i < length rows → i * w + w ≤ length values
row_fits w n i values rows flat is lt =
    let le : suc i ≤ n = rows_up_to w n (suc i) values rows is (omega arith) in
    omega (arith, rows_fit w n (suc i) values flat le, suc-mul i w)

pub take_column : (from k : ℕ) (values : List (Option ℤ)) (v : Option ℤ) (row : List (Option ℤ)) → from + k < length values → v ≡ get_or values (from + k) v → row ≡ take k (drop from values) → row ++ v ∷ [] ≡ take (k + 1) (drop from values)
take_column from k values v row lt is sofar =
    let within : k < length (drop from values) = omega (arith, length-drop from values) in
    ap (λ r. r ++ v ∷ []) sofar
    ∙ ap (λ x. take k (drop from values) ++ x ∷ []) (is ∙ sym (get_or-drop from values k v))
    ∙ sym (take_more (drop from values) k v within)

-- one row comes to the front, and the last leaves
first_cut : (w m : ℕ) (rest : List (Option ℤ)) (row : Row) → length row ≡ w → cut_rows w (suc m) (row ++ rest) ≡ row ∷ cut_rows w m rest
first_cut w m rest row e =
    ap₂ (λ (r : Row) (rs : List Row). r ∷ rs)
    (ap (λ k. take k (row ++ rest)) (sym e) ∙ take-append_seam row rest)
    (ap (λ k. cut_rows w m (drop k (row ++ rest))) (sym e) ∙ ap (cut_rows w m) (drop-append_seam row rest))

pub cut_rows-front : (w n m : ℕ) (rest : List (Option ℤ)) (row : Row) → n ≡ m + 1 → length row ≡ w → cut_rows w n (row ++ rest) ≡ row ∷ cut_rows w m rest
cut_rows-front w n m rest row is e =
    let one : n ≡ suc m = omega (arith, is) in
    ap (λ k. cut_rows w k (row ++ rest)) one ∙ first_cut w m rest row e

-- the values of one row fewer
pub size_before : (w n : ℕ) → 0 < n → (n - 1) * w + w ≡ n * w
size_before w zero some = absurd (omega (arith, some))
size_before w (suc m) some =
    let one : suc m - 1 ≡ m = omega arith in
    ap (λ k. k * w + w) one ∙ sym (suc-mul m w)

pub IsFlat-front : (w n : ℕ) (values rest new : List (Option ℤ)) (row : Row) → IsFlat w n values → 0 < n → length row ≡ w → rest ≡ take ((n - 1) * w) values → new ≡ row ++ rest → IsFlat w n new
IsFlat-front w n values rest new row flat some e left is =
    let size : (n - 1) * w + w ≡ n * w = size_before w n some in
    let kept : length rest ≡ (n - 1) * w = ap (λ (vs : List (Option ℤ)). length vs) left ∙ length-take-le ((n - 1) * w) values (omega (arith, size, flat.size)) in
    record {
      size = ap (λ (vs : List (Option ℤ)). length vs) is ∙ length-append row rest ∙ omega (arith, e, kept, size);
      narrow = flat.narrow;
    }
