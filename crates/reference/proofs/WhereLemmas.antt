-- The first row, byte or column at fault.
use Rattle.std.proofs.Common.{◌≡◌, ◌≤◌, ◌<◌, ◌+◌, ℕ, ℤ, Bool, true, false, cond, not, min, nat_lt, Option, Some, None, List, [], ◌∷◌, ◌++◌, length, map, take, drop, get_or, sum, position, String, string_bytes, refl, sym, ap, ◌∙◌, arith, add-one, length-append, length-drop}
use Rattle.std.specs.declared.alloc.Global.{Global}
use Rattle.std.specs.List.{list_all, enumerate_from, position_from, prefix_len}
use Rattle.std.proofs.Math.Seq.{drop-cons, take-append_seam, drop-append_seam}
use Rattle.std.proofs.lemmas.List.{length-map, take-map, take_min, drop_all}
use Rattle.std.proofs.lemmas.List.Sums.{sum_by-cons}
use Rattle.std.proofs.lemmas.Iterator.Adapters.{position_from-zero}
use Rattle.reference.specs.Appended.{values_of}
use Rattle.reference.specs.CallViews.{texts_of}
use Rattle.reference.specs.Commands.{is_stream_value}
use Rattle.reference.specs.WhereOf.{first_other_in, has_other_value, first_bad_column, breaks_columns}

abbrev Row : Type 0
Row = ℤ × List (Option ℤ)

abbrev widths_of : List Row → List ℕ
widths_of rows = map (λ r. length r.1) rows

-- the first that passes, of what a function makes
prefix-map : {X Y : Type 0} (f : X → Y) (q : Y → Bool) (xs : List X) → prefix_len q (map f xs) ≡ prefix_len (λ x. q (f x)) xs
prefix-map f q [] = refl
prefix-map f q (x ∷ xs) = ap (λ n. cond (q (f x)) (1 + n) 0) (prefix-map f q xs)

abbrev below : ℕ → ℕ → Option ℕ
below n most = cond (nat_lt n most) (Some n) None

pub position-map : {X Y : Type 0} (f : X → Y) (p : Y → Bool) (xs : List X) → position p (map f xs) ≡ position (λ x. p (f x)) xs
position-map f p xs =
    ap (λ n. below n (length (map f xs))) (prefix-map f (λ y. not (p y)) xs)
    ∙ ap (λ n. below (prefix_len (λ x. not (p (f x))) xs) n) (length-map xs f)

-- the first column at fault, where so many were passed
unfoldable pub columns_from : ℕ → List (String Global) → Option ℕ
columns_from i columns = position_from (breaks_columns (texts_of columns)) i (enumerate_from i (texts_of (drop i columns)))

pub columns_start : (columns : List (String Global)) → columns_from 0 columns ≡ first_bad_column (texts_of columns)
unfolding columns_from first_bad_column
columns_start columns = sym (position_from-zero (breaks_columns (texts_of columns)) (enumerate_from 0 (texts_of columns)))

column-cons : (i : ℕ) (columns : List (String Global)) (name : String Global) → i < length columns → name ≡ get_or columns i name
    → drop i columns ≡ name ∷ drop (i + 1) columns
column-cons i columns name h is =
    drop-cons columns i name h ∙ ap (λ n. get_or columns i name ∷ drop n columns) (sym (add-one i)) ∙ ap (λ n. n ∷ drop (i + 1) columns) (sym is)

column-step : (i : ℕ) (columns : List (String Global)) (name : String Global) → i < length columns → name ≡ get_or columns i name
    → columns_from i columns ≡ cond (breaks_columns (texts_of columns) (i, string_bytes name)) (Some i) (columns_from (i + 1) columns)
unfolding columns_from
column-step i columns name h is =
    ap (λ ns. position_from (breaks_columns (texts_of columns)) i (enumerate_from i (texts_of ns))) (column-cons i columns name h is)

pub column_found : (i : ℕ) (columns : List (String Global)) (name : String Global) → i < length columns → name ≡ get_or columns i name
    → breaks_columns (texts_of columns) (i, string_bytes name) ≡ true → columns_from i columns ≡ Some i
column_found i columns name h is bad = column-step i columns name h is ∙ ap (λ b. cond b (Some i) (columns_from (i + 1) columns)) bad

pub column_passed : (i : ℕ) (columns : List (String Global)) (name : String Global) → i < length columns → name ≡ get_or columns i name
    → breaks_columns (texts_of columns) (i, string_bytes name) ≡ false → columns_from i columns ≡ columns_from (i + 1) columns
column_passed i columns name h is good = column-step i columns name h is ∙ ap (λ b. cond b (Some i) (columns_from (i + 1) columns)) good

pub columns_end : (i : ℕ) (columns : List (String Global)) → length columns ≤ i → columns_from i columns ≡ None
unfolding columns_from
columns_end i columns h = ap (λ ns. position_from (breaks_columns (texts_of columns)) i (enumerate_from i (texts_of ns))) (drop_all i columns h)

-- the steps of the scan
pub ruleset columns = (columns_start, column_found, column_passed, columns_end)

pub first_texts : (n count : ℕ) (columns : List (String Global)) → n ≡ min count (length columns) → texts_of (take n columns) ≡ take count (texts_of columns)
first_texts n count columns h =
    ap (λ k. texts_of (take k columns)) h ∙ ap texts_of (take_min count columns) ∙ sym (take-map string_bytes count columns)

-- the first row with another value
sum-cons : (width : ℕ) (widths : List ℕ) → sum (width ∷ widths) ≡ width + sum widths
sum-cons width widths = sum_by-cons (λ n. n) width widths

pub sum-widths : (rows : List Row) → sum (widths_of rows) ≡ length (values_of rows)
sum-widths [] = refl
sum-widths (row ∷ rows) =
    sum-cons (length row.1) (widths_of rows) ∙ ap (λ n. length row.1 + n) (sum-widths rows) ∙ sym (length-append row.1 (values_of rows))

rows-from : (n : ℕ) (rows : List Row) → first_other_in n (widths_of rows) (values_of rows) ≡ position_from has_other_value n rows
unfolding first_other_in
rows-from n [] = refl
rows-from n (row ∷ rows) =
    ap (λ vs. cond (not (list_all is_stream_value vs)) (Some n) (first_other_in (n + 1) (widths_of rows) (drop (length row.1) (row.1 ++ values_of rows)))) (take-append_seam row.1 (values_of rows))
    ∙ ap (λ vs. cond (has_other_value row) (Some n) (first_other_in (n + 1) (widths_of rows) vs)) (drop-append_seam row.1 (values_of rows))
    ∙ ap (cond (has_other_value row) (Some n)) (rows-from (n + 1) rows)

pub rows-flat : (rows : List Row) → first_other_in 0 (widths_of rows) (values_of rows) ≡ position has_other_value rows
rows-flat rows = rows-from 0 rows ∙ sym (position_from-zero has_other_value rows)

at-cons : (widths : List ℕ) (i : ℕ) → i < length widths → drop i widths ≡ get_or widths i 0 ∷ drop (i + 1) widths
at-cons widths i h = drop-cons widths i 0 h ∙ ap (λ n. get_or widths i 0 ∷ drop n widths) (sym (add-one i))

pub row-found : (widths : List ℕ) (values : List (Option ℤ)) (i : ℕ) → i < length widths
    → list_all is_stream_value (take (get_or widths i 0) values) ≡ false → first_other_in i (drop i widths) values ≡ Some i
unfolding first_other_in
row-found widths values i h bad =
    ap (λ ws. first_other_in i ws values) (at-cons widths i h)
    ∙ ap (λ b. cond (not b) (Some i) (first_other_in (i + 1) (drop (i + 1) widths) (drop (get_or widths i 0) values))) bad

pub row-passed : (widths : List ℕ) (values : List (Option ℤ)) (i : ℕ) → i < length widths
    → list_all is_stream_value (take (get_or widths i 0) values) ≡ true
    → first_other_in i (drop i widths) values ≡ first_other_in (i + 1) (drop (i + 1) widths) (drop (get_or widths i 0) values)
unfolding first_other_in
row-passed widths values i h good =
    ap (λ ws. first_other_in i ws values) (at-cons widths i h)
    ∙ ap (λ b. cond (not b) (Some i) (first_other_in (i + 1) (drop (i + 1) widths) (drop (get_or widths i 0) values))) good

sum-at : (widths : List ℕ) (i : ℕ) → i < length widths → sum (drop i widths) ≡ get_or widths i 0 + sum (drop (i + 1) widths)
sum-at widths i h = ap sum (at-cons widths i h) ∙ sum-cons (get_or widths i 0) (drop (i + 1) widths)

pub row-left : (widths : List ℕ) (values : List (Option ℤ)) (i : ℕ) → i < length widths → sum (drop i widths) ≡ length values
    → sum (drop (i + 1) widths) ≡ length (drop (get_or widths i 0) values)
row-left widths values i h s = let t = sum-at widths i h in rw length-drop (omega (arith, t, s))

pub row-none : (values : List (Option ℤ)) (i : ℕ) → first_other_in i [] values ≡ None
unfolding first_other_in
row-none values i = refl
