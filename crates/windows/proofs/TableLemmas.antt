-- Rows of one width that stand in a list of their own.
use Rattle.std.proofs.Common.{◌≡◌, ℕ, zero, suc, ◌+◌, ◌-◌, ◌*◌, ◌≤◌, ◌<◌, Bool, true, false, ℤ, Option, List, [], ◌∷◌, ◌++◌, append_assoc, length, map, take, drop, get_or, slice_range, subst, refl, ap, ap₂, sym, ◌∙◌, arith, add-mul, suc-mul, zero-mul, length-drop}
use Rattle.std.specs.List.{flat_map}
use Rattle.std.proofs.Math.Nat.{eq_of_mul-eq-mul_left}
use Rattle.std.proofs.lemmas.List.{length-take, map-append, take-append-drop}
use Rattle.op_queue.proofs.BoundLemmas.{length-slice_range}
use Rattle.values.specs.Row.{Row}
use Rattle.values.specs.declared.TheConstants.{MAX_COLUMNS}
use Rattle.windows.specs.Widths.{AreWide}
use Rattle.windows.specs.Held.{IsFlat, cut_rows}
use Rattle.windows.proofs.FlatLemmas.{IsFlat-none, IsFlat-push, cut_rows-drop, cut_rows-push, get_or-cut_rows, length-cut_rows, rows_fit, rows_up_to, width_is}
use Rattle.op_queue.specs.Entries.{Entry, RowAt, TickAt}
use Rattle.op_queue.specs.declared.item.Item.TheVariants.{Tick}
use Rattle.windows.specs.Instants.{out, with_sign}
use Rattle.windows.proofs.LeavingLemmas.{cut_rows-first, cut_rows-take, rows_at, rows_at-more}

-- the rows between two places of others
between_size : (w a b : ℕ) → a ≤ b → b * w - a * w ≡ (b - a) * w
between_size w a b le =
    let split : b ≡ a + (b - a) = omega (arith, le) in
    let e : b * w ≡ a * w + (b - a) * w = ap (λ i. i * w) split ∙ add-mul a (b - a) w in
    omega (arith, e)

pub cut_rows-between : (w n a b : ℕ) (values part : List (Option ℤ)) (rows : List Row) → a ≤ b → b ≤ n → cut_rows w n values ≡ rows → part ≡ slice_range values (a * w) (b * w)
    → cut_rows w (b - a) part ≡ take (b - a) (drop a rows)
cut_rows-between w n a b values part rows ordered within is cut =
    ap (cut_rows w (b - a)) (cut ∙ ap (λ k. take k (drop (a * w) values)) (between_size w a b ordered))
    ∙ cut_rows-first w (b - a) (drop (a * w) values)
    ∙ sym (cut_rows-take w (b - a) (n - a) (drop (a * w) values) (omega (arith, ordered, within)))
    ∙ ap (take (b - a)) (cut_rows-drop w n a values (omega (arith, ordered, within)) ∙ ap (drop a) is)

pub IsFlat-between : (w n a b : ℕ) (values part : List (Option ℤ)) → a ≤ b → b ≤ n → IsFlat w n values → part ≡ slice_range values (a * w) (b * w) → IsFlat w (b - a) part
IsFlat-between w n a b values part ordered within flat cut = record {
  size = ap length cut ∙ length-slice_range values (a * w) (b * w) (rows_fit w n b values flat within) ∙ between_size w a b ordered;
  narrow = λ some. flat.narrow (omega (arith, ordered, within, some));
}

-- the rows say the values
values_in : (w n : ℕ) (values : List (Option ℤ)) → length values ≡ n * w → flat_map (λ (r : Row). r) (cut_rows w n values) ≡ values
values_in w zero [] size = refl
values_in w zero (v ∷ values) size = absurd (omega (arith, size, zero-mul w))
values_in w (suc n) values size =
    let rest : length (drop w values) ≡ n * w = length-drop w values ∙ omega (arith, size, suc-mul n w) in
    ap (λ vs. take w values ++ vs) (values_in w n (drop w values) rest) ∙ take-append-drop w values

pub same_values : (w v n m : ℕ) (values others : List (Option ℤ)) → IsFlat w n values → IsFlat v m others → cut_rows w n values ≡ cut_rows v m others → values ≡ others
same_values w v n m values others flat other is =
    sym (values_in w n values flat.size) ∙ ap (flat_map (λ (r : Row). r)) is ∙ values_in v m others other.size

-- as many rows with the same values are the same
pub same_rows : (w v n m : ℕ) (values others : List (Option ℤ)) → IsFlat w n values → IsFlat v m others → n ≡ m → values ≡ others → cut_rows w n values ≡ cut_rows v m others
same_rows w v n zero values others flat other count is = ap₂ (λ (k : ℕ) vs. cut_rows w k vs) count is
same_rows w v n (suc m) values others flat other count is =
    let size : suc m * w ≡ suc m * v = ap (λ k. k * w) (sym count) ∙ sym flat.size ∙ ap length is ∙ other.size in
    ap₂ (λ (k : ℕ) vs. cut_rows w k vs) count is ∙ ap (λ k. cut_rows k (suc m) others) (eq_of_mul-eq-mul_left (suc m) (omega arith) w v size)

pub same_count : (w v n m : ℕ) (values others : List (Option ℤ)) → cut_rows w n values ≡ cut_rows v m others → n ≡ m
same_count w v n m values others is =
    sym (length-cut_rows w n values) ∙ ap (λ (rows : List Row). length rows) is ∙ length-cut_rows v m others

-- one row more
pub IsFlat-more : (w n : ℕ) (values : List (Option ℤ)) (rows : List Row) (row : Row) → IsFlat w n values → cut_rows w n values ≡ rows → AreWide (length row) rows → length row ≤ MAX_COLUMNS
    → IsFlat (length row) (n + 1) (values ++ row)
IsFlat-more w zero values rows row flat is wide narrow = IsFlat-push (length row) 0 values row (IsFlat-none w 0 (length row) values flat refl) refl narrow
IsFlat-more w (suc m) values rows row flat is wide narrow =
    let e : length row ≡ w = width_is w (suc m) (length row) values rows flat is (omega arith) wide in
    subst (λ (v : ℕ). IsFlat v (suc m + 1) (values ++ row)) (sym e) (IsFlat-push w (suc m) values row flat e (flat.narrow (omega arith)))

pub cut_rows-more : (w n : ℕ) (values : List (Option ℤ)) (rows : List Row) (row : Row) → IsFlat w n values → cut_rows w n values ≡ rows → AreWide (length row) rows
    → cut_rows (length row) (n + 1) (values ++ row) ≡ rows ++ row ∷ []
cut_rows-more w zero values rows row flat is wide =
    cut_rows-push (length row) 0 values row (IsFlat-none w 0 (length row) values flat refl).size refl ∙ ap (λ (rs : List Row). rs ++ row ∷ []) is
cut_rows-more w (suc m) values rows row flat is wide =
    let e : length row ≡ w = width_is w (suc m) (length row) values rows flat is (omega arith) wide in
    ap (λ (v : ℕ). cut_rows v (suc m + 1) (values ++ row)) e ∙ cut_rows-push w (suc m) values row flat.size e ∙ ap (λ (rs : List Row). rs ++ row ∷ []) is

-- a row's values
pub row_cut : (w n place : ℕ) (values part : List (Option ℤ)) (rows : List Row) → cut_rows w n values ≡ rows → place < length rows → part ≡ slice_range values (place * w) (place * w + w) → part ≡ get_or rows place []
row_cut w n place values part rows is lt cut =
    let le : suc place ≤ n = rows_up_to w n (suc place) values rows is (omega (arith, lt)) in
    let e : place * w + w - place * w ≡ w = omega arith in
    cut ∙ ap (λ (k : ℕ). take k (drop (place * w) values)) e
    ∙ sym (get_or-cut_rows w n place values [] (omega (arith, le)))
    ∙ ap (λ (rs : List Row). get_or rs place []) is

pub row_narrow : (w n place : ℕ) (values : List (Option ℤ)) (rows : List Row) (row : Row) → IsFlat w n values → cut_rows w n values ≡ rows → place < length rows → row ≡ get_or rows place [] → length row ≤ MAX_COLUMNS
row_narrow w n place values rows row flat is lt at =
    let le : suc place ≤ n = rows_up_to w n (suc place) values rows is (omega (arith, lt)) in
    let e : length row ≡ length (take w (drop (place * w) values)) =
    ap (λ (r : Row). length r) (at ∙ ap (λ (rs : List Row). get_or rs place []) (sym is) ∙ get_or-cut_rows w n place values [] (omega (arith, le))) in
    omega (arith, e, length-take w (drop (place * w) values), flat.narrow (omega (arith, le)))

-- rows from a place on have their values
pub part_fits : (w n «from» count : ℕ) (values : List (Option ℤ)) (rows : List Row) → IsFlat w n values → cut_rows w n values ≡ rows → «from» + count ≤ length rows → «from» * w + count * w ≤ length values
part_fits w n «from» count values rows flat is within =
    let le : «from» + count ≤ n = rows_up_to w n («from» + count) values rows is within in
    omega (arith, rows_fit w n («from» + count) values flat le, add-mul «from» count w)

-- a batch more
pub more_rows : (t : ℕ) (enters : Bool) («from» more : ℕ) (rows : List Row) (batch : List (Bool × Row)) (first old new : List (Entry Row)) → old ≡ first ++ rows_at t enters (take «from» rows)
    → batch ≡ map (with_sign enters) (take more (drop «from» rows)) → new ≡ old ++ map (RowAt t) batch → new ≡ first ++ rows_at t enters (take («from» + more) rows)
more_rows t enters «from» more rows batch first old new sofar is n =
    n ∙ ap₂ (λ (es : List (Entry Row)) (b : List (Bool × Row)). es ++ map (RowAt t) b) sofar is
    ∙ append_assoc first (rows_at t enters (take «from» rows)) (rows_at t enters (take more (drop «from» rows)))
    ∙ ap (λ es. first ++ es) (sym (rows_at-more t enters «from» more rows))

-- the rows that leave, those that enter, and the tick
pub tick_out_is : (t : ℕ) (once : Bool) (leave pass enter : List Row) (first left entered all : List (Entry Row)) → first ≡ [] → left ≡ first ++ rows_at t false leave → entered ≡ left ++ rows_at t true enter → all ≡ entered ++ TickAt t ∷ []
    → all ≡ out (Tick t) (record { at_once = once; leave = leave; pass = pass; enter = enter })
tick_out_is t once leave pass enter first left entered all none l e a =
    let both : left ++ rows_at t true enter ≡ rows_at t false leave ++ rows_at t true enter = ap (λ es. es ++ rows_at t true enter) (l ∙ ap (λ es. es ++ rows_at t false leave) none) in
    a ∙ ap (λ es. es ++ TickAt t ∷ []) (e ∙ both ∙ sym (map-append (RowAt t) (map (with_sign false) leave) (map (with_sign true) enter)))
