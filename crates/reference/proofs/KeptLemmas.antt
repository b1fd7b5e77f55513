-- Rows of one width that are kept flat, and what an append makes of them.
use Rattle.std.proofs.Common.{◌≡◌, ◌≤◌, ◌<◌, ◌+◌, ◌*◌, ℕ, ℤ, zero, suc, Bool, true, false, cond, not, ◌&&◌, ◌==◌, nat_le, nat_abs, Option, List, [], ◌∷◌, ◌++◌, length, add-one, map, filter, take, drop, get_or, sum, refl, sym, ap, ◌∙◌, arith, length-drop, length-append, append_assoc}
use Rattle.std.specs.List.{list_any, list_all}
use Rattle.std.proofs.Math.Nat.{suc-mul, add-mul}
use Rattle.std.proofs.Math.Seq.{drop-cons}
use Rattle.std.proofs.lemmas.Bool.{eqb-true}
use Rattle.std.proofs.lemmas.List.{take-append-le, drop-append-le, take_all, drop_all, map-append, take-append-drop, length-map, length-take-le}
use Rattle.arrayvec.specs.ArrayVec.{ArrayVec}
use Rattle.values.specs.Row.{Row}
use Rattle.values.specs.Window.{Element, numbered, input_of}
use Rattle.values.specs.Plain.{plain}
use Rattle.values.proofs.Closed.{numbered-append}
use Rattle.reference.specs.Appended.{kept_of, instants_of, values_of}
use Rattle.reference.specs.Commands.{elements_from}
use Rattle.reference.specs.Kept.{kept_in}
use Rattle.reference.specs.NewRows.{rows_in}
use Rattle.reference.specs.Views.{pairs_of}
use Rattle.reference.proofs.NewRowLemmas.{fits, left}
use Rattle.reference.proofs.StreamLemmas.{or_left, or_right, not_false}

suc-injective : (a b : ℕ) → suc a ≡ suc b → a ≡ b
suc-injective a b h = omega arith

-- the instants and the values of rows that came flat
pub instants-flat : (instants : List ℤ) (widths : List ℕ) (values : List (Option ℤ)) → length widths ≡ length instants
    → map nat_abs instants ≡ instants_of (rows_in instants widths values)
instants-flat [] widths values h = refl
instants-flat (at ∷ instants) [] values h = cc
instants-flat (at ∷ instants) (width ∷ widths) values h =
    ap (λ is. nat_abs at ∷ is) (instants-flat instants widths (drop width values) (suc-injective _ _ h))

pub values-flat : (instants : List ℤ) (widths : List ℕ) (values : List (Option ℤ)) → length widths ≡ length instants → sum widths ≡ length values
    → values ≡ values_of (rows_in instants widths values)
values-flat [] [] [] h s = refl
values-flat [] [] (v ∷ values) h s = cc
values-flat [] (width ∷ widths) values h s = cc
values-flat (at ∷ instants) [] values h s = cc
values-flat (at ∷ instants) (width ∷ widths) values h s =
    sym (take-append-drop width values)
    ∙ ap (λ vs. take width values ++ vs) (values-flat instants widths (drop width values) (suc-injective _ _ h) (left width widths values s))

-- the lists that rows are kept in are known from the rows
pub instants_back : (instants : List ℤ) (widths : List ℕ) (values : List (Option ℤ)) → length widths ≡ length instants
    → map (λ r. r.0) (rows_in instants widths values) ≡ instants
instants_back [] widths values h = refl
instants_back (at ∷ instants) [] values h = cc
instants_back (at ∷ instants) (width ∷ widths) values h =
    ap (λ xs. at ∷ xs) (instants_back instants widths (drop width values) (suc-injective _ _ h))

pub widths_back : (instants : List ℤ) (widths : List ℕ) (values : List (Option ℤ)) → length widths ≡ length instants → sum widths ≡ length values
    → map (λ r. length r.1) (rows_in instants widths values) ≡ widths
widths_back [] [] values h s = refl
widths_back [] (width ∷ widths) values h s = cc
widths_back (at ∷ instants) [] values h s = cc
widths_back (at ∷ instants) (width ∷ widths) values h s =
    ap (λ n. n ∷ map (λ r. length r.1) (rows_in instants widths (drop width values))) (length-take-le width values (fits width widths values s))
    ∙ ap (λ ws. width ∷ ws) (widths_back instants widths (drop width values) (suc-injective _ _ h) (left width widths values s))

pub same_parts : (i j : List ℤ) (w x : List ℕ) (v u : List (Option ℤ)) → length w ≡ length i → sum w ≡ length v → length x ≡ length j → sum x ≡ length u
    → rows_in i w v ≡ rows_in j x u → (i ≡ j) × (w ≡ x) × (v ≡ u)
same_parts i j w x v u hw sw hx sx e = (
  sym (instants_back i w v hw) ∙ ap (map (λ r. r.0)) e ∙ instants_back j x u hx,
  sym (widths_back i w v hw sw) ∙ ap (map (λ r. length r.1)) e ∙ widths_back j x u hx sx,
  values-flat i w v hw sw ∙ ap values_of e ∙ sym (values-flat j x u hx sx),
)

pub length-instants_of : (rows : List (ℤ × List (Option ℤ))) → length (instants_of rows) ≡ length rows
length-instants_of rows = length-map rows (λ (r : ℤ × List (Option ℤ)). nat_abs r.0)

-- rows that all have the width
abbrev pub AreWide : ℕ → List (ℤ × List (Option ℤ)) → Type 0
AreWide width rows = list_any (λ r. not (length r.1 == width)) rows ≡ false

first-wide : (width : ℕ) (r : ℤ × List (Option ℤ)) (rows : List (ℤ × List (Option ℤ))) → AreWide width (r ∷ rows) → length r.1 ≡ width
first-wide width r rows h = eqb-true (length r.1) width (not_false _ (or_left _ _ h))

one-more : (count width : ℕ) → suc count * width ≡ width + count * width
one-more count width = omega (arith, suc-mul count width)

pub length-values_of : (width : ℕ) (rows : List (ℤ × List (Option ℤ))) → AreWide width rows → length (values_of rows) ≡ length rows * width
length-values_of width [] h = let none : 0 ≡ 0 * width = omega arith in none
length-values_of width (r ∷ rows) h =
    length-append r.1 (values_of rows)
    ∙ ap (λ n. n + length (values_of rows)) (first-wide width r rows h)
    ∙ ap (λ n. width + n) (length-values_of width rows (or_right _ _ h))
    ∙ sym (one-more (length rows) width)

take-whole : (width : ℕ) (xs ys : List (Option ℤ)) → length xs ≡ width → take width (xs ++ ys) ≡ xs
take-whole width xs ys h = take-append-le width xs ys (omega (arith, h)) ∙ take_all width xs (omega (arith, h))

drop-whole : (width : ℕ) (xs ys : List (Option ℤ)) → length xs ≡ width → drop width (xs ++ ys) ≡ ys
drop-whole width xs ys h = drop-append-le width xs ys (omega (arith, h)) ∙ ap (λ vs. vs ++ ys) (drop_all width xs (omega (arith, h)))

kept_in-rows : (width : ℕ) (rows : List (ℤ × List (Option ℤ))) → AreWide width rows → kept_in width (instants_of rows) (values_of rows) ≡ kept_of rows
kept_in-rows width [] h = refl
kept_in-rows width (r ∷ rows) h =
    let wide : length r.1 ≡ width = first-wide width r rows h in
    ap (λ (row : Row). (nat_abs r.0, row) ∷ kept_in width (instants_of rows) (drop width (r.1 ++ values_of rows))) (take-whole width r.1 (values_of rows) wide)
    ∙ ap (λ vs. (nat_abs r.0, r.1) ∷ kept_in width (instants_of rows) vs) (drop-whole width r.1 (values_of rows) wide)
    ∙ ap (λ (es : List (ℕ × Row)). (nat_abs r.0, r.1) ∷ es) (kept_in-rows width rows (or_right _ _ h))

kept_in-append : (width : ℕ) (instants : List ℕ) (values : List (Option ℤ)) (rows : List (ℤ × List (Option ℤ)))
    → length values ≡ length instants * width → AreWide width rows
    → kept_in width (instants ++ instants_of rows) (values ++ values_of rows) ≡ kept_in width instants values ++ kept_of rows
kept_in-append width [] [] rows all h = kept_in-rows width rows h
kept_in-append width [] (v ∷ values) rows all h = let none : suc (length values) ≡ 0 = all ∙ omega arith in absurd (omega (arith, none))
kept_in-append width (at ∷ instants) values rows all h =
    let whole : length values ≡ width + length instants * width = all ∙ one-more (length instants) width in
    let fits : width ≤ length values = omega (arith, whole) in
    let rest : length (drop width values) ≡ length instants * width = rw length-drop (omega (arith, whole)) in
    rw take-append-le (rw drop-append-le (ap (λ (es : List (ℕ × Row)). (at, take width values) ∷ es)
    (kept_in-append width instants (drop width values) rows rest h)))

length-kept_in : (width : ℕ) (instants : List ℕ) (values : List (Option ℤ)) → length (kept_in width instants values) ≡ length instants
length-kept_in width [] values = refl
length-kept_in width (at ∷ instants) values = ap suc (length-kept_in width instants (drop width values))

-- what an append makes of a stream's elements
pub kept-elements : (width : ℕ) (instants : List ℕ) (values : List (Option ℤ)) (rows : List (ℤ × List (Option ℤ)))
    → length values ≡ length instants * width → AreWide width rows
    → numbered 0 (kept_in width (instants ++ instants_of rows) (values ++ values_of rows))
    ≡ numbered 0 (kept_in width instants values) ++ elements_from (length instants) rows
kept-elements width instants values rows all h =
    let old : List (ℕ × Row) = kept_in width instants values in
    let n : 0 + length old ≡ length instants = omega (arith, length-kept_in width instants values) in
    ap (numbered 0) (kept_in-append width instants values rows all h)
    ∙ numbered-append 0 old (kept_of rows)
    ∙ ap (λ k. numbered 0 old ++ numbered k (kept_of rows)) n

pub flat-arrivals : (instants : List ℕ) (rows : List (ℤ × List (Option ℤ))) → length (instants ++ instants_of rows) ≡ length instants + length rows
flat-arrivals instants rows = length-append instants (instants_of rows) ∙ ap (λ n. length instants + n) (length-instants_of rows)

pub kept-values : (width : ℕ) (instants : List ℕ) (values : List (Option ℤ)) (rows : List (ℤ × List (Option ℤ)))
    → length values ≡ length instants * width → AreWide width rows
    → length (values ++ values_of rows) ≡ length (instants ++ instants_of rows) * width
kept-values width instants values rows all h =
    let both : (length instants + length rows) * width ≡ length instants * width + length rows * width = add-mul (length instants) (length rows) width in
    length-append values (values_of rows)
    ∙ ap (λ n. n + length (values_of rows)) all
    ∙ ap (λ n. length instants * width + n) (length-values_of width rows h)
    ∙ sym both
    ∙ ap (λ n. n * width) (sym (flat-arrivals instants rows))

-- the elements from a place on: the first of them, and the others
next-kept : (width : ℕ) (instants : List ℕ) (i d : ℕ) (rest : List (Option ℤ)) → i < length instants
    → kept_in width (drop i instants) rest ≡ (get_or instants i d, take width rest) ∷ kept_in width (drop (i + 1) instants) (drop width rest)
next-kept width instants i d rest h = rw add-one (ap (λ is. kept_in width is rest) (drop-cons instants i d h))

pub next-fits : (width : ℕ) (instants : List ℕ) (i : ℕ) (rest : List (Option ℤ)) → i < length instants → length rest ≡ length (drop i instants) * width
    → (width ≤ length rest) × (length (drop width rest) ≡ length (drop (i + 1) instants) * width)
next-fits width instants i rest h all =
    let more : length (drop i instants) ≡ suc (length (drop (i + 1) instants)) = rw add-one (ap length (drop-cons instants i 0 h)) in
    let whole : length rest ≡ width + length (drop (i + 1) instants) * width
    = all ∙ ap (λ n. n * width) more ∙ one-more (length (drop (i + 1) instants)) width in
    (omega (arith, whole), rw length-drop (omega (arith, whole)))

abbrev Pairs : Type 0
Pairs = List (ℕ × ArrayVec (Option ℤ))

abbrev counts : ℕ → ℕ → Element → Bool
counts place from e = nat_le place e.arrival && nat_le from e.instant

-- what counts of rows that are numbered from i on
abbrev counting : ℕ → ℕ → ℕ → List (ℕ × Row) → List (ℕ × Row)
counting place from i es = plain (input_of place from (numbered i es))

counting-yes : (place from i at : ℕ) (row : Row) (es : List (ℕ × Row)) → (nat_le place i && nat_le from at) ≡ true
    → counting place from i ((at, row) ∷ es) ≡ (at, row) ∷ counting place from (suc i) es
counting-yes place from i at row es h =
    let others : List Element = filter (counts place from) (numbered (suc i) es) in
    ap (λ b. plain (cond b (record { arrival = i; instant = at; row = row } ∷ others) others)) h

counting-no : (place from i at : ℕ) (row : Row) (es : List (ℕ × Row)) → (nat_le place i && nat_le from at) ≡ false
    → counting place from i ((at, row) ∷ es) ≡ counting place from (suc i) es
counting-no place from i at row es h =
    let others : List Element = filter (counts place from) (numbered (suc i) es) in
    ap (λ b. plain (cond b (record { arrival = i; instant = at; row = row } ∷ others) others)) h

pub input-kept : (place from width : ℕ) (instants : List ℕ) (i d : ℕ) (rest after : List (Option ℤ)) (old new : Pairs) (row : ArrayVec (Option ℤ)) (whole : List (ℕ × Row)) → i < length instants
    → (nat_le place i && nat_le from (get_or instants i d)) ≡ true → row.items ≡ take width rest → after ≡ drop width rest → new ≡ old ++ (get_or instants i d, row) ∷ []
    → pairs_of old ++ counting place from i (kept_in width (drop i instants) rest) ≡ whole
    → pairs_of new ++ counting place from (i + 1) (kept_in width (drop (i + 1) instants) after) ≡ whole
input-kept place from width instants i d rest after old new row whole h yes' is goes pushed before =
    let at : ℕ = get_or instants i d in
    let others : List (ℕ × Row) = kept_in width (drop (i + 1) instants) (drop width rest) in
    let step : counting place from i (kept_in width (drop i instants) rest) ≡ (at, take width rest) ∷ counting place from (i + 1) others
    = rw add-one (ap (counting place from i) (rw add-one at (next-kept width instants i d rest h)) ∙ counting-yes place from i at (take width rest) (kept_in width (drop (suc i) instants) (drop width rest)) yes') in
    ap (λ vs. pairs_of new ++ counting place from (i + 1) (kept_in width (drop (i + 1) instants) vs)) goes
    ∙ ap (λ es. pairs_of es ++ counting place from (i + 1) others) pushed
    ∙ ap (λ es. es ++ counting place from (i + 1) others) (map-append (λ (e : ℕ × ArrayVec (Option ℤ)). (e.0, e.1.items)) old ((at, row) ∷ []))
    ∙ append_assoc (pairs_of old) ((at, row.items) ∷ []) (counting place from (i + 1) others)
    ∙ ap (λ (items : Row). pairs_of old ++ (at, items) ∷ counting place from (i + 1) others) is
    ∙ ap (λ es. pairs_of old ++ es) (sym step)
    ∙ before

pub input-passed : (place from width : ℕ) (instants : List ℕ) (i d : ℕ) (rest after : List (Option ℤ)) (old : Pairs) (whole : List (ℕ × Row)) → i < length instants
    → (nat_le place i && nat_le from (get_or instants i d)) ≡ false → after ≡ drop width rest
    → pairs_of old ++ counting place from i (kept_in width (drop i instants) rest) ≡ whole
    → pairs_of old ++ counting place from (i + 1) (kept_in width (drop (i + 1) instants) after) ≡ whole
input-passed place from width instants i d rest after old whole h not_in goes before =
    let at : ℕ = get_or instants i d in
    let others : List (ℕ × Row) = kept_in width (drop (i + 1) instants) (drop width rest) in
    let step : counting place from i (kept_in width (drop i instants) rest) ≡ counting place from (i + 1) others
    = rw add-one (ap (counting place from i) (rw add-one at (next-kept width instants i d rest h)) ∙ counting-no place from i at (take width rest) (kept_in width (drop (suc i) instants) (drop width rest)) not_in) in
    ap (λ vs. pairs_of old ++ counting place from (i + 1) (kept_in width (drop (i + 1) instants) vs)) goes
    ∙ ap (λ es. pairs_of old ++ es) (sym step)
    ∙ before

-- a test that no element fails
pub none-fails : {X : Type 0} (f : X → Bool) (xs : List X) → list_any (λ x. not (f x)) xs ≡ false → list_all f xs ≡ true
none-fails f [] h = refl
none-fails f (x ∷ xs) h = all-two (f x) (list_all f xs) (not_false _ (or_left _ _ h)) (none-fails f xs (or_right _ _ h))
  where
    all-two : (a b : Bool) → a ≡ true → b ≡ true → (a && b) ≡ true
    all-two a b p q = rw (p, q) refl

pub passes-at : {X : Type 0} (f : X → Bool) (xs : List X) (i : ℕ) (d : X) → list_all f xs ≡ true → i < length xs → f (get_or xs i d) ≡ true
passes-at f [] i d all h = absurd (omega arith)
passes-at f (x ∷ xs) zero d all h = all-first (f x) (list_all f xs) all
  where
    all-first : (a b : Bool) → (a && b) ≡ true → a ≡ true
    all-first true b h = refl
    all-first false b h = cc
passes-at f (x ∷ xs) (suc i) d all h = passes-at f xs i d (all-second (f x) (list_all f xs) all) (omega arith)
  where
    all-second : (a b : Bool) → (a && b) ≡ true → b ≡ true
    all-second true b h = h
    all-second false b h = cc
