-- Loops over the combinations of a group.
use Rattle.std.proofs.Common.{◌≡◌, ℕ, ◌+◌, ◌<◌, Option, Some, None, ℤ, List, [], ◌∷◌, ◌++◌, length, get_or, take, refl, ap, sym, ◌∙◌, Bool, true, false, filter, cond, is_some}
use Rattle.std.specs.List.{reduce, filter_map}
use Rattle.std.proofs.lemmas.List.{append-nil, length-append}
use Rattle.std.proofs.lemmas.List.Elements.{filter_map-append, filter-append}
use Rattle.std.proofs.lemmas.List.Sums.{fold-append}
use Rattle.values.specs.Row.{Row}
use Rattle.values.specs.Condition as conditions
use Rattle.values.specs.Relation as relations
use Rattle.reference.specs.Views.{tables_of}
use Rattle.reference.specs.Totals.{joined}
use Rattle.reference.proofs.RowLemmas.{CodeTable, table_of, tables_done, tables_push}

joined_last : (f : ℤ → ℤ → ℤ) (xs : List ℤ) (x : ℤ) → reduce f (xs ++ x ∷ []) ≡ joined f (reduce f xs) (Some x)
joined_last f [] x = refl
joined_last f (y ∷ ys) x = ap (λ (v : ℤ). Some v) (fold-append f y ys (x ∷ []))

joined_more : (f : ℤ → ℤ → ℤ) (xs : List ℤ) (v : Option ℤ) → reduce f (xs ++ filter_map (λ (o : Option ℤ). o) (v ∷ [])) ≡ joined f (reduce f xs) v
joined_more f xs None = ap (reduce f) (append-nil xs)
joined_more f xs (Some x) = joined_last f xs x

one_number : (c : conditions.SourceColumn) (u : List Row) (v : Option ℤ) → conditions.field u c ≡ v → relations.numbers c (u ∷ []) ≡ filter_map (λ (o : Option ℤ). o) (v ∷ [])
one_number c u v e = rw e

numbers_done : (c : conditions.SourceColumn) (ts : List CodeTable) (i : ℕ) (t : CodeTable) → i < length ts → t ≡ get_or ts i t
    → relations.numbers c (tables_of (take (i + 1) ts)) ≡ relations.numbers c (tables_of (take i ts)) ++ filter_map (λ (o : Option ℤ). o) (conditions.field (table_of t) c ∷ [])
numbers_done c ts i t h is =
    ap (relations.numbers c) (tables_done ts i t h ∙ ap (λ (u : CodeTable). tables_of (take i ts) ++ table_of u ∷ []) (sym is))
    ∙ filter_map-append (λ rows. conditions.field rows c) (tables_of (take i ts)) (table_of t ∷ [])
    ∙ ap (λ v. relations.numbers c (tables_of (take i ts)) ++ v) (one_number c (table_of t) (conditions.field (table_of t) c) refl)

-- a running sum, minimum or maximum
pub reduce_done : (f : ℤ → ℤ → ℤ) (c : conditions.SourceColumn) (ts : List CodeTable) (i : ℕ) (t : CodeTable) → i < length ts → t ≡ get_or ts i t
    → reduce f (relations.numbers c (tables_of (take (i + 1) ts))) ≡ joined f (reduce f (relations.numbers c (tables_of (take i ts)))) (conditions.field (table_of t) c)
reduce_done f c ts i t h is =
    ap (reduce f) (numbers_done c ts i t h is) ∙ joined_more f (relations.numbers c (tables_of (take i ts))) (conditions.field (table_of t) c)

length_one : (v : Option ℤ) → length (filter_map (λ (o : Option ℤ). o) (v ∷ [])) ≡ cond (is_some v) 1 0
length_one None = refl
length_one (Some x) = refl

-- a running count
pub count_done : (c : conditions.SourceColumn) (ts : List CodeTable) (i : ℕ) (t : CodeTable) → i < length ts → t ≡ get_or ts i t
    → length (relations.numbers c (tables_of (take (i + 1) ts))) ≡ length (relations.numbers c (tables_of (take i ts))) + cond (is_some (conditions.field (table_of t) c)) 1 0
count_done c ts i t h is =
    ap length (numbers_done c ts i t h is)
    ∙ length-append (relations.numbers c (tables_of (take i ts))) (filter_map (λ (o : Option ℤ). o) (conditions.field (table_of t) c ∷ []))
    ∙ ap (λ n. length (relations.numbers c (tables_of (take i ts))) + n) (length_one (conditions.field (table_of t) c))

-- the combinations that pass: a loop's step
filter_done : (p : List Row → Bool) (ts : List CodeTable) (i : ℕ) (t : CodeTable) → i < length ts → t ≡ get_or ts i t
    → filter p (tables_of (take (i + 1) ts)) ≡ filter p (tables_of (take i ts)) ++ cond (p (table_of t)) (table_of t ∷ []) []
filter_done p ts i t h is =
    ap (filter p) (tables_done ts i t h ∙ ap (λ (u : CodeTable). tables_of (take i ts) ++ table_of u ∷ []) (sym is))
    ∙ filter-append p (tables_of (take i ts)) (table_of t ∷ [])

pub filter_done_yes : (p : List Row → Bool) (ts : List CodeTable) (i : ℕ) (t u : CodeTable) (old new : List CodeTable) → i < length ts → t ≡ get_or ts i t → p (table_of t) ≡ true
    → tables_of old ≡ filter p (tables_of (take i ts)) → new ≡ old ++ u ∷ [] → table_of u ≡ table_of t → tables_of new ≡ filter p (tables_of (take (i + 1) ts))
filter_done_yes p ts i t u old new h is yes' before pushed copied =
    let e : filter p (tables_of (take (i + 1) ts)) ≡ filter p (tables_of (take i ts)) ++ table_of t ∷ [] = rw yes' at (filter_done p ts i t h is) in
    tables_push old new u pushed ∙ ap (λ v. v ++ table_of u ∷ []) before ∙ ap (λ v. filter p (tables_of (take i ts)) ++ v ∷ []) copied ∙ sym e

pub filter_done_no : (p : List Row → Bool) (ts : List CodeTable) (i : ℕ) (t : CodeTable) → i < length ts → t ≡ get_or ts i t → p (table_of t) ≡ false
    → filter p (tables_of (take (i + 1) ts)) ≡ filter p (tables_of (take i ts))
filter_done_no p ts i t h is no' = (rw no' at (filter_done p ts i t h is)) ∙ append-nil (filter p (tables_of (take i ts)))
