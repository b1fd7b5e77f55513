-- Rows kept flat are a list of rows.
use Rattle.std.proofs.Common.{◌≡◌, ◌≤◌, ◌+◌, ℕ, ℤ, Option, List, [], ◌∷◌, ◌++◌, take, drop, length, sum, refl, sym, ap, ◌∙◌, arith, suc, Bool, true, false, not, ◌&&◌, ◌||◌, length-drop}
use Rattle.std.proofs.lemmas.List.{take-append-le, drop-append-le, take_all, take-append-drop, length-take-le}
use Rattle.std.proofs.lemmas.List.Sums.{sum_by-cons}
use Rattle.std.proofs.lemmas.List.Folds.{list_all-append}
use Rattle.std.specs.List.{list_any, list_all}
use Rattle.reference.specs.NewRows.{rows_in}

suc-injective : (a b : ℕ) → suc a ≡ suc b → a ≡ b
suc-injective a b h = omega arith

pub length-rows_in : (instants : List ℤ) (widths : List ℕ) (values : List (Option ℤ)) → length widths ≡ length instants
    → length (rows_in instants widths values) ≡ length instants
length-rows_in [] widths values h = refl
length-rows_in (at ∷ instants) [] values h = cc
length-rows_in (at ∷ instants) (width ∷ widths) values h =
    ap suc (length-rows_in instants widths (drop width values) (suc-injective _ _ h))

-- no rows are no instants
pub empty-rows_in : (instants : List ℤ) (widths : List ℕ) (values : List (Option ℤ)) → length widths ≡ length instants
    → rows_in instants widths values ≡ [] → instants ≡ []
empty-rows_in [] widths values h e = refl
empty-rows_in (at ∷ instants) [] values h e = cc
empty-rows_in (at ∷ instants) (width ∷ widths) values h e = cc

pub rows_in-push : (instants : List ℤ) (widths : List ℕ) (values more : List (Option ℤ)) (at : ℤ)
    → length widths ≡ length instants → sum widths ≡ length values
    → rows_in (instants ++ at ∷ []) (widths ++ length more ∷ []) (values ++ more) ≡ rows_in instants widths values ++ (at, more) ∷ []
rows_in-push [] [] [] more at h s = ap (λ xs. (at, xs) ∷ []) (take_all (length more) more (omega arith))
rows_in-push [] [] (v ∷ values) more at h s = cc
rows_in-push [] (width ∷ widths) values more at h s = cc
rows_in-push (a ∷ instants) [] values more at h s = cc
rows_in-push (a ∷ instants) (width ∷ widths) values more at h s =
    let t : width + sum widths ≡ length values = sym (sum_by-cons (λ n. n) width widths) ∙ s in
    let within : width ≤ length values = omega (arith, t) in
    let rest : sum widths ≡ length (drop width values) = rw length-drop (omega (arith, t)) in
    rw take-append-le (rw drop-append-le (ap (λ xs. (a, take width values) ∷ xs)
    (rows_in-push instants widths (drop width values) more at (suc-injective _ _ h) rest)))

-- a test of the instants
pub any-instants : (f : ℤ → Bool) (instants : List ℤ) (widths : List ℕ) (values : List (Option ℤ)) → length widths ≡ length instants
    → list_any f instants ≡ list_any (λ r. f r.0) (rows_in instants widths values)
any-instants f [] widths values h = refl
any-instants f (at ∷ instants) [] values h = cc
any-instants f (at ∷ instants) (width ∷ widths) values h =
    ap (λ b. f at || b) (any-instants f instants widths (drop width values) (suc-injective _ _ h))

sum-cons : (width : ℕ) (widths : List ℕ) → sum (width ∷ widths) ≡ width + sum widths
sum-cons width widths = sum_by-cons (λ n. n) width widths

pub fits : (width : ℕ) (widths : List ℕ) (values : List (Option ℤ)) → sum (width ∷ widths) ≡ length values → width ≤ length values
fits width widths values s = let t : width + sum widths ≡ length values = sym (sum-cons width widths) ∙ s in omega (arith, t)

pub left : (width : ℕ) (widths : List ℕ) (values : List (Option ℤ)) → sum (width ∷ widths) ≡ length values → sum widths ≡ length (drop width values)
left width widths values s = let t : width + sum widths ≡ length values = sym (sum-cons width widths) ∙ s in rw length-drop (omega (arith, t))

-- a test of the widths
pub any-widths : (f : ℕ → Bool) (instants : List ℤ) (widths : List ℕ) (values : List (Option ℤ)) → length widths ≡ length instants
    → sum widths ≡ length values → list_any f widths ≡ list_any (λ r. f (length r.1)) (rows_in instants widths values)
any-widths f [] [] values h s = refl
any-widths f [] (width ∷ widths) values h s = cc
any-widths f (at ∷ instants) [] values h s = cc
any-widths f (at ∷ instants) (width ∷ widths) values h s =
    let e : width ≡ length (take width values) = sym (length-take-le width values (fits width widths values s)) in
    ap (λ n. f n || list_any f widths) e
    ∙ ap (λ b. f (length (take width values)) || b) (any-widths f instants widths (drop width values) (suc-injective _ _ h) (left width widths values s))

or-not : (a b : Bool) → not (a && b) ≡ (not a || not b)
or-not true b = refl
or-not false b = refl

-- a test of the values
pub all-values : (f : Option ℤ → Bool) (instants : List ℤ) (widths : List ℕ) (values : List (Option ℤ)) → length widths ≡ length instants
    → sum widths ≡ length values → not (list_all f values) ≡ list_any (λ r. not (list_all f r.1)) (rows_in instants widths values)
all-values f [] [] [] h s = refl
all-values f [] [] (v ∷ values) h s = cc
all-values f [] (width ∷ widths) values h s = cc
all-values f (at ∷ instants) [] values h s = cc
all-values f (at ∷ instants) (width ∷ widths) values h s =
    ap (λ vs. not (list_all f vs)) (sym (take-append-drop width values))
    ∙ ap not (list_all-append f (take width values) (drop width values))
    ∙ or-not (list_all f (take width values)) (list_all f (drop width values))
    ∙ ap (λ b. not (list_all f (take width values)) || b) (all-values f instants widths (drop width values) (suc-injective _ _ h) (left width widths values s))
