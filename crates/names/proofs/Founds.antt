-- What is found part by part.
use Rattle.std.proofs.Common.{◌≡◌, ℕ, suc, ◌+◌, ◌<◌, Bool, true, false, cond, List, [], ◌∷◌, ◌++◌, length, get_or, drop, map, refl, sym, ap, ◌∙◌, arith}
use Rattle.std.proofs.Common.{drop-cons}
use Rattle.std.specs.Str.{bytes_eq}
use Rattle.values.specs.Condition as conditions
use Rattle.cql_reader.specs.Query as syntax
use Rattle.cql_reader.specs.Names.{name_of}
use Rattle.cql_reader.specs.declared.name.Name.{Name}
use Rattle.names.specs.Matches as spec
use Rattle.names.specs.declared.matching.Table.{Table}
use Rattle.names.specs.declared.matching.Found.{Found}
use Rattle.names.specs.declared.matching.Found.TheVariants.{Missing, One, Many}
use Rattle.names.specs.Views.{code_column, first_found, table_of, tables_of, found_of, merged}

pub merged-missing : (f : Found) → merged f Missing ≡ f
merged-missing Missing = refl
merged-missing (One c) = refl
merged-missing (Many c) = refl

pub merged-assoc : (f g h : Found) → merged (merged f g) h ≡ merged f (merged g h)
merged-assoc Missing g h = refl
merged-assoc (One c) Missing h = refl
merged-assoc (One c) (One d) Missing = refl
merged-assoc (One c) (One d) (One e) = refl
merged-assoc (One c) (One d) (Many e) = refl
merged-assoc (One c) (Many d) h = refl
merged-assoc (Many c) g h = refl

pub found-cons : (c : conditions.SourceColumn) (cs : List conditions.SourceColumn) → found_of (c ∷ cs) ≡ merged (One (code_column c)) (found_of cs)
found-cons c [] = refl
found-cons c (d ∷ []) = refl
found-cons c (d ∷ e ∷ cs) = refl

pub found-append : (cs ds : List conditions.SourceColumn) → found_of (cs ++ ds) ≡ merged (found_of cs) (found_of ds)
found-append [] ds = refl
found-append (c ∷ cs) ds =
    found-cons c (cs ++ ds) ∙ ap (λ f. merged (One (code_column c)) f) (found-append cs ds)
    ∙ sym (merged-assoc (One (code_column c)) (found_of cs) (found_of ds)) ∙ ap (λ f. merged f (found_of ds)) (sym (found-cons c cs))

-- the first column of what was found is that of the matches
pub first-found : (cs : List conditions.SourceColumn) → first_found (found_of cs) ≡ spec.first_column cs
first-found [] = refl
first-found (c ∷ []) = refl
first-found (c ∷ d ∷ cs) = refl

-- one source more
pub find_step : (f g : Found) (i : ℕ) (tables : List Table) (r : syntax.Reference) (t : Table) → i < length tables → t ≡ get_or tables i t
    → g ≡ merged f (found_of (spec.matches_in i r (table_of t)))
    → merged g (found_of (spec.matches (i + 1) (tables_of (drop (i + 1) tables)) r)) ≡ merged f (found_of (spec.matches i (tables_of (drop i tables)) r))
find_step f g i tables r t l e k =
    let j : i + 1 ≡ suc i = omega arith in
    let rest : List conditions.SourceColumn = spec.matches (suc i) (tables_of (drop (suc i) tables)) r in
    let d : drop i tables ≡ t ∷ drop (suc i) tables = drop-cons tables i t l ∙ ap (λ v. v ∷ drop (suc i) tables) (sym e) in
    rw j (rw d (rw k (merged-assoc f (found_of (spec.matches_in i r (table_of t))) (found_of rest) ∙ ap (merged f) (sym (found-append (spec.matches_in i r (table_of t)) rest)))))

-- one column more
pub find_in_step : (f g : Found) (s i : ℕ) (columns : List Name) (name : List ℕ) (x : Name) → i < length columns → x ≡ get_or columns i x
    → g ≡ merged f (found_of (spec.columns_at s (spec.places i name (name_of x ∷ []))))
    → merged g (found_of (spec.columns_at s (spec.places (i + 1) name (map name_of (drop (i + 1) columns)))))
    ≡ merged f (found_of (spec.columns_at s (spec.places i name (map name_of (drop i columns)))))
find_in_step f g s i columns name x l e k =
    let j : i + 1 ≡ suc i = omega arith in
    let rest : List ℕ = spec.places (suc i) name (map name_of (drop (suc i) columns)) in
    let d : drop i columns ≡ x ∷ drop (suc i) columns = drop-cons columns i x l ∙ ap (λ v. v ∷ drop (suc i) columns) (sym e) in
    rw j (rw d (rw k (step (bytes_eq (name_of x) name) rest)))
  where
    step : (b : Bool) (rest : List ℕ) → merged (merged f (found_of (spec.columns_at s (cond b (i ∷ []) [])))) (found_of (spec.columns_at s rest))
        ≡ merged f (found_of (spec.columns_at s (cond b (i ∷ rest) rest)))
    step true rest =
        merged-assoc f (One (record { source = s; column = i })) (found_of (spec.columns_at s rest))
        ∙ ap (merged f) (sym (found-cons (record { source = s; column = i }) (spec.columns_at s rest)))
    step false rest = ap (λ v. merged v (found_of (spec.columns_at s rest))) (merged-missing f)
