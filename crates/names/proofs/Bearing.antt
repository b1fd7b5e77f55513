-- What a reference matches: of all columns of the sources those that bear its name, each once.
use Rattle.std.proofs.Common.{◌≡◌, ℕ, suc, ◌+◌, Bool, true, false, ◌&&◌, cond, List, [], ◌∷◌, ◌++◌, filter, length, get_or, refl, sym, ap, ◌∙◌, arith, append_assoc, length-append}
use Rattle.std.specs.List.{range_with_len}
use Rattle.std.specs.Str.{bytes_eq}
use Rattle.std.proofs.Math.Seq.{get_or-append_seam}
use Rattle.values.specs.Condition.{SourceColumn}
use Rattle.cql_reader.specs.Query.{Reference}
use Rattle.names.specs.Matches.{Table, allows, places, columns_at, matches_in, matches}
use Rattle.names.specs.Resolved.{all_columns}

abbrev source_at : List Table → SourceColumn → Table
source_at ts c = get_or ts c.source (record { name = []; columns = [] })

-- the column has the reference's name, and its source the name of the qualifier, where there is one
abbrev pub bears : List Table → Reference → SourceColumn → Bool
bears ts r c = allows r.qualifier (source_at ts c).name && bytes_eq (get_or (source_at ts c).columns c.column []) r.name

filter-append : {X : Type 0} (p : X → Bool) (xs ys : List X) → filter p (xs ++ ys) ≡ filter p xs ++ filter p ys
filter-append p [] ys = refl
filter-append p (x ∷ xs) ys = kept (p x) (filter-append p xs ys)
  where
    kept : (b : Bool) → filter p (xs ++ ys) ≡ filter p xs ++ filter p ys
        → cond b (x ∷ filter p (xs ++ ys)) (filter p (xs ++ ys)) ≡ cond b (x ∷ filter p xs) (filter p xs) ++ filter p ys
    kept true e = ap (λ zs. x ∷ zs) e
    kept false e = e

-- the columns of a source that pass, where each passes as its place does
filter-columns : (source : ℕ) (p : SourceColumn → Bool) (q : ℕ → Bool) → ((k : ℕ) → p (record { source = source; column = k }) ≡ q k)
    → (ks : List ℕ) → filter p (columns_at source ks) ≡ columns_at source (filter q ks)
filter-columns source p q agree [] = refl
filter-columns source p q agree (k ∷ ks) =
    rw (agree k) (kept (q k) (filter-columns source p q agree ks))
  where
    c : SourceColumn
    c = record { source = source; column = k }

    kept : (b : Bool) → filter p (columns_at source ks) ≡ columns_at source (filter q ks)
        → cond b (record { source = source; column = k } ∷ filter p (columns_at source ks)) (filter p (columns_at source ks)) ≡ columns_at source (cond b (k ∷ filter q ks) (filter q ks))
    kept true e = ap (λ (cs : List SourceColumn). record { source = source; column = k } ∷ cs) e
    kept false e = e

none-pass : (ks : List ℕ) → filter (λ k. false) ks ≡ []
none-pass [] = refl
none-pass (k ∷ ks) = none-pass ks

abbrev has_name : List (List ℕ) → List ℕ → ℕ → Bool
has_name xs name k = bytes_eq (get_or xs k []) name

places_are : (before xs : List (List ℕ)) (n : ℕ) (name : List ℕ) → length before ≡ n
    → places n name xs ≡ filter (has_name (before ++ xs) name) (range_with_len n (length xs))
places_are before [] n name e = refl
places_are before (x ∷ xs) n name e =
    let all : List (List ℕ) = before ++ x ∷ xs in
    let next : suc n ≡ n + 1 = omega arith in
    let here : get_or all n [] ≡ x = ap (λ (k : ℕ). get_or all k []) (sym e) ∙ get_or-append_seam before x xs [] in
    let longer : length (before ++ x ∷ []) ≡ suc n = omega (arith, e, length-append before (x ∷ [])) in
    let rest : places (suc n) name xs ≡ filter (has_name all name) (range_with_len (n + 1) (length xs)) =
    places_are (before ++ x ∷ []) xs (suc n) name longer
    ∙ ap (λ (ys : List (List ℕ)). filter (has_name ys name) (range_with_len (suc n) (length xs))) (append_assoc before (x ∷ []) xs)
    ∙ ap (λ (m : ℕ). filter (has_name all name) (range_with_len m (length xs))) next in
    ap (λ (ks : List ℕ). cond (bytes_eq x name) (n ∷ ks) ks) rest
    ∙ ap (λ (y : List ℕ). cond (bytes_eq y name) (n ∷ filter (has_name all name) (range_with_len (n + 1) (length xs))) (filter (has_name all name) (range_with_len (n + 1) (length xs)))) (sym here)

-- the matches in one source
matches_here : (ts : List Table) (r : Reference) (s : ℕ) (t : Table) → get_or ts s (record { name = []; columns = [] }) ≡ t
    → matches_in s r t ≡ filter (bears ts r) (columns_at s (range_with_len 0 (length t.columns)))
matches_here ts r s t is = in_order (allows r.qualifier t.name) refl
  where
    in_order : (b : Bool) → allows r.qualifier t.name ≡ b
        → cond b (columns_at s (places 0 r.name t.columns)) [] ≡ filter (bears ts r) (columns_at s (range_with_len 0 (length t.columns)))
    in_order true e =
        ap (columns_at s) (places_are [] t.columns 0 r.name refl)
        ∙ sym (filter-columns s (bears ts r) (has_name t.columns r.name)
        (λ k. rw is (rw e refl)) (range_with_len 0 (length t.columns)))
    in_order false e =
        sym (filter-columns s (bears ts r) (λ k. false) (λ k. rw is (rw e refl)) (range_with_len 0 (length t.columns))
        ∙ ap (columns_at s) (none-pass (range_with_len 0 (length t.columns))))

matches_after : (before ts : List Table) (r : Reference) (s : ℕ) → length before ≡ s → matches s ts r ≡ filter (bears (before ++ ts) r) (all_columns s ts)
matches_after before [] r s e = refl
matches_after before (t ∷ ts) r s e =
    let all : List Table = before ++ t ∷ ts in
    let is : get_or all s (record { name = []; columns = [] }) ≡ t =
    ap (λ (k : ℕ). get_or all k (record { name = []; columns = [] })) (sym e) ∙ get_or-append_seam before t ts (record { name = []; columns = [] }) in
    let longer : length (before ++ t ∷ []) ≡ suc s = omega (arith, e, length-append before (t ∷ [])) in
    let rest : matches (suc s) ts r ≡ filter (bears all r) (all_columns (suc s) ts) =
    matches_after (before ++ t ∷ []) ts r (suc s) longer
    ∙ ap (λ (us : List Table). filter (bears us r) (all_columns (suc s) ts)) (append_assoc before (t ∷ []) ts) in
    ap (λ (cs : List SourceColumn). cs ++ matches (suc s) ts r) (matches_here all r s t is)
    ∙ ap (λ (cs : List SourceColumn). filter (bears all r) (columns_at s (range_with_len 0 (length t.columns))) ++ cs) rest
    ∙ sym (filter-append (bears all r) (columns_at s (range_with_len 0 (length t.columns))) (all_columns (suc s) ts))

-- OF ALL COLUMNS of the sources
pub matches_bear : (ts : List Table) (r : Reference) → matches 0 ts r ≡ filter (bears ts r) (all_columns 0 ts)
matches_bear ts r = matches_after [] ts r 0 refl
