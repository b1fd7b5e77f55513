-- The columns of a source, one after the other.
use Rattle.std.proofs.Common.{◌≡◌, ℕ, ◌+◌, List, [], ◌∷◌, ◌++◌, map, sym, ap, ◌∙◌, arith, append_assoc}
use Rattle.std.specs.List.{range_with_len}
use Rattle.std.proofs.lemmas.List.{map-append}
use Rattle.std.proofs.lemmas.List.FromFn.{map-range_with_len_more}
use Rattle.values.specs.Condition as spec
use Rattle.values.specs.Resolved.{column_of, columns_of}
use Rattle.values.specs.declared.resolved.SourceColumn.{SourceColumn}

pub columns_more : (new old before : List SourceColumn) (source column : ℕ) (added : SourceColumn) → added ≡ record { source = source; column = column }
    → new ≡ old ++ added ∷ []
    → columns_of old ≡ columns_of before ++ map (λ c. record { source = source; column = c }) (range_with_len 0 column)
    → columns_of new ≡ columns_of before ++ map (λ c. record { source = source; column = c }) (range_with_len 0 (column + 1))
columns_more new old before source column added is pushed h =
    let f : ℕ → spec.SourceColumn = λ c. record { source = source; column = c } in
    ap columns_of pushed ∙ map-append column_of old (added ∷ [])
    ∙ ap (λ cs. cs ++ column_of added ∷ []) h
    ∙ append_assoc (columns_of before) (map f (range_with_len 0 column)) (column_of added ∷ [])
    ∙ ap (λ (c : SourceColumn). columns_of before ++ (map f (range_with_len 0 column) ++ column_of c ∷ [])) is
    ∙ ap (λ cs. columns_of before ++ cs) (sym (map-range_with_len_more f 0 column column (omega arith)))
