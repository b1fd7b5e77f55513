-- Sums of what streams and queries hold, as far as the code counts.
use Rattle.std.proofs.Common.{◌≡◌, ◌∙◌, ◌<◌, ◌≤◌, ◌+◌, ◌-◌, ◌*◌, ◌^◌, ◌⊎◌, inl, inr, ℕ, List, [], Option, None, Some, length, map, take, get_or, slice_get, min, ap, sym, subst, arith}
use Rattle.std.specs.List.{sum_by}
use Rattle.std.specs.Option.{option_map_or}
use Rattle.std.proofs.lemmas.List.{length-map}
use Rattle.std.proofs.lemmas.List.Sums.{sum_by_more}
use Rattle.std.proofs.lemmas.Option.{slice_get_cases}
use Rattle.names.specs.Names.{names_of}
use Rattle.cql_reader.specs.Names.{name_of}
use Rattle.cql_reader.specs.declared.name.Name.{Name}
use Rattle.reference.specs.Machine.{Registered}
use Rattle.hub.specs.Measures.{counted, values_of_query}

-- one of them more
pub sum_next : {A : Type 0} (F : A → ℕ) (xs : List A) (k values one next : ℕ) (x : A) → k < length xs → x ≡ get_or xs k x → values ≡ counted (sum_by F (take k xs)) → one ≡ counted (F x) → next ≡ min (values + one) (2 ^ 64 - 1)
    → next ≡ counted (sum_by F (take (k + 1) xs))
sum_next F xs k values one next x lt is was here gives =
    let sum = sum_by_more F xs k x lt in
    let same : F x ≡ F (get_or xs k x) = ap F is in
    omega (arith, sum, same, was, here, gives)

-- the answers of one query more
pub answers_next : (qs : List Registered) (k values one next : ℕ) → k < length qs → values ≡ counted (sum_by values_of_query (take k qs)) → one ≡ min (length (option_map_or (λ q. q.earlier) (slice_get qs k) []) * 4) (2 ^ 64 - 1)
    → next ≡ min (values + one) (2 ^ 64 - 1) → next ≡ counted (sum_by values_of_query (take (k + 1) qs))
answers_next qs k values one next lt was here gives =
    elim (slice_get_cases qs k).1 [
      | inl q ↦
          let waits = subst (λ (o : Option Registered). one ≡ min (length (option_map_or (λ x. x.earlier) o []) * 4) (2 ^ 64 - 1)) q.2 here in
          sum_next values_of_query qs k values one next q.0 lt (sym q.3) was waits gives
      | inr n ↦ absurd (omega (arith, n.0, lt))
    ]

-- the rows of one stream
pub rows_held : (kept width elements : ℕ) (columns : List Name) (names : List (List ℕ)) (result : ℕ) → kept ≡ elements → width ≡ (length columns + 1) * 4 → names_of columns ≡ names → result ≡ min (kept * width) (2 ^ 64 - 1)
    → result ≡ counted (elements * ((length names + 1) * 4))
rows_held kept width elements columns names result many wide is gives =
    let long : length columns ≡ length names = sym (length-map columns name_of) ∙ ap (λ (x : List (List ℕ)). length x) is in
    gives ∙ ap (λ k. counted (k * width)) many ∙ ap (λ w. counted (elements * w)) (wide ∙ ap (λ n. (n + 1) * 4) long)
