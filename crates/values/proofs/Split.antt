-- A condition split into its conjuncts, and a conjunct of one source taken before the combinations.
use Rattle.std.proofs.Common.{◌≡◌, Bool, true, false, ◌&&◌, Option, Some, None, List, [], ◌∷◌, ◌++◌, map, filter, refl, ap, ◌∙◌}
use Rattle.std.proofs.lemmas.List.Elements.{filter-append}
use Rattle.values.specs.Row.{Row}
use Rattle.values.specs.Condition.{Condition, And, and3, is_known_true, truth, keeps}
use Rattle.values.specs.Relation.{combinations}

both_true : (a b : Option Bool) → is_known_true (and3 a b) ≡ (is_known_true a && is_known_true b)
both_true None None = refl
both_true None (Some true) = refl
both_true None (Some false) = refl
both_true (Some true) b = refl
both_true (Some false) b = refl

pub keeps-and : (c d : Condition) (rows : List Row) → keeps (Some (And c d)) rows ≡ (keeps (Some c) rows && keeps (Some d) rows)
keeps-and c d rows = both_true (truth c rows) (truth d rows)

filter_all : (q : List Row → Bool) (r : Row) (rests : List (List Row)) → ((c : List Row) → q (r ∷ c) ≡ true)
    → filter q (map (λ rest. r ∷ rest) rests) ≡ map (λ rest. r ∷ rest) rests
filter_all q r [] h = refl
filter_all q r (c ∷ rests) h = rw (h c) (ap (λ v. (r ∷ c) ∷ v) (filter_all q r rests h))

filter_none : (q : List Row → Bool) (r : Row) (rests : List (List Row)) → ((c : List Row) → q (r ∷ c) ≡ false)
    → filter q (map (λ rest. r ∷ rest) rests) ≡ []
filter_none q r [] h = refl
filter_none q r (c ∷ rests) h = rw (h c) (filter_none q r rests h)

by_test : {P : Type 0} (b : Bool) → (b ≡ true → P) → (b ≡ false → P) → P
by_test true t f = t refl
by_test false t f = f refl

-- a test of the first source's row alone
pub combinations-filter_first : (p : Row → Bool) (q : List Row → Bool) → ((r : Row) (c : List Row) → q (r ∷ c) ≡ p r) → (w : List Row) (ws : List (List Row))
    → filter q (combinations (w ∷ ws)) ≡ combinations (filter p w ∷ ws)
combinations-filter_first p q h [] ws = refl
combinations-filter_first p q h (r ∷ w) ws =
    let each : List (List Row) = map (λ rest. r ∷ rest) (combinations ws) in
    filter-append q each (combinations (w ∷ ws))
    ∙ by_test (p r)
    (λ t. rw t (ap (λ v. v ++ filter q (combinations (w ∷ ws))) (filter_all q r (combinations ws) (λ c. h r c ∙ t)) ∙ ap (λ v. each ++ v) (combinations-filter_first p q h w ws)))
    (λ f. rw f (ap (λ v. v ++ filter q (combinations (w ∷ ws))) (filter_none q r (combinations ws) (λ c. h r c ∙ f)) ∙ combinations-filter_first p q h w ws))
