-- Lists of slopes, one for each operator.
use Rattle.std.proofs.Common.{◌≡◌, ℕ, ◌+◌, ◌<◌, List, [], ◌∷◌, ◌++◌, map, take, fold, length, get_or, slice_index_or, refl, sym, ap, ◌∙◌, arith}
use Rattle.std.specs.List.{range_with_len}
use Rattle.std.proofs.lemmas.List.{take_more, map-append}
use Rattle.std.proofs.lemmas.List.Sums.{fold-append}
use Rattle.std.proofs.lemmas.List.FromFn.{map-range_with_len_more, get_or-map-range_with_len, length-map-range_with_len}
use Rattle.envelope.specs.Fraction.{Fraction, fraction}
use Rattle.envelope.specs.LowestTerms.{lowest_terms, common_divisor}
use Rattle.envelope.specs.Formula.{greater}
use Rattle.plan.specs.Paths.{nought}
use Rattle.plan.proofs.Lists.{map_same}
use Rattle.plan.proofs.Accepted.{range_in}

pub nought_in_lowest_terms : lowest_terms (fraction 0 1) ≡ nought
unfolding lowest_terms common_divisor
nought_in_lowest_terms = refl

pub pushed_more : {X : Type 0} (f : ℕ → X) (old new : List X) (k : ℕ) (x : X) → old ≡ map f (range_with_len 0 k) → new ≡ old ++ x ∷ [] → x ≡ f k → new ≡ map f (range_with_len 0 (k + 1))
pushed_more f old new k x o n e = n ∙ ap (λ v. v ++ x ∷ []) o ∙ ap (λ v. map f (range_with_len 0 k) ++ v ∷ []) e ∙ sym (map-range_with_len_more f 0 k k (omega arith))

-- each of n slopes raised to another
pub raised_more : (n : ℕ) (before after other : ℕ → Fraction) (old new : List Fraction) → old ≡ map before (range_with_len 0 n)
    → new ≡ map (λ k. greater (slice_index_or old k nought) (other k)) (range_with_len 0 (length old))
    → ((k : ℕ) → after k ≡ greater (before k) (other k)) → new ≡ map after (range_with_len 0 n)
raised_more n before after other old new o e h =
    let long : length old ≡ n = ap length o ∙ length-map-range_with_len before 0 n in
    let here : (k : ℕ) → k < n → greater (slice_index_or old k nought) (other k) ≡ after k =
    λ k l. ap (λ v. greater v (other k)) (ap (λ v. get_or v k nought) o ∙ get_or-map-range_with_len before 0 n k k nought l (omega arith)) ∙ sym (h k) in
    e ∙ ap (λ m. map (λ k. greater (slice_index_or old k nought) (other k)) (range_with_len 0 m)) long
    ∙ map_same (λ k. k < n) (λ k. greater (slice_index_or old k nought) (other k)) after here (range_with_len 0 n) (range_in 0 n n (omega arith))

pub greatest_more : (f : ℕ → Fraction) (ws : List ℕ) (i : ℕ) → i < length ws
    → fold greater nought (map f (take (i + 1) ws)) ≡ greater (fold greater nought (map f (take i ws))) (f (slice_index_or ws i 0))
greatest_more f ws i l =
    ap (λ v. fold greater nought (map f v)) (take_more ws i 0 l)
    ∙ ap (fold greater nought) (map-append f (take i ws) (get_or ws i 0 ∷ []))
    ∙ fold-append greater nought (map f (take i ws)) (f (get_or ws i 0) ∷ [])
