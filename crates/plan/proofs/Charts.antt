-- What is true of a chart that is accepted.
use Rattle.std.proofs.Common.{◌≡◌, ℕ, zero, suc, ◌<◌, Bool, true, false, ◌||◌, ◌==◌, not, ℤ, Some, List, [], ◌∷◌, length, get_or, refl, arith, pos}
use Rattle.std.specs.List.{list_all}
use Rattle.std.specs.Ordering.{int_eq}
use Rattle.std.proofs.lemmas.Bool.{and_parts}
use Rattle.plan.specs.Chart.{is_measure, root_size, is_bad_chart}

pub all_at : {X : Type 0} (p : X → Bool) (xs : List X) (i : ℕ) (d : X) → i < length xs → list_all p xs ≡ true → p (get_or xs i d) ≡ true
all_at p [] i d l h = absurd (omega (arith, l))
all_at p (x ∷ xs) zero d l h = (and_parts (p x) (list_all p xs) h).0
all_at p (x ∷ xs) (suc i) d l h = all_at p xs i d (omega (arith, l)) (and_parts (p x) (list_all p xs) h).1

pub three_false : (a b c : Bool) → (not a || (not b || not c)) ≡ false → (a ≡ true) × ((b ≡ true) × (c ≡ true))
three_false true true true h = (refl, (refl, refl))
three_false true true false h = cc
three_false true false c h = cc
three_false false b c h = cc

pub good_measures : (count : ℕ) (given : List (ℤ × ℤ)) → is_bad_chart count (Some given) ≡ false → list_all is_measure given ≡ true
good_measures count given h = (three_false (length given == count) (int_eq (root_size given) (pos 0)) (list_all is_measure given) h).1.1
