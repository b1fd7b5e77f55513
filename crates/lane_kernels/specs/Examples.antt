-- The definitions at worked examples: nine values 1 to 9, and the same with the last one null.
use Rattle.std.specs.Prelude.{◌≡◌, ℕ, ℤ, pos, Bool, true, false, Option, Some, None, List, [], ◌∷◌}
use Rattle.std.specs.Prelude.{◌++◌, map, count_by, refl}
use Rattle.values.specs.Row.{Row}
use Rattle.values.specs.Condition.{compared, not3}
use Rattle.values.specs.declared.resolved.Compare.TheVariants.{Above, Below}
use Rattle.column.specs.Bits.{bits}
use Rattle.lane_kernels.specs.Steps.{steps_truth}
use Rattle.lane_kernels.specs.Truth.{signed_total, truths}
use Rattle.lane_kernels.specs.declared.condition.Step.{Step}
use Rattle.lane_kernels.specs.declared.condition.Step.TheVariants.{Number, Columns, Known, And, Or}
use Rattle.lane_kernels.specs.declared.condition.Step.TheVariants.{Not}

abbrev number : ℕ → Option ℤ
number n = Some (pos n)

abbrev eight : List (Option ℤ)
eight = map number (1 ∷ 2 ∷ 3 ∷ 4 ∷ 5 ∷ 6 ∷ 7 ∷ 8 ∷ [])

abbrev nine : List (Option ℤ)
nine = eight ++ number 9 ∷ []

abbrev last_null : List (Option ℤ)
last_null = eight ++ None ∷ []

abbrev above_five : List (Option ℤ) → List (Option Bool)
above_five vs = map (λ v. compared Above v (number 5)) vs

nine_above_five : above_five nine ≡ truths 9 (480 ∷ []) (511 ∷ [])
nine_above_five = refl

unknown_at_the_null : above_five last_null ≡ truths 9 (224 ∷ []) (255 ∷ [])
unknown_at_the_null = refl

not_above_five : map not3 (above_five last_null) ≡ truths 9 (31 ∷ []) (255 ∷ [])
not_above_five = refl

-- the first of them is taken away
sum_of_nine : signed_total (bits 9 (1 ∷ [])) nine ≡ pos 43
sum_of_nine = refl

sum_of_eight : signed_total (bits 9 (1 ∷ [])) last_null ≡ pos 34
sum_of_eight = refl

bits_counted : count_by (λ b. b) (bits 9 (480 ∷ [])) ≡ 4
bits_counted = refl

-- the rows of a = 1 to 9, with b = 5 in the first eight and null in the last
abbrev row : Option ℤ → Row
row a = a ∷ number 5 ∷ []

abbrev rows : List Row
rows = map row eight ++ (number 9 ∷ None ∷ []) ∷ []

-- Not (a > 5) Or b < 6
abbrev not_or : List Step
not_or = Number 0 Above (pos 5) ∷ Not ∷ Number 1 Below (pos 6) ∷ Or ∷ []

not_or_at_nine : map (steps_truth not_or) rows ≡ truths 9 (255 ∷ []) (255 ∷ [])
not_or_at_nine = refl

-- a > 5 And b < 6
abbrev both : List Step
both = Number 0 Above (pos 5) ∷ Number 1 Below (pos 6) ∷ And ∷ []

both_at_nine : map (steps_truth both) rows ≡ truths 9 (224 ∷ []) (255 ∷ [])
both_at_nine = refl

-- a > 9 And b < 6: a false side decides beside an unknown one
abbrev none : List Step
none = Number 0 Above (pos 9) ∷ Number 1 Below (pos 6) ∷ And ∷ []

none_at_nine : map (steps_truth none) rows ≡ truths 9 (0 ∷ []) (511 ∷ [])
none_at_nine = refl

columns_compared : steps_truth (Columns 0 Below 1 ∷ Known false ∷ Or ∷ [])
    (number 4 ∷ number 5 ∷ []) ≡ Some true
columns_compared = refl
