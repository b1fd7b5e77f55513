-- The slopes of worked plans.
use Rattle.std.specs.Prelude.{◌≡◌, ℕ, ℤ, pos, Option, Some, None, List, [], ◌∷◌, refl, map}
use Rattle.values.specs.Condition.{Field, Number, Compared}
use Rattle.values.specs.declared.resolved.Compare.TheVariants.{Above}
use Rattle.values.specs.Answers.{Istream}
use Rattle.envelope.specs.Fraction.{Fraction, fraction}
use Rattle.envelope.specs.LowestTerms.{common_divisor, lowest_terms}
use Rattle.envelope.specs.Formula.{slope_at, slopes_of}
use Rattle.plan.specs.Nodes.{Node, Window, Select, Join, Project, ToStream}
use Rattle.plan.specs.Build.{at}
use Rattle.plan.specs.Chart.{measures_of}
use Rattle.plan.specs.Paths.{windows, path_from, plan_slopes}

-- Select Istream(*) From S [Now]
abbrev simple : List Node
simple = Window 0 ∷ Project 0 (at 0 ∷ []) ∷ ToStream 1 Istream ∷ []

-- the same with a condition
abbrev selecting : List Node
selecting = Window 0 ∷ Select 0 (Compared (Field (at 0)) Above (Number (pos 3)) ∷ [])
    ∷ Project 1 (at 0 ∷ []) ∷ ToStream 2 Istream ∷ []

-- Select Istream(A.k, B.v) From A [Now], B [Now] Where A.k = B.k
abbrev joining : List Node
joining = Window 0 ∷ Window 1 ∷ Join 0 1 (record { left = 0; right = 0 } ∷ [])
    ∷ Project 2 (at 0 ∷ at 2 ∷ []) ∷ ToStream 3 Istream ∷ []

abbrev slopes : List Node → Option (List (ℤ × ℤ)) → List Fraction
slopes nodes given = plan_slopes nodes (measures_of nodes given)

abbrev pair : ℕ → ℕ → ℤ × ℤ
pair cost size = (pos cost, pos size)

paths_of_a_join : map (path_from joining) (windows 0 joining)
    ≡ (0 ∷ 2 ∷ 3 ∷ 4 ∷ []) ∷ (1 ∷ 2 ∷ 3 ∷ 4 ∷ []) ∷ []
paths_of_a_join = refl

by_default : slopes simple None ≡ fraction 250000 1 ∷ fraction 250000 1 ∷ fraction 250000 1 ∷ []
unfolding slopes_of slope_at lowest_terms common_divisor
by_default = refl

with_a_select : slopes selecting None
    ≡ fraction 200000 1 ∷ fraction 200000 1 ∷ fraction 200000 1 ∷ fraction 200000 1 ∷ []
unfolding slopes_of slope_at lowest_terms common_divisor
with_a_select = refl

of_a_join : slopes joining None
    ≡ fraction 125000 1 ∷ fraction 125000 1 ∷ fraction 125000 1 ∷ fraction 125000 1
    ∷ fraction 125000 1 ∷ []
unfolding slopes_of slope_at lowest_terms common_divisor
of_a_join = refl

-- the windows differ, and what follows has the greater slope of both paths
of_two_paths : slopes joining (Some
    (pair 1 500000 ∷ pair 4 500000 ∷ pair 1 250000 ∷ pair 1 250000 ∷ pair 1 0 ∷ []))
    ≡ fraction 500000 1 ∷ fraction 150000 1 ∷ fraction 250000 1 ∷ fraction 125000 1
    ∷ fraction 125000 1 ∷ []
unfolding slopes_of slope_at lowest_terms common_divisor
of_two_paths = refl

one_segment_over_two : slopes simple (Some (pair 1 900000 ∷ pair 1 100000 ∷ pair 1 0 ∷ []))
    ≡ fraction 450000 1 ∷ fraction 450000 1 ∷ fraction 100000 1 ∷ []
unfolding slopes_of slope_at lowest_terms common_divisor
one_segment_over_two = refl

steps_that_are_close : slopes simple (Some (pair 1 857143 ∷ pair 1 857143 ∷ pair 1000 0 ∷ []))
    ≡ fraction 142857 1 ∷ fraction 122449 143 ∷ fraction 122449 143 ∷ []
unfolding slopes_of slope_at lowest_terms common_divisor
steps_that_are_close = refl

sizes_that_stand_still : slopes simple (Some (pair 2 1000000 ∷ pair 3 1000000 ∷ pair 2 0 ∷ []))
    ≡ fraction 1000000 7 ∷ fraction 1000000 7 ∷ fraction 1000000 7 ∷ []
unfolding slopes_of slope_at lowest_terms common_divisor
sizes_that_stand_still = refl

all_at_the_first_step : slopes simple (Some (pair 1 0 ∷ pair 1 0 ∷ pair 1 0 ∷ []))
    ≡ fraction 1000000 1 ∷ fraction 0 1 ∷ fraction 0 1 ∷ []
unfolding slopes_of slope_at lowest_terms common_divisor
all_at_the_first_step = refl

-- Select Istream(A.k, C.v) From A [Now], B [Now], C [Now] Where A.k = B.k And B.v = C.v
abbrev three : List Node
three =
    Window 0 ∷ Window 1 ∷ Window 2 ∷ Join 0 1 (record { left = 0; right = 0 } ∷ [])
    ∷ Join 3 2 (record { left = 2; right = 0 } ∷ [])
    ∷ Project 4 (at 0 ∷ at 3 ∷ []) ∷ ToStream 5 Istream ∷ []

-- the third source's path has the second join alone
paths_of_three : map (path_from three) (windows 0 three)
    ≡ (0 ∷ 3 ∷ 4 ∷ 5 ∷ 6 ∷ []) ∷ (1 ∷ 3 ∷ 4 ∷ 5 ∷ 6 ∷ []) ∷ (2 ∷ 4 ∷ 5 ∷ 6 ∷ []) ∷ []
paths_of_three = refl

of_three : slopes three None
    ≡ fraction 250000 3 ∷ fraction 250000 3 ∷ fraction 125000 1 ∷ fraction 250000 3
    ∷ fraction 125000 1 ∷ fraction 125000 1 ∷ fraction 125000 1 ∷ []
unfolding slopes_of slope_at lowest_terms common_divisor
of_three = refl
