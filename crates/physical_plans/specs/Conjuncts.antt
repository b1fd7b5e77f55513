-- The conditions of a Select, of which all must be true, as one condition and as its steps.
use Rattle.std.specs.Prelude.{true, List, [], ◌∷◌, ◌++◌}
use Rattle.values.specs.Condition.{Condition, And}
use Rattle.lane_kernels.specs.declared.condition.Step.{Step}
use Rattle.lane_kernels.specs.declared.condition.Step.TheVariants as step
use Rattle.row_nodes.specs.Steps.{steps_of}

-- joined from the left by And
abbrev pub joined : Condition → List Condition → Condition
joined c [] = c
joined c (d ∷ ds) = joined (And c d) ds

-- its steps, or what is always true where there is no condition
abbrev pub all_steps : List Condition → List Step
all_steps [] = step.Known true ∷ []
all_steps (c ∷ cs) = steps_of (joined c cs)

-- what further conditions add to the steps of those before
abbrev pub further_steps : List Condition → List Step
further_steps [] = []
further_steps (c ∷ cs) = steps_of c ++ (step.And ∷ further_steps cs)
