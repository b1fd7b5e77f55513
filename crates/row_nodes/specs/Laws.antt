-- The law of one step of the operators that look at one row at a time.
use Rattle.std.specs.Prelude.{ℕ, ◌≡◌, Bool, Some, List, [], ◌∷◌, map, filter}
use Rattle.values.specs.Row.{Row}
use Rattle.values.specs.Condition.{Condition, keeps, truth}
use Rattle.lane_kernels.specs.Steps.{steps_truth}
use Rattle.lane_kernels.specs.declared.condition.Step.{Step}
use Rattle.op_queue.specs.Signed.{Adds, Legal, Same, Turns}
use Rattle.row_nodes.specs.Project.{columns_in}

-- of an operator that puts out at once, with this value: it has taken the bag i and put out the
-- bag o; it takes the signed rows xs and puts out ys; then it has taken the bag i2 and put out o2
pub record RowsLaw {X : Type 0} (value : List X → List X) (i : List X) (xs : List (Bool × X))
    (o : List X) (ys : List (Bool × X)) (i2 o2 : List X) : Type 0 where
  pub took : Legal i xs → Adds i xs i2
  pub puts : Legal i xs → Same o (value i) → Turns o ys o2
  pub shows : Legal i xs → Same o (value i) → Same o2 (value i2)

-- the value goes by the bag
pub record IsLawful {X : Type 0} (value : List X → List X) : Type 0 where
  pub same : (xs ys : List X) → Same xs ys → Same (value xs) (value ys)

-- the rows at which the condition is true; they are combinations of one row
abbrev pub select_value : Condition → List Row → List Row
select_value c rows = filter (λ r. keeps (Some c) (r ∷ [])) rows

abbrev pub project_value : List ℕ → List Row → List Row
project_value columns rows = map (columns_in columns) rows

-- the steps mean the condition
pub record Mean (steps : List Step) (c : Condition) : Type 0 where
  pub means : (row : Row) → steps_truth steps row ≡ truth c (row ∷ [])
