-- What Select puts out.
use Rattle.std.specs.Prelude.{Bool, List, [], ◌∷◌, map, filter}
use Rattle.values.specs.Row.{Row}
use Rattle.values.specs.Condition.{is_known_true}
use Rattle.column.specs.Rows.{width}
use Rattle.lane_kernels.specs.Steps.{StepsFit, steps_truth}
use Rattle.lane_kernels.specs.declared.condition.Step.{Step}
use Rattle.op_queue.specs.Entries.{Entry, RowAt, TickAt}
use Rattle.op_queue.specs.declared.item.Item.{Item}
use Rattle.op_queue.specs.declared.item.Item.TheVariants.{Rows, Tick}

-- the condition is true at the row, and not unknown
abbrev pub is_kept : List Step → Bool × Row → Bool
is_kept steps s = is_known_true (steps_truth steps s.1)

abbrev pub selected : List Step → Item → List (Entry Row)
selected steps (Rows t b) = map (RowAt t) (filter (is_kept steps) b)
selected steps (Tick t) = TickAt t ∷ []

-- the steps are a condition over the item's rows
abbrev pub FitItem : List Step → Item → Type 0
FitItem steps (Rows t b) = StepsFit (width b) 0 steps
FitItem steps (Tick t) = Unit {0}
