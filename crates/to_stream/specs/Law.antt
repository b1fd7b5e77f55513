-- What a root's state stands for, and the law of one step.
use Rattle.std.specs.Prelude.{ℕ, ◌≡◌, Bool, List, [], map}
use Rattle.values.specs.Row.{Row, row_cmp}
use Rattle.values.specs.Bag.{in_order}
use Rattle.values.specs.Answers.{streamed}
use Rattle.values.specs.StreamOperators.{operator_of}
use Rattle.values.specs.declared.resolved.StreamOperator.{StreamOperator}
use Rattle.values.specs.declared.resolved.StreamOperator.TheVariants.{Istream, Dstream, Rstream}
use Rattle.op_queue.specs.Signed.{Adds, Legal}
use Rattle.op_queue.specs.declared.item.Item.{Item}
use Rattle.op_queue.specs.declared.item.Item.TheVariants.{Rows, Tick}
use Rattle.row_bags.specs.Deltas.{delta_between}
use Rattle.to_stream.specs.Turns.{State, near, out}

-- the relation at the last tick, which Rstream alone asks for
abbrev pub whole_of : StreamOperator → List Row → List Row
whole_of Istream before = []
whole_of Dstream before = []
whole_of Rstream before = in_order row_cmp before

-- `before` is the relation that was taken at the last tick, `now` the one that is taken
pub record Stands (s : State) (before now : List Row) : Type 0 where
  pub delta : s.delta ≡ delta_between before now
  pub whole : s.whole ≡ whole_of s.operator before

-- after rows the state stands for the relation with them; at a tick the answers
-- are those of the definition, and the relation now is that of the instant before
abbrev pub StepLaw : State → Item → State → Type 0
StepLaw s (Rows t b) new = (before now after : List Row) → Stands s before now → Legal now b
    → Adds now b after → Stands new before after
StepLaw s (Tick t) new =
    (before now : List Row) → Stands s before now
    → (out (Tick t) (near s (Tick t))
    ≡ map (λ r. (t, r)) (in_order row_cmp (streamed (operator_of s.operator) before now)))
    × Stands new now now

-- the law of signed rows, whatever their instant
abbrev pub RowsLaw : State → List (Bool × Row) → State → Type 0
RowsLaw s b new = (t : ℕ) → StepLaw s (Rows t b) new
