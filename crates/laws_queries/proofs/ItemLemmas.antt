-- What waits for an operator after a turn.
use Rattle.std.proofs.Common.{◌≡◌, true, List, [], ◌∷◌, ◌++◌, drop, length, refl, sym, ap, ◌∙◌, true≢false}
use Rattle.values.specs.Row.{Row}
use Rattle.column.specs.declared.batch.Side.{Side}
use Rattle.column.specs.declared.batch.Side.TheVariants.{Left, Right}
use Rattle.op_queue.specs.Entries.{Entry}
use Rattle.op_queue.specs.Items.{entries_of}
use Rattle.op_queue.specs.Logs.{Closed}
use Rattle.op_queue.specs.declared.item.Item.{Item}
use Rattle.turn.specs.declared.outcomes.Change.{Change}
use Rattle.operators.specs.Operators.{IsFinished, other}
use Rattle.operators.specs.Ready.{PlainOperator, entries_in, is_left, waiting}
use Rattle.laws_queries.specs.Steps.{IsFirst}

drop_front : (p q : List (Entry Row)) → drop (length p) (p ++ q) ≡ q
drop_front [] q = refl
drop_front (x ∷ p) q = drop_front p q

-- the rest of the side's queue, and the other side's
pub rest_waits : (o o2 : PlainOperator) (log : Closed) (side : Side) (i : Item) (c : Change) (f : IsFirst o log side i) → IsFinished o log side i c o2
    → f.rest ≡ waiting o2 log side
rest_waits o o2 log side i c f h = sym (h.dropped.entries ∙ ap (drop (length (entries_of i))) f.is ∙ drop_front (entries_of i) f.rest)

pub other_waits : (o o2 : PlainOperator) (log : Closed) (side : Side) (i : Item) (c : Change) → IsFinished o log side i c o2
    → waiting o2 log (other side) ≡ waiting o log (other side)
other_waits o o2 log side i c h = ap (λ b. entries_in b log) h.other

-- an operator with one input uses the left side
pub left_side : (side : Side) → is_left side ≡ true → side ≡ Left
left_side Left h = refl
left_side Right h = absurd (true≢false (sym h))
