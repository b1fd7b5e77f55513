use Rattle.op_queue.specs.declared.item.Item.TheVariants.{Rows}
use Rattle.row_nodes.proofs.projection.project_whole.Goals as goal

pub move_columns-requires-clause-within : goal.move_columns-requires-clause-within
move_columns-requires-clause-within c = λ t b h. c.requires.within (Rows t b) h.part

pub move_columns-requires-clause-forward : goal.move_columns-requires-clause-forward
move_columns-requires-clause-forward c = λ t b h. c.requires.forward (Rows t b) h.part
