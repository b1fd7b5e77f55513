use Rattle.std.proofs.Common.{◌++◌, subst, sym, List}
use Rattle.values.specs.Row.{Row}
use Rattle.op_queue.specs.Entries.{Entry}
use Rattle.op_queue.specs.Forward.{IsForward}
use Rattle.op_queue.specs.declared.item.Item.TheVariants.{Rows}
use Rattle.row_nodes.proofs.FrontLemmas.{select_moved_if, selected_first}
use Rattle.row_nodes.proofs.selection.select_whole.Goals as goal

pub kept-requires : goal.kept-requires
kept-requires c = c.requires.fits (Rows c.in-Some.field-0-0 c.in-Some.batch.now) c.in-Some.ensures.part

pub move_front-requires : goal.move_front-requires
move_front-requires c =
    let P : List (Entry Row) → Type 0 = λ es. IsForward (c.args.to.now.entries ++ es) in
    subst P (sym (selected_first c.args.steps.now c.args.rows c.args.from.now c.in-Some.field-0-0 c.in-Some.batch.now c.in_ok-mask.mask c.in-Some.ensures c.in_ok-mask.ensures))
    (c.requires.forward (Rows c.in-Some.field-0-0 c.in-Some.batch.now) c.in-Some.ensures.part)

pub returns-clause-moved : goal.returns-clause-moved
returns-clause-moved c =
    select_moved_if c.move_front.result c.args.steps.now c.args.rows c.args.from.now c.move_front.new.self c.args.to.now c.move_front.new.to c.in-Some.field-0-0 c.in-Some.batch.now c.in_ok-mask.mask
    c.in-Some.ensures c.in_ok-mask.ensures c.move_front.ensures.dropped c.move_front.ensures.gained
