use Rattle.std.proofs.Common.{ap, ◌∙◌}
use Rattle.std.specs.List.{flat_map}
use Rattle.op_queue.specs.Items.{entries_of}
use Rattle.row_nodes.proofs.SelectLemmas.{kept_rows, kept_none}
use Rattle.row_nodes.proofs.selection.select.Goals as goal

pub returns-in-Some : goal.returns-in-Some
returns-in-Some c =
    c.in_ok-outs-in-Some.ensures
    ∙ kept_rows c.args.steps.now c.in-Rows.at c.in-Rows.batch c.in-Some.rows c.in_ok-mask-in-Rows.mask c.args.item.now c.in-Rows.is c.in_ok-mask-in-Rows.ensures (rw c.in-Some.is at c.in_ok-rows-in-Rows.ensures)

pub returns-in-Rows : goal.returns-in-Rows
returns-in-Rows c =
    ap (λ items. flat_map entries_of items) c.new.ensures.items
    ∙ kept_none c.args.steps.now c.in-Rows.at c.in-Rows.batch c.in_ok-mask-in-Rows.mask c.args.item.now c.in-Rows.is c.in_ok-mask-in-Rows.ensures (rw c.in-None.is at c.in_ok-rows-in-Rows.ensures)
