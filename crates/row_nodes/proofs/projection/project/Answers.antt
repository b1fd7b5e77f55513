use Rattle.std.proofs.Common.{ap, ◌∙◌, map}
use Rattle.op_queue.specs.Entries.{RowAt}
use Rattle.row_nodes.proofs.projection.project.Goals as goal

pub returns-in_ok-outs-in-Rows : goal.returns-in_ok-outs-in-Rows
returns-in_ok-outs-in-Rows c =
    rw c.in-Rows.is (c.in_ok-outs-in-Rows.ensures ∙ ap (map (RowAt c.in-Rows.at)) c.in_ok-rows-in-Rows.ensures)
