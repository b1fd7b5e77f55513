use Rattle.std.proofs.Common.{ap, ◌∙◌}
use Rattle.column.specs.Rows.{flat_rows}
use Rattle.windows.proofs.LeavingLemmas.{flat_signed}
use Rattle.windows.proofs.row_table.signed_rows.Goals as goal

pub returns : goal.returns
returns c =
    c.in_ok-batch.ensures
    ∙ ap (λ ls. flat_rows c.args.width ls c.args.values.now) c.in_ok-leaving.ensures
    ∙ flat_signed c.args.width c.args.count c.args.enters c.args.values.now
