use Rattle.std.proofs.Common.{refl}
use Rattle.names.proofs.Columns.{columns_more}
use Rattle.names.proofs.entries.add_columns.Goals as goal

pub loop-column-preserved : goal.loop-column-preserved
loop-column-preserved c =
    columns_more c.push.new.self.items c.loop-column.columns.items c.args.columns.now.items c.args.source c.loop-column.column
    (record { source = c.args.source; column = c.loop-column.column }) refl c.in_ok-push.ensures.items c.loop-column.invariant
