use Rattle.std.proofs.Common.{refl}
use Rattle.wire.specs.Printed.{rows_line}
use Rattle.wire.proofs.Printing.{writes_both, write_text}
use Rattle.wire.proofs.reply.add_taken.Goals as goal

pub returns : goal.returns
returns g c =
    let all = writes_both (writes_both c.add.ensures c.add_rows.ensures) c.add-2.ensures in
    write_text (rows_line c.args.taken.now) refl all
