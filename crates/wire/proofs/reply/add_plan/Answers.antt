use Rattle.std.proofs.Common.{refl}
use Rattle.wire.specs.Printed.{operators_line}
use Rattle.wire.proofs.Printing.{writes_both, write_text}
use Rattle.wire.proofs.reply.add_plan.Goals as goal

pub returns : goal.returns
returns g c =
    let all = writes_both (writes_both c.add.ensures c.add_operators.ensures) c.add-2.ensures in
    write_text (operators_line c.args.operators.now) refl all
