use Rattle.std.proofs.Common.{ap, sym}
use Rattle.wire.specs.Printed.{broken_text}
use Rattle.wire.proofs.Printing.{write_text}
use Rattle.wire.proofs.status.add_broken.Goals as goal

pub returns-then-is_broken : goal.returns-then-is_broken
returns-then-is_broken g c = write_text (broken_text c.args.is_broken) (sym (ap broken_text c.if-is_broken.true)) c.add.ensures
