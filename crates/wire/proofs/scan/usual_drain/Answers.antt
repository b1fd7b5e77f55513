use Rattle.std.proofs.Common.{◌∙◌}
use Rattle.wire.proofs.UsualLines.{drain_is_read}
use Rattle.wire.proofs.Scanning.{equal_bytes}
use Rattle.wire.proofs.scan.usual_drain.Goals as goal

pub returns-then-eq : goal.returns-then-eq
returns-then-eq c = drain_is_read c.args.line.now (equal_bytes _ _ c.if-eq.ensures ∙ c.as_slice.ensures)
