use Rattle.std.proofs.Common.{◌+◌, ◌*◌, length, refl}
use Rattle.hub.proofs.MeasureLemmas.{rows_held}
use Rattle.hub.proofs.measure.stream_rows.Goals as goal

pub returns : goal.returns
returns c =
    rows_held c.kept.result ((length c.columns.result.now + 1) * 4) (length c.args.stream.now.elements) c.columns.result.now c.args.stream.now.columns c.saturating_mul.result c.kept.ensures refl c.columns.ensures.names c.saturating_mul.ensures
