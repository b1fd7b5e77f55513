use Rattle.std.proofs.Common.{◌∙◌, Bool, sym, ap, length}
use Rattle.column.specs.Bits.{bits}
use Rattle.group.specs.Batches.{tally_values}
use Rattle.group.proofs.BatchLemmas.{values_summed}
use Rattle.group.proofs.cells.Tally.take_lane.Goals as goal

pub returns-then-is_in_stream_range-clause-tally : goal.returns-then-is_in_stream_range-clause-tally
returns-then-is_in_stream_range-clause-tally c =
    let vs = c.args.lane.now in
    let ms = bits (length vs) c.args.minus.now in
    c.take_sums.ensures
    ∙ sym (values_summed ms vs c.args.self.now)
    ∙ ap (λ (b : Bool). tally_values b ms vs c.args.self.now) (sym c.if-keeps.false)
