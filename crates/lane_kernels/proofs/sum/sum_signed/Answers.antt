use Rattle.std.proofs.Common.{arith}
use Rattle.lane_kernels.proofs.TotalLemmas.{column_total, stream_small}
use Rattle.lane_kernels.proofs.sum.sum_signed.Goals as goal

pub sum_numbers-requires-clause-small : goal.sum_numbers-requires-clause-small
sum_numbers-requires-clause-small c = rw c.numbers.ensures.value (stream_small _ c.requires.in_range)

pub returns : goal.returns
returns c = column_total _ _ _ _ c.numbers.ensures.value (omega (arith, c.len.ensures.few, c.len.ensures.value)) c.requires.in_range c.sum_numbers.ensures
