use Rattle.lane_kernels.proofs.SumLemmas.{asks_sub_n, sum_steps, sum_value}
use Rattle.lane_kernels.proofs.sum.signed_eight.Goals as goal

pub overflow_sub-result : goal.overflow_sub-result
overflow_sub-result c = asks_sub_n _ 8 c.requires.eight c.requires.small

pub overflow_add-result : goal.overflow_add-result
overflow_add-result c = sum_steps _ _ c.requires

pub returns : goal.returns
returns c = sum_value _ _ c.requires
