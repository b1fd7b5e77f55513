use Rattle.lane_kernels.proofs.LaneLemmas.{mask_bits, equal_bits}
use Rattle.lane_kernels.proofs.comparison.EqualsTest.eight.Goals as goal

pub returns : goal.returns
returns c = mask_bits _ _ equal_bits _ _ c.requires.0 c.requires.1
