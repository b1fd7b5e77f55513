use Rattle.std.proofs.Common.{◌∙◌}
use Rattle.lane_kernels.proofs.LaneLemmas.{mask_bits, mask_by, less_bits, below_is}
use Rattle.lane_kernels.proofs.comparison.BelowTest.eight.Goals as goal

pub returns : goal.returns
returns c = mask_bits _ _ less_bits _ _ c.requires.0 c.requires.1 ∙ mask_by _ _ _ _ below_is
