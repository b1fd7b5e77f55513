use Rattle.std.proofs.Common.{◌∙◌}
use Rattle.lane_kernels.proofs.LaneLemmas.{mask_bits, mask_by, less_or_equal_bits, at_most_is}
use Rattle.lane_kernels.proofs.comparison.AtMostTest.eight.Goals as goal

pub returns : goal.returns
returns c = mask_bits _ _ less_or_equal_bits _ _ c.requires.0 c.requires.1 ∙ mask_by _ _ _ _ at_most_is
