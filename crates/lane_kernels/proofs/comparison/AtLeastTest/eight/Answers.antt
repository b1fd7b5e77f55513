use Rattle.std.proofs.Common.{◌∙◌}
use Rattle.lane_kernels.proofs.LaneLemmas.{mask_bits, mask_by, flipped, less_or_equal_bits, at_least_is}
use Rattle.lane_kernels.proofs.comparison.AtLeastTest.eight.Goals as goal

pub returns : goal.returns
returns c = mask_bits _ _ less_or_equal_bits _ _ c.requires.1 c.requires.0 ∙ flipped _ _ _ ∙ mask_by _ _ _ _ at_least_is
