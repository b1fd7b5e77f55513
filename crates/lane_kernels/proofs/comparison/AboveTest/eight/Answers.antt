use Rattle.std.proofs.Common.{◌∙◌}
use Rattle.lane_kernels.proofs.LaneLemmas.{mask_bits, mask_by, flipped, less_bits, above_is}
use Rattle.lane_kernels.proofs.comparison.AboveTest.eight.Goals as goal

pub returns : goal.returns
returns c = mask_bits _ _ less_bits _ _ c.requires.1 c.requires.0 ∙ flipped _ _ _ ∙ mask_by _ _ _ _ above_is
