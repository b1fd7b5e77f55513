use Rattle.std.proofs.Common.{◌∙◌}
use Rattle.lane_kernels.proofs.LaneLemmas.{mask_bits, mask_by, not_equal_bits, differs_is}
use Rattle.lane_kernels.proofs.comparison.DiffersTest.eight.Goals as goal

pub returns : goal.returns
returns c = mask_bits _ _ not_equal_bits _ _ c.requires.0 c.requires.1 ∙ mask_by _ _ _ _ differs_is
