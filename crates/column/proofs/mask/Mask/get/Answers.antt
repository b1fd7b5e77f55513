use Rattle.std.proofs.Common.{arith, ap, length}
use Rattle.column.proofs.BitLemmas.{length-seen, read_slice, truth_read}
use Rattle.column.proofs.mask.Mask.get.Goals as goal

pub bounds-as_slice-i : goal.bounds-as_slice-i
bounds-as_slice-i c = omega (arith, c.requires, ap length c.as_slice.ensures, c.self.invariant.0.words_fit, length-seen _ _ _ c.self.view_is)

pub returns : goal.returns
returns c =
    rw c.as_slice.ensures
    (truth_read _ _ _ _ _ c.self.invariant.0 c.self.view_is c.requires (read_slice c.self.inside.words _ (omega (arith, c.requires, c.self.invariant.0.words_fit, length-seen _ _ _ c.self.view_is))))
