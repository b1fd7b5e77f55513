use Rattle.std.proofs.Common.{arith}
use Rattle.column.proofs.BitLemmas.{length-seen}
use Rattle.column.proofs.mask.Mask.push.Goals as goal

pub push_bit-requires-clause-few : goal.push_bit-requires-clause-few
push_bit-requires-clause-few c = omega (arith, c.requires, length-seen _ _ _ c.self.view_is)

pub invariant_of-self-2 : goal.invariant_of-self-2
invariant_of-self-2 c = (c.in_ok-push_bit.ensures.clear, omega (arith, c.requires, length-seen _ _ _ c.self.view_is))
