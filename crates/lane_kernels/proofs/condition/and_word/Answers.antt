use Rattle.lane_kernels.proofs.ConditionLemmas.{and_held}
use Rattle.lane_kernels.proofs.condition.and_word.Goals as goal

pub returns : goal.returns
returns c = λ k x y p q. and_held k c.args.a c.args.b x y p q
