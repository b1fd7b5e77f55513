use Rattle.lane_kernels.proofs.ConditionLemmas.{or_held}
use Rattle.lane_kernels.proofs.condition.or_word.Goals as goal

pub returns : goal.returns
returns c = λ k x y p q. or_held k c.args.a c.args.b x y p q
