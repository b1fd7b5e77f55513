use Rattle.std.proofs.Common.{arith, below_more, refl}
use Rattle.hub.proofs.audit.is_each_once.Goals as goal

pub returns-then-not-is_once : goal.returns-then-not-is_once
returns-then-not-is_once c = (λ f. cc, λ all. c.if-not-is_once.ensures.1 (all c.loop-number.number (omega arith)))

pub loop-number-preserved : goal.loop-number-preserved
loop-number-preserved c = below_more _ _ c.loop-number.invariant (c.if-not-is_once.ensures.0 refl)

pub returns : goal.returns
returns c = (λ _ k h. c.loop-number.invariant k (omega arith), λ _. refl)
