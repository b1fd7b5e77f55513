use Rattle.std.proofs.Common.{Bool, Some, subst, sym}
use Rattle.lane_kernels.specs.Steps.{IsHeld}
use Rattle.lane_kernels.proofs.ConditionLemmas.{true_held, false_held}
use Rattle.lane_kernels.proofs.condition.known_word.Goals as goal

pub returns-then-truth : goal.returns-then-truth
returns-then-truth c = λ k h. let P : Bool → Type 0 = λ b. IsHeld k (record { yes = 18446744073709551615; no = 0 }) (Some b) in subst P (sym c.if-truth.true) (true_held k h)

pub returns-else-truth : goal.returns-else-truth
returns-else-truth c = λ k h. let P : Bool → Type 0 = λ b. IsHeld k (record { yes = 0; no = 18446744073709551615 }) (Some b) in subst P (sym c.if-truth.false) (false_held k h)
