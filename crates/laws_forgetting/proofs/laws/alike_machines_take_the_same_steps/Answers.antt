use Rattle.laws_forgetting.proofs.WorldLemmas.{steps_alike}
use Rattle.laws_forgetting.proofs.laws.alike_machines_take_the_same_steps.Goals as goal

pub returns : goal.returns
returns c = steps_alike
