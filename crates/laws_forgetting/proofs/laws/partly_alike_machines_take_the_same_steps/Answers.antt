use Rattle.laws_forgetting.proofs.PartlyLemmas.{steps_partly}
use Rattle.laws_forgetting.proofs.laws.partly_alike_machines_take_the_same_steps.Goals as goal

pub returns : goal.returns
returns c = steps_partly
