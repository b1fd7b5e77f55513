use Rattle.laws_engine.proofs.OrderLemmas.{one_world}
use Rattle.laws_engine.proofs.laws.steps_leave_one_world.Goals as goal

pub returns : goal.returns
returns c = one_world
