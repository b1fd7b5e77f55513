use Rattle.laws_engine.proofs.UptoLemmas.{break_leaves}
use Rattle.laws_engine.proofs.laws.breaks_leave_the_world.Goals as goal

pub returns : goal.returns
returns c = break_leaves
