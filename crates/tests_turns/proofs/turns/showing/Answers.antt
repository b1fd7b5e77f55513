use Rattle.windows.proofs.WindowLaw.{begins_take}
use Rattle.tests_turns.proofs.turns.showing.Goals as goal

pub apply-requires : goal.apply-requires
apply-requires c = begins_take _ 1 c.in_ok-window.window _ c.in_ok-window.ensures c.in_ok-batch.ensures.width
