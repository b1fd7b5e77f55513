use Rattle.windows.proofs.WindowLaw.{begins_take}
use Rattle.tests_states.proofs.shown.taken.Goals as goal

pub apply-requires : goal.apply-requires
apply-requires c = begins_take _ 1 c.in_ok-window.window _ c.in_ok-window.ensures c.in_ok-pair.ensures
