use Rattle.windows.proofs.WindowLaw.{takes_tick}
use Rattle.windows.proofs.laws.window_takes_ticks.Goals as goal

pub returns : goal.returns
returns c = takes_tick
