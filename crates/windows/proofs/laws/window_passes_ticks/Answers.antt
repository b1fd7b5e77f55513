use Rattle.windows.proofs.WindowLaw.{passes_ticks}
use Rattle.windows.proofs.laws.window_passes_ticks.Goals as goal

pub returns : goal.returns
returns c = passes_ticks
