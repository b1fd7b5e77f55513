use Rattle.windows.proofs.WindowLaw.{takes_rows}
use Rattle.windows.proofs.laws.window_takes_rows.Goals as goal

pub returns : goal.returns
returns c = takes_rows
