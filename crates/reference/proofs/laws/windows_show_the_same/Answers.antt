use Rattle.values.proofs.WindowLaw.{window_law}
use Rattle.reference.proofs.laws.windows_show_the_same.Goals as goal

pub returns : goal.returns
returns c = λ start w next input kept. window_law start w next input kept
