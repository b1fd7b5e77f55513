use Rattle.laws_engine.proofs.FewLemmas.{forgotten_few}
use Rattle.laws_engine.proofs.laws.forgotten_engines_close_few.Goals as goal

pub returns : goal.returns
returns c = forgotten_few
