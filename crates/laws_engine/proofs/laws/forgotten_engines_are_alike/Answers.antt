use Rattle.laws_engine.proofs.AlikeLemmas.{forgotten_alike}
use Rattle.laws_engine.proofs.laws.forgotten_engines_are_alike.Goals as goal

pub returns : goal.returns
returns c = forgotten_alike
